-- Each use of a definition goes by the tree of its own reading.
use Rattle.std.proofs.Common.{◌≡◌, ◌≢◌, ◌≤◌, ◌<◌, ◌+◌, ◌==◌, ℕ, zero, suc, Bool, true, false, cond, Option, Some, List, [], ◌∷◌, ◌++◌, map, length, refl, sym, ap, subst, ◌∙◌, slice_get, Ok, Err, append_assoc, arith}
use Rattle.std.specs.Prelude.{Result, IfOk, IsSomeAnd, option_map, nat_lt, zip, AllPairs}
use Rattle.std.specs.List.{AllByRecursion}
use Rattle.std.specs.Str.{bytes_eq}
use Rattle.std.proofs.lemmas.Bool.Decides.{nat_tests}
use Rattle.std.proofs.Math.Nat.{add-zero, zero-add}
use Rattle.std.proofs.lemmas.List.{append-nil}
use Rattle.std.proofs.lemmas.List.Elements.{recursion_from_All}
use Rattle.std.proofs.lemmas.Slice.Eq.{bytes_eq-Decides}
use Rattle.qv_sexpr.specs.Script.{Tree as Expr}
use Rattle.qv_words.specs.declared.sort.Sort.{Sort}
use Rattle.qv_words.specs.Sort.{IsLawful}
use Rattle.qv_words.specs.Rank.{sort_eq}
use Rattle.qv_words.specs.Tree.{Tree, Variable, tree_sort}
use Rattle.qv_words.specs.Sorted.{no_levels, with_level}
use Rattle.qv_words.proofs.Elements.{some-and}
use Rattle.qv_words.proofs.Equals.{test-refl}
use Rattle.qv_words.proofs.Leaves.{at_level, past_level}
use Rattle.qv_elab_defs.specs.declared.faults.ElabKind.TheVariants.{Sorts}
use Rattle.qv_elab_defs.specs.Faults.{Fault, refuse, ◌>>=◌}
use Rattle.qv_elab_defs.specs.Tokens.{place_of}
use Rattle.qv_elab_defs.specs.Written.{HasTokens}
use Rattle.qv_elab_defs.specs.Scopes.{Named, Scope, found, constants_of, with_variables, below_binders, outermost}
use Rattle.qv_elab_defs.specs.Applying.{sort_of, depth_of, depth_limit}
use Rattle.qv_elab_defs.specs.Elaborating.{elab, of_sort}
use Rattle.qv_elab_defs.specs.Defining.{elaborate_body}
use Rattle.qv_elab_defs.specs.Putting.{put_in}
use Rattle.qv_elab_defs.specs.TreeLaws.{AreParameters, IsScope, empty, declares, defines, abbreviates}
use Rattle.qv_elab_defs.specs.UseLaws.{AreArguments, use_of, DefinitionsArePutIn}
use Rattle.qv_elab_defs.proofs.OpenApplied.{IsGood}
use Rattle.qv_elab_defs.proofs.OpenElaborated.{IfDefinition, with_levels, AreLawful, levels-end, good-variables}
use Rattle.qv_elab_defs.proofs.ElaboratedTrees.{sorts_of, sorts-append, zip-good, good-scope}
use Rattle.qv_elab_defs.proofs.Alike.{Use, put, Begin}
use Rattle.qv_elab_defs.proofs.Following.{Outcome, Follows, FollowsBody, Moves, fo-elab}

module _ (sorts : List Sort) where
  found-zip : (u : Use sorts) (name : List ℕ) (names : List (List ℕ)) (ts : List Tree) → found name (zip names (map (put sorts u) ts)) ≡ option_map (put sorts u) (found name (zip names ts))
  found-zip u name [] ts = refl
  found-zip u name (n ∷ ns) [] = refl
  found-zip u name (n ∷ ns) (t ∷ ts) = go (bytes_eq n name) (found name (zip ns (map (put sorts u) ts))) (found name (zip ns ts)) (found-zip u name ns ts)
    where
      go : (b : Bool) (o p : Option Tree) → o ≡ option_map (put sorts u) p → cond b (Some (put sorts u t)) o ≡ option_map (put sorts u) (cond b (Some t) p)
      go true o p e = refl
      go false o p e = e

  -- the definitions of a scope, in the body of another
  pub follows-scope : (scope : Scope) → IsScope scope → (K rest : List Sort) → K ≡ sorts_of (constants_of scope) ++ rest → AllByRecursion (λ x. IfDefinition (FollowsBody sorts K) x.1) scope
  follows-scope _ empty K rest e = tt
  follows-scope _ (declares scope name s h l) K rest e =
      let all : K ≡ sorts_of (constants_of scope) ++ (s ∷ rest) =
      e ∙ ap (λ zs. zs ++ rest) (sorts-append (constants_of scope) ((name, s) ∷ [])) ∙ append_assoc (sorts_of (constants_of scope)) (s ∷ []) rest in
      (tt, follows-scope scope h K (s ∷ rest) all)
  follows-scope _ (defines scope name parameters s body t h p w e) K rest same =
      let all : K ≡ sorts_of (constants_of scope) ++ rest = same ∙ ap (λ zs. sorts_of zs ++ rest) (append-nil (constants_of scope)) in
      let entries = follows-scope scope h K rest all in (
        (λ M b b' ts ends le begin m good. fo-elab sorts K body (record { scope = scope; bound = zip (map (λ x. x.0) parameters) ts; binders = b }) (λ u. record { scope = scope; bound = zip (map (λ x. x.0) parameters) (map (put sorts u) ts); binders = b' u }) M w
            (record {
              good = record { scope = good-scope scope h K rest (length sorts) all; bound = zip-good (IsGood K (length sorts) M) (map (λ x. x.0) parameters) ts good; ends = ends; from = le };
              begin = begin;
              entries = entries;
              scope = λ u. refl;
              binders = m;
              bound = λ u name. found-zip u name (map (λ x. x.0) parameters) ts;
            })),
        entries,
      )
  follows-scope _ (abbreviates scope name s h l) K rest same =
      let all : K ≡ sorts_of (constants_of scope) ++ rest = same ∙ ap (λ zs. sorts_of zs ++ rest) (append-nil (constants_of scope)) in
      (tt, follows-scope scope h K rest all)

-- no name stands twice
abbrev AreDistinct : Named Sort → Type 0
AreDistinct [] = Unit {0}
AreDistinct (x ∷ xs) = AllByRecursion (λ y. x.0 ≢ y.0) xs × AreDistinct xs

distinct-pairs : (xs : Named Sort) → AllPairs (λ x y. x.0 ≢ y.0) xs → AreDistinct xs
distinct-pairs [] h = tt
distinct-pairs (x ∷ xs) h = (
  recursion_from_All (λ y. x.0 ≢ y.0) xs (λ k d lt. h 0 (suc k) d (omega arith) (omega arith)),
  distinct-pairs xs (λ i j d lt le. h (suc i) (suc j) d (omega arith) (omega arith)),
)

-- a name that is none of the others is found behind them
found-behind : (name n : List ℕ) (a : Tree) (xs : Named Sort) (ts : List Tree) (bound : Named Tree) → AllByRecursion (λ y. n ≢ y.0) xs → found name ((n, a) ∷ (zip (map (λ x. x.0) xs) ts ++ bound)) ≡ found name (zip (map (λ x. x.0) xs) ts ++ ((n, a) ∷ bound))
found-behind name n a [] ts bound h = refl
found-behind name n a (x ∷ xs) [] bound h = refl
found-behind name n a (x ∷ xs) (t ∷ ts) bound h =
    go (bytes_eq n name) refl (bytes_eq x.0 name) refl (found name (zip (map (λ x. x.0) xs) ts ++ bound)) (found name (zip (map (λ x. x.0) xs) ts ++ ((n, a) ∷ bound))) (found-behind name n a xs ts bound h.1)
  where
    go : (p : Bool) → bytes_eq n name ≡ p → (q : Bool) → bytes_eq x.0 name ≡ q → (o r : Option Tree) → cond (bytes_eq n name) (Some a) o ≡ r → cond p (Some a) (cond q (Some t) o) ≡ cond q (Some t) r
    go true e true f o r k =
        let first : n ≡ name = grind (arith, bytes_eq-Decides n name) in
        let second : x.0 ≡ name = grind (arith, bytes_eq-Decides x.0 name) in
        absurd (h.0 (first ∙ sym second))
    go true e false f o r k = ap (λ b. cond b (Some a) o) (sym e) ∙ k
    go false e true f o r k = refl
    go false e false f o r k = ap (λ b. cond b (Some a) o) (sym e) ∙ k

module _ (sorts : List Sort) (u : Use sorts) where
  put-parameter : (level : ℕ) (s : Sort) (a : Tree) → level < length sorts → slice_get u.args level ≡ Some a → put sorts u (Variable level s) ≡ a
  put-parameter level s a lt e =
      let inner : nat_lt level (length sorts) ≡ true = grind (arith, nat_tests) in
      rw (inner, e)

  -- a parameter is the argument at its place
  found-use : (name : List ℕ) (xs : Named Sort) (level : ℕ) (ts : List Tree) (bound bound' : Named Tree) → ((i : ℕ) → slice_get (sorts_of xs) i ≡ slice_get sorts (level + i)) → ((i : ℕ) → slice_get ts i ≡ slice_get u.args (level + i)) → level + length xs ≤ length sorts → AreDistinct xs → found name bound' ≡ option_map (put sorts u) (found name bound) → found name (zip (map (λ x. x.0) xs) ts ++ bound') ≡ option_map (put sorts u) (found name (with_variables level xs bound))
  found-use name [] level ts bound bound' ss rs le d h = h
  found-use name (x ∷ xs) level [] bound bound' ss rs le d h =
      let there : slice_get sorts level ≡ Some x.1 = ap (λ n. slice_get sorts n) (sym (add-zero level)) ∙ sym (ss 0) in
      let arg = some-and (slice_get u.args level) (λ a. tree_sort a ≡ Some x.1) (u.fits level x.1 there) in
      let none = rs 0 in
      let same : slice_get u.args (level + 0) ≡ Some arg.0 = ap (λ n. slice_get u.args n) (add-zero level) ∙ arg.1 in
      absurd (cc)
  found-use name (x ∷ xs) level (t ∷ ts) bound bound' ss rs le d h =
      let next = found-use name xs (suc level) ts ((x.0, Variable level x.1) ∷ bound) ((x.0, t) ∷ bound')
      (λ i. ss (suc i) ∙ ap (λ n. slice_get sorts n) (shifted level i)) (λ i. rs (suc i) ∙ ap (λ n. slice_get u.args n) (shifted level i)) (omega arith) d.1
      (go (bytes_eq x.0 name) (found name bound') (found name bound) h) in
      found-behind name x.0 t xs ts bound' d.0 ∙ next
    where
      shifted : (level i : ℕ) → level + suc i ≡ suc level + i
      shifted level i = omega arith

      go : (b : Bool) (o p : Option Tree) → o ≡ option_map (put sorts u) p → cond b (Some t) o ≡ option_map (put sorts u) (cond b (Some (Variable level x.1)) p)
      go true o p e =
          let at : slice_get u.args level ≡ Some t = ap (λ n. slice_get u.args n) (sym (add-zero level)) ∙ sym (rs 0) in
          ap Some (sym (put-parameter level x.1 t (omega arith) at))
      go false o p e = e

-- the levels of a parameter list
levels-under : (level : ℕ) (xs : Named Sort) (M : ℕ → Option Sort) (l : ℕ) → l < level → with_levels level xs M l ≡ M l
levels-under level [] M l lt = refl
levels-under level (x ∷ xs) M l lt =
    let other : (l == level) ≡ false = grind (arith, nat_tests) in
    levels-under (suc level) xs (with_level M level x.1) l (omega arith) ∙ past_level M level x.1 l other

levels-at : (level : ℕ) (xs : Named Sort) (M : ℕ → Option Sort) (i : ℕ) → i < length xs → with_levels level xs M (level + i) ≡ slice_get (sorts_of xs) i
levels-at level [] M i lt = absurd (omega (arith, lt))
levels-at level (x ∷ xs) M zero lt =
    let at : level + 0 ≡ level = add-zero level in
    ap (λ n. with_levels (suc level) xs (with_level M level x.1) n) at
    ∙ levels-under (suc level) xs (with_level M level x.1) level (omega arith)
    ∙ at_level M level x.1 level (test-refl level)
levels-at level (x ∷ xs) M (suc i) lt =
    let shifted : level + suc i ≡ suc level + i = omega arith in
    ap (λ n. with_levels (suc level) xs (with_level M level x.1) n) shifted ∙ levels-at (suc level) xs (with_level M level x.1) i (omega arith)

pub length-sorts : (xs : Named Sort) → length (sorts_of xs) ≡ length xs
length-sorts [] = refl
length-sorts (x ∷ xs) = ap suc (length-sorts xs)

pub levels-begin : (xs : Named Sort) → Begin (sorts_of xs) (with_levels 0 xs no_levels)
levels-begin xs l lt =
    let same = length-sorts xs in
    let at : 0 + l ≡ l = omega arith in
    ap (λ n. with_levels 0 xs no_levels n) (sym at) ∙ levels-at 0 xs no_levels l (omega arith)

pub lawful : (parameters : Named Sort) → AreParameters parameters → AreLawful parameters
lawful parameters h = recursion_from_All (λ x. IsLawful x.1) parameters h.0

-- a definition's body, where it stands in its own reading and at its uses
pub moves-use : (scope : Scope) (parameters : Named Sort) → IsScope scope → AreParameters parameters
    → Moves (sorts_of parameters) (sorts_of (constants_of scope)) (with_levels 0 parameters no_levels) (below_binders parameters (outermost scope)) (λ u. record { scope = scope; bound = zip (map (λ x. x.0) parameters) u.args; binders = u.binders })
moves-use scope parameters h p =
    let K = sorts_of (constants_of scope) in
    let sorts = sorts_of parameters in
    let all : K ≡ sorts_of (constants_of scope) ++ [] = sym (append-nil K) in
    let same = length-sorts parameters in
    record {
      good = record {
        scope = good-scope scope h K [] (length sorts) all;
        bound = good-variables K (length sorts) parameters 0 no_levels [] (lawful parameters p) (λ l le. refl) tt;
        ends = levels-end 0 parameters no_levels (λ l le. refl);
        from = omega arith;
      };
      begin = levels-begin parameters;
      entries = follows-scope sorts scope h K [] all;
      scope = λ u. refl;
      binders = λ u. omega arith;
      bound = λ u name.
          ap (λ xs. found name xs) (sym (append-nil (zip (map (λ x. x.0) parameters) u.args)))
          ∙ found-use sorts u name parameters 0 u.args [] [] (λ i. ap (λ n. slice_get sorts n) (sym (zero-add i))) (λ i. ap (λ n. slice_get u.args n) (sym (zero-add i))) (omega arith) (distinct-pairs parameters p.1) refl;
    }

-- and so what its uses give
pub follows-use : (scope : Scope) (parameters : Named Sort) (body : Expr) → IsScope scope → AreParameters parameters → HasTokens body → Follows (sorts_of parameters) (put (sorts_of parameters)) (elab body (below_binders parameters (outermost scope))) (λ u. use_of scope parameters body u.binders u.args)
follows-use scope parameters body h p w =
    fo-elab (sorts_of parameters) (sorts_of (constants_of scope)) body (below_binders parameters (outermost scope)) (λ u. record { scope = scope; bound = zip (map (λ x. x.0) parameters) u.args; binders = u.binders }) (with_levels 0 parameters no_levels) w
    (moves-use scope parameters h p)

-- arguments of their sorts
pub fits-of : (ps : Named Sort) (ts : List Tree) → length ts ≡ length ps → AllByRecursion (λ x. tree_sort x.1 ≡ Some x.0.1) (zip ps ts) → (l : ℕ) (s : Sort) → slice_get (sorts_of ps) l ≡ Some s → IsSomeAnd (slice_get ts l) (λ a. tree_sort a ≡ Some s)
fits-of [] ts e h l s f = absurd (cc)
fits-of (p ∷ ps) [] e h l s f = absurd (omega arith)
fits-of (p ∷ ps) (t ∷ ts) e h zero s f = h.0 ∙ f
fits-of (p ∷ ps) (t ∷ ts) e h (suc l) s f = fits-of ps ts (omega arith) h.1 l s f

abbrev pub use-with : (parameters : Named Sort) (binders : ℕ) (args : List Tree) → AreArguments parameters binders args → Use (sorts_of parameters)
use-with parameters binders args h = record {
  binders = binders;
  args = args;
  fits = fits-of parameters args h.count (recursion_from_All (λ x. tree_sort x.1 ≡ Some x.0.1) (zip parameters args) h.sorts);
}

pub of-same : (r : Result Tree Fault) (s : Sort) (place : ℕ) (t : Tree) → (r >>= of_sort s place) ≡ Ok t → r ≡ Ok t
of-same (Err f) s place t e = absurd (cc)
of-same (Ok a) s place t e = go (sort_eq s (sort_of a)) e
  where
    go : (b : Bool) → ◌≡◌ {A = Result Tree Fault} (cond b (Ok a) (refuse place Sorts)) (Ok t) → ◌≡◌ {A = Result Tree Fault} (Ok a) (Ok t)
    go true k = k
    go false k = absurd (cc)

-- what is known of all uses of a definition with this tree
pub all-uses : (scope : Scope) (parameters : Named Sort) (s : Sort) (body : Expr) (t : Tree) → IsScope scope → AreParameters parameters → HasTokens body → elaborate_body scope parameters s body ≡ Ok t → (ws : List Tree) × AllByRecursion (λ w. depth_of w ≤ depth_limit) ws × ((u : Use (sorts_of parameters)) → Outcome (sorts_of parameters) (put (sorts_of parameters)) u ws t (use_of scope parameters body u.binders u.args))
all-uses scope parameters s body t h p w e =
    let own = of-same (elab body (below_binders parameters (outermost scope))) s (place_of body) t e in
    subst (λ (r : Result Tree Fault). Follows (sorts_of parameters) (put (sorts_of parameters)) r (λ u. use_of scope parameters body u.binders u.args)) own (follows-use scope parameters body h p w)

pub definitions-are_put_in : DefinitionsArePutIn
definitions-are_put_in scope parameters s body t binders args h p w e a =
    let uses = all-uses scope parameters s body t h p w e in
    let u = use-with parameters binders args a in
    go (use_of scope parameters body binders args) (uses.2 u)
  where
    go : (r : Result Tree Fault) → Outcome (sorts_of parameters) (put (sorts_of parameters)) (use-with parameters binders args a) (all-uses scope parameters s body t h p w e).0 t r → IfOk r (λ v. v ≡ put_in (length parameters) binders args t)
    go (Ok v) k = k.0 ∙ ap (λ n. put_in n binders args t) (length-sorts parameters)
    go (Err f) k = tt
