-- A use of a definition whose own reading stands in a store.
use Rattle.std.proofs.Common.{◌≡◌, ◌≤◌, ◌<◌, ◌+◌, ◌==◌, ◌||◌, ◌⊎◌, inl, inr, not, ℕ, zero, suc, Bool, true, false, cond, Some, List, [], ◌∷◌, length, map, get_or, refl, sym, ap, subst, ◌∙◌, Ok, Err, arith}
use Rattle.std.specs.Prelude.{Result, All, Any, IfOk, IfErr, IsOk, IsErr, is_ok, ◌↔◌, nat_lt, zip}
use Rattle.std.specs.List.{AllByRecursion}
use Rattle.std.proofs.lemmas.Bool.Decides.{nat_tests}
use Rattle.std.proofs.lemmas.List.{length-map}
use Rattle.std.proofs.lemmas.List.Elements.{recursion_from_All, All-from_recursion}
use Rattle.qv_sexpr.specs.Script.{Tree as Expr}
use Rattle.qv_words.specs.declared.sort.Sort.{Sort}
use Rattle.qv_words.specs.Rank.{sort_eq}
use Rattle.qv_words.specs.Tree.{Tree, tree_sort}
use Rattle.qv_words.specs.Sorted.{IsSorted, free_levels}
use Rattle.qv_words.proofs.Equals.{sort_eq-is, eq-from_test}
use Rattle.qv_store.specs.Nodes.{tree_at}
use Rattle.qv_store.specs.Walks.{named}
use Rattle.qv_store.specs.Stores.{StandsAt, AreShared}
use Rattle.qv_elab_defs.specs.declared.faults.ElabKind.{ElabKind}
use Rattle.qv_elab_defs.specs.declared.faults.ElabKind.TheVariants.{Arity, Sorts, DepthLimit}
use Rattle.qv_elab_macros.specs.declared.body.Body.{Body}
use Rattle.qv_elab_defs.specs.Faults.{Fault, refuse, ◌>>=◌, at, moved}
use Rattle.qv_elab_defs.specs.Scopes.{Named, Scope, constants_of}
use Rattle.qv_elab_defs.specs.Applying.{sort_of, depth_of, depth_limit, are_sorts_eq, fitting}
use Rattle.qv_elab_defs.specs.Putting.{put_in}
use Rattle.qv_elab_defs.specs.UseLaws.{AreArguments, use_of}
use Rattle.qv_elab_macros.specs.PutIn.{with_args, some_too_deep}
use Rattle.qv_elab_macros.specs.Readings.{IsUsed, used_at}
use Rattle.qv_elab_defs.specs.Answers.{Answers}
use Rattle.qv_elab_defs.proofs.OpenApplied.{IsGood}
use Rattle.qv_elab_defs.proofs.OpenElaborated.{with_levels}
use Rattle.qv_words.specs.Sorted.{no_levels}
use Rattle.qv_elab_defs.proofs.ElaboratedTrees.{sorts_of}
use Rattle.qv_elab_defs.proofs.Uses.{length-sorts, levels-begin, use-with, definitions-are_put_in}
use Rattle.qv_elab_defs.proofs.Depths.{uses-fail_by_depth}
use Rattle.qv_elab_defs.proofs.Ranked.{sorted-sort, sorted-each}
use Rattle.qv_elab_defs.proofs.PutSorted.{put-is_sorted, body-good, body-levels}
use Rattle.std.proofs.lemmas.Bool.{or_cases, and_parts}

-- trees that fit have the parameters' number and sorts
pub fits-length : (sorts : List Sort) (ts : List Tree) → fitting sorts ts ≡ Ok ts → length ts ≡ length sorts
fits-length sorts ts e = go (length ts == length sorts) refl (are_sorts_eq sorts (map (λ t. sort_of t) ts)) e
  where
    go : (b : Bool) → (length ts == length sorts) ≡ b → (c : Bool) → ◌≡◌ {A = Result (List Tree) ElabKind} (cond (not b) (Err Arity) (cond c (Ok ts) (Err Sorts))) (Ok ts) → length ts ≡ length sorts
    go true f c k = eq-from_test (length ts) (length sorts) f
    go false f c k = absurd (cc)

pub fits-sorts : (sorts : List Sort) (ts : List Tree) → fitting sorts ts ≡ Ok ts → are_sorts_eq sorts (map (λ t. sort_of t) ts) ≡ true
fits-sorts sorts ts e = go (length ts == length sorts) (are_sorts_eq sorts (map (λ t. sort_of t) ts)) e
  where
    go : (b c : Bool) → ◌≡◌ {A = Result (List Tree) ElabKind} (cond (not b) (Err Arity) (cond c (Ok ts) (Err Sorts))) (Ok ts) → c ≡ true
    go true true k = refl
    go true false k = absurd (cc)
    go false c k = absurd (cc)

pub of-sorts : (parameters : Named Sort) (ts : List Tree) → AllByRecursion IsSorted ts → are_sorts_eq (map (λ x. x.1) parameters) (map (λ t. sort_of t) ts) ≡ true → AllByRecursion (λ x. tree_sort x.1 ≡ Some x.0.1) (zip parameters ts)
of-sorts [] ts h e = tt
of-sorts (p ∷ ps) [] h e = tt
of-sorts (p ∷ ps) (t ∷ ts) h e =
    let parts = and_parts (sort_eq p.1 (sort_of t)) (are_sorts_eq (map (λ x. x.1) ps) (map (λ t. sort_of t) ts)) e in
    (sorted-sort t no_levels h.0 ∙ ap Some (sym (sort_eq-is p.1 (sort_of t) parts.0)), of-sorts ps ts h.1 parts.1)

any-deep : (ts : List Tree) (ds : List ℕ) → some_too_deep ts ds ≡ true → Any (λ x. depth_limit < depth_of x.1 + x.0) (zip ds ts)
any-deep [] ds e = absurd (cc)
any-deep (t ∷ ts) [] e = absurd (cc)
any-deep (t ∷ ts) (d ∷ ds) e = go (or_cases (nat_lt depth_limit (depth_of t + d)) (some_too_deep ts ds) e) (any-deep ts ds)
  where
    go : (nat_lt depth_limit (depth_of t + d) ≡ true) ⊎ (some_too_deep ts ds ≡ true) → (some_too_deep ts ds ≡ true → Any (λ x. depth_limit < depth_of x.1 + x.0) (zip ds ts)) → Any (λ x. depth_limit < depth_of x.1 + x.0) (zip (d ∷ ds) (t ∷ ts))
    go (inl f) rest = let lt : depth_limit < depth_of t + d = grind (arith, nat_tests) in (0, (d, t), omega arith, refl, lt)
    go (inr f) rest = let more = rest f in (suc more.0, more.1, omega (arith, more.2), more.3, more.4)

deep-any : (ts : List Tree) (ds : List ℕ) → Any (λ x. depth_limit < depth_of x.1 + x.0) (zip ds ts) → some_too_deep ts ds ≡ true
deep-any [] [] h = absurd (omega (arith, h.2))
deep-any [] (d ∷ ds) h = absurd (omega (arith, h.2))
deep-any (t ∷ ts) [] h = absurd (omega (arith, h.2))
deep-any (t ∷ ts) (d ∷ ds) h = by h.0 h.1 h.2 h.3 h.4 (λ k x lt e deep. deep-any ts ds (k, x, lt, e, deep))
  where
    one : nat_lt depth_limit (depth_of t + d) ≡ true → (nat_lt depth_limit (depth_of t + d) || some_too_deep ts ds) ≡ true
    one e = ap (λ b. b || some_too_deep ts ds) e

    other : (b : Bool) → some_too_deep ts ds ≡ true → (b || some_too_deep ts ds) ≡ true
    other true e = refl
    other false e = e

    by : (k : ℕ) (x : ℕ × Tree) → k < length (zip (d ∷ ds) (t ∷ ts)) → get_or (zip (d ∷ ds) (t ∷ ts)) k x ≡ x → depth_limit < depth_of x.1 + x.0
        → ((k : ℕ) (x : ℕ × Tree) → k < length (zip ds ts) → get_or (zip ds ts) k x ≡ x → depth_limit < depth_of x.1 + x.0 → some_too_deep ts ds ≡ true)
        → (nat_lt depth_limit (depth_of t + d) || some_too_deep ts ds) ≡ true
    by zero x lt e deep rest =
        let here : depth_limit < depth_of t + d = subst (λ (y : ℕ × Tree). depth_limit < depth_of y.1 + y.0) (sym e) deep in
        let test : nat_lt depth_limit (depth_of t + d) ≡ true = grind (arith, nat_tests) in
        one test
    by (suc k) x lt e deep rest = other (nat_lt depth_limit (depth_of t + d)) (rest k x (omega (arith, lt)) e deep)

module _ (trees : List Tree) (shared : AreShared trees) (scope : Scope) (parameters : Named Sort) (s : Sort) (e : Expr) (sorts : List Sort) (body : Body) (binders : ℕ) (args : List ℕ)
    (used : IsUsed trees scope parameters s e sorts body) (within : All (λ id. id < length trees) args)
    (levels : All (λ t. All (λ leaf. leaf.0 < binders) (free_levels t)) (named trees args)) (shallow : All (λ t. depth_of t ≤ depth_limit) (named trees args))
    (fit : fitting sorts (named trees args) ≡ Ok (named trees args)) where
  sorted : AllByRecursion IsSorted (named trees args)
  sorted = sorted-each trees shared args (recursion_from_All (λ id. id < length trees) args within)

  as_many : length (named trees args) ≡ length parameters
  as_many = fits-length sorts (named trees args) fit ∙ ap length used.sorts_are ∙ length-map parameters (λ x. x.1)

  are : AreArguments parameters binders (named trees args)
  are = record {
    count = as_many;
    sorted = All-from_recursion IsSorted (named trees args) sorted;
    sorts = All-from_recursion (λ x. tree_sort x.1 ≡ Some x.0.1) (zip parameters (named trees args))
        (of-sorts parameters (named trees args) sorted (ap (λ ss. are_sorts_eq ss (map (λ t. sort_of t) (named trees args))) (sym used.sorts_are) ∙ fits-sorts sorts (named trees args) fit));
    below = levels;
    shallow = shallow;
  }

  many-args : length args ≡ length parameters
  many-args = sym (length-map args (tree_at trees)) ∙ as_many

  good : IsGood (sorts_of (constants_of scope)) (length (sorts_of parameters)) (with_levels 0 parameters no_levels) used.reading.tree
  good = body-good scope parameters s e used.reading.tree used.is_scope used.are_parameters used.tokens used.reading.reading

  own : tree_at trees body.id ≡ used.reading.tree
  own = used.reading.stands.tree

  -- what is asked where the arguments are put in
  pub used-levels : All (λ leaf. leaf.0 < length args) (free_levels (tree_at trees body.id))
  used-levels =
      subst (λ (t : Tree). All (λ leaf. leaf.0 < length args) (free_levels t)) (sym own)
      (subst (λ n. All (λ leaf. leaf.0 < n) (free_levels used.reading.tree)) (sym many-args)
      (All-from_recursion (λ leaf. leaf.0 < length parameters) (free_levels used.reading.tree) (body-levels scope parameters used.reading.tree good)))

  same-put : with_args trees binders args (tree_at trees body.id) ≡ put_in (length parameters) binders (named trees args) used.reading.tree
  same-put =
      ap (λ n. put_in n binders (named trees args) (tree_at trees body.id)) many-args ∙ ap (put_in (length parameters) binders (named trees args)) own

  pub used-sorted : IsSorted (with_args trees binders args (tree_at trees body.id))
  used-sorted =
      let put = put-is_sorted (sorts_of parameters) (use-with parameters binders (named trees args) are) sorted (low (named trees args) levels) used.reading.tree (sorts_of (constants_of scope))
      (with_levels 0 parameters no_levels) (levels-begin parameters) good.0 in
      subst IsSorted (sym (same-put ∙ ap (λ n. put_in n binders (named trees args) used.reading.tree) (sym (length-sorts parameters)))) put
    where
      low : (us : List Tree) → All (λ t. All (λ leaf. leaf.0 < binders) (free_levels t)) us → AllByRecursion (λ t. AllByRecursion (λ leaf. leaf.0 < binders) (free_levels t)) us
      low us h = each us (recursion_from_All (λ t. All (λ leaf. leaf.0 < binders) (free_levels t)) us h)
        where
          each : (us : List Tree) → AllByRecursion (λ t. All (λ leaf. leaf.0 < binders) (free_levels t)) us → AllByRecursion (λ t. AllByRecursion (λ leaf. leaf.0 < binders) (free_levels t)) us
          each [] h = tt
          each (t ∷ us) h = (recursion_from_All (λ leaf. leaf.0 < binders) (free_levels t) h.0, each us h.1)

  -- what the use gives
  limit : IsErr (use_of scope parameters e binders (named trees args)) ↔ Any (λ x. depth_limit < depth_of x.1 + x.0) (zip body.depths.items (named trees args))
  limit = used.reading.limited binders (named trees args) are

  by-depth : IfErr (use_of scope parameters e binders (named trees args)) (λ fault. fault.kind ≡ DepthLimit)
  by-depth = ((uses-fail_by_depth scope parameters s e used.reading.tree used.is_scope used.are_parameters used.tokens used.reading.reading).2 binders (named trees args) are).0

  step : (place : ℕ) → used_at place binders scope parameters e sorts (named trees args) ≡ moved place (use_of scope parameters e binders (named trees args))
  step place = ap (λ r. at place r >>= λ us. moved place (use_of scope parameters e binders us)) fit

  pub used-deep : (place : ℕ) → some_too_deep (named trees args) body.depths.items ≡ true → used_at place binders scope parameters e sorts (named trees args) ≡ refuse place DepthLimit
  used-deep place deep = step place ∙ go (use_of scope parameters e binders (named trees args)) (limit.1 (any-deep (named trees args) body.depths.items deep)) by-depth
    where
      go : (r : Result Tree Fault) → IsErr r → IfErr r (λ fault. fault.kind ≡ DepthLimit) → moved place r ≡ refuse place DepthLimit
      go (Ok t) h k = absurd (cc)
      go (Err f) h k = ap (λ kind. refuse place kind) k

  pub used-ok : (place id : ℕ) (newer : List Tree) → some_too_deep (named trees args) body.depths.items ≡ false → StandsAt newer id (with_args trees binders args (tree_at trees body.id))
      → Answers newer (used_at place binders scope parameters e sorts (named trees args)) (Ok id)
  used-ok place id newer shallow-all stands =
      go (use_of scope parameters e binders (named trees args)) (λ h. not-deep (deep-any (named trees args) body.depths.items (limit.0 h)))
      (definitions-are_put_in scope parameters s e used.reading.tree binders (named trees args) used.is_scope used.are_parameters used.tokens used.reading.reading are) refl
    where
      not-deep : some_too_deep (named trees args) body.depths.items ≡ true → ⊥
      not-deep h = let both : true ≡ false = sym h ∙ shallow-all in absurd (cc)

      go : (r : Result Tree Fault) → (IsErr r → ⊥) → IfOk r (λ u. u ≡ put_in (length parameters) binders (named trees args) used.reading.tree) → use_of scope parameters e binders (named trees args) ≡ r
          → Answers newer (used_at place binders scope parameters e sorts (named trees args)) (Ok id)
      go (Err f) h k is = absurd (h refl)
      go (Ok t) h k is = (t, step place ∙ ap (moved place) is, record { below = stands.below; tree = stands.tree ∙ same-put ∙ sym k })

  -- the use has a tree
  pub used-has : (place : ℕ) → some_too_deep (named trees args) body.depths.items ≡ false → IsOk (used_at place binders scope parameters e sorts (named trees args))
  used-has place shallow-all = go (use_of scope parameters e binders (named trees args)) (λ h. not-deep (deep-any (named trees args) body.depths.items (limit.0 h))) refl
    where
      not-deep : some_too_deep (named trees args) body.depths.items ≡ true → ⊥
      not-deep h = let both : true ≡ false = sym h ∙ shallow-all in absurd (cc)

      go : (r : Result Tree Fault) → (IsErr r → ⊥) → use_of scope parameters e binders (named trees args) ≡ r → IsOk (used_at place binders scope parameters e sorts (named trees args))
      go (Err f) h is = absurd (h refl)
      go (Ok t) h is = ap (λ q. is_ok q) (step place ∙ ap (moved place) is)
