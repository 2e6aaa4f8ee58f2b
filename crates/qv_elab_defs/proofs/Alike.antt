-- What applications give of trees with others put in.
use Rattle.std.proofs.Common.{◌≡◌, ◌≤◌, ◌<◌, ℕ, ◌==◌, Bool, true, false, cond, Option, Some, None, List, [], ◌∷◌, ◌++◌, map, length, refl, sym, ap, subst, ◌∙◌, slice_get, Ok, Err, arith}
use Rattle.std.specs.Prelude.{Result, IsSomeAnd, unwrap_or, option_and_then, nat_lt}
use Rattle.std.specs.List.{AllByRecursion, list_all}
use Rattle.std.proofs.lemmas.Bool.Decides.{nat_tests}
use Rattle.qv_words.specs.declared.sort.Sort.{Sort}
use Rattle.qv_words.specs.declared.sort.Sort.TheVariants.{Bool as BoolSort}
use Rattle.qv_words.specs.declared.op.Op.{Op}
use Rattle.qv_words.specs.declared.op.Op.TheVariants.{Not, And, Or, Xor, Implies, Equal, BvAnd, BvOr, BvXor, BvAdd, BvMul, Concat}
use Rattle.qv_words.specs.Rank.{result_sort, sort_eq}
use Rattle.qv_words.specs.Tree.{Tree, Trees, Constant, Variable, Literal, Apply, ForAll, Exists, Nil, Cons, tree_sort, tree_sorts, closed_sort}
use Rattle.qv_words.specs.Sorted.{with_level}
use Rattle.qv_words.specs.Prenex.{negation, binary}
use Rattle.qv_words.proofs.Leaves.{past_level, both}
use Rattle.qv_sorts.specs.declared.ranking.RankFault.{RankFault}
use Rattle.qv_sorts.specs.Faults.{fault_of}
use Rattle.qv_elab_defs.specs.declared.faults.ElabKind.{ElabKind}
use Rattle.qv_elab_defs.specs.declared.faults.ElabKind.TheVariants.{Sorts}
use Rattle.qv_elab_defs.specs.Faults.{◌>>=◌}
use Rattle.qv_elab_defs.specs.Applying.{sort_of, is_bool, in_trees, unless_fault, applied, to_the_left, to_the_right, neighbours, all_pairs, have_one_sort, conjunction, chained, distinct, alone, application}
use Rattle.qv_elab_defs.specs.Putting.{moved_level, put_in, put_in_each}
use Rattle.qv_elab_defs.proofs.Opened.{IsOpen, AreOpen}

-- a use of a definition whose parameters have these sorts
pub record Use (sorts : List Sort) : Type 0 where
  pub binders : ℕ
  pub args : List Tree
  pub fits : (l : ℕ) (s : Sort) → slice_get sorts l ≡ Some s → IsSomeAnd (slice_get args l) (λ a. tree_sort a ≡ Some s)

-- the tree with the arguments put in
abbrev pub put : (sorts : List Sort) → Use sorts → Tree → Tree
put sorts u t = put_in (length sorts) u.binders u.args t

-- the open binders begin with the parameters
abbrev pub Begin : List Sort → (ℕ → Option Sort) → Type 0
Begin sorts M = (l : ℕ) → l < length sorts → M l ≡ slice_get sorts l

pub begin-level : (sorts : List Sort) (M : ℕ → Option Sort) (level : ℕ) (s : Sort) → length sorts ≤ level → Begin sorts M → Begin sorts (with_level M level s)
begin-level sorts M level s le h l lt =
    let other : (l == level) ≡ false = grind (arith, nat_tests) in
    past_level M level s l other ∙ h l lt

module _ (sorts : List Sort) (u : Use sorts) where
  -- its sort stays
  abbrev pub Same : Tree → Type 0
  Same t = tree_sort (put sorts u t) ≡ tree_sort t

  sort-put : (l : ℕ) (s : Sort) → (l < length sorts → slice_get sorts l ≡ Some s) → tree_sort (put sorts u (Variable l s)) ≡ Some s
  sort-put l s h = go (nat_lt l (length sorts)) refl
    where
      at : (o : Option Tree) → IsSomeAnd o (λ a. tree_sort a ≡ Some s) → tree_sort (unwrap_or o (Variable l s)) ≡ Some s
      at None k = absurd k
      at (Some a) k = k

      go : (b : Bool) → nat_lt l (length sorts) ≡ b → tree_sort (cond b (unwrap_or (slice_get u.args l) (Variable l s)) (Variable (moved_level (length sorts) u.binders l) s)) ≡ Some s
      go true e =
          let lt : l < length sorts = grind (arith, nat_tests) in
          at (slice_get u.args l) (u.fits l s (h lt))
      go false e = refl

  mutual
    pub same-sort : (t : Tree) (K : List Sort) (M : ℕ → Option Sort) → Begin sorts M → IsOpen K (length sorts) M t → Same t
    same-sort (Constant i s) K M b h = refl
    same-sort (Variable l s) K M b h = sort-put l s (λ lt. sym (b l lt) ∙ h.1)
    same-sort (Literal s n) K M b h = refl
    same-sort (Apply o ts) K M b h = ap (option_and_then (result_sort o)) (same-sorts ts K M b h.0)
    same-sort (ForAll l s body) K M b h = ap closed_sort (same-sort body K (with_level M l s) (begin-level sorts M l s h.1 b) h.2)
    same-sort (Exists l s body) K M b h = ap closed_sort (same-sort body K (with_level M l s) (begin-level sorts M l s h.1 b) h.2)

    same-sorts : (ts : Trees) (K : List Sort) (M : ℕ → Option Sort) → Begin sorts M → AreOpen K (length sorts) M ts → tree_sorts (put_in_each (length sorts) u.binders u.args ts) ≡ tree_sorts ts
    same-sorts Nil K M b h = refl
    same-sorts (Cons t ts) K M b h =
        let first = same-sort t K M b h.0 in
        let others = same-sorts ts K M b h.1 in
        rw (first, others)

  -- the result with the arguments put in is that of the trees with the arguments put in
  abbrev pub Alike : {E : Type 0} → Result Tree E → Result Tree E → Type 0
  Alike (Ok t) y = Same t × (y ≡ Ok (put sorts u t))
  Alike (Err e) y = y ≡ Err e

  al-bind : {E : Type 0} (x y : Result Tree E) (next next' : Tree → Result Tree E) → Alike x y → ((t : Tree) → Same t → Alike (next t) (next' (put sorts u t))) → Alike (x >>= next) (y >>= next')
  al-bind {E} (Ok t) y next next' h k = subst (λ (r : Result Tree E). Alike (next t) (r >>= next')) (sym h.1) (k t h.0)
  al-bind (Err e) y next next' h k = ap (λ r. r >>= next') h

  pub same-sort_of : (t : Tree) → Same t → sort_of (put sorts u t) ≡ sort_of t
  same-sort_of t h = ap (λ (o : Option Sort). unwrap_or o BoolSort) h

  pub same-sorts_of : (ts : List Tree) → AllByRecursion Same ts → map (λ t. sort_of t) (map (put sorts u) ts) ≡ map (λ t. sort_of t) ts
  same-sorts_of [] h = refl
  same-sorts_of (t ∷ ts) h = let first = same-sort_of t h.0 in let others = same-sorts_of ts h.1 in rw (first, others)

  put-in_trees : (ts : List Tree) → in_trees (map (put sorts u) ts) ≡ put_in_each (length sorts) u.binders u.args (in_trees ts)
  put-in_trees [] = refl
  put-in_trees (t ∷ ts) = ap (Cons (put sorts u t)) (put-in_trees ts)

  same-in_trees : (ts : List Tree) → AllByRecursion Same ts → tree_sorts (put_in_each (length sorts) u.binders u.args (in_trees ts)) ≡ tree_sorts (in_trees ts)
  same-in_trees [] h = refl
  same-in_trees (t ∷ ts) h = let first = h.0 in let others = same-in_trees ts h.1 in rw (first, others)

  same-apply : (o : Op) (ts : List Tree) → AllByRecursion Same ts → Same (Apply o (in_trees ts))
  same-apply o ts h = ap (option_and_then (result_sort o)) (same-in_trees ts h)

  al-applied : (o : Op) (ts : List Tree) → AllByRecursion Same ts → Alike (applied o ts) (applied o (map (put sorts u) ts))
  al-applied o ts h =
      let step : applied o (map (put sorts u) ts) ≡ unless_fault (fault_of o (map (λ t. sort_of t) ts)) (put sorts u (Apply o (in_trees ts))) =
      ap (λ ss. unless_fault (fault_of o ss) (Apply o (in_trees (map (put sorts u) ts)))) (same-sorts_of ts h)
      ∙ ap (λ trees. unless_fault (fault_of o (map (λ t. sort_of t) ts)) (Apply o trees)) (put-in_trees ts) in
      subst (λ (y : Result Tree ElabKind). Alike (applied o ts) y) (sym step) (go (fault_of o (map (λ t. sort_of t) ts)))
    where
      go : (f : Option RankFault) → Alike (unless_fault f (Apply o (in_trees ts))) (unless_fault f (put sorts u (Apply o (in_trees ts))))
      go None = (same-apply o ts h, refl)
      go (Some f) = refl

  al-left : (o : Op) (t : Tree) (ts : List Tree) → Same t → AllByRecursion Same ts → Alike (to_the_left o t ts) (to_the_left o (put sorts u t) (map (put sorts u) ts))
  al-left o t [] h hs = (h, refl)
  al-left o t (v ∷ vs) h hs =
      al-bind (applied o (t ∷ v ∷ [])) (applied o (put sorts u t ∷ put sorts u v ∷ [])) (λ tu. to_the_left o tu vs) (λ tu. to_the_left o tu (map (put sorts u) vs))
      (al-applied o (t ∷ v ∷ []) (h, (hs.0, tt))) (λ tu k. al-left o tu vs k hs.1)

  al-right : (o : Op) (t : Tree) (ts : List Tree) → Same t → AllByRecursion Same ts → Alike (to_the_right o t ts) (to_the_right o (put sorts u t) (map (put sorts u) ts))
  al-right o t [] h hs = (h, refl)
  al-right o t (v ∷ vs) h hs =
      al-bind (to_the_right o v vs) (to_the_right o (put sorts u v) (map (put sorts u) vs)) (λ uv. applied o (t ∷ uv ∷ [])) (λ uv. applied o (put sorts u t ∷ uv ∷ []))
      (al-right o v vs hs.0 hs.1) (λ uv k. al-applied o (t ∷ uv ∷ []) (h, (k, tt)))

  al-conjunction : (ts : List Tree) → AllByRecursion Same ts → Alike (conjunction ts) (conjunction (map (put sorts u) ts))
  al-conjunction [] h = refl
  al-conjunction (t ∷ ts) h = al-left And t ts h.0 h.1

  same-binary : (o : Op) (a b : Tree) → Same a → Same b → Same (binary o a b)
  same-binary o a b h k = same-apply o (a ∷ b ∷ []) (h, (k, tt))

  -- both of a pair
  abbrev AreSame : Tree × Tree → Type 0
  AreSame p = Same p.0 × Same p.1

  abbrev put-both : Tree × Tree → Tree × Tree
  put-both p = (put sorts u p.0, put sorts u p.1)

  put-neighbours : (t : Tree) (ts : List Tree) → neighbours (put sorts u t) (map (put sorts u) ts) ≡ map put-both (neighbours t ts)
  put-neighbours t [] = refl
  put-neighbours t (v ∷ vs) = ap (λ ps. (put sorts u t, put sorts u v) ∷ ps) (put-neighbours v vs)

  put-with_first : (t : Tree) (ts : List Tree) → map (λ v. (put sorts u t, v)) (map (put sorts u) ts) ≡ map put-both (map (λ v. (t, v)) ts)
  put-with_first t [] = refl
  put-with_first t (v ∷ vs) = ap (λ ps. (put sorts u t, put sorts u v) ∷ ps) (put-with_first t vs)

  map-both : (ps qs : List (Tree × Tree)) → map put-both (ps ++ qs) ≡ map put-both ps ++ map put-both qs
  map-both [] qs = refl
  map-both (p ∷ ps) qs = ap (λ rs. put-both p ∷ rs) (map-both ps qs)

  put-pairs : (ts : List Tree) → all_pairs (map (put sorts u) ts) ≡ map put-both (all_pairs ts)
  put-pairs [] = refl
  put-pairs (t ∷ ts) =
      ap (λ ps. ps ++ all_pairs (map (put sorts u) ts)) (put-with_first t ts)
      ∙ ap (λ ps. map put-both (map (λ v. (t, v)) ts) ++ ps) (put-pairs ts)
      ∙ sym (map-both (map (λ v. (t, v)) ts) (all_pairs ts))

  same-neighbours : (t : Tree) (ts : List Tree) → Same t → AllByRecursion Same ts → AllByRecursion AreSame (neighbours t ts)
  same-neighbours t [] h hs = tt
  same-neighbours t (v ∷ vs) h hs = ((h, hs.0), same-neighbours v vs hs.0 hs.1)

  same-with_first : (t : Tree) (ts : List Tree) → Same t → AllByRecursion Same ts → AllByRecursion AreSame (map (λ v. (t, v)) ts)
  same-with_first t [] h hs = tt
  same-with_first t (v ∷ vs) h hs = ((h, hs.0), same-with_first t vs h hs.1)

  same-pairs : (ts : List Tree) → AllByRecursion Same ts → AllByRecursion AreSame (all_pairs ts)
  same-pairs [] h = tt
  same-pairs (t ∷ ts) h = both AreSame (map (λ v. (t, v)) ts) (all_pairs ts) (same-with_first t ts h.0 h.1) (same-pairs ts h.1)

  -- equations of pairs, and their negations
  put-equations : (ps : List (Tree × Tree)) → map (λ p. binary Equal p.0 p.1) (map put-both ps) ≡ map (put sorts u) (map (λ p. binary Equal p.0 p.1) ps)
  put-equations [] = refl
  put-equations (p ∷ ps) = ap (λ ts. binary Equal (put sorts u p.0) (put sorts u p.1) ∷ ts) (put-equations ps)

  put-differences : (ps : List (Tree × Tree)) → map (λ p. negation (binary Equal p.0 p.1)) (map put-both ps) ≡ map (put sorts u) (map (λ p. negation (binary Equal p.0 p.1)) ps)
  put-differences [] = refl
  put-differences (p ∷ ps) = ap (λ ts. negation (binary Equal (put sorts u p.0) (put sorts u p.1)) ∷ ts) (put-differences ps)

  same-equations : (ps : List (Tree × Tree)) → AllByRecursion AreSame ps → AllByRecursion Same (map (λ p. binary Equal p.0 p.1) ps)
  same-equations [] h = tt
  same-equations (p ∷ ps) h = (same-binary Equal p.0 p.1 h.0.0 h.0.1, same-equations ps h.1)

  same-differences : (ps : List (Tree × Tree)) → AllByRecursion AreSame ps → AllByRecursion Same (map (λ p. negation (binary Equal p.0 p.1)) ps)
  same-differences [] h = tt
  same-differences (p ∷ ps) h =
      (same-apply Not (binary Equal p.0 p.1 ∷ []) (same-binary Equal p.0 p.1 h.0.0 h.0.1, tt), same-differences ps h.1)

  same-test : (t : Tree) (ts : List Tree) → Same t → AllByRecursion Same ts → list_all (λ v. sort_eq (sort_of (put sorts u t)) (sort_of v)) (map (put sorts u) ts) ≡ list_all (λ v. sort_eq (sort_of t) (sort_of v)) ts
  same-test t [] h hs = refl
  same-test t (v ∷ vs) h hs =
      let first = same-sort_of t h in
      let second = same-sort_of v hs.0 in
      let others = same-test t vs h hs.1 in
      rw (first, second, ← first, others)

  al-chained : (t : Tree) (ts : List Tree) → Same t → AllByRecursion Same ts → Alike (chained t ts) (chained (put sorts u t) (map (put sorts u) ts))
  al-chained t ts h hs =
      let equations : map (λ p. binary Equal p.0 p.1) (neighbours (put sorts u t) (map (put sorts u) ts)) ≡ map (put sorts u) (map (λ p. binary Equal p.0 p.1) (neighbours t ts)) =
      ap (λ ps. map (λ p. binary Equal p.0 p.1) ps) (put-neighbours t ts) ∙ put-equations (neighbours t ts) in
      let step : chained (put sorts u t) (map (put sorts u) ts) ≡ cond (have_one_sort (t ∷ ts)) (conjunction (map (put sorts u) (map (λ p. binary Equal p.0 p.1) (neighbours t ts)))) (Err Sorts) =
      ap (λ b. cond b (conjunction (map (λ p. binary Equal p.0 p.1) (neighbours (put sorts u t) (map (put sorts u) ts)))) (Err Sorts)) (same-test t ts h hs)
      ∙ ap (λ es. cond (have_one_sort (t ∷ ts)) (conjunction es) (Err Sorts)) equations in
      subst (λ (y : Result Tree ElabKind). Alike (chained t ts) y) (sym step) (go (have_one_sort (t ∷ ts)))
    where
      go : (b : Bool) → Alike (cond b (conjunction (map (λ p. binary Equal p.0 p.1) (neighbours t ts))) (Err Sorts)) (cond b (conjunction (map (put sorts u) (map (λ p. binary Equal p.0 p.1) (neighbours t ts)))) (Err Sorts))
      go true = al-conjunction (map (λ p. binary Equal p.0 p.1) (neighbours t ts)) (same-equations (neighbours t ts) (same-neighbours t ts h hs))
      go false = refl

  pub al-distinct : (ts : List Tree) → AllByRecursion Same ts → Alike (distinct ts) (distinct (map (put sorts u) ts))
  al-distinct [] h = refl
  al-distinct (t ∷ ts) h =
      let differences : map (λ p. negation (binary Equal p.0 p.1)) (all_pairs (map (put sorts u) (t ∷ ts))) ≡ map (put sorts u) (map (λ p. negation (binary Equal p.0 p.1)) (all_pairs (t ∷ ts))) =
      ap (λ ps. map (λ p. negation (binary Equal p.0 p.1)) ps) (put-pairs (t ∷ ts)) ∙ put-differences (all_pairs (t ∷ ts)) in
      let step : distinct (map (put sorts u) (t ∷ ts)) ≡ cond (have_one_sort (t ∷ ts)) (conjunction (map (put sorts u) (map (λ p. negation (binary Equal p.0 p.1)) (all_pairs (t ∷ ts))))) (Err Sorts) =
      ap (λ b. cond b (conjunction (map (λ p. negation (binary Equal p.0 p.1)) (all_pairs (map (put sorts u) (t ∷ ts))))) (Err Sorts)) (same-test t ts h.0 h.1)
      ∙ ap (λ es. cond (have_one_sort (t ∷ ts)) (conjunction es) (Err Sorts)) differences in
      subst (λ (y : Result Tree ElabKind). Alike (distinct (t ∷ ts)) y) (sym step) (go (have_one_sort (t ∷ ts)))
    where
      go : (b : Bool) → Alike (cond b (conjunction (map (λ p. negation (binary Equal p.0 p.1)) (all_pairs (t ∷ ts)))) (Err Sorts)) (cond b (conjunction (map (put sorts u) (map (λ p. negation (binary Equal p.0 p.1)) (all_pairs (t ∷ ts))))) (Err Sorts))
      go true = al-conjunction (map (λ p. negation (binary Equal p.0 p.1)) (all_pairs (t ∷ ts))) (same-differences (all_pairs (t ∷ ts)) (same-pairs (t ∷ ts) h))
      go false = refl

  al-alone : (t : Tree) → Same t → Alike (alone t) (alone (put sorts u t))
  al-alone t h =
      subst (λ (y : Result Tree ElabKind). Alike (alone t) y) (sym (ap (λ s. cond (sort_eq s BoolSort) (Ok (put sorts u t)) (Err Sorts)) (same-sort_of t h))) (go (is_bool t))
    where
      go : (b : Bool) → Alike (cond b (Ok t) (Err Sorts)) (cond b (Ok (put sorts u t)) (Err Sorts))
      go true = (h, refl)
      go false = refl

  pub al-application : (o : Op) (ts : List Tree) → AllByRecursion Same ts → Alike (application o ts) (application o (map (put sorts u) ts))
  al-application And (t ∷ []) h = al-alone t h.0
  al-application Or (t ∷ []) h = al-alone t h.0
  al-application And (t ∷ v ∷ vs) h = al-left And t (v ∷ vs) h.0 h.1
  al-application Or (t ∷ v ∷ vs) h = al-left Or t (v ∷ vs) h.0 h.1
  al-application Xor (t ∷ v ∷ vs) h = al-left Xor t (v ∷ vs) h.0 h.1
  al-application BvAnd (t ∷ v ∷ vs) h = al-left BvAnd t (v ∷ vs) h.0 h.1
  al-application BvOr (t ∷ v ∷ vs) h = al-left BvOr t (v ∷ vs) h.0 h.1
  al-application BvXor (t ∷ v ∷ vs) h = al-left BvXor t (v ∷ vs) h.0 h.1
  al-application BvAdd (t ∷ v ∷ vs) h = al-left BvAdd t (v ∷ vs) h.0 h.1
  al-application BvMul (t ∷ v ∷ vs) h = al-left BvMul t (v ∷ vs) h.0 h.1
  al-application Concat (t ∷ v ∷ vs) h = al-left Concat t (v ∷ vs) h.0 h.1
  al-application Implies (t ∷ v ∷ vs) h = al-right Implies t (v ∷ vs) h.0 h.1
  al-application Equal (t ∷ v ∷ vs) h = al-chained t (v ∷ vs) h.0 h.1
  al-application o ts h = al-applied o ts h
