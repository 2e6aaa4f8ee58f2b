-- A sorted tree with values for its free leaves means some value, and it is of the tree's sort.
use Rattle.std.proofs.Common.{◌≡◌, ℕ, zero, suc, ◌<◌, ◌⊎◌, Option, Some, List, [], ◌∷◌, refl, sym, ap, inl, inr, subst, slice_get, arith, lit<, lit≤}
use Rattle.std.specs.List.{AllByRecursion, AllZip}
use Rattle.std.specs.Prelude.{IsSomeAnd}
use Rattle.std.proofs.lemmas.Bool.{cases_eq}
use Rattle.std.proofs.lemmas.List.Elements.{All-from_recursion}
use Rattle.qv_words.specs.declared.sort.Sort.{Sort}
use Rattle.qv_words.specs.declared.sort.Sort.TheVariants.{Bool}
use Rattle.qv_words.specs.Sort.{IsLawful, IsValueOf, size_of}
use Rattle.qv_words.specs.Op.{op_value}
use Rattle.qv_words.specs.Tree.{Tree, Trees, Constant, Variable, Literal, Apply, ForAll, Exists, Nil, Cons, tree_sort, tree_sorts, closed_sort}
use Rattle.qv_words.specs.Sorted.{with_level, constants_of, constants_of_all, free_levels, free_levels_of_all, IsSortedBelow, AreSortedBelow}
use Rattle.qv_words.specs.Meaning.{Means, MeanAll}
use Rattle.qv_words.proofs.Leaves.{front, back, HasValue, values_below, bound_sorts}
use Rattle.qv_words.proofs.InSort.{op_in_sort, lawful_rank}
use Rattle.qv_words.proofs.Ranks.{sorts_parts, rank_parts, found}
use Rattle.qv_words.proofs.Elements.{some-and}

-- what holds of each number below n, and of n, holds of each below the next
more_below : (A : ℕ → Type 0) (n : ℕ) → ((u : ℕ) → u < n → A u) → A n → (u : ℕ) → u < suc n → A u
more_below A n below here u h = elim (cases_eq u n) [ inl e ↦ subst A (sym e) here | inr other ↦ below u (omega (arith, h, other)) ]

-- of two tests of which each number below n meets one, the first holds of all of them or the second of some
all_or_some : (A B : ℕ → Type 0) (n : ℕ) → ((u : ℕ) → u < n → A u ⊎ B u) → ((u : ℕ) → u < n → A u) ⊎ ((u : ℕ) × (u < n) × B u)
all_or_some A B zero each = inl (λ u h. absurd (omega (arith, h)))
all_or_some A B (suc n) each = go (all_or_some A B n (λ u h. each u (omega (arith, h)))) (each n (omega arith))
  where
    go : ((u : ℕ) → u < n → A u) ⊎ ((u : ℕ) × (u < n) × B u) → A n ⊎ B n → ((u : ℕ) → u < suc n → A u) ⊎ ((u : ℕ) × (u < suc n) × B u)
    go (inl below) (inl a) = inl (more_below A n below a)
    go (inl below) (inr b) = inr (n, omega arith, b)
    go (inr s) _ = inr (s.0, omega (arith, s.1), s.2)

-- a truth value is 1 or 0
pub one_or_zero : (P : ℕ → Type 0) (v : ℕ) → v < 2 → P v → P 1 ⊎ P 0
one_or_zero P zero h p = inr p
one_or_zero P (suc zero) h p = inl p
one_or_zero P (suc (suc v)) h p = absurd (omega (arith, h))

-- the same in the other order
zero_or_one : (P : ℕ → Type 0) (v : ℕ) → v < 2 → P v → P 0 ⊎ P 1
zero_or_one P zero h p = inl p
zero_or_one P (suc zero) h p = inr p
zero_or_one P (suc (suc v)) h p = absurd (omega (arith, h))

-- the value that is there
-- a tree means some value of this sort
abbrev pub MeansSome : List ℕ → (ℕ → Option ℕ) → Tree → Sort → Type 0
MeansSome c e t s = (v : ℕ) × IsValueOf v s × Means c e t v

-- the trees of a list mean some values of these sorts
abbrev pub MeanSome : List ℕ → (ℕ → Option ℕ) → Trees → List Sort → Type 0
MeanSome c e ts sorts = (vs : List ℕ) × AllZip IsValueOf vs sorts × MeanAll c e ts vs

-- a constant's value is of its sort
abbrev pub HasConstant : List ℕ → ℕ × Sort → Type 0
HasConstant c leaf = IsSomeAnd (slice_get c leaf.0) (λ v. IsValueOf v leaf.1)

-- a quantified formula is Bool
pub closed_bool : (body : Tree) (s : Sort) → tree_sort body ≡ Some Bool → closed_sort (tree_sort body) ≡ Some s → Bool ≡ s
closed_bool body s h k =
    let known : closed_sort (tree_sort body) ≡ Some Bool = ap closed_sort h in
    cc

bool_lawful : IsLawful Bool
bool_lawful = (lit≤ tt, lit≤ tt)

-- the sort of a sorted tree is lawful
mutual
  pub lawful_sort : (t : Tree) (levels : ℕ → Option Sort) (s : Sort) → IsSortedBelow levels t → tree_sort t ≡ Some s → IsLawful s
  lawful_sort (Constant i r) levels s h k = let same : r ≡ s = cc in subst IsLawful same h
  lawful_sort (Variable l r) levels s h k = let same : r ≡ s = cc in subst IsLawful same h.0
  lawful_sort (Literal r n) levels s h k = let same : r ≡ s = cc in subst IsLawful same h.0
  lawful_sort (Apply o args) levels s h k =
      let parts = rank_parts o args s k in
      lawful_rank o parts.0 s (All-from_recursion IsLawful parts.0 (lawful_sorts args levels parts.0 h.0 parts.1)) parts.2
  lawful_sort (ForAll l r body) levels s h k = subst IsLawful (closed_bool body s h.2 k) bool_lawful
  lawful_sort (Exists l r body) levels s h k = subst IsLawful (closed_bool body s h.2 k) bool_lawful

  pub lawful_sorts : (ts : Trees) (levels : ℕ → Option Sort) (sorts : List Sort) → AreSortedBelow levels ts → tree_sorts ts ≡ Some sorts → AllByRecursion IsLawful sorts
  lawful_sorts Nil levels sorts h k = let none : sorts ≡ [] = cc in subst (AllByRecursion IsLawful) (sym none) tt
  lawful_sorts (Cons t ts) levels sorts h k =
      let parts = sorts_parts t ts sorts k in
      subst (AllByRecursion IsLawful) (sym parts.4)
      (lawful_sort t levels parts.0 h.0 parts.2, lawful_sorts ts levels parts.1 h.1 parts.3)

-- a universal formula means 1 or 0
all_means : (c : List ℕ) (e : ℕ → Option ℕ) (l : ℕ) (r : Sort) (body : Tree) (s : Sort) → Bool ≡ s → ((u : ℕ) → u < size_of r → Means c (with_level e l u) body 1 ⊎ Means c (with_level e l u) body 0) → MeansSome c e (ForAll l r body) s
all_means c e l r body s same each =
    elim (all_or_some (λ u. Means c (with_level e l u) body 1) (λ u. Means c (with_level e l u) body 0) (size_of r) each) [
      | inl all ↦ (1, subst (IsValueOf 1) same (lit< tt), inl (refl, all))
      | inr some ↦ (0, subst (IsValueOf 0) same (lit< tt), inr (refl, some))
    ]

-- an existential formula means 1 or 0
some_means : (c : List ℕ) (e : ℕ → Option ℕ) (l : ℕ) (r : Sort) (body : Tree) (s : Sort) → Bool ≡ s → ((u : ℕ) → u < size_of r → Means c (with_level e l u) body 0 ⊎ Means c (with_level e l u) body 1) → MeansSome c e (Exists l r body) s
some_means c e l r body s same each =
    elim (all_or_some (λ u. Means c (with_level e l u) body 0) (λ u. Means c (with_level e l u) body 1) (size_of r) each) [
      | inl all ↦ (0, subst (IsValueOf 0) same (lit< tt), inr (refl, all))
      | inr some ↦ (1, subst (IsValueOf 1) same (lit< tt), inl (refl, some))
    ]

mutual
  pub some_meaning : (t : Tree) (levels : ℕ → Option Sort) (c : List ℕ) (e : ℕ → Option ℕ) (s : Sort) → IsSortedBelow levels t → AllByRecursion (HasConstant c) (constants_of t) → AllByRecursion (HasValue e) (free_levels t) → tree_sort t ≡ Some s → MeansSome c e t s
  some_meaning (Constant i r) levels c e s h g f k =
      let same : r ≡ s = cc in
      let there = some-and (slice_get c i) (λ v. IsValueOf v r) g.0 in
      (there.0, subst (IsValueOf there.0) same there.2, there.1)
  some_meaning (Variable l r) levels c e s h g f k =
      let same : r ≡ s = cc in
      let there = some-and (e l) (λ v. IsValueOf v r) f.0 in
      (there.0, subst (IsValueOf there.0) same there.2, there.1)
  some_meaning (Literal r n) levels c e s h g f k =
      let same : r ≡ s = cc in
      (n, subst (IsValueOf n) same h.1, refl)
  some_meaning (Apply o args) levels c e s h g f k =
      let parts = rank_parts o args s k in
      let lawful = All-from_recursion IsLawful parts.0 (lawful_sorts args levels parts.0 h.0 parts.1) in
      let each = some_meanings args levels c e parts.0 h.0 g f parts.1 in
      (op_value o parts.0 each.0, (op_in_sort o parts.0 s each.0 lawful each.1 parts.2).1, (parts.0, each.0, parts.1, each.2, refl))
  some_meaning (ForAll l r body) levels c e s h g f k =
      all_means c e l r body s (closed_bool body s h.2 k) (λ u fits.
      let m = some_meaning body (with_level levels l r) c (with_level e l u) Bool h.1 g (values_below e levels l r u (free_levels body) fits (bound_sorts body (with_level levels l r) h.1) f) h.2 in
      one_or_zero (Means c (with_level e l u) body) m.0 m.1 m.2)
  some_meaning (Exists l r body) levels c e s h g f k =
      some_means c e l r body s (closed_bool body s h.2 k) (λ u fits.
      let m = some_meaning body (with_level levels l r) c (with_level e l u) Bool h.1 g (values_below e levels l r u (free_levels body) fits (bound_sorts body (with_level levels l r) h.1) f) h.2 in
      zero_or_one (Means c (with_level e l u) body) m.0 m.1 m.2)

  pub some_meanings : (ts : Trees) (levels : ℕ → Option Sort) (c : List ℕ) (e : ℕ → Option ℕ) (sorts : List Sort) → AreSortedBelow levels ts → AllByRecursion (HasConstant c) (constants_of_all ts) → AllByRecursion (HasValue e) (free_levels_of_all ts) → tree_sorts ts ≡ Some sorts → MeanSome c e ts sorts
  some_meanings Nil levels c e sorts h g f k =
      let none : sorts ≡ [] = cc in
      ([], subst (AllZip IsValueOf []) (sym none) tt, refl)
  some_meanings (Cons t ts) levels c e sorts h g f k =
      let parts = sorts_parts t ts sorts k in
      let first = some_meaning t levels c e parts.0 h.0 (front (HasConstant c) (constants_of t) (constants_of_all ts) g) (front (HasValue e) (free_levels t) (free_levels_of_all ts) f) parts.2 in
      let others = some_meanings ts levels c e parts.1 h.1 (back (HasConstant c) (constants_of t) (constants_of_all ts) g) (back (HasValue e) (free_levels t) (free_levels_of_all ts) f) parts.3 in
      (first.0 ∷ others.0, subst (AllZip IsValueOf (first.0 ∷ others.0)) (sym parts.4) (first.1, others.1), (first.0, others.0, first.2, others.2, refl))

-- a sorted tree has a sort
pub has_sort : (t : Tree) (levels : ℕ → Option Sort) → IsSortedBelow levels t → (s : Sort) × (tree_sort t ≡ Some s)
has_sort (Constant i s) levels h = (s, refl)
has_sort (Variable l s) levels h = (s, refl)
has_sort (Literal s n) levels h = (s, refl)
has_sort (Apply o args) levels h = found (tree_sort (Apply o args)) h.1
has_sort (ForAll l s body) levels h = (Bool, ap closed_sort h.2)
has_sort (Exists l s body) levels h = (Bool, ap closed_sort h.2)
