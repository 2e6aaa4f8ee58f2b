-- Terms: sorted trees without quantifiers and constants, by what holds of each variable.
use Rattle.std.proofs.Common.{◌≡◌, ℕ, Option, Some, None, List, [], ◌∷◌, ◌++◌, refl, sym, ap, ◌∙◌, subst}
use Rattle.std.specs.Prelude.{IsSome, IfSome, IsSomeAnd, MatchOption, unwrap_or}
use Rattle.std.specs.List.{AllByRecursion}
use Rattle.qv_words.specs.declared.sort.Sort.{Sort}
use Rattle.qv_words.specs.Sort.{IsLawful, IsValueOf}
use Rattle.qv_words.specs.Tree.{Tree, Trees, Constant, Variable, Literal, Apply, ForAll, Exists, Nil, Cons, tree_sort, tree_sorts, IsQuantifierFree, AreQuantifierFree}
use Rattle.qv_words.specs.Sorted.{no_levels, IsSorted, AreSortedBelow, constants_of, constants_of_all, free_levels, free_levels_of_all}
use Rattle.qv_words.specs.Meaning.{Means}
use Rattle.qv_words.specs.Replacement.{replaced, replaced_each}
use Rattle.qv_words.specs.Skolem.{IsTermOf}
use Rattle.qv_words.proofs.Leaves.{front, back, both, Agree, HasValue}
use Rattle.qv_words.proofs.Agreeing.{SameConstant, same_meaning}
use Rattle.qv_words.proofs.Existing.{HasConstant, MeansSome, some_meaning, lawful_sort, has_sort}
use Rattle.qv_words.proofs.Replacing.{HasItsSort, TakesItsMeaning, same_value, same_value_back}
use Rattle.qv_words.proofs.Sections.{back-empty, front-empty}

-- what is said of a variable, by its level and sort
abbrev pub OfVariable : Type 1
OfVariable = ℕ → Sort → Type 0

-- a term whose variables all meet P
abbrev mutual
  pub IsOver : OfVariable → Tree → Type 0
  IsOver P (Constant i s) = ⊥
  IsOver P (Variable l s) = IsLawful s × P l s
  IsOver P (Literal s n) = IsLawful s × IsValueOf n s
  IsOver P (Apply o args) = AreOver P args × IsSome (tree_sort (Apply o args))
  IsOver P (ForAll l s body) = ⊥
  IsOver P (Exists l s body) = ⊥

  pub AreOver : OfVariable → Trees → Type 0
  AreOver P Nil = Unit {0}
  AreOver P (Cons t ts) = IsOver P t × AreOver P ts

-- of this sort
abbrev pub IsOf : OfVariable → Sort → Tree → Type 0
IsOf P s t = IsOver P t × (tree_sort t ≡ Some s)

-- the place's own sort
abbrev pub HasSort : OfVariable → ℕ → Sort → Type 0
HasSort P x s = (r : Sort) → P x r → r ≡ s

-- the leaves of a term, as a list
abbrev pub EachLeaf : OfVariable → List (ℕ × Sort) → Type 0
EachLeaf P leaves = AllByRecursion (λ leaf. P leaf.0 leaf.1) leaves

mutual
  pub over-from : (P : OfVariable) (t : Tree) → IsSorted t → IsQuantifierFree t → constants_of t ≡ [] → EachLeaf P (free_levels t) → IsOver P t
  over-from P (Constant i s) sorted free none h = absurd cc
  over-from P (Variable l s) sorted free none h = (sorted.0, h.0)
  over-from P (Literal s n) sorted free none h = sorted
  over-from P (Apply o args) sorted free none h = (over-from_each P args sorted.0 free none h, sorted.1)
  over-from P (ForAll l s body) sorted free none h = absurd free
  over-from P (Exists l s body) sorted free none h = absurd free

  over-from_each : (P : OfVariable) (ts : Trees) → AreSortedBelow no_levels ts → AreQuantifierFree ts → constants_of_all ts ≡ [] → EachLeaf P (free_levels_of_all ts) → AreOver P ts
  over-from_each P Nil sorted free none h = tt
  over-from_each P (Cons t ts) sorted free none h = (
    over-from P t sorted.0 free.0 (front-empty (constants_of t) (constants_of_all ts) none) (front (λ leaf. P leaf.0 leaf.1) (free_levels t) (free_levels_of_all ts) h),
    over-from_each P ts sorted.1 free.1 (back-empty (constants_of t) (constants_of_all ts) none) (back (λ leaf. P leaf.0 leaf.1) (free_levels t) (free_levels_of_all ts) h),
  )

mutual
  pub over-sorted : (P : OfVariable) (t : Tree) → IsOver P t → IsSorted t
  over-sorted P (Constant i s) h = absurd h
  over-sorted P (Variable l s) h = (h.0, tt)
  over-sorted P (Literal s n) h = h
  over-sorted P (Apply o args) h = (over-sorted_each P args h.0, h.1)
  over-sorted P (ForAll l s body) h = absurd h
  over-sorted P (Exists l s body) h = absurd h

  pub over-sorted_each : (P : OfVariable) (ts : Trees) → AreOver P ts → AreSortedBelow no_levels ts
  over-sorted_each P Nil h = tt
  over-sorted_each P (Cons t ts) h = (over-sorted P t h.0, over-sorted_each P ts h.1)

mutual
  pub over-free : (P : OfVariable) (t : Tree) → IsOver P t → IsQuantifierFree t
  over-free P (Constant i s) h = absurd h
  over-free P (Variable l s) h = tt
  over-free P (Literal s n) h = tt
  over-free P (Apply o args) h = over-free_each P args h.0
  over-free P (ForAll l s body) h = absurd h
  over-free P (Exists l s body) h = absurd h

  over-free_each : (P : OfVariable) (ts : Trees) → AreOver P ts → AreQuantifierFree ts
  over-free_each P Nil h = tt
  over-free_each P (Cons t ts) h = (over-free P t h.0, over-free_each P ts h.1)

mutual
  pub over-constants : (P : OfVariable) (t : Tree) → IsOver P t → constants_of t ≡ []
  over-constants P (Constant i s) h = absurd h
  over-constants P (Variable l s) h = refl
  over-constants P (Literal s n) h = refl
  over-constants P (Apply o args) h = over-constants_each P args h.0
  over-constants P (ForAll l s body) h = absurd h
  over-constants P (Exists l s body) h = absurd h

  over-constants_each : (P : OfVariable) (ts : Trees) → AreOver P ts → constants_of_all ts ≡ []
  over-constants_each P Nil h = refl
  over-constants_each P (Cons t ts) h = ap (λ xs. xs ++ constants_of_all ts) (over-constants P t h.0) ∙ over-constants_each P ts h.1

mutual
  pub over-leaves : (P : OfVariable) (t : Tree) → IsOver P t → EachLeaf P (free_levels t)
  over-leaves P (Constant i s) h = absurd h
  over-leaves P (Variable l s) h = (h.1, tt)
  over-leaves P (Literal s n) h = tt
  over-leaves P (Apply o args) h = over-leaves_each P args h.0
  over-leaves P (ForAll l s body) h = absurd h
  over-leaves P (Exists l s body) h = absurd h

  over-leaves_each : (P : OfVariable) (ts : Trees) → AreOver P ts → EachLeaf P (free_levels_of_all ts)
  over-leaves_each P Nil h = tt
  over-leaves_each P (Cons t ts) h = both (λ leaf. P leaf.0 leaf.1) (free_levels t) (free_levels_of_all ts) (over-leaves P t h.0) (over-leaves_each P ts h.1)

mutual
  pub over-more : (P Q : OfVariable) → ((l : ℕ) (s : Sort) → P l s → Q l s) → (t : Tree) → IsOver P t → IsOver Q t
  over-more P Q more (Constant i s) h = absurd h
  over-more P Q more (Variable l s) h = (h.0, more l s h.1)
  over-more P Q more (Literal s n) h = h
  over-more P Q more (Apply o args) h = (over-more_each P Q more args h.0, h.1)
  over-more P Q more (ForAll l s body) h = absurd h
  over-more P Q more (Exists l s body) h = absurd h

  over-more_each : (P Q : OfVariable) → ((l : ℕ) (s : Sort) → P l s → Q l s) → (ts : Trees) → AreOver P ts → AreOver Q ts
  over-more_each P Q more Nil h = tt
  over-more_each P Q more (Cons t ts) h = (over-more P Q more t h.0, over-more_each P Q more ts h.1)

-- what it is in the words of the definitions
pub term-from_over : (P : OfVariable) (s : Sort) (t : Tree) → IsOf P s t → IsTermOf t s
term-from_over P s t h = record { sorted = over-sorted P t h.0; sort = h.1; quantifier_free = over-free P t h.0; constant_free = over-constants P t h.0 }

pub over-from_term : (P : OfVariable) (s : Sort) (t : Tree) → IsTermOf t s → EachLeaf P (free_levels t) → IsOf P s t
over-from_term P s t h leaves = (over-from P t h.sorted h.quantifier_free h.constant_free leaves, h.sort)

-- what holds of each leaf holds of the leaves of a list
pub each-leaf : (P : ℕ × Sort → Type 0) (R : OfVariable) → ((l : ℕ) (s : Sort) → R l s → P (l, s)) → (leaves : List (ℕ × Sort)) → EachLeaf R leaves → AllByRecursion P leaves
each-leaf P R k [] h = tt
each-leaf P R k (leaf ∷ leaves) h = (k leaf.0 leaf.1 h.0, each-leaf P R k leaves h.1)

no-constants : (P : ℕ × Sort → Type 0) (leaves : List (ℕ × Sort)) → leaves ≡ [] → AllByRecursion P leaves
no-constants P leaves e = subst (AllByRecursion P) (sym e) tt

-- values that agree at its variables
pub over-agree : (P : OfVariable) (t : Tree) (e f : ℕ → Option ℕ) (v : ℕ) → IsOver P t → ((l : ℕ) (s : Sort) → P l s → e l ≡ f l) → Means [] e t v → Means [] f t v
over-agree P t e f v h same m =
    same_meaning t [] [] e f v (no-constants (SameConstant [] []) (constants_of t) (over-constants P t h))
    (each-leaf (Agree e f) P same (free_levels t) (over-leaves P t h)) m

-- a term means a value of its sort
pub over-means : (P : OfVariable) (s : Sort) (t : Tree) (e : ℕ → Option ℕ) → IsOf P s t → ((l : ℕ) (r : Sort) → P l r → IsSomeAnd (e l) (λ v. IsValueOf v r)) → MeansSome [] e t s
over-means P s t e h values =
    some_meaning t no_levels [] e s (over-sorted P t h.0) (no-constants (HasConstant []) (constants_of t) (over-constants P t h.0))
    (each-leaf (HasValue e) P values (free_levels t) (over-leaves P t h.0)) h.1

-- its sort
pub over-lawful : (P : OfVariable) (s : Sort) (t : Tree) → IsOf P s t → IsLawful s
over-lawful P s t h = lawful_sort t no_levels s (over-sorted P t h.0) h.1

pub over-sort : (P : OfVariable) (t : Tree) → IsOver P t → (s : Sort) × (tree_sort t ≡ Some s)
over-sort P t h = has_sort t no_levels (over-sorted P t h)

-- terms put in for variables, each of the variable's sort
abbrev pub Puts : OfVariable → (ℕ → Option Tree) → OfVariable
Puts Q b l s = MatchOption (b l) (Q l s) (IsOf Q s)

put-over : (Q : OfVariable) (o : Option Tree) (l : ℕ) (s : Sort) → IsLawful s → MatchOption o (Q l s) (IsOf Q s) → IsOf Q s (unwrap_or o (Variable l s))
put-over Q None l s lawful h = ((lawful, h), refl)
put-over Q (Some t) l s lawful h = h

mutual
  pub over-put : (P Q : OfVariable) (b : ℕ → Option Tree) → ((l : ℕ) (s : Sort) → P l s → Puts Q b l s) → (t : Tree) → IsOver P t → IsOver Q (replaced b t) × (tree_sort (replaced b t) ≡ tree_sort t)
  over-put P Q b puts (Constant i s) h = absurd h
  over-put P Q b puts (Variable l s) h = put-over Q (b l) l s h.0 (puts l s h.1)
  over-put P Q b puts (Literal s n) h = (h, refl)
  over-put P Q b puts (Apply o args) h =
      let each = over-put_each P Q b puts args h.0 in
      let same : tree_sort (Apply o (replaced_each b args)) ≡ tree_sort (Apply o args) = rw each.1 refl in
      ((each.0, subst (λ (p : Option Sort). IsSome p) (sym same) h.1), same)
  over-put P Q b puts (ForAll l s body) h = absurd h
  over-put P Q b puts (Exists l s body) h = absurd h

  over-put_each : (P Q : OfVariable) (b : ℕ → Option Tree) → ((l : ℕ) (s : Sort) → P l s → Puts Q b l s) → (ts : Trees) → AreOver P ts → AreOver Q (replaced_each b ts) × (tree_sorts (replaced_each b ts) ≡ tree_sorts ts)
  over-put_each P Q b puts Nil h = (tt, refl)
  over-put_each P Q b puts (Cons t ts) h =
      let first = over-put P Q b puts t h.0 in
      let others = over-put_each P Q b puts ts h.1 in
      ((first.0, others.0), rw (first.1, others.1) refl)

pub put-of : (P Q : OfVariable) (b : ℕ → Option Tree) (s : Sort) (t : Tree) → ((l : ℕ) (r : Sort) → P l r → Puts Q b l r) → IsOf P s t → IsOf Q s (replaced b t)
put-of P Q b s t puts h = let k = over-put P Q b puts t h.0 in (k.0, k.1 ∙ h.1)

-- f has at a variable what the term put in means, which is of the variable's sort, or what e has
abbrev pub Takes : (ℕ → Option Tree) → (ℕ → Option ℕ) → (ℕ → Option ℕ) → OfVariable
Takes b e f l s = MatchOption (b l) (f l ≡ e l) (λ put. (tree_sort put ≡ Some s) × IsSomeAnd (f l) (λ v. Means [] e put v))

takes-sort : (b : ℕ → Option Tree) (e f : ℕ → Option ℕ) (l : ℕ) (s : Sort) → Takes b e f l s → HasItsSort b (l, s)
takes-sort b e f l s = go (b l)
  where
    go : (o : Option Tree) → MatchOption o (f l ≡ e l) (λ put. (tree_sort put ≡ Some s) × IsSomeAnd (f l) (λ v. Means [] e put v)) → IfSome o (λ put. tree_sort put ≡ Some s)
    go None h = tt
    go (Some put) h = h.0

takes-meaning : (b : ℕ → Option Tree) (e f : ℕ → Option ℕ) (l : ℕ) (s : Sort) → Takes b e f l s → TakesItsMeaning [] b e f (l, s)
takes-meaning b e f l s = go (b l)
  where
    go : (o : Option Tree) → MatchOption o (f l ≡ e l) (λ put. (tree_sort put ≡ Some s) × IsSomeAnd (f l) (λ v. Means [] e put v)) → MatchOption o (f l ≡ e l) (λ put. IsSomeAnd (f l) (λ v. Means [] e put v))
    go None h = h
    go (Some put) h = h.1

-- a term with terms put in means what it means where the variables have their meanings
pub put-means : (P : OfVariable) (b : ℕ → Option Tree) (e f : ℕ → Option ℕ) (t : Tree) (v : ℕ) → IsOver P t → ((l : ℕ) (s : Sort) → P l s → Takes b e f l s) → Means [] f t v → Means [] e (replaced b t) v
put-means P b e f t v h takes m =
    let leaves = over-leaves P t h in
    same_value t [] b e f v (over-free P t h)
    (each-leaf (HasItsSort b) P (λ l s k. takes-sort b e f l s (takes l s k)) (free_levels t) leaves)
    (each-leaf (TakesItsMeaning [] b e f) P (λ l s k. takes-meaning b e f l s (takes l s k)) (free_levels t) leaves) m

-- and the other way round
pub put-means_back : (P : OfVariable) (b : ℕ → Option Tree) (e f : ℕ → Option ℕ) (t : Tree) (v : ℕ) → IsOver P t → ((l : ℕ) (s : Sort) → P l s → Takes b e f l s) → Means [] e (replaced b t) v → Means [] f t v
put-means_back P b e f t v h takes m =
    let leaves = over-leaves P t h in
    same_value_back t [] b e f v (over-free P t h)
    (each-leaf (HasItsSort b) P (λ l s k. takes-sort b e f l s (takes l s k)) (free_levels t) leaves)
    (each-leaf (TakesItsMeaning [] b e f) P (λ l s k. takes-meaning b e f l s (takes l s k)) (free_levels t) leaves) m
