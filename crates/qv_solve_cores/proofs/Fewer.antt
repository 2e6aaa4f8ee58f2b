-- Fewer formulas: they are true where all are, may be asked about where all may, and have no more
-- places.
use Rattle.std.proofs.Common.{◌≡◌, ℕ, suc, ◌<◌, ◌≤◌, Bool as Truth, true, false, cond, ◌⊎◌, inl, inr, List, [], ◌∷◌, ◌++◌, length, sum, slice_get, refl, sym, subst, arith, true≢false}
use Rattle.std.specs.Prelude.{All, AllPairs, IsSomeAnd}
use Rattle.std.specs.List.{AllByRecursion}
use Rattle.std.proofs.lemmas.Bool.{cases_lt, ne_eqb}
use Rattle.std.proofs.lemmas.List.Elements.{All-from_recursion, recursion_from_All}
use Rattle.std.proofs.lemmas.List.Kept.{AllPairs-cons}
use Rattle.qv_words.specs.declared.sort.Sort.{Sort}
use Rattle.qv_words.specs.Tree.{Tree}
use Rattle.qv_words.specs.Sort.{IsValueOf}
use Rattle.qv_words.specs.Sorted.{constants_of, no_levels}
use Rattle.qv_words.specs.Meaning.{Means}
use Rattle.qv_words.specs.Truth.{HaveOneSort, constants_of_each}
use Rattle.qv_words.specs.Problem.{in_order}
use Rattle.qv_prenex_laws.specs.FormLaws.{all_lengths, joined_lengths, lengths_under}
use Rattle.qv_prenex_laws.proofs.InOrder.{IsFound, AnySort, AreRising, all-in_order, found-any, in_order-rising}
use Rattle.qv_prenex_laws.proofs.FormLengths.{places-count, joined-total}
use Rattle.qv_core.specs.Without.{is_among, without_from, without}
use Rattle.qv_solve_cores.specs.CoreLaws.{FewerHaveNoMorePlaces, FewerAreTrue}
use Rattle.qv_solve_cores.proofs.Marks.{without-none}

-- ---- what holds of each

all-left : {X : Type 0} (P : X → Type 0) (xs ys : List X) → AllByRecursion P (xs ++ ys) → AllByRecursion P xs
all-left P [] ys h = tt
all-left P (x ∷ xs) ys h = (h.0, all-left P xs ys h.1)

all-right : {X : Type 0} (P : X → Type 0) (xs ys : List X) → AllByRecursion P (xs ++ ys) → AllByRecursion P ys
all-right P [] ys h = h
all-right P (x ∷ xs) ys h = all-right P xs ys h.1

all-join : {X : Type 0} (P : X → Type 0) (xs ys : List X) → AllByRecursion P xs → AllByRecursion P ys → AllByRecursion P (xs ++ ys)
all-join P [] ys h k = k
all-join P (x ∷ xs) ys h k = (h.0, all-join P xs ys h.1 k)

-- whatever is out is among more
abbrev AreMore : List ℕ → List ℕ → Type 0
AreMore out more = (n : ℕ) → is_among out n ≡ true → is_among more n ≡ true

all-fewer_from : {X : Type 0} (P : X → Type 0) (out more : List ℕ) → AreMore out more → (n : ℕ) (xs : List X) → AllByRecursion P (without_from out n xs) → AllByRecursion P (without_from more n xs)
all-fewer_from P out more sub n [] h = tt
all-fewer_from {X} P out more sub n (x ∷ xs) h = step (is_among out n) (is_among more n) (sub n) h (all-fewer_from P out more sub (suc n) xs)
  where
    step : (b k : Truth) → (b ≡ true → k ≡ true) → AllByRecursion P (cond b (without_from out (suc n) xs) (x ∷ without_from out (suc n) xs)) →
        (AllByRecursion P (without_from out (suc n) xs) → AllByRecursion P (without_from more (suc n) xs)) → AllByRecursion P (cond k (without_from more (suc n) xs) (x ∷ without_from more (suc n) xs))
    step true true go h rest = rest h
    step true false go h rest = absurd (true≢false (sym (go refl)))
    step false true go h rest = rest h.1
    step false false go h rest = (h.0, rest h.1)

constants-fewer_from : (P : ℕ × Sort → Type 0) (out more : List ℕ) → AreMore out more → (n : ℕ) (ts : List Tree) → AllByRecursion P (constants_of_each (without_from out n ts)) → AllByRecursion P (constants_of_each (without_from more n ts))
constants-fewer_from P out more sub n [] h = tt
constants-fewer_from P out more sub n (t ∷ ts) h = step (is_among out n) (is_among more n) (sub n) h (constants-fewer_from P out more sub (suc n) ts)
  where
    step : (b k : Truth) → (b ≡ true → k ≡ true) → AllByRecursion P (constants_of_each (cond b (without_from out (suc n) ts) (t ∷ without_from out (suc n) ts))) →
        (AllByRecursion P (constants_of_each (without_from out (suc n) ts)) → AllByRecursion P (constants_of_each (without_from more (suc n) ts))) →
        AllByRecursion P (constants_of_each (cond k (without_from more (suc n) ts) (t ∷ without_from more (suc n) ts)))
    step true true go h rest = rest h
    step true false go h rest = absurd (true≢false (sym (go refl)))
    step false true go h rest = rest (all-right P (constants_of t) (constants_of_each (without_from out (suc n) ts)) h)
    step false false go h rest = all-join P (constants_of t) (constants_of_each (without_from more (suc n) ts))
        (all-left P (constants_of t) (constants_of_each (without_from out (suc n) ts)) h)
        (rest (all-right P (constants_of t) (constants_of_each (without_from out (suc n) ts)) h))

pub fewer-true : FewerAreTrue
fewer-true out more formulas sub holds =
    let Has : ℕ × Sort → Type 0 = λ leaf. IsSomeAnd (slice_get holds.0 leaf.0) (λ v. IsValueOf v leaf.1) in
    let Means1 : Tree → Type 0 = λ t. Means holds.0 no_levels t 1 in (
      holds.0,
      All-from_recursion Has (constants_of_each (without more formulas)) (constants-fewer_from Has out more sub 0 formulas (recursion_from_All Has (constants_of_each (without out formulas)) holds.1)),
      All-from_recursion Means1 (without more formulas) (all-fewer_from Means1 out more sub 0 formulas (recursion_from_All Means1 (without out formulas) holds.2)),
    )

-- ---- of all of them

none-out : (more : List ℕ) → AreMore [] more
none-out more n e = absurd (true≢false (sym e))

pub all-fewer : {X : Type 0} (P : X → Type 0) (out : List ℕ) (xs : List X) → All P xs → All P (without out xs)
all-fewer {X} P out xs h =
    let start : AllByRecursion P (without [] xs) = subst (λ (l : List X). AllByRecursion P l) (sym (without-none xs)) (recursion_from_All P xs h) in
    All-from_recursion P (without out xs) (all-fewer_from P [] out (none-out out) 0 xs start)

constants-fewer : (P : ℕ × Sort → Type 0) (out : List ℕ) (ts : List Tree) → AllByRecursion P (constants_of_each ts) → AllByRecursion P (constants_of_each (without out ts))
constants-fewer P out ts h =
    let start : AllByRecursion P (constants_of_each (without [] ts)) = subst (λ (l : List Tree). AllByRecursion P (constants_of_each l)) (sym (without-none ts)) h in
    constants-fewer_from P [] out (none-out out) 0 ts start

-- ---- one sort

abbrev Agree : ℕ × Sort → ℕ × Sort → Type 0
Agree a b = a.0 ≡ b.0 → a.1 ≡ b.1

abbrev AllAgree : List (ℕ × Sort) → Type 0
AllAgree [] = Unit {0}
AllAgree (c ∷ cs) = AllByRecursion (Agree c) cs × AllAgree cs

agree-pairs : (cs : List (ℕ × Sort)) → AllAgree cs → AllPairs Agree cs
agree-pairs [] h = λ i j d lt within. absurd (omega (arith, within))
agree-pairs (c ∷ cs) h = AllPairs-cons Agree c cs (All-from_recursion (Agree c) cs h.0) (agree-pairs cs h.1)

pairs-agree : (cs : List (ℕ × Sort)) → AllPairs Agree cs → AllAgree cs
pairs-agree [] h = tt
pairs-agree (c ∷ cs) h = (
  recursion_from_All (Agree c) cs (λ k d within. h 0 (suc k) d (omega arith) (omega (arith, within))),
  pairs-agree cs (λ i j d lt within. h (suc i) (suc j) d (omega (arith, lt)) (omega (arith, within))),
)

agree-right : (a b : List (ℕ × Sort)) → AllAgree (a ++ b) → AllAgree b
agree-right [] b h = h
agree-right (c ∷ a) b h = agree-right a b h.1

agree-behind : (a b b' : List (ℕ × Sort)) → ((P : ℕ × Sort → Type 0) → AllByRecursion P b → AllByRecursion P b') → (AllAgree b → AllAgree b') → AllAgree (a ++ b) → AllAgree (a ++ b')
agree-behind [] b b' each more h = more h
agree-behind (c ∷ a) b b' each more h = (
  all-join (Agree c) a b' (all-left (Agree c) a b h.0) (each (Agree c) (all-right (Agree c) a b h.0)),
  agree-behind a b b' each more h.1,
)

agree-fewer : (out : List ℕ) (n : ℕ) (ts : List Tree) → AllAgree (constants_of_each (without_from [] n ts)) → AllAgree (constants_of_each (without_from out n ts))
agree-fewer out n [] h = tt
agree-fewer out n (t ∷ ts) h = step (is_among out n) (agree-fewer out (suc n) ts)
  where
    step : (k : Truth) → (AllAgree (constants_of_each (without_from [] (suc n) ts)) → AllAgree (constants_of_each (without_from out (suc n) ts))) →
        AllAgree (constants_of_each (cond k (without_from out (suc n) ts) (t ∷ without_from out (suc n) ts)))
    step true rest = rest (agree-right (constants_of t) (constants_of_each (without_from [] (suc n) ts)) h)
    step false rest = agree-behind (constants_of t) (constants_of_each (without_from [] (suc n) ts)) (constants_of_each (without_from out (suc n) ts))
        (λ P k. constants-fewer_from P [] out (none-out out) (suc n) ts k) rest h

pub one_sort-fewer : (out : List ℕ) (ts : List Tree) → HaveOneSort ts → HaveOneSort (without out ts)
one_sort-fewer out ts h =
    let start : AllAgree (constants_of_each (without [] ts)) = subst (λ (l : List Tree). AllAgree (constants_of_each l)) (sym (without-none ts)) (pairs-agree (constants_of_each ts) h) in
    agree-pairs (constants_of_each (without out ts)) (agree-fewer out 0 ts start)

-- ---- places

above-lower : (n m : ℕ) → n < m → (ds : List (ℕ × Sort)) → AllByRecursion (λ e. m < e.0) ds → AllByRecursion (λ e. n < e.0) ds
above-lower n m lt [] h = tt
above-lower n m lt (d ∷ ds) h = let first = h.0 in (omega (arith, lt, first), above-lower n m lt ds h.1)

found-later : (e : ℕ × Sort) (es : List (ℕ × Sort)) (leaf : ℕ × Sort) → e.0 < leaf.0 → IsFound AnySort (e ∷ es) leaf → IsFound AnySort es leaf
found-later e es leaf lt h = rw (ne_eqb e.0 leaf.0 (λ same. omega (arith, lt, same))) at h

all-later : (e : ℕ × Sort) (es ds : List (ℕ × Sort)) → AllByRecursion (λ d. e.0 < d.0) ds → AllByRecursion (IsFound AnySort (e ∷ es)) ds → AllByRecursion (IsFound AnySort es) ds
all-later e es [] above h = tt
all-later e es (d ∷ ds) above h = (found-later e es d above.0 h.0, all-later e es ds above.1 h.1)

never-found : (es : List (ℕ × Sort)) (leaf : ℕ × Sort) → AllByRecursion (λ e. leaf.0 < e.0) es → IsFound AnySort es leaf → ⊥
never-found [] leaf above h = h
never-found (e ∷ es) leaf above h =
    let lt = above.0 in
    let there : IsFound AnySort es leaf = rw (ne_eqb e.0 leaf.0 (λ same. omega (arith, lt, same))) at h in
    never-found es leaf above.1 there

fewer-found : (es ds : List (ℕ × Sort)) → AreRising ds → AreRising es → AllByRecursion (IsFound AnySort es) ds → length ds ≤ length es
fewer-found es [] r s h = omega arith
fewer-found [] (d ∷ ds) r s h = absurd h.0
fewer-found (e ∷ es) (d ∷ ds) r s h = compare (cases_lt d.0 e.0) (cases_lt e.0 d.0) (fewer-found es (d ∷ ds)) (fewer-found es ds)
  where
    compare : (d.0 < e.0) ⊎ (e.0 ≤ d.0) → (e.0 < d.0) ⊎ (d.0 ≤ e.0) →
        (AreRising (d ∷ ds) → AreRising es → AllByRecursion (IsFound AnySort es) (d ∷ ds) → length (d ∷ ds) ≤ length es) →
        (AreRising ds → AreRising es → AllByRecursion (IsFound AnySort es) ds → length ds ≤ length es) → length (d ∷ ds) ≤ length (e ∷ es)
    compare (inl lt) _ whole rest = absurd (never-found (e ∷ es) d (lt, above-lower d.0 e.0 lt es s.0) h.0)
    compare (inr _) (inl lt) whole rest =
        let le : length (d ∷ ds) ≤ length es = whole r s.1 (all-later e es (d ∷ ds) (lt, above-lower e.0 d.0 lt ds r.0) h) in omega (arith, le)
    compare (inr a) (inr b) whole rest =
        let same : d.0 ≡ e.0 = omega (arith, a, b) in
        let above : AllByRecursion (λ f. e.0 < f.0) ds = subst (λ n. AllByRecursion (λ (f : ℕ × Sort). n < f.0) ds) same r.0 in
        let le : length ds ≤ length es = rest r.1 s.1 (all-later e es ds above h.1) in omega (arith, le)

constants-count : (out : List ℕ) (ts : List Tree) → length (in_order (constants_of_each (without out ts))) ≤ length (in_order (constants_of_each ts))
constants-count out ts =
    let cs = constants_of_each ts in
    let fewer = constants_of_each (without out ts) in
    fewer-found (in_order cs) (in_order fewer) (in_order-rising fewer) (in_order-rising cs)
    (all-in_order (IsFound AnySort (in_order cs)) fewer (constants-fewer (IsFound AnySort (in_order cs)) out ts (found-any cs)))

lengths-fewer : (out : List ℕ) (n : ℕ) (ts : List Tree) → sum (all_lengths (without_from out n ts)) ≤ sum (all_lengths ts)
lengths-fewer out n [] = omega arith
lengths-fewer out n (t ∷ ts) = step (is_among out n) (lengths-fewer out (suc n) ts)
  where
    step : (k : Truth) → sum (all_lengths (without_from out (suc n) ts)) ≤ sum (all_lengths ts) →
        sum (all_lengths (cond k (without_from out (suc n) ts) (t ∷ without_from out (suc n) ts))) ≤ sum (joined_lengths (lengths_under true t) (all_lengths ts))
    step true rest = let whole = joined-total (lengths_under true t) (all_lengths ts) in omega (arith, whole, rest)
    step false rest =
        let whole = joined-total (lengths_under true t) (all_lengths ts) in
        let part = joined-total (lengths_under true t) (all_lengths (without_from out (suc n) ts)) in
        omega (arith, whole, part, rest)

pub fewer-places : FewerHaveNoMorePlaces
fewer-places out formulas =
    let whole = places-count formulas in
    let part = places-count (without out formulas) in
    let constants = constants-count out formulas in
    let lengths = lengths-fewer out 0 formulas in
    omega (arith, whole, part, constants, lengths)
