-- Constants in the order of their indices: where each one is found, and lists of values for them.
use Rattle.std.proofs.Common.{◌≡◌, ℕ, zero, suc, ◌<◌, ◌==◌, Bool as Truth, true, false, if◌then◌else◌, nat_lt, List, [], ◌∷◌, slice_get, refl, sym, arith}
use Rattle.std.specs.Prelude.{IsSomeAnd, AllPairs}
use Rattle.std.specs.List.{AllByRecursion}
use Rattle.std.proofs.lemmas.Bool.{ltb-true, ltb-false, eqb-false, eq-eqb}
use Rattle.std.proofs.lemmas.List.Elements.{recursion_from_All}
use Rattle.qv_words.specs.declared.sort.Sort.{Sort}
use Rattle.qv_words.specs.Problem.{with_constant, in_order, index_in}
use Rattle.qv_words.proofs.Equals.{eq-from_test}

-- a constant is found by its index, with a sort that fits
abbrev pub IsFound : (Sort → Sort → Type 0) → List (ℕ × Sort) → ℕ × Sort → Type 0
IsFound Same ds leaf = IsSomeAnd (slice_get ds (index_in ds leaf.0)) (λ k. (k.0 ≡ leaf.0) × Same k.1 leaf.1)

found-first : (Same : Sort → Sort → Type 0) (d : ℕ × Sort) (ds : List (ℕ × Sort)) (leaf : ℕ × Sort) → d.0 ≡ leaf.0 → Same d.1 leaf.1 →
    IsFound Same (d ∷ ds) leaf
found-first Same d ds leaf e h = rw (eq-eqb d.0 leaf.0 e) (e, h)

found-more : (Same : Sort → Sort → Type 0) (d : ℕ × Sort) (ds : List (ℕ × Sort)) (leaf : ℕ × Sort) → (d.0 ≡ leaf.0 → Same d.1 leaf.1) →
    IsFound Same ds leaf → IsFound Same (d ∷ ds) leaf
found-more Same d ds leaf agree h = go (d.0 == leaf.0) refl
  where
    go : (b : Truth) → (d.0 == leaf.0) ≡ b → IsFound Same (d ∷ ds) leaf
    go true e = let same = eq-from_test d.0 leaf.0 e in found-first Same d ds leaf same (agree same)
    go false e = rw e h

-- what is found stays found where more is put behind the first
found-behind : (Same : Sort → Sort → Type 0) (d : ℕ × Sort) (ds es : List (ℕ × Sort)) (leaf : ℕ × Sort) →
    (IsFound Same ds leaf → IsFound Same es leaf) → IsFound Same (d ∷ ds) leaf → IsFound Same (d ∷ es) leaf
found-behind Same d ds es leaf more h = go (d.0 == leaf.0) refl
  where
    go : (b : Truth) → (d.0 == leaf.0) ≡ b → IsFound Same (d ∷ es) leaf
    go true e = let there : (d.0 ≡ leaf.0) × Same d.1 leaf.1 = rw e at h in found-first Same d es leaf there.0 there.1
    go false e = let there : IsFound Same ds leaf = rw e at h in rw e (more there)

-- what holds of a constant put among others, by the two tests
by-tests : (P : List (ℕ × Sort) → Type 0) (c d : ℕ × Sort) (ds : List (ℕ × Sort)) → (c.0 ≡ d.0 → P (d ∷ ds)) →
    (c.0 < d.0 → P (c ∷ d ∷ ds)) → (d.0 < c.0 → P (d ∷ with_constant c ds)) → P (with_constant c (d ∷ ds))
by-tests P c d ds same before after = go (c.0 == d.0) (nat_lt c.0 d.0) refl refl
  where
    go : (b k : Truth) → (c.0 == d.0) ≡ b → nat_lt c.0 d.0 ≡ k →
        P (if b then d ∷ ds else (if k then c ∷ d ∷ ds else d ∷ with_constant c ds))
    go true k e f = same (eq-from_test c.0 d.0 e)
    go false true e f = before (ltb-true c.0 d.0 f)
    go false false e f = let differs = eqb-false c.0 d.0 e in let le = ltb-false c.0 d.0 f in after (omega (arith, differs, le))

pub all-with : (P : ℕ × Sort → Type 0) (c : ℕ × Sort) (ds : List (ℕ × Sort)) → P c → AllByRecursion P ds →
    AllByRecursion P (with_constant c ds)
all-with P c [] p h = (p, tt)
all-with P c (d ∷ ds) p h = by-tests (AllByRecursion P) c d ds (λ e. h) (λ lt. (p, h)) (λ lt. (h.0, all-with P c ds p h.1))

pub all-in_order : (P : ℕ × Sort → Type 0) (cs : List (ℕ × Sort)) → AllByRecursion P cs → AllByRecursion P (in_order cs)
all-in_order P [] h = tt
all-in_order P (c ∷ cs) h = all-with P c (in_order cs) h.0 (all-in_order P cs h.1)

old-found : (Same : Sort → Sort → Type 0) (c : ℕ × Sort) (ds : List (ℕ × Sort)) (leaf : ℕ × Sort) → (c.0 ≡ leaf.0 → Same c.1 leaf.1) →
    IsFound Same ds leaf → IsFound Same (with_constant c ds) leaf
old-found Same c [] leaf agree h = absurd h
old-found Same c (d ∷ ds) leaf agree h =
    by-tests (λ es. IsFound Same es leaf) c d ds (λ e. h) (λ lt. found-more Same c (d ∷ ds) leaf agree h)
    (λ lt. found-behind Same d ds (with_constant c ds) leaf (old-found Same c ds leaf agree) h)

abbrev SameAs : (Sort → Sort → Type 0) → ℕ × Sort → ℕ × Sort → Type 0
SameAs Same c d = c.0 ≡ d.0 → Same c.1 d.1

new-found : (Same : Sort → Sort → Type 0) (c : ℕ × Sort) (ds : List (ℕ × Sort)) → Same c.1 c.1 →
    AllByRecursion (λ d. SameAs Same d c) ds → IsFound Same (with_constant c ds) c
new-found Same c [] own h = found-first Same c [] c refl own
new-found Same c (d ∷ ds) own h =
    by-tests (λ es. IsFound Same es c) c d ds (λ e. found-first Same d ds c (sym e) (h.0 (sym e)))
    (λ lt. found-first Same c (d ∷ ds) c refl own)
    (λ lt. found-more Same d (with_constant c ds) c h.0 (new-found Same c ds own h.1))

-- each two constants of one index have sorts that fit
abbrev pub AllSame : (Sort → Sort → Type 0) → List (ℕ × Sort) → Type 0
AllSame Same [] = Unit {0}
AllSame Same (c ∷ cs) = AllByRecursion (λ d. SameAs Same c d × SameAs Same d c) cs × AllSame Same cs

-- then each constant is found
pub all-found : (Same : Sort → Sort → Type 0) → ((s : Sort) → Same s s) → (cs : List (ℕ × Sort)) → AllSame Same cs →
    AllByRecursion (IsFound Same (in_order cs)) cs
all-found Same own [] h = tt
all-found Same own (c ∷ cs) h = (
  new-found Same c (in_order cs) (own c.1) (all-in_order (λ d. SameAs Same d c) cs (second cs h.0)),
  each cs h.0 (all-found Same own cs h.1),
)
  where
    second : (ds : List (ℕ × Sort)) → AllByRecursion (λ d. SameAs Same c d × SameAs Same d c) ds → AllByRecursion (λ d. SameAs Same d c) ds
    second [] k = tt
    second (d ∷ ds) k = (k.0.1, second ds k.1)

    each : (ds : List (ℕ × Sort)) → AllByRecursion (λ d. SameAs Same c d × SameAs Same d c) ds →
        AllByRecursion (IsFound Same (in_order cs)) ds → AllByRecursion (IsFound Same (with_constant c (in_order cs))) ds
    each [] k f = tt
    each (d ∷ ds) k f = (old-found Same c (in_order cs) d k.0.0 f.0, each ds k.1 f.1)

-- in any sorts, and in one sort
abbrev pub AnySort : Sort → Sort → Type 0
AnySort s t = Unit {0}

pub found-any : (cs : List (ℕ × Sort)) → AllByRecursion (IsFound AnySort (in_order cs)) cs
found-any cs = all-found AnySort (λ s. tt) cs (all cs)
  where
    each : (c : ℕ × Sort) (ds : List (ℕ × Sort)) → AllByRecursion (λ d. SameAs AnySort c d × SameAs AnySort d c) ds
    each c [] = tt
    each c (d ∷ ds) = ((λ e. tt, λ e. tt), each c ds)

    all : (ds : List (ℕ × Sort)) → AllSame AnySort ds
    all [] = tt
    all (d ∷ ds) = (each d ds, all ds)

abbrev pub OneSort : Sort → Sort → Type 0
OneSort s t = s ≡ t

pub found-sort : (cs : List (ℕ × Sort)) → AllPairs (λ a b. a.0 ≡ b.0 → a.1 ≡ b.1) cs → AllByRecursion (IsFound OneSort (in_order cs)) cs
found-sort cs h = all-found OneSort (λ s. refl) cs (all cs h)
  where
    turned : (c : ℕ × Sort) (ds : List (ℕ × Sort)) → AllByRecursion (λ d. SameAs OneSort c d) ds →
        AllByRecursion (λ d. SameAs OneSort c d × SameAs OneSort d c) ds
    turned c [] k = tt
    turned c (d ∷ ds) k = ((k.0, λ e. sym (k.0 (sym e))), turned c ds k.1)

    all : (ds : List (ℕ × Sort)) → AllPairs (λ a b. a.0 ≡ b.0 → a.1 ≡ b.1) ds → AllSame OneSort ds
    all [] k = tt
    all (d ∷ ds) k = (
      turned d ds (recursion_from_All (λ e. SameAs OneSort d e) ds (λ j e lt. k zero (suc j) e (omega arith) (omega (arith, lt)))),
      all ds (λ i j e lt within. k (suc i) (suc j) e (omega (arith, lt)) (omega (arith, within))),
    )

-- each index is above those before
abbrev pub AreRising : List (ℕ × Sort) → Type 0
AreRising [] = Unit {0}
AreRising (d ∷ ds) = AllByRecursion (λ e. d.0 < e.0) ds × AreRising ds

above-all : (n m : ℕ) → n < m → (ds : List (ℕ × Sort)) → AllByRecursion (λ e. m < e.0) ds → AllByRecursion (λ e. n < e.0) ds
above-all n m lt [] h = tt
above-all n m lt (d ∷ ds) h = let first = h.0 in (omega (arith, lt, first), above-all n m lt ds h.1)

rising-with : (c : ℕ × Sort) (ds : List (ℕ × Sort)) → AreRising ds → AreRising (with_constant c ds)
rising-with c [] h = (tt, tt)
rising-with c (d ∷ ds) h =
    by-tests AreRising c d ds (λ e. h) (λ lt. ((lt, above-all c.0 d.0 lt ds h.0), h))
    (λ lt. (all-with (λ e. d.0 < e.0) c ds lt h.0, rising-with c ds h.1))

pub in_order-rising : (cs : List (ℕ × Sort)) → AreRising (in_order cs)
in_order-rising [] = tt
in_order-rising (c ∷ cs) = rising-with c (in_order cs) (in_order-rising cs)
