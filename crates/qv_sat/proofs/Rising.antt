-- Clauses with rising ids, and how a number splits them.
use Rattle.std.proofs.Common.{◌≡◌, ℕ, ◌+◌, ◌<◌, ◌≤◌, Bool, true, false, not, All, List, [], ◌∷◌, ◌++◌, map, filter, refl, ap, inl, inr, eqb, ltb, leb, arith}
use Rattle.std.specs.List.{AllByRecursion}
use Rattle.std.proofs.lemmas.Bool.{cases_Bool, eq-eqb, leb-false, leb-true, ltb-false, ltb-true, not-true, or_parts}
use Rattle.std.proofs.lemmas.List.Elements.{filter_passes}
use Rattle.qv_cnf.specs.Derivation.{has_id}
use Rattle.qv_sat.proofs.Naming.{filter_all}
use Rattle.qv_cnf.specs.Listing.{Numbered, Rises}

-- the ids of clauses
abbrev pub ids_of : List Numbered → List ℕ
ids_of cs = map (λ c. c.id) cs

pub Rises-lower : (low lower : ℕ) (cs : List Numbered) → lower ≤ low → Rises low (ids_of cs) → Rises lower (ids_of cs)
Rises-lower low lower [] h r = tt
Rises-lower low lower (c ∷ cs) h r = (omega (arith, r.0), r.1)

-- to rise from a higher number, the first id needs to be that high
pub Rises-raise : (low high : ℕ) (cs : List Numbered) → AllByRecursion (λ (c : Numbered). high ≤ c.id) cs → Rises low (ids_of cs) → Rises high (ids_of cs)
Rises-raise low high [] h r = tt
Rises-raise low high (c ∷ cs) h r = (h.0, r.1)

pub Rises-filter : (p : Numbered → Bool) (low : ℕ) (cs : List Numbered) → Rises low (ids_of cs) → Rises low (ids_of (filter p cs))
Rises-filter p low [] r = tt
Rises-filter p low (c ∷ cs) r =
    elim (cases_Bool (p c)) [
      | inl e ↦ rw e (r.0, Rises-filter p (c.id + 1) cs r.1)
      | inr e ↦ rw e (Rises-lower (c.id + 1) low (filter p cs) (omega (arith, r.0)) (Rises-filter p (c.id + 1) cs r.1))
    ]

-- each id is at least the bound
pub Rises-above : (low : ℕ) (cs : List Numbered) → Rises low (ids_of cs) → AllByRecursion (λ (c : Numbered). low ≤ c.id) cs
Rises-above low [] r = tt
Rises-above low (c ∷ cs) r = (r.0, Rises-above low cs (Rises-lower (c.id + 1) low cs (omega (arith, r.0)) r.1))

-- and above it, where none has the bound itself
pub Rises-past : (id : ℕ) (cs : List Numbered) → has_id cs id ≡ false → Rises id (ids_of cs) → Rises (id + 1) (ids_of cs)
Rises-past id [] h r = tt
Rises-past id (c ∷ cs) h r =
    let parts = or_parts (eqb c.id id) (has_id cs id) h in
    elim (cases_Bool (ltb id c.id)) [
      | inl e ↦ (omega (arith, ltb-true id c.id e), r.1)
      | inr e ↦
          let same : c.id ≡ id = omega (arith, r.0, ltb-false id c.id e) in
          let found : eqb c.id id ≡ true = eq-eqb c.id id same in
          cc
    ]

pub filter-none : (p : Numbered → Bool) (cs : List Numbered) → AllByRecursion (λ c. p c ≡ false) cs → filter p cs ≡ []
filter-none p [] h = refl
filter-none p (c ∷ cs) h = rw h.0 (filter-none p cs h.1)

-- a test that tells the clauses whose id is below a number
pub record TellsBelow (p : Numbered → Bool) (high : ℕ) : Type 0 where
  pub below : (c : Numbered) → p c ≡ true → c.id < high
  pub above : (c : Numbered) → p c ≡ false → high ≤ c.id

pub TellsBelow-ltb : (id : ℕ) → TellsBelow (λ c. ltb c.id id) id
TellsBelow-ltb id = record { below = λ c e. ltb-true c.id id e; above = λ c e. ltb-false c.id id e }

pub TellsBelow-leb : (id : ℕ) → TellsBelow (λ c. leb c.id id) (id + 1)
TellsBelow-leb id = record { below = λ c e. omega (arith, leb-true c.id id e); above = λ c e. omega (arith, leb-false c.id id e) }

-- what it says of a clause whose place is known
pub told_below : (p : Numbered → Bool) (high : ℕ) (c : Numbered) → TellsBelow p high → c.id < high → p c ≡ true
told_below p high c t h =
    elim (cases_Bool (p c)) [
      | inl e ↦ e
      | inr e ↦ let above : high ≤ c.id = t.above c e in absurd (omega arith)
    ]

pub told_above : (p : Numbered → Bool) (high : ℕ) (c : Numbered) → TellsBelow p high → high ≤ c.id → p c ≡ false
told_above p high c t h =
    elim (cases_Bool (p c)) [
      | inl e ↦ let below : c.id < high = t.below c e in absurd (omega arith)
      | inr e ↦ e
    ]

told_all_below : (p : Numbered → Bool) (high : ℕ) (cs : List Numbered) → TellsBelow p high → AllByRecursion (λ (c : Numbered). c.id < high) cs → AllByRecursion (λ c. p c ≡ true) cs
told_all_below p high [] t h = tt
told_all_below p high (c ∷ cs) t h = (told_below p high c t h.0, told_all_below p high cs t h.1)

told_all_above : (p : Numbered → Bool) (high : ℕ) (cs : List Numbered) → TellsBelow p high → AllByRecursion (λ (c : Numbered). high ≤ c.id) cs → AllByRecursion (λ c. p c ≡ false) cs
told_all_above p high [] t h = tt
told_all_above p high (c ∷ cs) t h = (told_above p high c t h.0, told_all_above p high cs t h.1)

-- it passes all of the lower clauses, and none of the higher
pub filter-below : (p : Numbered → Bool) (high : ℕ) (cs : List Numbered) → TellsBelow p high → AllByRecursion (λ (c : Numbered). c.id < high) cs → filter p cs ≡ cs
filter-below p high cs t h = filter_all p cs (told_all_below p high cs t h)

pub filter-above : (p : Numbered → Bool) (high : ℕ) (cs : List Numbered) → TellsBelow p high → AllByRecursion (λ (c : Numbered). high ≤ c.id) cs → filter p cs ≡ []
filter-above p high cs t h = filter-none p cs (told_all_above p high cs t h)

others : (p : Numbered → Bool) (cs : List Numbered) → AllByRecursion (λ c. p c ≡ false) cs → AllByRecursion (λ c. not (p c) ≡ true) cs
others p [] h = tt
others p (c ∷ cs) h = (ap not h.0, others p cs h.1)

-- the lower clauses, and then the others, are all
pub filter-split : (p : Numbered → Bool) (low high : ℕ) (cs : List Numbered) → TellsBelow p high → Rises low (ids_of cs) → filter p cs ++ filter (λ c. not (p c)) cs ≡ cs
filter-split p low high [] t r = refl
filter-split p low high (c ∷ cs) t r =
    elim (cases_Bool (p c)) [
      | inl e ↦ rw e (ap (λ (rest : List Numbered). c ∷ rest) (filter-split p (c.id + 1) high cs t r.1))
      | inr e ↦
          let first : high ≤ c.id = t.above c e in
          let rising : Rises high (ids_of cs) = Rises-lower (c.id + 1) high cs (omega arith) r.1 in
          let none : AllByRecursion (λ c. p c ≡ false) cs = told_all_above p high cs t (Rises-above high cs rising) in
          rw e (rw (filter-none p cs none) (ap (λ (rest : List Numbered). c ∷ rest) (filter_all (λ c. not (p c)) cs (others p cs none))))
    ]

-- the clauses that pass are lower, and the others aren't
pub passed-below : (p : Numbered → Bool) (high : ℕ) (cs : List Numbered) → TellsBelow p high → All (λ (c : Numbered). c.id < high) (filter p cs)
passed-below p high cs t = λ k d h. t.below _ (filter_passes p cs k d h)

pub left-above : (p : Numbered → Bool) (high : ℕ) (cs : List Numbered) → TellsBelow p high → All (λ (c : Numbered). high ≤ c.id) (filter (λ c. not (p c)) cs)
left-above p high cs t = λ k d h. t.above _ (not-true _ (filter_passes (λ c. not (p c)) cs k d h))
