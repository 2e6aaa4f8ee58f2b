-- A checker that is given all clauses before the first step.
use Rattle.std.proofs.Common.{◌≡◌, ℕ, ◌+◌, ◌≤◌, Bool, true, false, not, List, [], ◌∷◌, ◌++◌, filter, map, max, ltb, leb, sym, refl, ◌∙◌, ap, subst, inl, inr, arith}
use Rattle.std.specs.List.{list_all, AllByRecursion}
use Rattle.std.proofs.lemmas.Bool.{and_from, cases_Bool, le-leb, lt-ltb}
use Rattle.std.proofs.lemmas.List.Elements.{recursion_from_All}
use Rattle.qv_cnf.specs.Listing.{Listing, Numbered, next_id}
use Rattle.qv_cnf.specs.LratLine.{LratLine, Addition, Deletion}
use Rattle.qv_cnf.specs.Refutation.{Accepted, Refutes, Standing, accepts, adds_none, after_line, judged_line, refutes_from, standing_at, with_original}
use Rattle.qv_sat.specs.Feeding.{Takes, TakesSteps, comes_before, ComesFirst, earlier, later, stands_after, with_clauses}
use Rattle.qv_sat.specs.Holding.{IsHeld}
use Rattle.qv_sat.specs.Laws.{WholeFeedingRefutes}
use Rattle.qv_watch.specs.TrailState.{TrailState}
use Rattle.qv_sat.specs.CoreState.{CoreState, GoesOn, IsNumbered}
use Rattle.qv_sat.specs.Ordering.{IsOrdered}
use Rattle.qv_sat.proofs.Accepting.{IsAccepted-from_derivation, IsRefuted-from_empty}
use Rattle.qv_sat.proofs.Feeding.{with_clauses-live, with_clauses-refuted}
use Rattle.qv_sat.specs.declared.aside.Aside.{Aside}

keeps_all : (p : Numbered → Bool) (cs : List Numbered) → list_all p cs ≡ true → filter p cs ≡ cs
keeps_all p [] h = refl
keeps_all p (c ∷ cs) h = elim (cases_Bool (p c)) [
  | inl e ↦ rw e (ap (λ xs. c ∷ xs) (keeps_all p cs (let t : list_all p (c ∷ cs) ≡ true = h in cc)))
  | inr e ↦ let t : list_all p (c ∷ cs) ≡ true = h in cc
]

keeps_none : (p : Numbered → Bool) (cs : List Numbered) → list_all p cs ≡ true → filter (λ c. not (p c)) cs ≡ []
keeps_none p [] h = refl
keeps_none p (c ∷ cs) h = elim (cases_Bool (p c)) [
  | inl e ↦ rw e (keeps_none p cs (let t : list_all p (c ∷ cs) ≡ true = h in cc))
  | inr e ↦ let t : list_all p (c ∷ cs) ≡ true = h in cc
]

not_refuted : (s : Standing) (step : LratLine) → s.refuted ≡ false → adds_none step ≡ false → (after_line s step).refuted ≡ false
not_refuted s (Addition id lits hints) f n = rw f n
not_refuted s (Deletion id ids) f n = f

refutes_on : (s : Standing) (steps : List LratLine) → s.refuted ≡ false → TakesSteps s [] steps → (stands_after s [] steps).refuted ≡ true → refutes_from s steps ≡ true
refutes_on s [] f t r = cc
refutes_on s (step ∷ steps) f t r =
    let j : judged_line s step ≡ Accepted = t.1 in
    let a : accepts (judged_line s step) ≡ true = ap accepts j in
    elim (cases_Bool (adds_none step)) [
      | inl e ↦ rw a (rw e refl)
      | inr e ↦ rw a (rw e (refutes_on (after_line s step) steps (not_refuted s step f e) t.2 r))
    ]

next_after : (s : Standing) (cs : List Numbered) → Takes s cs → (with_clauses s cs).next ≡ max s.next (next_id (map (λ (c : Numbered). c.id) cs))
next_after s [] t = omega arith
next_after s (c ∷ cs) t =
    let rest : (with_clauses (with_original s c.id c.lits) cs).next ≡ max (c.id + 1) (next_id (map (λ (x : Numbered). x.id) cs)) = next_after (with_original s c.id c.lits) cs t.1 in
    let low : s.next ≤ c.id = t.0 in
    omega arith

same_standing : (s t : Standing) → s.live ≡ t.live → s.next ≡ t.next → s.refuted ≡ t.refuted → s ≡ t
same_standing s t a b c =
    subst (λ (x : List Numbered). s ≡ record { live = x; next = t.next; refuted = t.refuted }) a
    (subst (λ (x : ℕ). s ≡ record { live = s.live; next = x; refuted = t.refuted }) b
    (subst (λ (x : Bool). s ≡ record { live = s.live; next = s.next; refuted = x }) c refl))

all_given : (base : List Numbered) → Takes (standing_at []) base → with_clauses (standing_at []) base ≡ standing_at base
all_given base t =
    let next : (with_clauses (standing_at []) base).next ≡ (standing_at base).next = let n : (with_clauses (standing_at []) base).next ≡ max 0 (next_id (map (λ (c : Numbered). c.id) base)) = next_after (standing_at []) base t in omega arith in
    same_standing (with_clauses (standing_at []) base) (standing_at base) (with_clauses-live (standing_at []) base) next (with_clauses-refuted (standing_at []) base)

pub Refutes-from_whole : WholeFeedingRefutes
Refutes-from_whole base [] first a r = let n : (with_clauses (standing_at []) base).refuted ≡ false = with_clauses-refuted (standing_at []) base in let y : (with_clauses (standing_at []) base).refuted ≡ true = r in cc
Refutes-from_whole base (step ∷ steps) first a r =
    let all : earlier step base ≡ base = keeps_all (comes_before step) base first in
    let none : later step base ≡ [] = keeps_none (comes_before step) base first in
    let takes : Takes (standing_at []) base = subst (Takes (standing_at [])) all a.0 in
    let at : with_clauses (standing_at []) (earlier step base) ≡ standing_at base = ap (with_clauses (standing_at [])) all ∙ all_given base takes in
    let ok : judged_line (standing_at base) step ≡ Accepted = subst (λ s. judged_line s step ≡ Accepted) at a.1 in
    let rest : TakesSteps (after_line (standing_at base) step) [] steps = subst (λ cs. TakesSteps (after_line (standing_at base) step) cs steps) none (subst (λ s. TakesSteps (after_line s step) (later step base) steps) at a.2) in
    let end : (stands_after (after_line (standing_at base) step) [] steps).refuted ≡ true = subst (λ cs. (stands_after (after_line (standing_at base) step) cs steps).refuted ≡ true) none (subst (λ s. (stands_after (after_line s step) (later step base) steps).refuted ≡ true) at r) in
    refutes_on (standing_at base) (step ∷ steps) refl (tt, ok, rest) end

-- clauses whose ids are below a step's come before it
before_addition : (top id : ℕ) (base : List Numbered) → AllByRecursion (λ c. c.id ≤ top) base → id ≡ top + 1 → list_all (λ (c : Numbered). ltb c.id id) base ≡ true
before_addition top id [] below e = refl
before_addition top id (c ∷ cs) below e = and_from (ltb c.id id) (list_all (λ (x : Numbered). ltb x.id id) cs) (lt-ltb c.id id (omega (arith, below.0))) (before_addition top id cs below.1 e)

before_deletion : (top id : ℕ) (base : List Numbered) → AllByRecursion (λ c. c.id ≤ top) base → id ≡ top → list_all (λ (c : Numbered). leb c.id id) base ≡ true
before_deletion top id [] below e = refl
before_deletion top id (c ∷ cs) below e = and_from (leb c.id id) (list_all (λ (x : Numbered). leb x.id id) cs) (le-leb c.id id (omega (arith, below.0))) (before_deletion top id cs below.1 e)

first_on : (base : List Numbered) (steps more : List LratLine) (top last : ℕ) → AllByRecursion (λ c. c.id ≤ top) base → IsNumbered top more last → ComesFirst base steps → ComesFirst base (steps ++ more)
first_on base [] [] top last below n first = tt
first_on base [] (Addition id lits hints ∷ more) top last below n first = before_addition top id base below n.0
first_on base [] (Deletion id ids ∷ more) top last below n first = before_deletion top id base below n.0
first_on base (step ∷ steps) more top last below n first = first

-- the clauses come first as long as only steps come
pub ComesFirst-goes_on : (old new : CoreState) → IsOrdered old.base old.steps old.top → GoesOn old new → ComesFirst old.base old.steps → ComesFirst new.base new.steps
ComesFirst-goes_on old new o g first =
    let on : ComesFirst old.base (old.steps ++ g.more) = first_on old.base old.steps g.more old.top new.top (recursion_from_All (λ (c : Numbered). c.id ≤ old.top) old.base o.clauses_below) g.numbered first in
    subst (λ base. ComesFirst base new.steps) (sym g.base) (subst (ComesFirst old.base) (sym g.steps) on)

-- a refuted core whose clauses come first
pub Refutes-held : (base : Listing) (steps : List LratLine) (on : TrailState) (top variables : ℕ) (refuted : Bool) (aside : Aside) → IsHeld base steps on top variables refuted aside → ComesFirst base.live steps → refuted ≡ true → Refutes base.live steps
Refutes-held base steps on top variables refuted aside h first now = Refutes-from_whole base.live steps first (IsAccepted-from_derivation base.live steps top h.core.derivation h.ordered) (IsRefuted-from_empty base.live steps (h.refutes now))
