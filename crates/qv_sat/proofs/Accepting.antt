-- A checker accepts the steps of a core.
use Rattle.std.proofs.Common.{◌≡◌, ◌⊎◌, ℕ, ◌+◌, ◌<◌, ◌≤◌, Bool, true, false, not, cond, All, ℤ, List, [], ◌∷◌, ◌++◌, filter, None, refl, sym, ◌∙◌, ap, inl, inr, append-nil, append_assoc, eqb, ltb, leb, arith}
use Rattle.std.specs.List.{list_any, list_all}
use Rattle.std.proofs.lemmas.Bool.{cases_Bool, le-ltb, or_cases, or_left, or_parts, or_right}
use Rattle.std.proofs.lemmas.List.Elements.{All-append, All-nil, filter-append, recursion_from_All}
use Rattle.std.proofs.lemmas.List.Folds.{list_any-append}
use Rattle.qv_cnf.specs.Derivation.{Deriving, DerivesFrom, IsDerivation, MayAdd, after_step, has_id, live_at, no_steps}
use Rattle.qv_cnf.specs.Listing.{Numbered, Rises, clause_named, without}
use Rattle.qv_cnf.specs.Literal.{Literal}
use Rattle.qv_cnf.specs.LratLine.{LratLine, Addition, Deletion}
use Rattle.qv_cnf.specs.Refutation.{Accepted, Standing, adds_none, after_line, has_none, judged_clause, judged_line, standing_at}
use Rattle.qv_cnf.proofs.RatSoundness.{rup_is_rat}
use Rattle.qv_sat.proofs.Feeding.{Takes-rising, with_clauses-live, with_clauses-next, with_clauses-refuted}
use Rattle.qv_sat.proofs.Alike.{NamesAlike, clause_named-absent, clause_named-append, clause_named-three, clause_named-without, either, either_swap, has_id-among, has_id-filter, has_id-push, judged_clause-same}
use Rattle.qv_sat.proofs.Rising.{Rises-above, Rises-filter, Rises-past, Rises-raise, TellsBelow, TellsBelow-leb, TellsBelow-ltb, filter-above, filter-below, filter-split, ids_of, left-above, passed-below}
use Rattle.qv_sat.specs.Feeding.{IsAccepted, IsRefuted, Takes, TakesSteps, earlier, later, stands_after, with_clauses}
use Rattle.qv_sat.specs.Ordering.{IsOrdered, StepsRise}

-- a checker that was given the first clauses of a base, and a derivation: each id names one clause for both, and what is left comes later
record Stands (base seen rest : List Numbered) (s : Standing) (d : Deriving) (low : ℕ) : Type 0 where
  split : seen ++ rest ≡ base
  named : NamesAlike s.live (seen ++ d.added)
  next : s.next ≤ low
  rises : Rises low (ids_of rest)
  passed : All (λ (c : Numbered). c.id < low) seen
  apart : (id : ℕ) → has_id d.added id ≡ true → has_id base id ≡ false

-- an id of an addition is of no clause of the base's parts
absent_in_part : (id : ℕ) (seen rest base : List Numbered) → seen ++ rest ≡ base → has_id base id ≡ false → (has_id seen id ≡ false) × (has_id rest id ≡ false)
absent_in_part id seen rest base e h = or_parts (has_id seen id) (has_id rest id) (sym (list_any-append (λ c. eqb c.id id) seen rest) ∙ ap (λ cs. has_id cs id) e ∙ h)

-- clauses that come between are named alike
fed_named : (base seen passed left : List Numbered) (s : Standing) (d : Deriving) → (seen ++ passed) ++ left ≡ base → NamesAlike s.live (seen ++ d.added) → ((id : ℕ) → has_id d.added id ≡ true → has_id base id ≡ false) → NamesAlike (with_clauses s passed).live ((seen ++ passed) ++ d.added)
fed_named base seen passed left s d e n apart = λ id.
    let one : (clause_named id d.added ≡ None) ⊎ (clause_named id passed ≡ None) =
    elim (cases_Bool (has_id d.added id)) [
      | inl h ↦
          let whole = absent_in_part id (seen ++ passed) left base e (apart id h) in
          let part = absent_in_part id seen passed (seen ++ passed) refl whole.0 in
          inr (clause_named-absent id passed part.1)
      | inr h ↦ inl (clause_named-absent id d.added h)
    ] in
    let live : clause_named id (with_clauses s passed).live ≡ either (either (clause_named id seen) (clause_named id d.added)) (clause_named id passed) =
    ap (clause_named id) (with_clauses-live s passed)
    ∙ clause_named-append id s.live passed
    ∙ ap (λ o. either o (clause_named id passed)) (n id ∙ clause_named-append id seen d.added) in
    live
    ∙ either_swap (clause_named id seen) (clause_named id d.added) (clause_named id passed) one
    ∙ sym (clause_named-three id seen passed d.added)

-- after the clauses below a number
Stands-fed : (p : Numbered → Bool) (base seen rest : List Numbered) (s : Standing) (d : Deriving) (low high : ℕ) → TellsBelow p high → low ≤ high → Stands base seen rest s d low → Stands base (seen ++ filter p rest) (filter (λ c. not (p c)) rest) (with_clauses s (filter p rest)) d high
Stands-fed p base seen rest s d low high t h st =
    let split : (seen ++ filter p rest) ++ filter (λ c. not (p c)) rest ≡ base =
    append_assoc seen (filter p rest) (filter (λ c. not (p c)) rest)
    ∙ ap (λ cs. seen ++ cs) (filter-split p low high rest t st.rises)
    ∙ st.split in
    let before : All (λ (c : Numbered). c.id < high) seen = λ k d l. omega (arith, h, st.passed k d l) in
    let passed : All (λ (c : Numbered). c.id < high) (filter p rest) = passed-below p high rest t in
    record {
      split = split;
      named = fed_named base seen (filter p rest) (filter (λ c. not (p c)) rest) s d split st.named st.apart;
      next = with_clauses-next s high (filter p rest) (recursion_from_All (λ (c : Numbered). c.id < high) (filter p rest) passed) (omega (arith, h, st.next));
      rises = Rises-raise low high (filter (λ c. not (p c)) rest) (recursion_from_All (λ (c : Numbered). high ≤ c.id) (filter (λ c. not (p c)) rest) (left-above p high rest t)) (Rises-filter (λ c. not (p c)) low rest st.rises);
      passed = All-append (λ (c : Numbered). c.id < high) seen (filter p rest) before passed;
      apart = st.apart;
    }

Takes-part : (p : Numbered → Bool) (base seen rest : List Numbered) (s : Standing) (d : Deriving) (low : ℕ) → Stands base seen rest s d low → Takes s (filter p rest)
Takes-part p base seen rest s d low st = Takes-rising s low (filter p rest) st.next (Rises-filter p low rest st.rises)

-- the clauses of the base that are live at the next id are those that the checker was given
live_at-seen : (base seen rest : List Numbered) (s : Standing) (d : Deriving) (id : ℕ) → Stands base seen rest s d id → live_at base d id ≡ seen ++ d.added
live_at-seen base seen rest s d id st =
    let below : Numbered → Bool = λ c. ltb c.id id in
    let first : filter below seen ≡ seen = filter-below below id seen (TellsBelow-ltb id) (recursion_from_All (λ (c : Numbered). c.id < id) seen st.passed) in
    let last : filter below rest ≡ [] = filter-above below id rest (TellsBelow-ltb id) (Rises-above id rest st.rises) in
    let given : filter below base ≡ seen =
    ap (filter below) (sym st.split) ∙ filter-append below seen rest ∙ ap (λ cs. cs ++ filter below rest) first ∙ ap (λ cs. seen ++ cs) last ∙ append-nil seen in
    ap (λ cs. cs ++ d.added) given

-- so it accepts an addition that may come
accepts_addition : (base seen rest : List Numbered) (s : Standing) (d : Deriving) (id : ℕ) (lits : List Literal) (hints : List ℤ) → Stands base seen rest s d id → MayAdd base d id lits hints → judged_line s (Addition id lits hints) ≡ Accepted
accepts_addition base seen rest s d id lits hints st m =
    let given : judged_clause (seen ++ d.added) lits hints ≡ Accepted = ap (λ cs. judged_clause cs lits hints) (sym (live_at-seen base seen rest s d id st)) ∙ m.follows in
    rw (le-ltb id s.next st.next) (rup_is_rat s.live lits hints (judged_clause-same s.live (seen ++ d.added) lits hints st.named ∙ given))

-- after an addition
Stands-added : (base seen rest : List Numbered) (s : Standing) (d : Deriving) (id : ℕ) (lits : List Literal) (hints : List ℤ) → Stands base seen rest s d id → has_id base id ≡ false → Stands base seen rest (after_line s (Addition id lits hints)) (after_step d (Addition id lits hints)) (id + 1)
Stands-added base seen rest s d id lits hints st fresh =
    let new : Numbered = record { id = id; lits = lits } in
    record {
      split = st.split;
      named = λ i.
          clause_named-append i s.live (new ∷ [])
          ∙ ap (λ o. either o (clause_named i (new ∷ []))) (st.named i)
          ∙ sym (clause_named-append i (seen ++ d.added) (new ∷ []))
          ∙ ap (clause_named i) (append_assoc seen d.added (new ∷ []));
      next = omega arith;
      rises = Rises-past id rest (absent_in_part id seen rest base st.split fresh).1 st.rises;
      passed = λ k e l. omega (arith, st.passed k e l);
      apart = λ i h. elim (has_id-push d.added new i h) [
        | inl e ↦ st.apart i e
        | inr e ↦ ap (has_id base) (sym e) ∙ fresh
      ];
    }

-- what ids name where additions are taken away
deleted_named : (base seen rest : List Numbered) (s : Standing) (d : Deriving) (low : ℕ) (ids : List ℕ) → Stands base seen rest s d low → list_all (has_id d.added) ids ≡ true → NamesAlike (without ids s.live) (seen ++ without ids d.added)
deleted_named base seen rest s d low ids st live = λ i.
    let right : clause_named i (seen ++ without ids d.added) ≡ either (clause_named i seen) (cond (list_any (λ j. eqb i j) ids) None (clause_named i d.added)) =
    clause_named-append i seen (without ids d.added) ∙ ap (either (clause_named i seen)) (clause_named-without i ids d.added) in
    elim (cases_Bool (list_any (λ j. eqb i j) ids)) [
      | inl e ↦
          let absent = absent_in_part i seen rest base st.split (st.apart i (has_id-among d.added ids i live e)) in
          let unnamed : clause_named i seen ≡ None = clause_named-absent i seen absent.0 in
          clause_named-without i ids s.live ∙ rw e (sym (right ∙ rw e (rw unnamed refl)))
      | inr e ↦ clause_named-without i ids s.live ∙ rw e (st.named i ∙ clause_named-append i seen d.added ∙ sym (right ∙ rw e refl))
    ]

-- after a deletion
Stands-deleted : (base seen rest : List Numbered) (s : Standing) (d : Deriving) (low id : ℕ) (ids : List ℕ) → Stands base seen rest s d low → list_all (has_id d.added) ids ≡ true → Stands base seen rest (after_line s (Deletion id ids)) (after_step d (Deletion id ids)) low
Stands-deleted base seen rest s d low id ids st live = record {
  split = st.split;
  named = deleted_named base seen rest s d low ids st live;
  next = st.next;
  rises = st.rises;
  passed = st.passed;
  apart = λ i h. st.apart i (has_id-filter (λ c. not (list_any (λ j. eqb c.id j) ids)) d.added i h);
}

-- it takes the steps from there
TakesSteps-from : (base seen rest : List Numbered) (s : Standing) (d : Deriving) (low high : ℕ) (steps : List LratLine) → Stands base seen rest s d low → StepsRise low steps high → DerivesFrom base steps d → TakesSteps s rest steps
TakesSteps-from base seen rest s d low high [] st r h = Takes-rising s low rest st.next st.rises
TakesSteps-from base seen rest s d low high (Addition id lits hints ∷ steps) st r h =
    let p : Numbered → Bool = λ c. ltb c.id id in
    let left : List Numbered = filter (λ c. not (p c)) rest in
    let t : Standing = with_clauses s (filter p rest) in
    let fed : Stands base (seen ++ filter p rest) left t d id = Stands-fed p base seen rest s d low id (TellsBelow-ltb id) r.0 st in (
      Takes-part p base seen rest s d low st,
      accepts_addition base (seen ++ filter p rest) left t d id lits hints fed h.0,
      TakesSteps-from base (seen ++ filter p rest) left (after_line t (Addition id lits hints)) (after_step d (Addition id lits hints)) (id + 1) high steps (Stands-added base (seen ++ filter p rest) left t d id lits hints fed h.0.fresh) r.1 h.1,
    )
TakesSteps-from base seen rest s d low high (Deletion id ids ∷ steps) st r h =
    let p : Numbered → Bool = λ c. leb c.id id in
    let left : List Numbered = filter (λ c. not (p c)) rest in
    let t : Standing = with_clauses s (filter p rest) in
    let fed : Stands base (seen ++ filter p rest) left t d (id + 1) = Stands-fed p base seen rest s d low (id + 1) (TellsBelow-leb id) r.0 st in (
      Takes-part p base seen rest s d low st,
      refl,
      TakesSteps-from base (seen ++ filter p rest) left (after_line t (Deletion id ids)) (after_step d (Deletion id ids)) (id + 1) high steps (Stands-deleted base (seen ++ filter p rest) left t d (id + 1) id ids fed h.0.live) r.1 h.1,
    )

-- a checker accepts a derivation
pub IsAccepted-from_derivation : (base : List Numbered) (steps : List LratLine) (top : ℕ) → IsDerivation base steps → IsOrdered base steps top → IsAccepted base steps
IsAccepted-from_derivation base steps top d o =
    let start : Stands base [] base (standing_at []) no_steps 0 = record {
      split = refl;
      named = λ id. refl;
      next = omega arith;
      rises = o.clauses_rise;
      passed = All-nil (λ (c : Numbered). c.id < 0);
      apart = λ id h. cc;
    } in
    TakesSteps-from base [] base (standing_at []) no_steps 0 (top + 1) steps start o.steps_rise d

-- a line refutes where it stood refuted, or the line adds a clause without literals
refuted_after : (s : Standing) (step : LratLine) → (s.refuted ≡ true) ⊎ (adds_none step ≡ true) → (after_line s step).refuted ≡ true
refuted_after s (Addition id lits hints) h = elim h [
  | inl e ↦ or_left s.refuted (has_none lits) e
  | inr e ↦ or_right s.refuted (has_none lits) e
]
refuted_after s (Deletion id ids) h = elim h [
  | inl e ↦ e
  | inr e ↦ cc
]

-- a checker that is refuted stays so
refuted_stays : (s : Standing) (base : List Numbered) (steps : List LratLine) → s.refuted ≡ true → (stands_after s base steps).refuted ≡ true
refuted_stays s base [] h = with_clauses-refuted s base ∙ h
refuted_stays s base (step ∷ steps) h =
    let t : Standing = with_clauses s (earlier step base) in
    refuted_stays (after_line t step) (later step base) steps (refuted_after t step (inl (with_clauses-refuted s (earlier step base) ∙ h)))

refuted_from : (s : Standing) (base : List Numbered) (steps : List LratLine) → list_any adds_none steps ≡ true → (stands_after s base steps).refuted ≡ true
refuted_from s base [] h = cc
refuted_from s base (step ∷ steps) h =
    let t : Standing = with_clauses s (earlier step base) in
    elim (or_cases (adds_none step) (list_any adds_none steps) h) [
      | inl e ↦ refuted_stays (after_line t step) (later step base) steps (refuted_after t step (inr e))
      | inr e ↦ refuted_from (after_line t step) (later step base) steps e
    ]

-- and it is refuted by a clause without literals
pub IsRefuted-from_empty : (base : List Numbered) (steps : List LratLine) → list_any adds_none steps ≡ true → IsRefuted base steps
IsRefuted-from_empty base steps e = refuted_from (standing_at []) base steps e
