-- What a false literal depends on.
use Rattle.std.proofs.Common.{◌≡◌, ◌≢◌, ◌⊎◌, ℕ, zero, suc, ◌+◌, ◌<◌, ◌≤◌, Bool, true, false, not, ◌&&◌, ◌||◌, List, [], ◌∷◌, ◌++◌, length, take, Some, None, All, refl, sym, ◌∙◌, ap, subst, arith, inl, inr}
use Rattle.std.specs.List.{slice_get, list_all, AllByRecursion}
use Rattle.std.proofs.lemmas.Bool.{cases_Bool, cases_lt, and_parts, or_cases, or_right, false≢true}
use Rattle.std.proofs.lemmas.List.Elements.{recursion_from_All, All-push, All-weaker}
use Rattle.std.proofs.lemmas.List.Folds.{list_all-append}
use Rattle.std.proofs.lemmas.Option.{none-some, same_Some}
use Rattle.qv_cnf.specs.Listing.{Numbered, clause_named}
use Rattle.qv_cnf.specs.Literal.{Literal, negated}
use Rattle.qv_cnf.specs.Refutation.{among, same_literal, open_literals, reading_of, hint_reading}
use Rattle.qv_cnf.specs.declared.readings.Reading.TheVariants.{Forced, Useless}
use Rattle.qv_cnf.specs.Truth.{clause_value, literal_value}
use Rattle.qv_cnf.proofs.Soundness.{literal_value-negated, value_of_only}
use Rattle.qv_watch.specs.Entries.{Entry, trues, value_of, reading_on, says}
use Rattle.qv_watch.specs.TrailState.{Comes, IsGrown, IsTrail, TrailState}
use Rattle.qv_watch.proofs.Growing.{clause_room}
use Rattle.qv_sat.specs.Answering.{MakesTrue}
use Rattle.qv_sat.specs.Deciding.{MakesNamedTrue}
use Rattle.qv_sat.specs.Marking.{is_marked, AllMarked, IsDecision}
use Rattle.qv_sat.proofs.Entries.{among_at, get_take}
use Rattle.qv_watch.proofs.Resting.{value-false}

-- a clause is true by its open literals where the negations of the others are true
clause_value-open : (v : ℕ → Bool) (set lits : List Literal) → AllByRecursion (λ x. among set (negated x) ≡ true → literal_value v (negated x) ≡ true) lits → clause_value v lits ≡ true → clause_value v (open_literals set lits) ≡ true
clause_value-open v set [] h t = t
clause_value-open v set (l ∷ ls) h t = elim (cases_Bool (among set (negated l))) [
  | inl m ↦
      let n : not (literal_value v l) ≡ true = sym (literal_value-negated v l) ∙ h.0 m in
      rw (ap not m) (elim (or_cases (literal_value v l) (clause_value v ls) t) [
        | inl e ↦ absurd (false≢true (sym (ap not e) ∙ n))
        | inr e ↦ clause_value-open v set ls h.1 e
      ])
  | inr m ↦ rw (ap not m) (elim (or_cases (literal_value v l) (clause_value v ls) t) [
    | inl e ↦ ap (λ b. b || clause_value v (open_literals set ls)) e
    | inr e ↦ or_right (literal_value v l) (clause_value v (open_literals set ls)) (clause_value-open v set ls h.1 e)
  ])
]

reading_forces : (v : ℕ → Bool) (set lits : List Literal) (l : Literal) → reading_of set lits ≡ Forced l → clause_value v lits ≡ true → literal_value v l ≡ true
reading_forces v set [] l r t = cc
reading_forces v set (x ∷ xs) l r t = elim (cases_Bool (list_all (same_literal x) xs && not (among set x))) [
  | inl e ↦
      let is : reading_of set (x ∷ xs) ≡ Forced x = rw e in
      let same : x ≡ l = let f : Forced x ≡ Forced l = sym is ∙ r in cc in
      let parts = and_parts (list_all (same_literal x) xs) (not (among set x)) e in
      subst (λ (y : Literal). literal_value v y ≡ true) same (elim (or_cases (literal_value v x) (clause_value v xs) t) [
        | inl own ↦ own
        | inr other ↦ value_of_only v x xs parts.0 other
      ])
  | inr e ↦ absurd (let is : reading_of set (x ∷ xs) ≡ Useless = rw e in let f : Useless ≡ Forced l = sym is ∙ r in cc)
]

-- a literal that a true clause forces is true
pub forced_value : (v : ℕ → Bool) (set lits : List Literal) (l : Literal) → reading_of set (open_literals set lits) ≡ Forced l → clause_value v lits ≡ true → AllByRecursion (λ x. among set (negated x) ≡ true → literal_value v (negated x) ≡ true) lits → literal_value v l ≡ true
forced_value v set lits l r t h = reading_forces v set (open_literals set lits) l r (clause_value-open v set lits h t)

-- the marked ones of the first entries are true
abbrev pub MarkedTrue : (ℕ → Bool) → List Entry → List Bool → ℕ → Type 0
MarkedTrue v es marks n = (k : ℕ) (e : Entry) → k < n → slice_get es k ≡ Some e → is_marked marks e.lit.variable ≡ true → literal_value v e.lit ≡ true

-- with the core, the marked ones of the first entries can't all be true
pub record Depends (clauses : List Numbered) (es : List Entry) (failed : Literal) (marks : List Bool) (core : List Literal) (n : ℕ) : Type 0 where
  pub none : (v : ℕ → Bool) → MakesNamedTrue v clauses → MakesTrue v core → MarkedTrue v es marks n → ⊥
  pub decisions : All (λ l. (l ≡ failed) ⊎ IsDecision es l) core
  pub some : core ≢ []

below_length : {X : Type 0} (xs : List X) (k : ℕ) (x : X) → slice_get xs k ≡ Some x → k < length xs
below_length [] k x h = absurd (none-some x h)
below_length (y ∷ ys) zero x h = omega arith
below_length (y ∷ ys) (suc k) x h = let r = below_length ys k x h in omega arith

-- at first the false literal alone is in the core, and its variable is marked
pub Depends-start : (clauses : List Numbered) (es : List Entry) (failed : Literal) (marks : List Bool) (n : ℕ) → value_of es failed ≡ Some false → is_marked marks failed.variable ≡ true → length es ≤ n → Depends clauses es failed marks (failed ∷ []) n
Depends-start clauses es failed marks n f marked all = record {
  none = λ v m core true_ones.
      let p = among_at es (negated failed) (value-false es failed f) in
      let own : literal_value v failed ≡ true = (and_parts (literal_value v failed) true core).0 in
      let there : is_marked marks p.1.lit.variable ≡ true = subst (λ (l : Literal). is_marked marks l.variable ≡ true) (sym p.3) marked in
      let other : literal_value v (negated failed) ≡ true = subst (λ (l : Literal). literal_value v l ≡ true) p.3 (true_ones p.0 p.1 (let b = below_length es p.0 p.1 p.2 in omega arith) p.2 there) in
      false≢true (sym (ap not own) ∙ sym (literal_value-negated v failed) ∙ other);
  decisions = All-push (λ l. (l ≡ failed) ⊎ IsDecision es l) [] failed (λ k d h. absurd (omega arith)) (inl refl);
  some = λ e. cc;
}

-- an entry that isn't marked
pub Depends-skip : (clauses : List Numbered) (es : List Entry) (failed : Literal) (marks : List Bool) (core : List Literal) (n : ℕ) (e : Entry) → Depends clauses es failed marks core (n + 1) → slice_get es n ≡ Some e → is_marked marks e.lit.variable ≡ false → Depends clauses es failed marks core n
Depends-skip clauses es failed marks core n e d there unmarked = record {
  none = λ v m c t. d.none v m c (λ k x below at marked. elim (cases_lt k n) [
    | inl lower ↦ t k x lower at marked
    | inr top ↦
        let here : k ≡ n = omega arith in
        let same : x ≡ e = same_Some x e (sym at ∙ ap (slice_get es) here ∙ there) in
        absurd (false≢true (sym unmarked ∙ ap (λ (y : Entry). is_marked marks y.lit.variable) (sym same) ∙ marked))
  ]);
  decisions = d.decisions;
  some = d.some;
}

push_some : {X : Type 0} (xs : List X) (x : X) → xs ++ x ∷ [] ≢ []
push_some [] x h = cc
push_some (y ∷ ys) x h = cc

-- an assumed one comes into the core
pub Depends-decided : (clauses : List Numbered) (es : List Entry) (failed : Literal) (marks : List Bool) (core : List Literal) (n : ℕ) (e : Entry) → Depends clauses es failed marks core (n + 1) → slice_get es n ≡ Some e → e.reason ≡ None → Depends clauses es failed marks (core ++ e.lit ∷ []) n
Depends-decided clauses es failed marks core n e d there decided = record {
  none = λ v m c t.
      let parts = and_parts (list_all (literal_value v) core) (literal_value v e.lit && true) (sym (list_all-append (literal_value v) core (e.lit ∷ [])) ∙ c) in
      let own : literal_value v e.lit ≡ true = (and_parts (literal_value v e.lit) true parts.1).0 in
      d.none v m parts.0 (λ k x below at marked. elim (cases_lt k n) [
        | inl lower ↦ t k x lower at marked
        | inr top ↦
            let here : k ≡ n = omega arith in
            let same : x ≡ e = same_Some x e (sym at ∙ ap (slice_get es) here ∙ there) in
            subst (λ (y : Entry). literal_value v y.lit ≡ true) (sym same) own
      ]);
  decisions = All-push (λ l. (l ≡ failed) ⊎ IsDecision es l) core e.lit d.decisions (inr (n, e, there, decided, refl));
  some = push_some core e.lit;
}

-- the clause that forced an entry's literal
pub forcing_clause : (clauses : List Numbered) (es : List Entry) (id : ℕ) (l : Literal) → says clauses es id ≡ Forced l → (lits : List Literal) × (clause_named id clauses ≡ Some lits) × (reading_on es lits ≡ Forced l)
forcing_clause clauses es id l h =
    elim (clause_named id clauses) as (λ o. clause_named id clauses ≡ o → hint_reading (trues es) o ≡ Forced l → (lits : List Literal) × (clause_named id clauses ≡ Some lits) × (reading_on es lits ≡ Forced l)) [
      | None ↦ λ _ g. absurd (let f : Useless ≡ Forced l = g in cc)
      | Some lits ↦ λ named g. (lits, named, g)
    ] refl h

-- the variables of the reason of one that came from a clause are marked
pub Depends-reason : (room : ℕ) (clauses : List Numbered) (es : List Entry) (failed : Literal) (marks marks' : List Bool) (core : List Literal) (n id : ℕ) (e : Entry) → Depends clauses es failed marks core (n + 1) → IsGrown room clauses es → slice_get es n ≡ Some e → e.reason ≡ Some id → AllMarked clauses id marks' → ((v : ℕ) → is_marked marks v ≡ true → is_marked marks' v ≡ true) → Depends clauses es failed marks' core n
Depends-reason room clauses es failed marks marks' core n id e d g there came marked kept =
    let comes : Comes clauses (take n es) e.lit e.level (Some id) = subst (Comes clauses (take n es) e.lit e.level) came (g n e there).comes in
    let forcing = forcing_clause clauses (take n es) id e.lit comes.1 in
    record {
      none = λ v m c t.
          let others : AllByRecursion (λ x. among (trues (take n es)) (negated x) ≡ true → literal_value v (negated x) ≡ true) forcing.0 =
          recursion_from_All (λ x. among (trues (take n es)) (negated x) ≡ true → literal_value v (negated x) ≡ true) forcing.0
          (All-weaker (λ x. is_marked marks' x.variable ≡ true) (λ x. among (trues (take n es)) (negated x) ≡ true → literal_value v (negated x) ≡ true)
          (λ x mx is. let p = among_at (take n es) (negated x) is in
          let q = get_take es n p.0 p.1 p.2 in
          subst (λ (l : Literal). literal_value v l ≡ true) p.3 (t p.0 p.1 q.0 q.1 (subst (λ (l : Literal). is_marked marks' l.variable ≡ true) (sym p.3) mx)))
          forcing.0 (marked forcing.0 forcing.1)) in
          let own : literal_value v e.lit ≡ true = forced_value v (trues (take n es)) forcing.0 e.lit forcing.2 (m id forcing.0 forcing.1) others in
          d.none v m c (λ k x below at was. elim (cases_lt k n) [
            | inl lower ↦ t k x lower at (kept x.lit.variable was)
            | inr top ↦
                let here : k ≡ n = omega arith in
                let same : x ≡ e = same_Some x e (sym at ∙ ap (slice_get es) here ∙ there) in
                subst (λ (y : Entry). literal_value v y.lit ≡ true) (sym same) own
          ]);
      decisions = d.decisions;
      some = d.some;
    }

-- a variable's room
pub entry_room : (t : TrailState) (k : ℕ) (e : Entry) → IsTrail t → slice_get t.entries k ≡ Some e → (1 ≤ e.lit.variable) × (e.lit.variable ≤ t.room)
entry_room t k e is there = let m = is.grown k e there in (m.literal.0, m.has_room)

pub false_room : (t : TrailState) (l : Literal) → IsTrail t → value_of t.entries l ≡ Some false → l.variable ≤ t.room
false_room t l is f =
    let p = among_at t.entries (negated l) (value-false t.entries l f) in
    subst (λ (x : Literal). x.variable ≤ t.room) p.3 (entry_room t p.0 p.1 is p.2).1

pub named_room : (t : TrailState) (id : ℕ) (lits : List Literal) → IsTrail t → clause_named id t.clauses ≡ Some lits → All (λ l. l.variable ≤ t.room) lits
named_room t id lits is named = clause_room t.room t.clauses id lits (recursion_from_All (λ c. All (λ l. l.variable ≤ t.room) c.lits) t.clauses is.has_room) named
