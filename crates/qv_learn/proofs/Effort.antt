-- Each turn of a search leaves less to do.
use Rattle.std.proofs.Common.{◌≡◌, ℕ, suc, ◌+◌, ◌<◌, ◌≤◌, true, false, ◌||◌, List, [], ◌∷◌, length, length-append, Some, eqb, refl, ◌∙◌, ap, subst, arith, inl, inr, ◌⊎◌}
use Rattle.std.proofs.lemmas.Bool.{cases_Bool, eq-eqb}
use Rattle.std.proofs.lemmas.Option.{none-some}
use Rattle.qv_cnf.specs.Listing.{Numbered, clause_named}
use Rattle.qv_cnf.specs.Literal.{Literal}
use Rattle.qv_cnf.specs.Refutation.{same_literal}
use Rattle.qv_learn.specs.Effort.{effort, effort_of, length_in, length_of}
use Rattle.qv_learn.specs.Marking.{MarksOne, marked}
use Rattle.qv_learn.specs.Searching.{Searched, Turns}
use Rattle.qv_learn.specs.Searching.Turns.{keeps, leaves, opens, passes}
use Rattle.qv_watch.proofs.Entering.{same_literal-true}
use Rattle.qv_watch.specs.Entries.{Entry, reason_of}
use Rattle.qv_watch.specs.TrailState.{TrailState}

-- the marks of one variable with one more
marks_cases : (old new : List ℕ) (v w : ℕ) → MarksOne old v new → (marked new w ≡ true) ⊎ (marked new w ≡ marked old w)
marks_cases old new v w one = elim (cases_Bool (marked old w)) [
  | inl on ↦ inl (one w ∙ ap (λ b. b || eqb v w) on)
  | inr off ↦ elim (cases_Bool (eqb v w)) [
    | inl same ↦ inl (one w ∙ rw (off, same) refl)
    | inr other ↦ inr (one w ∙ rw (off, other) refl)
  ]
]

-- no more is to be done for the entries where one more variable was met
pub effort_of-le : (clauses : List Numbered) (old new : List ℕ) (v : ℕ) (es : List Entry) → MarksOne old v new → effort_of clauses new es ≤ effort_of clauses old es
effort_of-le clauses old new v [] one = omega arith
effort_of-le clauses old new v (e ∷ es) one =
    let rest = effort_of-le clauses old new v es one in
    elim (marks_cases old new v e.lit.variable one) [
      | inl on ↦ rw on (omega arith)
      | inr same ↦ rw same (omega arith)
    ]

-- and less where that variable has a reason
pub effort_of-pays :
    (clauses : List Numbered) (old new : List ℕ) (l : Literal) (id : ℕ) (lits : List Literal) (es : List Entry)
    → MarksOne old l.variable new → marked old l.variable ≡ false → reason_of es l ≡ Some id → clause_named id clauses ≡ Some lits → effort_of clauses new es + (length lits + 2) ≤ effort_of clauses old es
effort_of-pays clauses old new l id lits [] one off is named = absurd (none-some id is)
effort_of-pays clauses old new l id lits (e ∷ es) one off is named = elim (cases_Bool (same_literal l e.lit)) [
  | inl same ↦
      let own : l ≡ e.lit = same_literal-true l e.lit same in
      let came : e.reason ≡ Some id = rw same at is in
      let before : marked old e.lit.variable ≡ false = subst (λ (y : Literal). marked old y.variable ≡ false) own off in
      let after : marked new e.lit.variable ≡ true = subst (λ (y : Literal). marked new y.variable ≡ true) own (one l.variable ∙ rw (off, eq-eqb l.variable l.variable refl) refl) in
      let cost : length_of clauses e.reason ≡ length lits = ap (length_of clauses) came ∙ ap length_in named in
      let rest = effort_of-le clauses old new l.variable es one in
      rw (before, after) (omega arith)
  | inr other ↦
      let rest = effort_of-pays clauses old new l id lits es one off (rw other at is) named in
      elim (marks_cases old new l.variable e.lit.variable one) [
        | inl on ↦ rw on (omega arith)
        | inr same ↦ rw same (omega arith)
      ]
]

pub effort_falls : (t : TrailState) (b : List ℕ) (old new : Searched) → Turns t b old new → effort t new < effort t old
effort_falls t b old new (passes l rest is on same) =
    let tasks : length old.tasks ≡ suc (length rest) = ap length is in
    rw same (omega arith)
effort_falls t b old new (keeps l rest is off none one same) =
    let tasks : length old.tasks ≡ suc (length rest) = ap length is in
    let after : length new.tasks ≡ length rest = ap (λ (s : Searched). length s.tasks) same in
    let less = effort_of-le t.clauses old.marks new.marks l.variable t.entries one in
    omega arith
effort_falls t b old new (opens l rest visits id lits is off resolved named are one same) =
    let tasks : length old.tasks ≡ suc (length rest) = ap length is in
    let after : length new.tasks ≡ length visits + suc (length rest) = ap (λ (s : Searched). length s.tasks) same ∙ length-append visits _ in
    let few : length visits ≤ length lits = are.few in
    let less = effort_of-pays t.clauses old.marks new.marks l id lits t.entries one off resolved.0 named in
    omega arith
effort_falls t b old new (leaves l rest id is came same) =
    let tasks : length old.tasks ≡ suc (length rest) = ap length is in
    rw same (omega arith)
