-- The turns of a search.
use Rattle.std.proofs.Common.{◌≡◌, ◌≢◌, ℕ, ◌+◌, ◌<◌, Bool, true, false, List, [], ◌∷◌, ◌++◌, length, length-append, get_or, max, not, take, reverse, Some, None, zero, suc, refl, sym, ◌∙◌, ap, subst, arith, inl, inr}
use Rattle.std.specs.Prelude.{Contains, IsSome, OnOk, Result, Ok, Err}
use Rattle.std.specs.List.{slice_get}
use Rattle.std.proofs.lemmas.Bool.{cases_Bool, false≢true}
use Rattle.std.proofs.lemmas.List.{reverse-append, take_more}
use Rattle.std.proofs.lemmas.List.Elements.{All-cons, All-weaker, Contains-append_left, Contains-append_right, Contains-push}
use Rattle.std.proofs.lemmas.Option.{none-some}
use Rattle.qv_cnf.specs.Listing.{clause_named}
use Rattle.qv_cnf.specs.Literal.{Literal, negated}
use Rattle.qv_cnf.specs.Refutation.{among, same_literal}
use Rattle.qv_watch.proofs.Entering.{same_literal-true}
use Rattle.qv_learn.proofs.Clauses.{among-push_cases, among-push_new, among-push_old, forces_named}
use Rattle.qv_learn.specs.Marking.{MarksOne, marked}
use Rattle.qv_learn.specs.Searching.{AreVisits, IsAntecedent, PutsVisits, Searched, Turns}
use Rattle.qv_learn.specs.Searching.Turns.{keeps, leaves, opens, passes}
use Rattle.qv_learn.specs.declared.search.Task.{Task}
use Rattle.qv_learn.specs.declared.search.Task.TheVariants.{Leave, Visit}
use Rattle.qv_learn.specs.Learning.{level_at}
use Rattle.qv_watch.specs.Entries.{Entry, reason_of, trues}
use Rattle.qv_watch.specs.TrailState.{Comes, IsTrail, TrailState}
use Rattle.qv_watch.proofs.Resting.{among_first, among_later}

-- what is to be visited for a literal
abbrev pub IsVisit : ℕ → List Literal → Task → Type 0
IsVisit v lits task = (m : Literal) × (task ≡ Visit (negated m)) × (among lits m ≡ true) × (m.variable ≢ v)

-- one more literal, of another variable
pub AreVisits-more : (v : ℕ) (lits : List Literal) (x : Literal) (visits : List Task) → x.variable ≢ v → AreVisits v lits visits → AreVisits v (lits ++ x ∷ []) (Visit (negated x) ∷ visits)
AreVisits-more v lits x visits other are = record {
  each = All-cons (IsVisit v (lits ++ x ∷ [])) (Visit (negated x)) visits (x, refl, among-push_new lits x, other) (All-weaker (IsVisit v lits) (IsVisit v (lits ++ x ∷ [])) (λ task is. (is.0, is.1, among-push_old lits x is.0 is.2, is.3)) visits are.each);
  whole = λ m h apart. elim (among-push_cases lits x m h) [
    | inl old ↦ Contains-append_right (Visit (negated x) ∷ []) visits (Visit (negated m)) (are.whole m old apart)
    | inr new ↦ Contains-append_left (Visit (negated x) ∷ []) visits (Visit (negated m)) (subst (λ (y : Literal). Contains (Visit (negated x) ∷ []) (Visit (negated y))) (sym new) (Contains-push [] (Visit (negated x))))
  ];
  few = simp length-append (omega (arith, are.few));
}

-- or of this one
pub AreVisits-own : (v : ℕ) (lits : List Literal) (x : Literal) (visits : List Task) → x.variable ≡ v → AreVisits v lits visits → AreVisits v (lits ++ x ∷ []) visits
AreVisits-own v lits x visits own are = record {
  each = All-weaker (IsVisit v lits) (IsVisit v (lits ++ x ∷ [])) (λ task is. (is.0, is.1, among-push_old lits x is.0 is.2, is.3)) visits are.each;
  whole = λ m h apart. elim (among-push_cases lits x m h) [
    | inl old ↦ are.whole m old apart
    | inr new ↦ absurd (apart (ap (λ (y : Literal). y.variable) new ∙ own))
  ];
  few = simp length-append (omega (arith, are.few));
}

pub PutsVisits-more : (v : ℕ) (lits : List Literal) (x : Literal) (old new stack : List Task) → x.variable ≢ v → stack ≡ new ++ Visit (negated x) ∷ [] → PutsVisits v lits old (reverse new) → PutsVisits v (lits ++ x ∷ []) old (reverse stack)
PutsVisits-more v lits x old new stack other is puts = record {
  visits = Visit (negated x) ∷ puts.visits;
  are = AreVisits-more v lits x puts.visits other puts.are;
  before = ap reverse is ∙ reverse-append new (Visit (negated x) ∷ []) ∙ ap (λ (ts : List Task). Visit (negated x) ∷ ts) puts.before;
}

pub PutsVisits-own : (v : ℕ) (lits : List Literal) (x : Literal) (old new : List Task) → x.variable ≡ v → PutsVisits v lits old new → PutsVisits v (lits ++ x ∷ []) old new
PutsVisits-own v lits x old new own puts = record { visits = puts.visits; are = AreVisits-own v lits x puts.visits own puts.are; before = puts.before }

-- the element that a loop is at
pub taken : {X : Type 0} (xs : List X) (i : ℕ) (x : X) → i < length xs → x ≡ get_or xs i x → take (i + 1) xs ≡ take i xs ++ x ∷ []
taken xs i x within is = take_more xs i x within ∙ ap (λ y. take i xs ++ y ∷ []) (sym is)

-- a literal with a reason has an entry with that reason
reason_there : (es : List Entry) (l : Literal) (id : ℕ) → reason_of es l ≡ Some id → (k : ℕ) × (e : Entry) × (slice_get es k ≡ Some e) × (e.reason ≡ Some id)
reason_there [] l id h = absurd (none-some id h)
reason_there (e ∷ es) l id h = elim (cases_Bool (same_literal l e.lit)) [
  | inl same ↦ (zero, e, refl, rw same at h)
  | inr other ↦ let rest = reason_there es l id (rw other at h) in (suc rest.0, rest.1, rest.2, rest.3)
]

-- and is true
pub reason_true : (es : List Entry) (l : Literal) (id : ℕ) → reason_of es l ≡ Some id → among (trues es) l ≡ true
reason_true [] l id h = absurd (none-some id h)
reason_true (e ∷ es) l id h = elim (cases_Bool (same_literal l e.lit)) [
  | inl same ↦ subst (λ (x : Literal). among (trues (e ∷ es)) x ≡ true) (sym (same_literal-true l e.lit same)) (among_first e.lit (trues es))
  | inr other ↦ among_later e.lit (trues es) l (reason_true es l id (rw other at h))
]

-- and a reason is attached
pub reason_named : (t : TrailState) (l : Literal) (id : ℕ) → IsTrail t → reason_of t.entries l ≡ Some id → IsSome (clause_named id t.clauses)
reason_named t l id trail is =
    let r = reason_there t.entries l id is in
    let m = trail.grown r.0 r.1 r.2 in
    let c = subst (Comes t.clauses (take r.0 t.entries) r.1.lit r.1.level) r.3 m.comes in
    subst IsSome (sym (forces_named (trues (take r.0 t.entries)) t.clauses id r.1.lit c.1).1) refl

not_false : (b : Bool) → false ≡ not b → b ≡ true
not_false true h = refl
not_false false h = absurd (false≢true h)

-- whether the variable is new
pub met_before : (marks : List ℕ) (v w : ℕ) (new : Bool) → w ≡ v → new ≡ not (marked marks w) → new ≡ false → marked marks v ≡ true
met_before marks v w new same is old = ap (marked marks) (sym same) ∙ not_false (marked marks w) (sym old ∙ is)

-- a turn by its parts
pub turn_opens :
    {E : Type 0} (r : Result (Unit {0}) E) (t : TrailState) (b : List ℕ) (s new : Searched) (marks : List ℕ) (l : Literal) (id : ℕ)
    → marked s.marks l.variable ≡ false → IsAntecedent t b l (Some id) → MarksOne s.marks l.variable marks
    → OnOk r (new ≡ record s { tasks = new.tasks; marks = marks })
    → OnOk r ((lits : List Literal) × (clause_named id t.clauses ≡ Some lits) × PutsVisits l.variable lits (Leave l ∷ s.tasks) new.tasks)
    → OnOk r (Turns t b (record s { tasks = Visit l ∷ s.tasks }) new)
turn_opens (Err e) t b s new marks l id off is one same puts = tt
turn_opens (Ok x) t b s new marks l id off is one same puts =
    let met : new.marks ≡ marks = ap (λ (n : Searched). n.marks) same in
    let marks_one : MarksOne s.marks l.variable new.marks = subst (MarksOne s.marks l.variable) (sym met) one in
    opens l s.tasks puts.2.visits id puts.0 refl off is puts.1 puts.2.are marks_one (same ∙ cc (puts.2.before))

pub turn_keeps :
    {E : Type 0} (r : Result (Unit {0}) E) (t : TrailState) (b : List ℕ) (s new : Searched) (marks : List ℕ) (l : Literal)
    → marked s.marks l.variable ≡ false → IsAntecedent t b l None → MarksOne s.marks l.variable marks
    → OnOk r (new ≡ record s { marks = marks; lits = s.lits ++ negated l ∷ []; level = max s.level (level_at t.entries l) })
    → OnOk r (Turns t b (record s { tasks = Visit l ∷ s.tasks }) new)
turn_keeps (Err e) t b s new marks l off is one same = tt
turn_keeps (Ok x) t b s new marks l off is one same =
    let met : new.marks ≡ marks = ap (λ (n : Searched). n.marks) same in
    let marks_one : MarksOne s.marks l.variable new.marks = subst (MarksOne s.marks l.variable) (sym met) one in
    keeps l s.tasks refl off is marks_one (same ∙ cc (met))

pub turn_leaves :
    {E : Type 0} (r : Result (Unit {0}) E) (t : TrailState) (b : List ℕ) (s new : Searched) (l : Literal)
    → OnOk r ((id : ℕ) × (reason_of t.entries l ≡ Some id) × (new ≡ record s { hints = s.hints ++ id ∷ [] }))
    → OnOk r (Turns t b (record s { tasks = Leave l ∷ s.tasks }) new)
turn_leaves (Err e) t b s new l came = tt
turn_leaves (Ok x) t b s new l came = leaves l s.tasks came.0 refl came.1 came.2

pub turn_passes : (t : TrailState) (b : List ℕ) (s new : Searched) (l : Literal) → marked s.marks l.variable ≡ true → new ≡ s → Turns t b (record s { tasks = Visit l ∷ s.tasks }) new
turn_passes t b s new l on same = passes l s.tasks refl on same

pub antecedent_named : (t : TrailState) (b : List ℕ) (l : Literal) (id : ℕ) → IsTrail t → IsAntecedent t b l (Some id) → IsSome (clause_named id t.clauses)
antecedent_named t b l id trail is = reason_named t l id trail is.0
