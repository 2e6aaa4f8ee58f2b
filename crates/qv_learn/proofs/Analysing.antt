-- An analysis, at its start, at each turn and at its end.
use Rattle.std.proofs.Common.{◌≡◌, ℕ, List, [], ◌∷◌, ◌++◌, map, true, false, Some, refl, sym, ◌∙◌, ap, subst}
use Rattle.std.specs.Prelude.{All, Contains, IfOk, Result, Ok, Err, IsSome}
use Rattle.std.proofs.lemmas.List.Elements.{All-cons, All-contains_itself, All-head, All-nil, All-tail, All-weaker}
use Rattle.qv_cnf.specs.Literal.{Literal, negated}
use Rattle.qv_learn.proofs.Clauses.{all_among}
use Rattle.qv_learn.proofs.Gathering.{gathering_turns}
use Rattle.qv_learn.proofs.GatheringEnds.{gathering_ends, gathering_starts, hinted_marked}
use Rattle.qv_learn.proofs.Needed.{hints_needed, literals_needed}
use Rattle.qv_learn.proofs.Reaching.{contains_marked, marked_contains}
use Rattle.qv_learn.proofs.Refuting.{met_valued, refuting_ends, refuting_starts, refuting_turns}
use Rattle.qv_learn.proofs.Truths.{false_negated}
use Rattle.qv_learn.proofs.Using.{chains, using_starts, using_turns}
use Rattle.qv_learn.specs.Analysing.{IsAnalysed, IsAnalysing}
use Rattle.qv_learn.specs.Gathering.{IsHinted}
use Rattle.qv_learn.specs.Learning.{AreMet, StandsIn}
use Rattle.qv_learn.specs.Refuting.{LeavesWithReason, literal_of_task}
use Rattle.qv_learn.specs.Searching.{Searched, Starts, Turns}
use Rattle.qv_learn.specs.Using.{AreUsed}
use Rattle.qv_learn.specs.declared.analysis.Learnt.{Learnt}
use Rattle.qv_learn.specs.declared.search.Task.{Task}
use Rattle.qv_watch.specs.Entries.{entry_at, value_of}
use Rattle.qv_watch.specs.TrailState.{IsTrail, TrailState}
use Rattle.qv_watch.proofs.Resting.{twice_negated}
use Rattle.qv_watch.specs.declared.propagation.Propagated.TheVariants.{Conflict}

pub analysing_starts : (t : TrailState) (conflict : ℕ) (points : List Literal) (b : List ℕ) (s : Searched) → IsTrail t → t.answer ≡ Some (Conflict conflict) → Starts t conflict points b s → IsAnalysing t conflict b s
analysing_starts t conflict points b s trail answer starts = record {
  points = points;
  point = λ high. let p = (starts.point high).1 in (p.point, p.is, p.scouted.point);
  refuting = refuting_starts t conflict points b s trail answer starts;
  using = using_starts t conflict points b s starts;
  gathering = gathering_starts t conflict points b s trail answer starts;
}

pub analysing_turns : (t : TrailState) (conflict : ℕ) (b : List ℕ) (old new : Searched) → IsTrail t → IsAnalysing t conflict b old → Turns t b old new → IsAnalysing t conflict b new
analysing_turns t conflict b old new trail is turns = record {
  points = is.points;
  point = is.point;
  refuting = refuting_turns t conflict b old new trail is.refuting turns;
  using = using_turns t conflict b old new is.refuting.tasks_true is.using turns;
  gathering = gathering_turns t conflict is.points b old new trail is.gathering turns;
}

negated_true : (t : TrailState) (ls : List Literal) → All (λ l. value_of t.entries l ≡ Some false) ls → All (λ l. value_of t.entries l ≡ Some true) (map negated ls)
negated_true t [] all = All-nil (λ l. value_of t.entries l ≡ Some true)
negated_true t (x ∷ xs) all =
    All-cons (λ l. value_of t.entries l ≡ Some true) (negated x) (map negated xs) (false_negated t.entries x (All-head (λ l. value_of t.entries l ≡ Some false) x xs all))
    (negated_true t xs (All-tail (λ l. value_of t.entries l ≡ Some false) x xs all))

pub analysing_ends : (t : TrailState) (conflict : ℕ) (b : List ℕ) (s : Searched) → IsTrail t → t.answer ≡ Some (Conflict conflict) → IsAnalysing t conflict b s → s.tasks ≡ [] → IsAnalysed t conflict s.lits (s.hints ++ conflict ∷ []) s.level
analysing_ends t conflict b s trail answer is over =
    let refuted = refuting_ends t conflict s trail answer is.refuting over in
    let gathered = gathering_ends t conflict is.points b s trail answer is.gathering over in
    let used = subst (λ (ts : List Task). AreUsed t conflict ts s.hints) over is.using.hints in
    let chained = chains t conflict trail s.hints (map negated s.lits) 1 (negated_true t s.lits gathered.falsified) used refuted.0 in
    record {
      refutes = refuted.0;
      attached = refuted.1;
      literals_needed = literals_needed t.clauses s.lits s.hints conflict gathered.apart chained (λ l there.
          let h = all_among (IsHinted t (s.hints ++ conflict ∷ [])) s.lits l gathered.hinted there in
          (h.0, h.1, subst (StandsIn t.clauses h.0) (sym (twice_negated l)) h.2));
      hints_needed = hints_needed t.clauses s.lits s.hints conflict chained;
      last = (s.hints, refl);
      points = is.points;
      gathered = gathered;
      first_point = λ above.
          let u = is.point above in
          let more = gathered.points_first in
          record { point = u.0; others = more.0; is = more.1 ∙ ap (λ (ls : List Literal). map negated ls ++ more.0) u.1; first = u.2 };
    }

-- the next task of an analysis
pub task_true : (t : TrailState) (conflict : ℕ) (b : List ℕ) (s : Searched) (task : Task) (tasks : List Task) → IsAnalysing t conflict b s → s.tasks ≡ task ∷ tasks → value_of t.entries (literal_of_task task) ≡ Some true
task_true t conflict b s task tasks is first =
    All-head (λ task. value_of t.entries (literal_of_task task) ≡ Some true) task tasks (subst (All (λ task. value_of t.entries (literal_of_task task) ≡ Some true)) first is.refuting.tasks_true)

pub task_came : (t : TrailState) (conflict : ℕ) (b : List ℕ) (s : Searched) (task : Task) (tasks : List Task) → IsAnalysing t conflict b s → s.tasks ≡ task ∷ tasks → LeavesWithReason t task
task_came t conflict b s task tasks is first =
    All-head (LeavesWithReason t) task tasks (subst (All (LeavesWithReason t)) first is.refuting.tasks_came)

-- what holds of what the search found holds of what is learnt
pub of_learnt : {E : Type 0} (P : List Literal → List ℕ → ℕ → Type 0) (r : Result Learnt E) (s : Searched) (hints new_marks : List ℕ) → IfOk r (λ x. (x.lits.items ≡ s.lits) × (x.hints.items ≡ hints) × (x.level ≡ s.level) × (new_marks ≡ s.marks)) → P s.lits hints s.level → IfOk r (λ x. P x.lits.items x.hints.items x.level)
of_learnt P (Err e) s hints new_marks is h = tt
of_learnt P (Ok x) s hints new_marks is h = rw (is.0, is.1, is.2) h

-- what each such clause has
pub of_analysed : {E : Type 0} (t : TrailState) (conflict : ℕ) (P : Learnt → Type 0) (r : Result Learnt E) → IfOk r (λ x. IsAnalysed t conflict x.lits.items x.hints.items x.level) → ((x : Learnt) → IsAnalysed t conflict x.lits.items x.hints.items x.level → P x) → IfOk r P
of_analysed t conflict P (Err e) is f = tt
of_analysed t conflict P (Ok x) is f = f x is

-- the variables that were met
pub met_ends : (t : TrailState) (conflict : ℕ) (b : List ℕ) (s : Searched) → IsAnalysing t conflict b s → s.tasks ≡ [] → AreMet t (s.hints ++ conflict ∷ []) s.marks
met_ends t conflict b s is over = record {
  valued = All-weaker (Contains s.marks) (λ v. IsSome (entry_at v t.entries)) (λ v there. met_valued t conflict s v is.refuting over (contains_marked s.marks v there)) s.marks (All-contains_itself s.marks);
  whole = λ id l hint stands. marked_contains s.marks l.variable (hinted_marked t conflict is.points b s is.gathering over id l hint stands);
}

pub met_learnt : {E : Type 0} (t : TrailState) (r : Result Learnt E) (s : Searched) (hints new_marks : List ℕ) → IfOk r (λ x. (x.lits.items ≡ s.lits) × (x.hints.items ≡ hints) × (x.level ≡ s.level) × (new_marks ≡ s.marks)) → AreMet t hints s.marks → IfOk r (λ x. AreMet t x.hints.items new_marks)
met_learnt t (Err e) s hints new_marks is h = tt
met_learnt t (Ok x) s hints new_marks is h = rw (is.1, is.3) h
