-- That the hints of a search refute.
use Rattle.std.specs.Prelude.{◌≡◌, ◌≢◌, ℕ, ◌+◌, ◌==◌, ◌<◌, true, if◌then◌else◌, List, [], ◌∷◌, ◌++◌, map, Some, All, IsSome, pos, count_by}
use Rattle.qv_cnf.specs.Listing.{Numbered, clause_named}
use Rattle.qv_cnf.specs.Literal.{Literal, negated}
use Rattle.qv_cnf.specs.Refutation.{Accepted, among, judged_from}
use Rattle.qv_learn.specs.Learning.{position_of, StandsIn}
use Rattle.qv_learn.specs.Marking.{marked}
use Rattle.qv_learn.specs.Searching.{Searched}
use Rattle.qv_learn.specs.declared.search.Task.{Task}
use Rattle.qv_learn.specs.declared.search.Task.TheVariants.{Visit, Leave}
use Rattle.qv_watch.specs.Entries.{Entry, reason_of, value_of}
use Rattle.qv_watch.specs.TrailState.{TrailState}

-- the literal that a task is of
abbrev pub literal_of_task : Task → Literal
literal_of_task (Visit l) = l
literal_of_task (Leave l) = l

-- a literal that is to be left has a reason
abbrev pub LeavesWithReason : TrailState → Task → Type 0
LeavesWithReason t (Visit l) = Unit {0}
LeavesWithReason t (Leave l) = IsSome (reason_of t.entries l)

-- the literals that are to be left, the next first
abbrev pub opened : List Task → List Literal
opened [] = []
opened (Visit l ∷ tasks) = opened tasks
opened (Leave l ∷ tasks) = l ∷ opened tasks

-- each task's literal came before those that are to be left after it
abbrev pub IsStacked : List Entry → List Task → Type 0
IsStacked entries [] = Unit {0}
IsStacked entries (task ∷ tasks) = All (λ l. position_of entries (literal_of_task task).variable < position_of entries l.variable) (opened tasks) × IsStacked entries tasks

-- how many of the literals are of the variable
abbrev pub times : ℕ → List Literal → ℕ
times v ls = count_by (λ l. l.variable == v) ls

-- where the tasks are done one after the other, and these literals were met before: the others of a
-- reason are all met before its literal is left, and those of the conflict's clause in the end
abbrev pub Waits : TrailState → ℕ → List Literal → List Task → Type 0
Waits t conflict met [] = (m : Literal) → StandsIn t.clauses conflict m → among met (negated m) ≡ true
Waits t conflict met (Visit l ∷ tasks) = Waits t conflict (l ∷ met) tasks
Waits t conflict met (Leave l ∷ tasks) = ((id : ℕ) (m : Literal) → reason_of t.entries l ≡ Some id → StandsIn t.clauses id m → m ≢ l → among met (negated m) ≡ true) × Waits t conflict (l ∷ met) tasks

-- a set with which a checker may come to the hints: it has the literals that were kept, and none of
-- a variable that was left
pub record MayCome (left kept set : List Literal) : Type 0 where
  pub has : (l : Literal) → among kept l ≡ true → among set l ≡ true
  pub apart : (l : Literal) → among set l ≡ true → times l.variable left ≡ 0

-- the hints lead from each such set to one that has the literals that were left as well: what is
-- accepted from there is accepted behind the hints
abbrev pub Leads : List Numbered → List Literal → List Literal → List ℕ → Type 0
Leads clauses left kept hints =
    (set : List Literal) (more : List ℕ) → MayCome left kept set
    → ((position : ℕ) → judged_from clauses (map pos more) position (left ++ set) ≡ Accepted) → (position : ℕ) → judged_from clauses (map pos (hints ++ more)) position set ≡ Accepted

-- where a search stands. Some literals were left, the last of them first; with the negations of the
-- clause's they are those that were met; a variable that counts as met is one of theirs, or of one
-- that is to be left, and of one alone.
pub record IsRefuting (t : TrailState) (conflict : ℕ) (s : Searched) : Type 0 where
  pub left : List Literal
  pub tasks_true : All (λ task. value_of t.entries (literal_of_task task) ≡ Some true) s.tasks
  pub tasks_came : All (λ task. LeavesWithReason t task) s.tasks
  pub met_true : All (λ l. value_of t.entries l ≡ Some true) (left ++ map negated s.lits)
  pub once : (v : ℕ) → times v (opened s.tasks) + times v (left ++ map negated s.lits) ≡ (if marked s.marks v then 1 else 0)
  pub stacked : IsStacked t.entries s.tasks
  pub waits : Waits t conflict (left ++ map negated s.lits) s.tasks
  pub leads : Leads t.clauses left (map negated s.lits) s.hints
  pub named : All (λ id. IsSome (clause_named id t.clauses)) s.hints
