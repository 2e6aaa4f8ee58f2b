-- A depth-first search of what a conflict comes of.
use Rattle.std.specs.Prelude.{◌≡◌, ◌≢◌, ℕ, ◌==◌, ◌≤◌, ◌⊎◌, true, false, List, [], ◌∷◌, ◌++◌, length, map, max, Option, Some, None, All, Contains}
use Rattle.std.specs.List.{list_any}
use Rattle.qv_cnf.specs.Listing.{clause_named}
use Rattle.qv_cnf.specs.Literal.{Literal, negated}
use Rattle.qv_cnf.specs.Refutation.{among}
use Rattle.qv_learn.specs.Frontiers.{HasPoint}
use Rattle.qv_learn.specs.Learning.{level_at, IsFalseAtZero}
use Rattle.qv_learn.specs.Marking.{marked, MarksOne}
use Rattle.qv_learn.specs.declared.search.Task.{Task}
use Rattle.qv_learn.specs.declared.search.Task.TheVariants.{Visit, Leave}
use Rattle.qv_watch.specs.Entries.{reason_of}
use Rattle.qv_watch.specs.TrailState.{TrailState}

-- where a search stands: its tasks, the next first, the variables that were met, the clause and the
-- hints so far, and the greatest level of the clause's literals below the present level
pub record Searched : Type 0 where
  pub tasks : List Task
  pub marks : List ℕ
  pub lits : List Literal
  pub hints : List ℕ
  pub level : ℕ

-- where no search was begun
abbrev pub nothing_searched : Searched
nothing_searched = record { tasks = []; marks = []; lits = []; hints = []; level = 0 }

-- the literal got its value at level 0 or at the present level
abbrev pub IsExtreme : TrailState → Literal → Type 0
IsExtreme t l = (level_at t.entries l ≡ 0) ⊎ (level_at t.entries l ≡ t.level)

-- the literal's variable is of the set, or it is false since level 0
abbrev pub IsSpare : TrailState → List ℕ → Literal → Type 0
IsSpare t between l = (marked between l.variable ≡ true) ⊎ IsFalseAtZero t.entries l

-- the clause of this id says that the literal may be left out: its other literals are of the set,
-- or false since level 0
pub record IsImplied (t : TrailState) (between : List ℕ) (l : Literal) (id : ℕ) : Type 0 where
  pub lits : List Literal
  pub is : clause_named id t.clauses ≡ Some lits
  pub others : (m : Literal) → among lits m ≡ true → m.variable ≢ l.variable → IsSpare t between m

-- the clause that a true literal is resolved with: its reason, at level 0 and at the present level,
-- and between them where the literal may be left out; or none, and it is kept
abbrev pub IsAntecedent : TrailState → List ℕ → Literal → Option ℕ → Type 0
IsAntecedent t between l None = (id : ℕ) → reason_of t.entries l ≡ Some id → (IsExtreme t l → ⊥) × (IsImplied t between l id → ⊥)
IsAntecedent t between l (Some id) = (reason_of t.entries l ≡ Some id) × (IsExtreme t l ⊎ IsImplied t between l id)

-- the tasks are to visit the negations of the clause's literals but those of this variable, in some
-- order
pub record AreVisits (v : ℕ) (lits : List Literal) (tasks : List Task) : Type 0 where
  pub each : All (λ task. (m : Literal) × (task ≡ Visit (negated m)) × (among lits m ≡ true) × (m.variable ≢ v)) tasks
  pub whole : (m : Literal) → among lits m ≡ true → m.variable ≢ v → Contains tasks (Visit (negated m))
  pub few : length tasks ≤ length lits

-- such tasks were put before the others
pub record PutsVisits (v : ℕ) (lits : List Literal) (old new : List Task) : Type 0 where
  pub visits : List Task
  pub are : AreVisits v lits visits
  pub before : new ≡ visits ++ old

-- one turn. A literal that was met before is passed over; one that isn't resolved goes into the
-- clause, negated; of one that is resolved, the others of its reason are visited first; then its
-- reason is a hint.
pub data Turns (t : TrailState) (between : List ℕ) (old new : Searched) : Type 0 where
  passes :
      (l : Literal) (rest : List Task) → old.tasks ≡ Visit l ∷ rest → marked old.marks l.variable ≡ true → new ≡ record old { tasks = rest } → Turns t between old new
  keeps :
      (l : Literal) (rest : List Task) → old.tasks ≡ Visit l ∷ rest → marked old.marks l.variable ≡ false → IsAntecedent t between l None
      → MarksOne old.marks l.variable new.marks → new ≡ record old { tasks = rest; marks = new.marks; lits = old.lits ++ negated l ∷ []; level = max old.level (level_at t.entries l) } → Turns t between old new
  opens :
      (l : Literal) (rest visits : List Task) (id : ℕ) (lits : List Literal) → old.tasks ≡ Visit l ∷ rest → marked old.marks l.variable ≡ false → IsAntecedent t between l (Some id) → clause_named id t.clauses ≡ Some lits
      → AreVisits l.variable lits visits → MarksOne old.marks l.variable new.marks → new ≡ record old { tasks = visits ++ Leave l ∷ rest; marks = new.marks } → Turns t between old new
  leaves :
      (l : Literal) (rest : List Task) (id : ℕ) → old.tasks ≡ Leave l ∷ rest → reason_of t.entries l ≡ Some id → new ≡ record old { tasks = rest; hints = old.hints ++ id ∷ [] } → Turns t between old new

-- where it starts: the conflict's clause is to be visited; above level 0 the negation of the first
-- unique implication point stands in the clause, and its variable counts as met
pub record Starts (t : TrailState) (conflict : ℕ) (points : List Literal) (between : List ℕ) (s : Searched) : Type 0 where
  pub clause : List Literal
  pub named : clause_named conflict t.clauses ≡ Some clause
  pub visits : AreVisits 0 clause s.tasks
  pub marks : (v : ℕ) → marked s.marks v ≡ list_any (λ l. l.variable == v) points
  pub lits : s.lits ≡ map negated points
  pub hints : s.hints ≡ []
  pub level : s.level ≡ 0
  pub none : t.level ≡ 0 → points ≡ []
  pub point : 1 ≤ t.level → (set : List ℕ) × HasPoint t conflict points set between
