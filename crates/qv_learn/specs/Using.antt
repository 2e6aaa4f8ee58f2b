-- That what each hint forces is used.
use Rattle.std.specs.Prelude.{◌≡◌, ◌⊎◌, ℕ, true, List, [], ◌∷◌, Some, Contains}
use Rattle.qv_cnf.specs.Literal.{Literal, negated}
use Rattle.qv_learn.specs.Learning.{StandsIn}
use Rattle.qv_learn.specs.Refuting.{literal_of_task}
use Rattle.qv_learn.specs.Searching.{Searched}
use Rattle.qv_learn.specs.declared.search.Task.{Task}
use Rattle.qv_learn.specs.declared.search.Task.TheVariants.{Leave}
use Rattle.qv_watch.specs.Entries.{reason_of, value_of}
use Rattle.qv_watch.specs.TrailState.{TrailState}

-- the clause of this id is one of these hints, or a hint that is still to come: the reason of a
-- literal that is to be left, or the conflict's clause
abbrev pub IsComing : TrailState → ℕ → List Task → List ℕ → ℕ → Type 0
IsComing t conflict tasks hints id = Contains hints id ⊎ ((x : Literal) × Contains tasks (Leave x) × (reason_of t.entries x ≡ Some id)) ⊎ (id ≡ conflict)

-- such a clause has the literal's negation
abbrev pub IsAsked : TrailState → ℕ → List Task → List ℕ → Literal → Type 0
IsAsked t conflict tasks hints l = (id : ℕ) × IsComing t conflict tasks hints id × StandsIn t.clauses id (negated l)

-- each task's literal is asked for by a clause that comes after it
abbrev pub AreAsked : TrailState → ℕ → List Task → Type 0
AreAsked t conflict [] = Unit {0}
AreAsked t conflict (task ∷ tasks) = IsAsked t conflict tasks [] (literal_of_task task) × AreAsked t conflict tasks

-- each hint is the reason of a true literal that is asked for by a clause that comes after it
abbrev pub AreUsed : TrailState → ℕ → List Task → List ℕ → Type 0
AreUsed t conflict tasks [] = Unit {0}
AreUsed t conflict tasks (id ∷ ids) =
    ((x : Literal) × (value_of t.entries x ≡ Some true) × (reason_of t.entries x ≡ Some id) × IsAsked t conflict tasks ids x) × AreUsed t conflict tasks ids

-- where a search stands, as far as the use of its hints goes
pub record IsUsing (t : TrailState) (conflict : ℕ) (s : Searched) : Type 0 where
  pub tasks : AreAsked t conflict s.tasks
  pub hints : AreUsed t conflict s.tasks s.hints
