-- Where a search comes that learns nothing.
use Rattle.std.specs.Prelude.{◌≡◌, ℕ, List, Some}
use Rattle.qv_cnf.specs.Literal.{Literal}
use Rattle.qv_watch.specs.TrailState.{TrailState}
use Rattle.qv_watch.specs.declared.propagation.Propagated.TheVariants.{Conflict as Clashes}
use Rattle.qv_sat.specs.Deciding.{AnswersOn}
use Rattle.qv_sat.specs.declared.deciding.Reached.{Reached}
use Rattle.qv_sat.specs.declared.deciding.Reached.TheVariants.{Answer, Conflict}

-- propagation answered that the clause of this id is false, or the outcome is right
abbrev pub IsReached : TrailState → List Literal → ℕ → Reached → Type 0
IsReached t assumptions variables (Conflict id) = t.answer ≡ Some (Clashes id)
IsReached t assumptions variables (Answer outcome) = AnswersOn t.clauses assumptions variables outcome
