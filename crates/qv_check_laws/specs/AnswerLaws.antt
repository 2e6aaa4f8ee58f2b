-- What an accepted section is for: its answer is true of the problem, and of the formulas that the
-- problem is of.
use Rattle.std.specs.Prelude.{◌≡◌, ℕ, List, [], ◌∷◌, All}
use Rattle.qv_words.specs.declared.op.Answer.{Answer}
use Rattle.qv_words.specs.declared.op.Answer.TheVariants.{Sat, Unsat, Unknown}
use Rattle.qv_words.specs.Tree.{Tree}
use Rattle.qv_words.specs.Truth.{IsAssertion, AreTrue, HaveOneSort}
use Rattle.qv_words.specs.Problem.{Problem, Holds, problem_of}
use Rattle.qv_words.specs.GameLaws.{IsProblem}
use Rattle.qv_cert.specs.Section.{Task, AcceptedUpTo, section_judged}
use Rattle.qv_check_laws.specs.Verdict.{Script, Asks, Stops, Ends, answers_of, verdict}
use Rattle.qv_check_laws.specs.VerdictLaws.{AsksOfProblems}

-- where a sat section is accepted the problem holds
abbrev pub SatSectionsHold : Type 0
SatSectionsHold =
    (task : Task) (n m : ℕ) (lines behind : List (List ℕ)) → IsProblem task.problem →
    section_judged task n lines ≡ AcceptedUpTo Sat m behind → Holds task.problem

-- where an unsat section is accepted it doesn't
abbrev pub UnsatSectionsFail : Type 0
UnsatSectionsFail =
    (task : Task) (n m : ℕ) (lines behind : List (List ℕ)) → IsProblem task.problem →
    section_judged task n lines ≡ AcceptedUpTo Unsat m behind → Holds task.problem → ⊥

-- the task of a check-sat at which these formulas are in force
abbrev pub task_of : List Tree → (number version : ℕ) → Task
task_of formulas number version = record { problem = problem_of formulas; number = number; version = version }

-- where a sat section is accepted the formulas in force are true
abbrev pub SatIsTrue : Type 0
SatIsTrue =
    (formulas : List Tree) (number version n m : ℕ) (lines behind : List (List ℕ)) → All IsAssertion formulas → HaveOneSort formulas →
    section_judged (task_of formulas number version) n lines ≡ AcceptedUpTo Sat m behind → AreTrue formulas

-- where an unsat section is accepted they aren't
abbrev pub UnsatIsTrue : Type 0
UnsatIsTrue =
    (formulas : List Tree) (number version n m : ℕ) (lines behind : List (List ℕ)) → All IsAssertion formulas → HaveOneSort formulas →
    section_judged (task_of formulas number version) n lines ≡ AcceptedUpTo Unsat m behind → AreTrue formulas → ⊥

-- what an answer says of a problem
abbrev pub IsTrueOf : Problem → Answer → Type 0
IsTrueOf p Sat = Holds p
IsTrueOf p Unsat = Holds p → ⊥
IsTrueOf p Unknown = Unit {0}

-- each answer is true of the problem that the script comes to by the answers before
abbrev pub AreTrueFor : {F : Type 0} → Script F → List Answer → Type 0
AreTrueFor script [] = Unit {0}
AreTrueFor (Asks p next) (answer ∷ answers) = IsTrueOf p answer × AreTrueFor (next answer) answers
AreTrueFor (Stops fault) (answer ∷ answers) = ⊥
AreTrueFor Ends (answer ∷ answers) = ⊥

-- so the answers that a verdict accepts are true, whatever the script's faults are
abbrev pub VerdictsAreTrue : Type 0 → Type 0
VerdictsAreTrue F = (script : Script F) (bytes : List ℕ) → AsksOfProblems script → AreTrueFor script (answers_of (verdict script bytes))
