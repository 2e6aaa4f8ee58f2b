-- The lines of a section.
use Rattle.std.specs.Prelude.{◌≡◌, ◌≤◌, ◌⊎◌, ◌^◌, ℕ, List, [], ◌∷◌, ◌++◌, map, All, IsTrue}
use Rattle.qv_words.specs.declared.op.Answer.{Answer}
use Rattle.qv_words.specs.declared.op.Answer.TheVariants.{Sat, Unsat, Unknown}
use Rattle.qv_words.specs.Tree.{Tree}
use Rattle.qv_words.specs.Clauses.{cnf_variables}
use Rattle.qv_words.specs.Problem.{Problem}
use Rattle.qv_rewrite_passes.specs.declared.pass.Pass.{Pass}
use Rattle.qv_rewrite_passes.specs.Passes.{behind_all, EachChanges}
use Rattle.qv_cnf.specs.LratLine.{LratLine}
use Rattle.qv_cnf.specs.Refutation.{Refutes}
use Rattle.qv_cert.specs.Line.{CertLine, Check, Rewrite, Lrat, Step, End}
use Rattle.qv_cert.specs.ClauseList.{clause_list, variables_of}
use Rattle.qv_cert.specs.Listed.{listed_by, nothing}
use Rattle.qv_cert.specs.Faults.{belongs}
use Rattle.qv_cert.specs.Section.{Task, first_list}
use Rattle.qv_cert.specs.Shown.{HaveNoFault, IsListOf, last_list}
use Rattle.qv_solve_refute.specs.Greatest.{greatest_variable}

-- the formulas that lines stand for which list
abbrev pub formulas_of : Problem → Answer → List CertLine → List Tree
formulas_of p answer given = first_list p answer (listed_by p given)

-- a `check` line, lines that list, passes, `lrat`, a refutation and `end`
abbrev pub lines_with : ℕ → Answer → List CertLine → List Pass → List LratLine → List CertLine
lines_with number answer given passes steps = Check number answer ∷ (given ++ (map Rewrite passes ++ Lrat ∷ (map Step steps ++ End ∷ [])))

-- such lines of a section whose formulas these are behind its passes: the steps refute their clauses
pub record IsRefuted (number : ℕ) (answer : Answer) (given : List CertLine) (passes : List Pass) (formulas : List Tree) (lines : List CertLine) : Type 0 where
  pub steps : List LratLine
  pub lines_are : lines ≡ lines_with number answer given passes steps
  pub few : variables_of formulas ≤ 2 ^ 30
  pub refutes : Refutes (clause_list formulas) steps

-- such lines where each of the passes changes the formulas, and those behind them, which are
-- refuted, take no more variables than a limit
pub record IsClosed (p : Problem) (number : ℕ) (answer : Answer) (limit : ℕ) (given lines : List CertLine) : Type 0 where
  pub passes : List Pass
  pub changes : EachChanges passes (formulas_of p answer given)
  pub within : cnf_variables (behind_all passes (formulas_of p answer given)) ≤ limit
  pub refuted : IsRefuted number answer given passes (behind_all passes (formulas_of p answer given)) lines

-- lines of a sat or unsat section, as a checker accepts them
pub record IsProofOf (task : Task) (answer : Answer) (lines : List CertLine) : Type 0 where
  pub given : List CertLine
  pub passes : List Pass
  pub belong : All (λ line. IsTrue (belongs answer line)) given
  pub lawful : HaveNoFault task.problem nothing given
  pub version : (passes ≡ []) ⊎ (task.version ≡ 2)
  pub listed : IsListOf task.problem answer (listed_by task.problem given)
  pub refuted : IsRefuted task.number answer given passes (last_list task.problem answer given passes) lines

-- the lines are a section of the answer; an unknown one has nothing between `check` and `end`
abbrev pub IsSectionOf : Task → Answer → List CertLine → Type 0
IsSectionOf task Sat lines = IsProofOf task Sat lines
IsSectionOf task Unsat lines = IsProofOf task Unsat lines
IsSectionOf task Unknown lines = lines ≡ Check task.number Unknown ∷ End ∷ []

-- the greatest variable of the clauses that a section refutes; an unknown one refutes none
abbrev pub variables_in : (task : Task) (answer : Answer) (lines : List CertLine) → IsSectionOf task answer lines → ℕ
variables_in task Sat lines proof = greatest_variable (clause_list (last_list task.problem Sat proof.given proof.passes))
variables_in task Unsat lines proof = greatest_variable (clause_list (last_list task.problem Unsat proof.given proof.passes))
variables_in task Unknown lines is = 0

-- the lines are a section of the answer, and this is its greatest variable
pub record IsCounted (task : Task) (answer : Answer) (lines : List CertLine) (variables : ℕ) : Type 0 where
  pub section : IsSectionOf task answer lines
  pub counted : variables ≡ variables_in task answer lines section

-- of the second version of certificates
abbrev pub task_of : Problem → ℕ → Task
task_of p number = record { problem = p; number = number; version = 2 }
