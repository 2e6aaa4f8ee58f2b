-- An answer for a problem.
use Rattle.std.specs.Prelude.{◌≡◌, ℕ, List, [], ◌∷◌, All, option_map}
use Rattle.qv_words.specs.declared.op.Answer.{Answer}
use Rattle.qv_words.specs.declared.op.Answer.TheVariants as answer
use Rattle.qv_words.specs.Problem.{Problem, Existential, Holds}
use Rattle.qv_words.specs.GameLaws.{WinsFrom}
use Rattle.qv_meter.specs.Records.{Metering, Record}
use Rattle.qv_cert.specs.Line.{Check, End, IsCertLine}
use Rattle.qv_meter.specs.declared.records.SpentKind.{SpentKind}
use Rattle.qv_solve_write.specs.Said.{lines_said}
use Rattle.qv_solve_draw.specs.declared.values.ConstValue.{ConstValue}
use Rattle.qv_solve_draw.specs.Values.{HaveSorts, indices_of, values_of}
use Rattle.qv_solve_section.specs.Sections.{task_of, IsCounted}
use Rattle.qv_solve.specs.declared.solved.Solved.{Solved}
use Rattle.qv_solve.specs.declared.solved.Solved.TheVariants.{Sat, Unsat, Unknown}
use Rattle.qv_solve.specs.Solutions.{answer_of, lines_of, variables_of, IsDrawn}

-- what an answer says of a problem
abbrev pub IsTrueOf : Problem → Answer → Type 0
IsTrueOf p answer.Sat = Holds p
IsTrueOf p answer.Unsat = Holds p → ⊥
IsTrueOf p answer.Unknown = Unit {0}

-- values of the first places, from which the existential player wins
pub record AreFirstValues (p : Problem) (indices : List ℕ) (values : List ConstValue) : Type 0 where
  pub indices_are : indices_of values ≡ indices
  pub sorts : HaveSorts p values
  pub wins : WinsFrom p Existential (values_of values)

abbrev pub GivesValues : Problem → List ℕ → Solved → Type 0
GivesValues p indices (Sat section constants variables) = AreFirstValues p indices constants.items
GivesValues p indices (Unsat section variables) = Unit {0}
GivesValues p indices (Unknown section kind) = Unit {0}

abbrev pub IsKnown : Solved → Type 0
IsKnown (Sat section constants variables) = Unit {0}
IsKnown (Unsat section variables) = Unit {0}
IsKnown (Unknown section kind) = ⊥

-- a section of the answer, which is true of the problem
pub record IsSolution (p : Problem) (number : ℕ) (indices : List ℕ) (m : Metering) (s : Solved) : Type 0 where
  pub section : IsCounted (task_of p number) (answer_of s) (lines_of s) (variables_of s)
  pub form : All IsCertLine (lines_of s)
  pub holds : IsTrueOf p (answer_of s)
  pub drawn : IsDrawn p number (answer_of s) (lines_of s) m
  pub values : GivesValues p indices s

-- an unknown section of this number and kind
abbrev pub IsUnknownOf : ℕ → SpentKind → Solved → Type 0
IsUnknownOf number kind (Sat section constants variables) = ⊥
IsUnknownOf number kind (Unsat section variables) = ⊥
IsUnknownOf number kind (Unknown section spent) =
    (spent ≡ kind) × (lines_said section.lines.items ≡ Check number answer.Unknown ∷ End ∷ [])
    × All IsCertLine (lines_said section.lines.items)

-- the records before are the same, and the newest one's limits
pub record KeepsRecords (before after : Metering) : Type 0 where
  pub older : after.older ≡ before.older
  pub limits : option_map (λ (r : Record). r.limits) after.newest ≡ option_map (λ (r : Record). r.limits) before.newest
