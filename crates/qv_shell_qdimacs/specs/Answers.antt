-- What is answered of a file.
use Rattle.std.specs.Prelude.{◌≡◌, ℕ, Bool, true, None, IsSomeAnd, List, [], ◌∷◌, ◌++◌, All, length, codes}
use Rattle.qv_cnf.specs.Literal.{Literal}
use Rattle.qv_words.specs.declared.op.Answer.{Answer}
use Rattle.qv_words.specs.declared.op.Answer.TheVariants as answer
use Rattle.qv_words.specs.Problem.{Problem, problem_of}
use Rattle.qv_cert.specs.TextLaws.{HasNoLf, bytes_of_lines}
use Rattle.qv_cert.specs.Shown.{IsSection}
use Rattle.qv_check_laws.specs.AnswerLaws.{task_of}
use Rattle.qv_meter.specs.declared.records.SpentKind.{SpentKind}
use Rattle.qv_meter.specs.Records.{AreTallies, IsSpentIn, IsWorked, Limits, Record}
use Rattle.qv_meter.specs.Views.{quantity_of}
use Rattle.qv_script_defs.specs.Texts.{line}
use Rattle.qv_script_transcript.specs.Certificates.{header_line}
use Rattle.qv_qdimacs.specs.declared.files.Quantified.{Quantified}
use Rattle.qv_qdimacs.specs.Outer.{IsTrueFile, given, holds_under, outer_of}
use Rattle.qv_qdimacs.specs.Translation.{formula_of}
use Rattle.qv_shell_qdimacs.specs.Texts.{values_line}

-- the prenex problem of its formula, and how many places it has
abbrev pub problem_of_file : List Quantified → List (List Literal) → Problem
problem_of_file prefix clauses = problem_of (formula_of prefix clauses ∷ [])

abbrev pub place_count : List Quantified → List (List Literal) → ℕ
place_count prefix clauses = length (problem_of_file prefix clauses).prefix

-- an answer: the file is true, and values of its outer variables show it; it isn't; or this was spent
pub data FileAnswer : Type 0 where
  Sat : (values : List Bool) → FileAnswer
  Unsat : FileAnswer
  Unknown : (spent : SpentKind) → FileAnswer

abbrev pub word_of : FileAnswer → Answer
word_of (Sat values) = answer.Sat
word_of Unsat = answer.Unsat
word_of (Unknown spent) = answer.Unknown

-- what it says is so
abbrev pub IsRight : List Quantified → List (List Literal) → FileAnswer → Type 0
IsRight prefix clauses (Sat values) = (length values ≡ length (outer_of prefix clauses)) × (holds_under prefix clauses values ≡ true)
IsRight prefix clauses Unsat = IsTrueFile prefix clauses → ⊥
IsRight prefix clauses (Unknown spent) = Unit {0}

-- what is printed, where these are the outer variables
abbrev pub answer_text : (outer : List ℕ) → FileAnswer → List ℕ
answer_text outer (Sat values) = line (codes "sat") ++ values_line (given outer values)
answer_text outer Unsat = line (codes "unsat")
answer_text outer (Unknown spent) = line (codes "unknown")

-- what the meter's record keeps of the problem: all of it behind an answer of unknown, with counts that
-- stand for work on it, and the quantity is spent; behind the others nothing
abbrev pub IsLeft : Problem → FileAnswer → Record → Type 0
IsLeft p (Sat values) r = r.kept ≡ None
IsLeft p Unsat r = r.kept ≡ None
IsLeft p (Unknown spent) r = IsSomeAnd r.kept (λ k. (k.problem ≡ p) × AreTallies r.conflicts k × IsWorked r k) × IsSpentIn (quantity_of spent) r

-- the lines are a section of the answer, for the only check of the file
pub record IsSectionFor (prefix : List Quantified) (clauses : List (List Literal)) (answer : Answer) (lines : List (List ℕ)) : Type 0 where
  pub section : IsSection (task_of (formula_of prefix clauses ∷ []) 1 2) answer lines
  pub apart : All HasNoLf lines

-- an answer that is right, with a section and a record of the search
pub record IsAnswered (limits : Limits) (prefix : List Quantified) (clauses : List (List Literal)) (answer : FileAnswer) (lines : List (List ℕ)) (r : Record) : Type 0 where
  pub right : IsRight prefix clauses answer
  pub certified : IsSectionFor prefix clauses (word_of answer) lines
  pub limited : r.limits ≡ limits
  pub left : IsLeft (problem_of_file prefix clauses) answer r

-- the first line of each certificate, and the certificate of a section
abbrev pub header : List ℕ
header = bytes_of_lines (header_line ∷ [])

abbrev pub file_certificate : List (List ℕ) → List ℕ
file_certificate lines = bytes_of_lines (header_line ∷ lines)
