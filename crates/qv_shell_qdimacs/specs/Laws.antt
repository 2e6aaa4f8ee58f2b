-- What the verdict on a certificate beside a file shows.
use Rattle.std.specs.Prelude.{◌≡◌, ◌≤◌, ℕ, List, ◌++◌, All, codes}
use Rattle.qv_cnf.specs.Literal.{Literal}
use Rattle.qv_words.specs.declared.op.Answer.{Answer}
use Rattle.qv_words.specs.declared.op.Answer.TheVariants as answer
use Rattle.qv_check_laws.specs.Verdict.{answers_of, verdict}
use Rattle.qv_check_defs.specs.Outcome.{Outcome, answer_line}
use Rattle.qv_script_defs.specs.Texts.{line}
use Rattle.qv_qdimacs.specs.declared.files.Quantified.{Quantified}
use Rattle.qv_qdimacs.specs.Outer.{IsTrueFile}
use Rattle.qv_qdimacs.specs.Text.{File, qdimacs_of}
use Rattle.qv_shell_qdimacs.specs.Answers.{IsSectionFor, file_certificate, place_count}
use Rattle.qv_shell_qdimacs.specs.Checking.{beside, file_outcome}

-- what an accepted answer says of a file
abbrev pub IsTrueOf : List Quantified → List (List Literal) → Answer → Type 0
IsTrueOf prefix clauses answer.Sat = IsTrueFile prefix clauses
IsTrueOf prefix clauses answer.Unsat = IsTrueFile prefix clauses → ⊥
IsTrueOf prefix clauses answer.Unknown = Unit {0}

-- the answers that are accepted beside a text are true of its file
abbrev pub FileAnswersHold : (places : ℕ) (file cert : List ℕ) → Type 0
FileAnswersHold places file cert =
    (prefix : List Quantified) (clauses : List (List Literal)) → qdimacs_of file ≡ File prefix clauses →
    All (IsTrueOf prefix clauses) (answers_of (verdict (beside places (qdimacs_of file)) cert))

abbrev pub FileAnswersAreTrue : Type 0
FileAnswersAreTrue = (places : ℕ) (file cert : List ℕ) → FileAnswersHold places file cert

-- it comes to this answer, and is accepted
abbrev pub accepted_with : Answer → Outcome
accepted_with answer = record { text = answer_line answer ++ line (codes "accepted"); status = 0 }

-- the certificate of a section is accepted beside a text of its file
abbrev pub AcceptsSolvedFile : (places : ℕ) (file cert : List ℕ) → Type 0
AcceptsSolvedFile places file cert =
    (prefix : List Quantified) (clauses : List (List Literal)) (answer : Answer) (lines : List (List ℕ)) →
    qdimacs_of file ≡ File prefix clauses → place_count prefix clauses ≤ places →
    IsSectionFor prefix clauses answer lines → cert ≡ file_certificate lines →
    file_outcome places file cert ≡ accepted_with answer

abbrev pub SolvedFilesAreAccepted : Type 0
SolvedFilesAreAccepted = (places : ℕ) (file cert : List ℕ) → AcceptsSolvedFile places file cert
