-- The certificate of a script's checks: its first line, and a section for each check.
use Rattle.std.specs.Prelude.{◌≡◌, ℕ, suc, max, List, [], ◌∷◌, ◌++◌, All, map, flat_map, codes}
use Rattle.std.specs.List.{fold}
use Rattle.qv_words.specs.declared.op.Answer.{Answer}
use Rattle.qv_words.specs.declared.op.Answer.TheVariants as answer
use Rattle.qv_cnf.specs.Listing.{Numbered}
use Rattle.qv_cert.specs.ClauseList.{clause_list}
use Rattle.qv_cert.specs.Section.{Task}
use Rattle.qv_cert.specs.TextLaws.{HasNoLf, bytes_of_lines}
use Rattle.qv_cert.specs.Shown.{IsSection, last_list}
use Rattle.qv_check_laws.specs.AnswerLaws.{task_of}
use Rattle.qv_sexpr.specs.Script.{reads}
use Rattle.qv_script_defs.specs.State.{Last, Sat, Unsat, Unknown, opening}
use Rattle.qv_check_laws.specs.Verdict.{Verdict, AcceptedSection, Ending, IsAccepted, ScriptFault, IsRefused, verdict}
use Rattle.qv_check_defs.specs.Beside.{beside}
use Rattle.qv_script_transcript.specs.Following.{CheckSat}

-- a check with the lines of its section, each without its LF
pub record Certified : Type 0 where
  pub check : CheckSat
  pub lines : List (List ℕ)

abbrev pub checks_of : List Certified → List CheckSat
checks_of cs = map (λ c. c.check) cs

abbrev pub word_of : Last → Answer
word_of (Sat values) = answer.Sat
word_of Unsat = answer.Unsat
word_of (Unknown spent) = answer.Unknown

-- the greatest variable of clauses
abbrev pub greatest_variable : List Numbered → ℕ
greatest_variable clauses = fold (λ n c. fold (λ m l. max m l.variable) n c.lits) 0 clauses

-- the greatest variable of the clauses that a section refutes; an unknown one refutes none
abbrev pub variables_of : (task : Task) (answer : Answer) (texts : List (List ℕ)) → IsSection task answer texts → ℕ
variables_of task answer.Sat texts proof = greatest_variable (clause_list (last_list task.problem answer.Sat proof.given proof.passes))
variables_of task answer.Unsat texts proof = greatest_variable (clause_list (last_list task.problem answer.Unsat proof.given proof.passes))
variables_of task answer.Unknown texts read = 0

-- the lines are a section of the answer, for the check-sat of this number, and the check counts its
-- variables
pub record IsCertified (number : ℕ) (c : Certified) : Type 0 where
  pub section : IsSection (task_of c.check.formulas number 2) (word_of c.check.answer) c.lines
  pub apart : All HasNoLf c.lines
  pub counted : c.check.counts.variables ≡ variables_of (task_of c.check.formulas number 2) (word_of c.check.answer) c.lines section

-- numbered one after the other
abbrev pub AreCertified : ℕ → List Certified → Type 0
AreCertified number [] = Unit {0}
AreCertified number (c ∷ cs) = IsCertified number c × AreCertified (suc number) cs

abbrev pub header_line : List ℕ
header_line = codes "qbv-cert 2"

abbrev pub sections : List Certified → List (List ℕ)
sections cs = flat_map (λ c. c.lines) cs

-- the bytes of the certificate
abbrev pub certificate : List Certified → List ℕ
certificate cs = bytes_of_lines (header_line ∷ sections cs)

-- ---- its verdict

abbrev pub verdict_beside : (places : ℕ) (script cert : List ℕ) → Verdict (List ℕ)
verdict_beside places script cert = verdict (beside places opening (reads script)) cert

-- a section as a verdict names it
abbrev pub accepted : Certified → AcceptedSection
accepted c = record { answer = word_of c.check.answer; lines = c.lines }

-- A verdict ends as the script does whose output this is: accepted, or at the script's fault, whose
-- line is printed last.
abbrev pub EndsAs : (status : ℕ) (out : List ℕ) → Ending (List ℕ) → Type 0
EndsAs status out IsAccepted = status ≡ 0
EndsAs status out (ScriptFault line) = (status ≡ 1) × ((front : List ℕ) × (out ≡ front ++ line))
EndsAs status out (IsRefused line k) = ⊥

-- Beside the script the certificate is accepted, with these sections; the script prints this and ends
-- with this status.
pub record IsAcceptedBeside (places : ℕ) (script cert : List ℕ) (cs : List Certified) (out : List ℕ) (status : ℕ) : Type 0 where
  pub sections_are : (verdict_beside places script cert).sections ≡ map accepted cs
  pub ending : EndsAs status out (verdict_beside places script cert).ending
