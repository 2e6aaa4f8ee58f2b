-- The clause lists that the sections of a certificate refute, as texts in the DIMACS format.
use Rattle.std.specs.Prelude.{ℕ, suc, List, [], ◌∷◌, ◌++◌, length, max, flat_map, codes, Ok}
use Rattle.std.specs.Fmt.{decimal}
use Rattle.qv_words.specs.declared.op.Answer.{Answer}
use Rattle.qv_words.specs.declared.op.Answer.TheVariants.{Sat, Unsat, Unknown}
use Rattle.qv_cnf.specs.Literal.{Literal}
use Rattle.qv_lrat_text.specs.Spelling.{literal_text}
use Rattle.qv_cert.specs.Line.{Header}
use Rattle.qv_cert.specs.Grammar.{Reading}
use Rattle.qv_cert.specs.Text.{text_of, first_line}
use Rattle.qv_cert.specs.Section.{Task}
use Rattle.qv_sexpr.specs.Script.{reads}
use Rattle.qv_script_defs.specs.State.{opening}
use Rattle.qv_check_laws.specs.Verdict.{Script, Asks, Stops, Ends, AcceptedSection, Verdict}
use Rattle.qv_check_defs.specs.Beside.{beside}
use Rattle.qv_check_defs.specs.Outcome.{answer_line, ending_text}
use Rattle.qv_script_transcript.specs.Certificates.{verdict_beside}
use Rattle.qv_check_lines.specs.Refuted.{refuted_in}

-- ---- clauses as a text

-- the literals of a clause, and 0
abbrev pub clause_text : List Literal → List ℕ
clause_text lits = flat_map literal_text lits ++ codes "0\n"

-- the greatest variable of clauses
abbrev pub greatest_in : List Literal → ℕ
greatest_in [] = 0
greatest_in (l ∷ ls) = max l.variable (greatest_in ls)

abbrev pub greatest : List (List Literal) → ℕ
greatest [] = 0
greatest (lits ∷ clauses) = max (greatest_in lits) (greatest clauses)

-- the problem line, and a line for each clause
abbrev pub dimacs_text : List (List Literal) → List ℕ
dimacs_text clauses =
    codes "p cnf " ++ (decimal (greatest clauses) ++ (codes " " ++ (decimal (length clauses) ++ (codes "\n" ++ flat_map clause_text clauses))))

-- ---- the text beside a script

-- a comment with the check's number and its answer; behind it the clauses, which an unknown section
-- doesn't have
abbrev pub clauses_behind : Task → Answer → List (List ℕ) → List ℕ
clauses_behind task Sat lines = dimacs_text (refuted_in task lines)
clauses_behind task Unsat lines = dimacs_text (refuted_in task lines)
clauses_behind task Unknown lines = []

abbrev pub section_text : Task → AcceptedSection → List ℕ
section_text task s = codes "c check " ++ (decimal task.number ++ (codes " " ++ (answer_line s.answer ++ clauses_behind task s.answer s.lines)))

-- those of accepted sections, for the check-sats that the script comes to by the answers before
abbrev pub sections_text : {F : Type 0} → (version number : ℕ) → Script F → List AcceptedSection → List ℕ
sections_text version number script [] = []
sections_text version number (Asks p next) (s ∷ ss) =
    section_text (record { problem = p; number = number; version = version }) s ++ sections_text version (suc number) (next s.answer) ss
sections_text version number (Stops fault) (s ∷ ss) = []
sections_text version number Ends (s ∷ ss) = []

-- the version that a certificate's first line names
abbrev pub version_read : Reading → ℕ
version_read (Ok (Header version)) = version
version_read _ = 0

abbrev pub version_among : List (List ℕ) → ℕ
version_among [] = 0
version_among (line ∷ lines) = version_read (first_line line)

-- what a verdict leaves to be written from a check-sat of this number on: its sections, and in a comment
-- behind them how it ends
abbrev pub text_from : (version number : ℕ) → Script (List ℕ) → Verdict (List ℕ) → List ℕ
text_from version number script v = sections_text version number script v.sections ++ (codes "c " ++ ending_text v.ending)

-- the text of a certificate beside its script
abbrev pub clauses_text : (places : ℕ) (script cert : List ℕ) → List ℕ
clauses_text places script cert =
    text_from (version_among (text_of cert).lines) 1 (beside places opening (reads script)) (verdict_beside places script cert)
