-- How the judgement of a proof beside a CNF text is answered.
use Rattle.std.specs.Prelude.{◌≡◌, ℕ, ◌+◌, Option, Some, None, List, ◌∷◌}
use Rattle.qv_cert.specs.declared.kind.RefusalKind.{RefusalKind}
use Rattle.qv_check_laws.specs.Verdict.{IsAccepted, IsRefused}
use Rattle.qv_check_script.specs.declared.ending.Ending.{Ending}
use Rattle.qv_check_script.specs.declared.ending.Ending.TheVariants as ending
use Rattle.qv_check_script.specs.declared.ending.Halt.{Halt}
use Rattle.qv_check_script.specs.declared.ending.Halt.TheVariants as halt
use Rattle.qv_cert.specs.declared.answers.Stop.{Stop}
use Rattle.qv_cert.specs.declared.answers.Stop.TheVariants as stop
use Rattle.qv_cnf.specs.LratLine.{LratLine}
use Rattle.qv_cnf.specs.Refutation.{Standing}
use Rattle.qv_lrat.specs.declared.judging.Judged.{Judged as Answer}
use Rattle.qv_lrat.specs.declared.judging.Judged.TheVariants.{Accepted, Refused}
use Rattle.qv_lrat.specs.declared.checking.Checked.{Checked}
use Rattle.qv_lrat.specs.declared.checking.Checked.TheVariants as checked
use Rattle.qv_lrat.specs.Verdict.{Judged, by_line, faulty, judged_lines}

-- ---- a line

-- the judgement goes on from a new standing, or the line is refused by this kind
abbrev pub IsTaken : Standing → Option LratLine → Option RefusalKind → Standing → Type 0
IsTaken old line None new = (n : ℕ) (goes_on : Standing → Judged) → by_line n old line goes_on ≡ goes_on new
IsTaken old line (Some k) new = (n : ℕ) (goes_on : Standing → Judged) → by_line n old line goes_on ≡ IsRefused n k

-- the judgement that an answer says
abbrev pub judgement_of : Answer → Judged
judgement_of Accepted = IsAccepted
judgement_of (Refused line k) = IsRefused line k

-- the judgement of lines, of which the first has this number, is that of the others from a new
-- standing on, or this
abbrev pub IsTurn : ℕ → Standing → List ℕ → Option Answer → Standing → Type 0
IsTurn n old text None new = (texts : List (List ℕ)) → judged_lines old n (text ∷ texts) ≡ judged_lines new (n + 1) texts
IsTurn n old text (Some answer) new = (texts : List (List ℕ)) → judged_lines old n (text ∷ texts) ≡ judgement_of answer

-- why a check stops where no line was taken
abbrev pub halt_of : Stop → Halt
halt_of stop.ReadFault = halt.Read
halt_of stop.ReadLimit = halt.ReadLimit
halt_of stop.NoMemory = halt.NoMemory
halt_of stop.End = halt.NoMemory
halt_of (stop.Fault k) = halt.NoMemory

-- ---- the whole

abbrev pub verdict_of : Checked → Judged
verdict_of (checked.Faulty place k) = faulty place k
verdict_of (checked.Judged answer) = judgement_of answer

-- the text has a fault
abbrev pub OnFault : Checked → Type 0 → Type 0
OnFault (checked.Faulty place k) P = P
OnFault (checked.Judged answer) P = Unit {0}

abbrev pub ending_of_judged : Answer → Ending
ending_of_judged Accepted = ending.Accepted
ending_of_judged (Refused line k) = ending.Refused

abbrev pub ending_of : Checked → Ending
ending_of (checked.Faulty place k) = ending.Faulty
ending_of (checked.Judged answer) = ending_of_judged answer
