-- How a section ends while it is read.
use Rattle.std.specs.Prelude.{◌≡◌, ◌<◌, ℕ, suc, Bool, Option, IfSome, option_map, List, if◌then◌else◌, Ok}
use Rattle.qv_words.specs.Problem.{Problem}
use Rattle.qv_cert.specs.declared.kind.RefusalKind.{RefusalKind}
use Rattle.qv_cert.specs.declared.kind.RefusalKind.TheVariants as kind
use Rattle.qv_cert.specs.declared.line.Line.{Line}
use Rattle.qv_cert.specs.LineView.{cert_line_of}
use Rattle.qv_cert.specs.Grammar.{cert_line}
use Rattle.qv_cert.specs.Text.{Text}
use Rattle.qv_cert.specs.CertReader.{with_line}
use Rattle.qv_cert.specs.Section.{Task, State, Judged, AcceptedUpTo, RefusedAt, judged_from}
use Rattle.qv_cnf.specs.Literal.{Literal}
use Rattle.qv_check_lines.specs.Refuted.{refuted_from}
use Rattle.qv_check_lines.specs.declared.verdict.Verdict.{Verdict}
use Rattle.qv_check_lines.specs.declared.verdict.Verdict.TheVariants.{Accepted, Refused, PrefixLimit, ReadFault, ReadLimit, NoMemory}

-- a judgement is not that of a line among the first so many
abbrev pub ComesBehind : ℕ → Judged → Type 0
ComesBehind given (AcceptedUpTo answer next lines) = suc given < next
ComesBehind given (RefusedAt line k) = given < line

-- a judgement of lines is the verdict: behind an accepted section these lines are left, as many
-- were given, and no other bytes stand behind the last line than did before; a section is refused
-- at this line by this kind. At the byte limit none of the lines that were given is one of the judgement: more
-- was wanted. Of the rest lines say nothing.
abbrev pub Decides : ℕ → (rest : List ℕ) → Option Text → Judged → Verdict → Type 0
Decides given rest left judged (Accepted answer) = IfSome left (λ t. (judged ≡ AcceptedUpTo answer (suc given) t.lines) × (t.rest ≡ rest))
Decides given rest left judged (Refused line k) = judged ≡ RefusedAt line k
Decides given rest left judged PrefixLimit = Unit {0}
Decides given rest left judged ReadFault = Unit {0}
Decides given rest left judged ReadLimit = ComesBehind given judged
Decides given rest left judged NoMemory = Unit {0}

-- from a state on, where the source tells its bytes: the judgement of the lines that were to be
-- given, behind so many, is the verdict
abbrev pub IsVerdictFrom : Task → State → ℕ → Option Text → ℕ → Option Text → Verdict → Type 0
IsVerdictFrom task s given old now left verdict = IfSome old (λ t. Decides now t.rest left (judged_from task s (suc given) t.lines) verdict)

-- so what is judged from the later state on is judged from the earlier one
abbrev pub LeadsTo : Task → State → ℕ → Option Text → State → ℕ → Option Text → Type 0
LeadsTo task s given old t later new =
    (now : ℕ) (left : Option Text) (verdict : Verdict) → IsVerdictFrom task t later new now left verdict → IsVerdictFrom task s given old now left verdict

-- these come to be refuted of the lines that are to be given, from a state on, where they are told
abbrev pub IsRefutedFrom : Task → State → Option Text → List (List Literal) → Type 0
IsRefutedFrom task s text clauses = IfSome text (λ t. refuted_from task s t.lines ≡ clauses)

-- Before the refutation: what is judged from the later state on is judged from the earlier one, and
-- what comes to be refuted is the same.
pub record ComesTo (task : Task) (s : State) (given : ℕ) (old : Option Text) (t : State) (later : ℕ) (new : Option Text) : Type 0 where
  pub judged : LeadsTo task s given old t later new
  pub refuted : (clauses : List (List Literal)) → IsRefutedFrom task t new clauses → IsRefutedFrom task s old clauses

-- the next line was read, in the refutation or outside
abbrev pub IsNextLine : Bool → Option Text → Line → Option Text → Type 0
IsNextLine inner old line new = (text : List ℕ) × (old ≡ option_map (with_line text) new) × (cert_line inner text ≡ Ok (cert_line_of line))

-- the kind of a line's own fault: that of an operator or a literal stands among the nodes alone,
-- and that of a rule where a `w` line may stand
abbrev pub kind_at : (node rule : Bool) → RefusalKind → RefusalKind
kind_at node rule kind.Operator = if node then kind.Operator else kind.Form
kind_at node rule kind.Literal = if node then kind.Literal else kind.Form
kind_at node rule kind.Rule = if rule then kind.Rule else kind.Form
kind_at node rule k = kind.Form

-- about this problem, in a certificate of this version
pub record IsFor (p : Problem) (v : ℕ) (task : Task) : Type 0 where
  pub problem : task.problem ≡ p
  pub version : task.version ≡ v
