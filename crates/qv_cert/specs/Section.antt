-- How a section of a certificate is judged, one line after the other.
use Rattle.std.specs.Prelude.{ℕ, suc, ◌^◌, ◌==◌, nat_lt, Bool, true, false, not, if◌then◌else◌, Option, Some, None, Ok, Err, List, [], ◌∷◌}
use Rattle.qv_words.specs.declared.op.Answer.{Answer}
use Rattle.qv_words.specs.declared.op.Answer.TheVariants.{Sat, Unsat, Unknown}
use Rattle.qv_words.specs.Tree.{Tree}
use Rattle.qv_words.specs.Problem.{Problem}
use Rattle.qv_words.specs.Skolem.{goal_of}
use Rattle.qv_words.specs.Expansion.{leaves_of}
use Rattle.qv_rewrite_passes.specs.Passes.{behind}
use Rattle.qv_cnf.specs.LratLine.{LratLine}
use Rattle.qv_cnf.specs.Refutation.{Judgement, Accepted, OutOfOrder, RatAt, FailsAt, LeftOpen, Standing, standing_at, judged_line, after_line}
use Rattle.qv_cert.specs.declared.kind.RefusalKind.{RefusalKind}
use Rattle.qv_cert.specs.declared.kind.RefusalKind.TheVariants as kind
use Rattle.qv_cert.specs.Line.{CertLine, Check, Rewrite, Lrat, Step, End}
use Rattle.qv_cert.specs.Grammar.{Reading, cert_line}
use Rattle.qv_cert.specs.ClauseList.{clause_list, variables_of}
use Rattle.qv_cert.specs.Listed.{Listed, nothing, listing}
use Rattle.qv_cert.specs.Faults.{Fault, first_fit, faults_of, belongs, lacks_term}

-- what a section is for: the problem of a check-sat, its number, and the certificate's version
pub record Task : Type 0 where
  pub problem : Problem
  pub number : ℕ
  pub version : ℕ

-- where a section stands: before its `check` line, in an unknown section before `end`, among its
-- nodes with what they list, among its `w` lines with the formulas so far, or in the refutation
pub data State : Type 0 where
  Opening : State
  Closing : State
  Listing : (answer : Answer) (l : Listed) → State
  Rewriting : (answer : Answer) (formulas : List Tree) → State
  Refuting : (answer : Answer) (standing : Standing) → State

-- what a line does: the section goes on, is accepted, or is refused
pub data Outcome : Type 0 where
  GoesOn : State → Outcome
  Accepts : Answer → Outcome
  Refuses : RefusalKind → Outcome

-- refused by a kind, or else this
abbrev pub refused_or : Outcome → Option RefusalKind → Outcome
refused_or outcome None = outcome
refused_or outcome (Some k) = Refuses k

-- refused by the first kind that fits, or else this
abbrev pub unless : List Fault → Outcome → Outcome
unless faults outcome = refused_or outcome (first_fit faults)

-- the formulas whose clauses are refuted, before any rewriting
abbrev pub first_list : Problem → Answer → Listed → List Tree
first_list p Sat l = goal_of p l.terms ∷ []
first_list p Unsat l = leaves_of p l.lines
first_list p Unknown l = []

-- a sat section needs a term for each existential place
abbrev pub is_missing : Problem → Answer → Listed → Bool
is_missing p Sat l = lacks_term p l
is_missing p Unsat l = false
is_missing p Unknown l = false

abbrev pub has_too_many : List Tree → Bool
has_too_many formulas = nat_lt (2 ^ 30) (variables_of formulas)

-- the refutation follows
abbrev pub refuting : Answer → List Tree → Outcome
refuting answer formulas = GoesOn (Refuting answer (standing_at (clause_list formulas)))

-- the `check` line
abbrev pub opened : Answer → State
opened Unknown = Closing
opened answer = Listing answer nothing

abbrev pub in_opening : Task → CertLine → Outcome
in_opening task (Check number answer) = unless ((kind.Section, not (number == task.number)) ∷ []) (GoesOn (opened answer))
in_opening task _ = Refuses kind.Form

-- the `end` of an unknown section
abbrev pub in_closing : CertLine → Outcome
in_closing End = Accepts Unknown
in_closing _ = Refuses kind.Form

-- a line that lists, the first `w` line, or `lrat`
abbrev pub in_listing : Task → Answer → Listed → CertLine → Outcome
in_listing task answer l Lrat =
    unless ((kind.Missing, is_missing task.problem answer l)
    ∷ (kind.Variables, has_too_many (first_list task.problem answer l))
    ∷ [])
    (refuting answer (first_list task.problem answer l))
in_listing task answer l (Rewrite p) =
    unless ((kind.Form, not (task.version == 2))
    ∷ (kind.Missing, is_missing task.problem answer l)
    ∷ [])
    (GoesOn (Rewriting answer (behind p (first_list task.problem answer l))))
in_listing task answer l line =
    unless ((kind.Form, not (belongs answer line)) ∷ faults_of task.problem l line)
    (GoesOn (Listing answer (listing task.problem l line)))

-- a further `w` line, or `lrat`
abbrev pub in_rewriting : Answer → List Tree → CertLine → Outcome
in_rewriting answer formulas (Rewrite p) = GoesOn (Rewriting answer (behind p formulas))
in_rewriting answer formulas Lrat = unless ((kind.Variables, has_too_many formulas) ∷ []) (refuting answer formulas)
in_rewriting answer formulas _ = Refuses kind.Form

-- a line of the refutation that is held to its rules
abbrev pub judged_step : Answer → State → Judgement → Outcome
judged_step answer next Accepted = GoesOn next
judged_step answer next OutOfOrder = Refuses kind.Id
judged_step answer next (RatAt position) = Refuses (kind.Rat position)
judged_step answer next (FailsAt position) = Refuses (kind.Hint position)
judged_step answer next LeftOpen = Refuses kind.Open

-- once a clause without literals was accepted, lines are held to the grammar alone
abbrev pub in_step : Answer → Standing → LratLine → Bool → Outcome
in_step answer s line true = GoesOn (Refuting answer s)
in_step answer s line false = judged_step answer (Refuting answer (after_line s line)) (judged_line s line)

-- a line of the refutation, or `end`
abbrev pub in_refuting : Answer → Standing → CertLine → Outcome
in_refuting answer s (Step line) = in_step answer s line s.refuted
in_refuting answer s End = unless ((kind.Refutation, not s.refuted) ∷ []) (Accepts answer)
in_refuting answer s _ = Refuses kind.Form

-- a line at its place
abbrev pub at_place : Task → State → CertLine → Outcome
at_place task Opening line = in_opening task line
at_place task Closing line = in_closing line
at_place task (Listing answer l) line = in_listing task answer l line
at_place task (Rewriting answer formulas) line = in_rewriting answer formulas line
at_place task (Refuting answer s) line = in_refuting answer s line

-- a line with a fault of its own: it has the fault only where such a line may stand
abbrev pub fault_at : Task → State → RefusalKind → RefusalKind
fault_at task (Listing answer l) kind.Operator = kind.Operator
fault_at task (Listing answer l) kind.Literal = kind.Literal
fault_at task (Listing answer l) kind.Rule = if task.version == 2 then kind.Rule else kind.Form
fault_at task (Rewriting answer formulas) kind.Rule = kind.Rule
fault_at task s k = kind.Form

-- whether the next line is one of the refutation
abbrev pub is_refuting : State → Bool
is_refuting (Refuting answer s) = true
is_refuting s = false

-- by what a line is read as
abbrev pub by_reading : Task → State → Reading → Outcome
by_reading task s (Ok line) = at_place task s line
by_reading task s (Err k) = Refuses (fault_at task s k)

-- what the next line's text does
abbrev pub step : Task → State → List ℕ → Outcome
step task s text = by_reading task s (cert_line (is_refuting s) text)

-- how a section ends among lines: it is accepted, with the number of the next line and the lines
-- from there on, or it is refused at a line
pub data Judged : Type 0 where
  AcceptedUpTo : (answer : Answer) (next : ℕ) (lines : List (List ℕ)) → Judged
  RefusedAt : (line : ℕ) (k : RefusalKind) → Judged

-- where the section goes on, the lines behind decide
abbrev pub by_outcome : ℕ → List (List ℕ) → (State → Judged) → Outcome → Judged
by_outcome n lines goes_on (GoesOn s) = goes_on s
by_outcome n lines goes_on (Accepts answer) = AcceptedUpTo answer (suc n) lines
by_outcome n lines goes_on (Refuses k) = RefusedAt n k

-- the judgement of lines, the first of which has this number: where they end before the section
-- does, the next line is missing
unfoldable pub judged_from : Task → State → ℕ → List (List ℕ) → Judged
judged_from task s n [] = RefusedAt n kind.Truncated
judged_from task s n (line ∷ lines) = by_outcome n lines (λ next. judged_from task next (suc n) lines) (step task s line)

-- a section that begins at the line of this number
abbrev pub section_judged : Task → ℕ → List (List ℕ) → Judged
section_judged task n lines = judged_from task Opening n lines
