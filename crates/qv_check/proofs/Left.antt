-- How a section leaves its nodes.
use Rattle.std.proofs.Common.{◌≡◌, ℕ, Bool, true, false, not, Option, None, Some, List, [], ◌∷◌, refl, sym, ap, subst, ◌∙◌}
use Rattle.std.specs.Prelude.{Result, Ok, Err, IfOk, IfErr}
use Rattle.qv_words.specs.declared.op.Answer.{Answer}
use Rattle.qv_words.specs.declared.op.Answer.TheVariants.{Sat, Unsat, Unknown}
use Rattle.qv_words.specs.Tree.{Tree}
use Rattle.qv_words.specs.Problem.{Problem}
use Rattle.qv_cert.specs.declared.kind.RefusalKind.TheVariants as kind
use Rattle.qv_cert.specs.Line.{CertLine, Header, Check, VariableNode, EigenNode, LiteralNode, OperatorNode, Skolem, Instance, Eigen, Rewrite, Lrat, Step, End}
use Rattle.qv_cert.specs.LineView.{cert_line_of}
use Rattle.qv_cert.specs.Text.{Text}
use Rattle.qv_cert.specs.Listed.{Listed as PlainListed, nothing}
use Rattle.qv_cert.specs.Section.{Task, State, Listing, Rewriting, Refuting, Outcome, GoesOn, Refuses, unless, refuting, first_list, is_missing, has_too_many, at_place, is_refuting}
use Rattle.qv_cert.specs.SoFar.{IsSoFar}
use Rattle.qv_cnf.specs.Refutation.{Standing}
use Rattle.qv_cert_formulas.specs.Starts.{MayStart}
use Rattle.qv_check_lines.specs.declared.verdict.Verdict.{Verdict}
use Rattle.qv_check_lines.specs.declared.lines.Numbered.{Numbered}
use Rattle.qv_check_lines.specs.Judging.{ComesTo, IsFor, IsVerdictFrom}
use Rattle.qv_check.specs.Nodes.{ends_nodes, fits_version, LeadsAlong}
use Rattle.qv_check_lines.specs.Refusing.{IsRefusal}
use Rattle.qv_check_lines.specs.Rewriting.{state_with}
use Rattle.qv_check_lines.proofs.Judged.{comes-further, comes-on, comes-same}
use Rattle.qv_check_lines.proofs.Rewritten.{is-refusal}
use Rattle.qv_check.proofs.ListedLines.{for-later}

pub may_start : (p : Problem) (answer : Answer) (l : PlainListed) → IsSoFar p answer l → MayStart p answer l
may_start p Sat l h = h.each
may_start p Unsat l h = h.1.lines
may_start p Unknown l h = tt

-- ---- the line behind the nodes

leaving : Task → Answer → PlainListed → CertLine → (fits missing : Bool) → Outcome
leaving task answer l line fits missing = unless ((kind.Form, not fits) ∷ (kind.Missing, missing) ∷ []) (at_place task (Rewriting answer (first_list task.problem answer l)) line)

lrat-same : (missing many : Bool) (o : Outcome) → unless ((kind.Missing, missing) ∷ (kind.Variables, many) ∷ []) o ≡ unless ((kind.Form, not true) ∷ (kind.Missing, missing) ∷ []) (unless ((kind.Variables, many) ∷ []) o)
lrat-same true many o = refl
lrat-same false many o = refl

at-end : (task : Task) (answer : Answer) (l : PlainListed) (line : CertLine) → ends_nodes line ≡ true
    → at_place task (Listing answer l) line ≡ leaving task answer l line (fits_version task.version line) (is_missing task.problem answer l)
unfolding leaving
at-end task answer l (Rewrite p) e = refl
at-end task answer l Lrat e = lrat-same (is_missing task.problem answer l) (has_too_many (first_list task.problem answer l)) (refuting answer (first_list task.problem answer l))
at-end task answer l (Header v) e = absurd cc
at-end task answer l (Check number a) e = absurd cc
at-end task answer l (VariableNode node place) e = absurd cc
at-end task answer l (EigenNode node line) e = absurd cc
at-end task answer l (LiteralNode node s n) e = absurd cc
at-end task answer l (OperatorNode node o children) e = absurd cc
at-end task answer l (Skolem place node) e = absurd cc
at-end task answer l (Instance line parent node) e = absurd cc
at-end task answer l (Eigen line parent) e = absurd cc
at-end task answer l (Step line) e = absurd cc
at-end task answer l End e = absurd cc

pub form_refused : (task : Task) (p : Problem) (version : ℕ) (answer : Answer) (l : PlainListed) (line : CertLine) → IsFor p version task → ends_nodes line ≡ true → fits_version version line ≡ false → at_place task (Listing answer l) line ≡ Refuses kind.Form
unfolding leaving
form_refused task p version answer l line about ends fits =
    at-end task answer l line ends ∙ ap (λ (b : Bool). leaving task answer l line b (is_missing task.problem answer l)) (ap (λ (v : ℕ). fits_version v line) about.version ∙ fits)

-- where the version may have the line
fitting : (task : Task) (p : Problem) (version : ℕ) (answer : Answer) (l : PlainListed) (line : CertLine) (missing : Bool) → IsFor p version task → ends_nodes line ≡ true → fits_version version line ≡ true → is_missing p answer l ≡ missing
    → at_place task (Listing answer l) line ≡ leaving task answer l line true missing
fitting task p version answer l line missing about ends fits is =
    at-end task answer l line ends
    ∙ ap (λ (b : Bool). leaving task answer l line b (is_missing task.problem answer l)) (ap (λ (v : ℕ). fits_version v line) about.version ∙ fits)
    ∙ ap (leaving task answer l line true) (ap (λ (q : Problem). is_missing q answer l) about.problem ∙ is)

pub missing_refused : (task : Task) (p : Problem) (version : ℕ) (answer : Answer) (l : PlainListed) (line : CertLine) → IsFor p version task → ends_nodes line ≡ true → fits_version version line ≡ true → is_missing p answer l ≡ true
    → at_place task (Listing answer l) line ≡ Refuses kind.Missing
unfolding leaving
missing_refused task p version answer l line about ends fits is = fitting task p version answer l line true about ends fits is

pub list_started : (task : Task) (p : Problem) (version : ℕ) (answer : Answer) (l : PlainListed) (line : CertLine) (formulas : List Tree) → IsFor p version task → ends_nodes line ≡ true → fits_version version line ≡ true → is_missing p answer l ≡ false
    → formulas ≡ first_list p answer l → at_place task (Listing answer l) line ≡ at_place task (Rewriting answer formulas) line
unfolding leaving
list_started task p version answer l line formulas about ends fits is list =
    fitting task p version answer l line false about ends fits is
    ∙ ap (λ (fs : List Tree). at_place task (Rewriting answer fs) line) (ap (λ (q : Problem). first_list q answer l) about.problem ∙ sym list)

-- ---- along that line

pub along-same : (task : Task) (s t u : State) (given : ℕ) (old new : Option Text) (next : Numbered) → is_refuting t ≡ false → is_refuting u ≡ false → at_place task t (cert_line_of next.line) ≡ at_place task u (cert_line_of next.line)
    → LeadsAlong task s given old t next new → LeadsAlong task s given old u next new
along-same task s t u given old new next outside later at f = record {
  before = f.before;
  behind = f.behind;
  number_is = f.number_is;
  next_is = f.next_is;
  leads = comes-further task s t u given f.behind f.behind old f.before f.before f.leads (comes-same task t u f.behind f.before new next.line outside later f.next_is at);
}

pub along-goes : (task : Task) (s t u : State) (given later : ℕ) (old new : Option Text) (next : Numbered) → is_refuting t ≡ false → next.number ≡ later → at_place task t (cert_line_of next.line) ≡ GoesOn u
    → LeadsAlong task s given old t next new → ComesTo task s given old u later new
along-goes task s t u given later old new next outside count at f =
    comes-further task s t u given f.behind later old f.before new f.leads (comes-on task t u f.behind later f.before new next.line (sym count ∙ f.number_is) outside f.next_is at)

pub along-ends : (task : Task) (s t : State) (given now : ℕ) (old new left : Option Text) (next : Numbered) (verdict : Verdict) → is_refuting t ≡ false → IsRefusal task t (cert_line_of next.line) next.number verdict
    → LeadsAlong task s given old t next new → IsVerdictFrom task s given old now left verdict
along-ends task s t given now old new left next verdict outside h f =
    f.leads.judged now left verdict (is-refusal task t f.behind now next.number f.before new left next.line verdict f.number_is outside f.next_is h)

-- to further lines of that kind, or to the refutation
pub along-none : (task : Task) (answer : Answer) (before after : List Tree) (s : State) (given later : ℕ) (old new : Option Text) (next : Numbered) (found : Option Standing) → found ≡ None → next.number ≡ later
    → at_place task (Rewriting answer before) (cert_line_of next.line) ≡ GoesOn (state_with answer found after) → LeadsAlong task s given old (Rewriting answer before) next new → ComesTo task s given old (Rewriting answer after) later new
along-none task answer before after s given later old new next found is count at f =
    along-goes task s (Rewriting answer before) (Rewriting answer after) given later old new next refl count (at ∙ ap (λ (x : Option Standing). GoesOn (state_with answer x after)) is) f

pub along-some : (task : Task) (answer : Answer) (before after : List Tree) (s : State) (given later : ℕ) (old new : Option Text) (next : Numbered) (found : Option Standing) (checker : Standing) → found ≡ Some checker → next.number ≡ later
    → at_place task (Rewriting answer before) (cert_line_of next.line) ≡ GoesOn (state_with answer found after) → LeadsAlong task s given old (Rewriting answer before) next new → ComesTo task s given old (Refuting answer checker) later new
along-some task answer before after s given later old new next found checker is count at f =
    along-goes task s (Rewriting answer before) (Refuting answer checker) given later old new next refl count (at ∙ ap (λ (x : Option Standing). GoesOn (state_with answer x after)) is) f

-- ---- from the first node on

pub begun-goes : (task : Task) (p q : Problem) (version later : ℕ) (answer : Answer) (none l : PlainListed) (formulas : List Tree) (given : ℕ) (old new : Option Text) (next : Numbered) → none ≡ nothing → q ≡ p → later ≡ version
    → IsFor p version task → ((t : Task) → IsFor p version t → LeadsAlong t (Listing answer none) given old (Listing answer l) next new)
    → ((t : Task) → IsFor q later t → at_place t (Listing answer l) (cert_line_of next.line) ≡ at_place t (Rewriting answer formulas) (cert_line_of next.line))
    → LeadsAlong task (Listing answer nothing) given old (Rewriting answer formulas) next new
begun-goes task p q version later answer none l formulas given old new next is same stays about f h =
    along-same task (Listing answer nothing) (Listing answer l) (Rewriting answer formulas) given old new next refl refl (h task (for-later p q version later task same stays about))
    (subst (λ (x : PlainListed). LeadsAlong task (Listing answer x) given old (Listing answer l) next new) is (f task about))

pub begun-ends : (task : Task) (p q : Problem) (version later : ℕ) (answer : Answer) (none l : PlainListed) (given now : ℕ) (old new left : Option Text) (next : Numbered) (verdict : Verdict) → none ≡ nothing → q ≡ p → later ≡ version
    → IsFor p version task → ((t : Task) → IsFor p version t → LeadsAlong t (Listing answer none) given old (Listing answer l) next new)
    → ((t : Task) → IsFor q later t → IsRefusal t (Listing answer l) (cert_line_of next.line) next.number verdict)
    → IsVerdictFrom task (Listing answer nothing) given old now left verdict
begun-ends task p q version later answer none l given now old new left next verdict is same stays about f h =
    along-ends task (Listing answer nothing) (Listing answer l) given now old new left next verdict refl (h task (for-later p q version later task same stays about))
    (subst (λ (x : PlainListed). LeadsAlong task (Listing answer x) given old (Listing answer l) next new) is (f task about))

pub begun-fails : (task : Task) (answer : Answer) (none : PlainListed) (given now : ℕ) (old left : Option Text) (verdict : Verdict) → none ≡ nothing → IsVerdictFrom task (Listing answer none) given old now left verdict
    → IsVerdictFrom task (Listing answer nothing) given old now left verdict
begun-fails task answer none given now old left verdict is h = subst (λ (x : PlainListed). IsVerdictFrom task (Listing answer x) given old now left verdict) is h

-- ---- up to the refutation

pub passed-goes : (p : Problem) (version : ℕ) (answer : Answer) (formulas : List Tree) (given middle later : ℕ) (old between new : Option Text) (r : Result Standing Verdict)
    → ((task : Task) → IsFor p version task → ComesTo task (Listing answer nothing) given old (Rewriting answer formulas) middle between)
    → IfOk r (λ checker. (task : Task) (a : Answer) → ComesTo task (Rewriting a formulas) middle between (Refuting a checker) later new)
    → IfOk r (λ checker. (task : Task) → IsFor p version task → ComesTo task (Listing answer nothing) given old (Refuting answer checker) later new)
passed-goes p version answer formulas given middle later old between new (Ok checker) f g =
    λ task about. comes-further task (Listing answer nothing) (Rewriting answer formulas) (Refuting answer checker) given middle later old between new (f task about) (g task answer)
passed-goes p version answer formulas given middle later old between new (Err v) f g = tt

pub passed-fails : (p : Problem) (version : ℕ) (answer : Answer) (formulas : List Tree) (given middle now : ℕ) (old between left : Option Text) (r : Result Standing Verdict)
    → ((task : Task) → IsFor p version task → ComesTo task (Listing answer nothing) given old (Rewriting answer formulas) middle between)
    → IfErr r (λ verdict. (task : Task) (a : Answer) → IsVerdictFrom task (Rewriting a formulas) middle between now left verdict)
    → IfErr r (λ verdict. (task : Task) → IsFor p version task → IsVerdictFrom task (Listing answer nothing) given old now left verdict)
passed-fails p version answer formulas given middle now old between left (Ok checker) f g = tt
passed-fails p version answer formulas given middle now old between left (Err v) f g = λ task about. (f task about).judged now left v (g task answer)
