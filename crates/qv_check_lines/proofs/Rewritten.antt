-- What a line behind the nodes of a section makes of it.
use Rattle.std.proofs.Common.{◌≡◌, ℕ, suc, true, false, Option, List, [], refl, sym, subst, append-nil}
use Rattle.std.specs.Prelude.{Result, Ok, Err, IfOk, IfErr}
use Rattle.qv_words.specs.declared.op.Answer.{Answer}
use Rattle.qv_words.specs.Tree.{Tree}
use Rattle.qv_cnf.specs.Refutation.{Standing}
use Rattle.qv_store.specs.Stores.{Grows}
use Rattle.qv_store.proofs.Replacement.{grows-more}
use Rattle.qv_cert.specs.declared.kind.RefusalKind.{RefusalKind}
use Rattle.qv_cert.specs.declared.kind.RefusalKind.TheVariants as kind
use Rattle.qv_cert.specs.declared.line.Line.{Line}
use Rattle.qv_cert.specs.LineView.{cert_line_of}
use Rattle.qv_cert.specs.Text.{Text}
use Rattle.qv_cert.specs.Section.{Task, State, Rewriting, fault_at, is_refuting}
use Rattle.qv_check_lines.specs.declared.verdict.Verdict.{Verdict}
use Rattle.qv_check_lines.specs.declared.verdict.Verdict.TheVariants.{Accepted, Refused, PrefixLimit, ReadFault, ReadLimit, NoMemory}
use Rattle.qv_check_lines.specs.Judging.{ComesTo, IsVerdictFrom, IsNextLine, kind_at}
use Rattle.qv_check_lines.specs.Refusing.{IsRefusal}
use Rattle.qv_check_lines.specs.Rewriting.{IsLed, state_with}
use Rattle.qv_check_lines.proofs.Judged.{comes-further, comes-on, is-refused, no-memory}

-- ---- by the answer for the line

pub rule-kind : (task : Task) (answer : Answer) (formulas : List Tree) (k : RefusalKind) → fault_at task (Rewriting answer formulas) k ≡ kind_at false true k
rule-kind task answer formulas kind.Operator = refl
rule-kind task answer formulas kind.Literal = refl
rule-kind task answer formulas kind.Rule = refl
rule-kind task answer formulas k = refl

pub is-refusal : (task : Task) (s : State) (given now number : ℕ) (before after left : Option Text) (line : Line) (verdict : Verdict) → number ≡ suc given → is_refuting s ≡ false → IsNextLine false before line after
    → IsRefusal task s (cert_line_of line) number verdict → IsVerdictFrom task s given before now left verdict
is-refusal task s given now number before after left line (Refused n k) count outside next h =
    subst (λ (m : ℕ). IsVerdictFrom task s given before now left (Refused m k)) (sym h.0) (is-refused task s given now number false before after left line k count outside next h.1)
is-refusal task s given now number before after left line (Accepted a) count outside next h = absurd h
is-refusal task s given now number before after left line PrefixLimit count outside next h = absurd h
is-refusal task s given now number before after left line ReadFault count outside next h = absurd h
is-refusal task s given now number before after left line ReadLimit count outside next h = absurd h
is-refusal task s given now number before after left line NoMemory count outside next h = no-memory task s given before now left

pub line-goes : (old new : List Tree) (line : Line) (given later number : ℕ) (before after : Option Text) (r : Result (Option Standing) Verdict) → later ≡ suc given → IsNextLine false before line after
    → ((task : Task) (answer : Answer) → IsLed task (Rewriting answer old) answer (cert_line_of line) number r new)
    → IfOk r (λ found. (task : Task) (answer : Answer) → ComesTo task (Rewriting answer old) given before (state_with answer found new) later after)
line-goes old new line given later number before after (Ok found) count next h =
    λ task answer. comes-on task (Rewriting answer old) (state_with answer found new) given later before after line count refl next (h task answer)
line-goes old new line given later number before after (Err v) count next h = tt

pub line-fails : (old new : List Tree) (line : Line) (given now number : ℕ) (before after left : Option Text) (r : Result (Option Standing) Verdict) → number ≡ suc given → IsNextLine false before line after
    → ((task : Task) (answer : Answer) → IsLed task (Rewriting answer old) answer (cert_line_of line) number r new)
    → IfErr r (λ verdict. (task : Task) (answer : Answer) → IsVerdictFrom task (Rewriting answer old) given before now left verdict)
line-fails old new line given now number before after left (Ok found) count next h = tt
line-fails old new line given now number before after left (Err v) count next h = λ task answer. is-refusal task (Rewriting answer old) given now number before after left line v count refl next (h task answer)

-- ---- stores

pub grows_none : (trees : List Tree) → Grows trees trees
grows_none trees = record { more = []; behind = sym (append-nil trees) }

pub grows_on : (a b c : List Tree) → Grows a b → Grows b c → Grows a c
grows_on a b c f g = grows-more a b c f g

-- ---- further lines

pub led-further : (task : Task) (answer : Answer) (first here new : List Tree) (given middle later : ℕ) (old between left : Option Text) (found is : Option Standing) → found ≡ is → ComesTo task (Rewriting answer first) given old (Rewriting answer here) middle between
    → ComesTo task (Rewriting answer here) middle between (state_with answer found new) later left → ComesTo task (Rewriting answer first) given old (state_with answer is new) later left
led-further task answer first here new given middle later old between left found is e f g =
    subst (λ (x : Option Standing). ComesTo task (Rewriting answer first) given old (state_with answer x new) later left) e
    (comes-further task (Rewriting answer first) (Rewriting answer here) (state_with answer found new) given middle later old between left f g)
