-- What the first line makes of a section, and the last one of an unknown section.
use Rattle.std.proofs.Common.{◌≡◌, ℕ, ◌+◌, Bool, false, not, ◌==◌, Option, [], ◌∷◌, refl, sym, ap, subst, ◌∙◌, arith}
use Rattle.std.specs.Prelude.{Result, Ok, Err, IfOk, IfErr}
use Rattle.std.proofs.lemmas.Bool.Decides.{nat_tests}
use Rattle.qv_words.specs.declared.op.Answer.{Answer}
use Rattle.qv_cert.specs.declared.kind.RefusalKind.{RefusalKind}
use Rattle.qv_cert.specs.declared.kind.RefusalKind.TheVariants as kind
use Rattle.qv_cert.specs.declared.line.Line.{Line}
use Rattle.qv_cert.specs.Line.{Check}
use Rattle.qv_cert.specs.LineView.{cert_line_of}
use Rattle.qv_cert.specs.Text.{Text}
use Rattle.qv_cert.specs.Section.{Task, Opening, Closing, Outcome, GoesOn, Refuses, unless, opened, at_place, fault_at}
use Rattle.qv_check_lines.specs.declared.verdict.Verdict.{Verdict}
use Rattle.qv_check_lines.specs.declared.verdict.Verdict.TheVariants.{Accepted, Refused, PrefixLimit, ReadFault, ReadLimit, NoMemory}
use Rattle.qv_check_lines.specs.Judging.{ComesTo, IsVerdictFrom, LeadsTo, IsNextLine, kind_at}
use Rattle.qv_check.specs.Opening.{IsOpened, IsClosed}
use Rattle.qv_check_lines.proofs.Judged.{comes-on, is-accepted}
use Rattle.qv_check_lines.proofs.Rewritten.{is-refusal}
use Rattle.qv_cert.proofs.Pinned.{number-same}

pub opening-kind : (task : Task) (k : RefusalKind) → fault_at task Opening k ≡ kind_at false false k
opening-kind task kind.Operator = refl
opening-kind task kind.Literal = refl
opening-kind task kind.Rule = refl
opening-kind task k = refl

pub closing-kind : (task : Task) (k : RefusalKind) → fault_at task Closing k ≡ kind_at false false k
closing-kind task kind.Operator = refl
closing-kind task kind.Literal = refl
closing-kind task kind.Rule = refl
closing-kind task k = refl

numbered : Answer → Bool → Outcome
numbered answer b = unless ((kind.Section, not b) ∷ []) (GoesOn (opened answer))

other-number : (a b : ℕ) → (a ≡ b → ⊥) → (a == b) ≡ false
other-number a b e = grind (arith, nat_tests)

pub opens : (task : Task) (number found : ℕ) (answer : Answer) → task.number ≡ number → found ≡ number → at_place task Opening (Check found answer) ≡ GoesOn (opened answer)
unfolding numbered
opens task number found answer e is = ap (numbered answer) (number-same found task.number (is ∙ sym e))

pub opens-not : (task : Task) (number found : ℕ) (answer : Answer) → task.number ≡ number → (found ≡ number → ⊥) → at_place task Opening (Check found answer) ≡ Refuses kind.Section
unfolding numbered
opens-not task number found answer e other = ap (numbered answer) (other-number found task.number (λ is. other (is ∙ e)))

pub opened-goes : (wanted given later number : ℕ) (before after : Option Text) (line : Line) (r : Result Answer Verdict) → later ≡ given + 1 → IsNextLine false before line after
    → ((task : Task) → task.number ≡ wanted → IsOpened task (cert_line_of line) number r)
    → IfOk r (λ answer. (task : Task) → task.number ≡ wanted → ComesTo task Opening given before (opened answer) later after)
opened-goes wanted given later number before after line (Ok answer) count next h = λ task e. comes-on task Opening (opened answer) given later before after line (omega (arith, count)) refl next (h task e)
opened-goes wanted given later number before after line (Err v) count next h = tt

pub opened-fails : (wanted given now number : ℕ) (before after left : Option Text) (line : Line) (r : Result Answer Verdict) → number ≡ given + 1 → IsNextLine false before line after
    → ((task : Task) → task.number ≡ wanted → IsOpened task (cert_line_of line) number r)
    → IfErr r (λ verdict. (task : Task) → task.number ≡ wanted → IsVerdictFrom task Opening given before now left verdict)
opened-fails wanted given now number before after left line (Ok answer) count next h = tt
opened-fails wanted given now number before after left line (Err v) count next h = λ task e. is-refusal task Opening given now number before after left line v (omega (arith, count)) refl next (h task e)

pub closed : (task : Task) (given later number : ℕ) (before after : Option Text) (line : Line) (verdict : Verdict) → number ≡ given + 1 → later ≡ given + 1 → IsNextLine false before line after
    → IsClosed task (cert_line_of line) number verdict → IsVerdictFrom task Closing given before later after verdict
closed task given later number before after line (Accepted answer) is count next h = is-accepted task Closing given later false before after line answer (omega (arith, count)) refl next h
closed task given later number before after line (Refused n k) is count next h = is-refusal task Closing given later number before after after line (Refused n k) (omega (arith, is)) refl next h
closed task given later number before after line PrefixLimit is count next h = absurd h
closed task given later number before after line ReadFault is count next h = absurd h
closed task given later number before after line ReadLimit is count next h = absurd h
closed task given later number before after line NoMemory is count next h = is-refusal task Closing given later number before after after line NoMemory (omega (arith, is)) refl next h

-- behind the `check` line of this answer
pub opened-comes : (task : Task) (found answer : Answer) (given later : ℕ) (old new : Option Text) → found ≡ answer → ComesTo task Opening given old (opened found) later new → ComesTo task Opening given old (opened answer) later new
opened-comes task found answer given later old new is h = subst (λ (a : Answer). ComesTo task Opening given old (opened a) later new) is h

pub opened-leads : (task : Task) (found answer : Answer) (given later : ℕ) (old new : Option Text) → found ≡ answer → ComesTo task Opening given old (opened found) later new → LeadsTo task Opening given old (opened answer) later new
opened-leads task found answer given later old new is h = (opened-comes task found answer given later old new is h).judged
