use Rattle.std.proofs.Common.{◌+◌, ◌≤◌, ℕ, List, drop, length, length-drop, subst, arith}
use Rattle.std.proofs.lemmas.List.{drop-drop}
use Rattle.std.proofs.lemmas.Result.{err_from_is_err_and}
use Rattle.qv_trim.proofs.Lines.{slice-rest}
use Rattle.qv_check_trim.specs.Sections.{BeginsWithAnswer}
use Rattle.qv_check_trim.proofs.Between.{IsBetween, WritesNext, WritesPart, between-start, between-on, between-cut}
use Rattle.qv_check_trim.proofs.sections.write_sections.Goals as goal

pub answers-init : goal.answers-init
answers-init g c = record {
  between = λ sections behind st f. between-start sections c.args.text.now behind c.args.printed.now st (g.P.Sink.held c.args.out.now);
  within = omega arith;
  at_within = omega arith;
  count = omega arith;
}

pub answers-preserved : goal.answers-preserved
answers-preserved g c =
    let held = g.P.Sink.held in
    let i = c.answers.invariant in
    let text = c.args.text.now in
    let printed = c.args.printed.now in
    let from = c.answers.from in
    let at = c.answers.at in
    let bytes = c.in_ok-from.field-0 in
    let size = c.in-Some.size in
    let old = held c.args.out.now in
    let now = held c.answers.out in
    let new = held c.write_section.new.out in
    let prints : BeginsWithAnswer (drop at printed) size = subst (λ (t : List ℕ). BeginsWithAnswer t size) (slice-rest printed at) c.in-Some.ensures in
    let writes : WritesNext (drop from text) bytes now new = subst (λ (t : List ℕ). WritesNext t bytes now new) (slice-rest text from) c.in_ok-from.ensures.ok in
    let few : bytes ≤ length (drop from text) = subst (λ (t : List ℕ). bytes ≤ length t) (slice-rest text from) c.in_ok-from.ensures.within in
    let long = length-drop from text in
    let left = length-drop at printed in
    let within = prints.within in
    record {
      between = λ sections behind st f.
          subst (λ (t : List ℕ). IsBetween sections behind printed t (drop (at + size) printed) old new) (drop-drop bytes from text)
          (subst (λ (t : List ℕ). IsBetween sections behind printed (drop bytes (drop from text)) t old new) (drop-drop size at printed)
          (between-on sections text behind printed st old (drop from text) (drop at printed) now (i.between sections behind st f) f size prints bytes new writes));
      within = omega (arith, i.within, few, long);
      at_within = omega (arith, i.at_within, within, left);
      count = omega (arith, i.count, c.write_section.ensures.count);
    }

pub returns-in_err-from-clause-err : goal.returns-in_err-from-clause-err
returns-in_err-from-clause-err g c =
    let held = g.P.Sink.held in
    let i = c.answers.invariant in
    let text = c.args.text.now in
    let printed = c.args.printed.now in
    let now = held c.answers.out in
    let new = held c.write_section.new.out in
    let prints : BeginsWithAnswer (drop c.answers.at printed) c.in-Some.size = subst (λ (t : List ℕ). BeginsWithAnswer t c.in-Some.size) (slice-rest printed c.answers.at) c.in-Some.ensures in
    let writes : WritesPart (drop c.answers.from text) now new = subst (λ (t : List ℕ). WritesPart t now new) (slice-rest text c.answers.from) c.in_err-from.ensures.err in
    let p = err_from_is_err_and c.from_residual.result c.from_residual.ensures.1 in
    rw p.1
    (λ sections behind st f. between-cut sections text behind printed st (held c.args.out.now) (drop c.answers.from text) (drop c.answers.at printed) now (i.between sections behind st f) f c.in-Some.size prints new writes)
