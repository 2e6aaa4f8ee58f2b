use Rattle.std.proofs.Common.{Bool, List, sym, subst}
use Rattle.std.proofs.lemmas.Result.{err_from_is_err_and}
use Rattle.qv_io.specs.Sink.{Appends}
use Rattle.qv_cnf.specs.LratLine.{LratLine}
use Rattle.qv_trim.specs.Entries.{AreEntries}
use Rattle.qv_trim.specs.declared.entries.Entry.{Entry}
use Rattle.qv_trim.specs.Needed.{up_to_empty}
use Rattle.qv_trim.specs.Sections.{AppendsFront}
use Rattle.qv_trim.specs.Writing.{kept_by, steps_text}
use Rattle.qv_trim.proofs.Kept.{trimmed_are_one}
use Rattle.qv_trim.proofs.Trims.{kept-is_trimmed}
use Rattle.qv_trim.proofs.trimming.write_refutation.Goals as goal

pub returns-clause-ok : goal.returns-clause-ok
returns-clause-ok g c live lines rest b none refutes =
    let held = g.O.Sink.held in
    let text = c.args.text.now in
    let marks = c.in_ok-marks.marks.items in
    let noted = c.in_ok-end.ensures lines rest b none in
    let are = subst (λ (es : List Entry). AreEntries text (up_to_empty lines) es) (sym c.deref.ensures.value) noted.0 in (
      noted.1,
      (
        kept_by marks lines,
        kept-is_trimmed text live lines c.deref.result.now marks refutes are (c.in_ok-marks.ensures live lines refutes are),
        subst (λ (ms : List Bool). Appends (held c.args.out.now) (held c.write_steps.new.out) (steps_text (kept_by ms lines))) c.deref-2.ensures.value (c.in_ok-write_steps.ensures.ok lines rest b none),
      ),
    )

pub returns-in_err-write_steps-clause-err : goal.returns-in_err-write_steps-clause-err
returns-in_err-write_steps-clause-err g c =
    let held = g.O.Sink.held in
    let text = c.args.text.now in
    let marks = c.in_ok-marks.marks.items in
    let p = err_from_is_err_and c.from_residual-in_err-write_steps.result c.from_residual-in_err-write_steps.ensures.1 in
    rw p.1
    (λ live lines kept rest b none refutes t.
    (let noted = c.in_ok-end.ensures lines rest b none in
    let are = subst (λ (es : List Entry). AreEntries text (up_to_empty lines) es) (sym c.deref.ensures.value) noted.0 in
    let own = kept-is_trimmed text live lines c.deref.result.now marks refutes are (c.in_ok-marks.ensures live lines refutes are) in
    let part = subst (λ (ms : List Bool). AppendsFront (held c.args.out.now) (held c.write_steps.new.out) (steps_text (kept_by ms lines))) c.deref-2.ensures.value (c.in_err-write_steps.ensures.err lines rest b none) in
    subst (λ (ls : List LratLine). AppendsFront (held c.args.out.now) (held c.write_steps.new.out) (steps_text ls)) (trimmed_are_one lines (kept_by marks lines) kept own t) part))
