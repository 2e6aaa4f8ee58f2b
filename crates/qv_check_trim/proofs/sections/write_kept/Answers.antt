use Rattle.std.proofs.lemmas.Result.{err_from_is_err_and}
use Rattle.qv_cert.specs.LineView.{cert_line_of}
use Rattle.qv_check_trim.proofs.Kept.{wrote-headless, cut-first, sections-cut, sections-all, ok-so, err-so}
use Rattle.qv_check_trim.proofs.Standing.{headless-open, headless-line}
use Rattle.qv_check_trim.proofs.sections.write_kept.Goals as goal

pub returns-in_default-clause-ok : goal.returns-in_default-clause-ok
returns-in_default-clause-ok g c = λ places script front.
    wrote-headless script c.args.cert.now c.args.printed.now (g.P.Sink.held c.args.out.now) (headless-open places script c.args.cert.now (rw c.in_default.is at c.split_line.ensures))

pub returns-in_default-2-clause-ok : goal.returns-in_default-2-clause-ok
returns-in_default-2-clause-ok g c = λ places script front.
    wrote-headless script c.args.cert.now c.args.printed.now (g.P.Sink.held c.args.out.now)
    (headless-line places script c.args.cert.now c.in-Some.line.now c.in-Some.behind.now c.in-Some.ensures (rw c.in_default-2.is at c.in_ok-header.ensures))

pub returns-in_err-write_line-clause-err : goal.returns-in_err-write_line-clause-err
returns-in_err-write_line-clause-err g c =
    let held = g.P.Sink.held in
    let header = rw c.in-Some-2.is at c.in_ok-header.ensures in
    let p = err_from_is_err_and c.from_residual-in_err-write_line.result c.from_residual-in_err-write_line.ensures.1 in
    rw p.1
    (λ places script front. cut-first places script c.args.cert.now c.in-Some.line.now c.in-Some.behind.now c.in-Some.ensures (cert_line_of c.in-Some-2.header) header.0 (held c.args.out.now) (held c.write_line.new.out) c.in_err-write_line.ensures.err)

pub returns-clause-ok : goal.returns-clause-ok
returns-clause-ok g c =
    let held = g.P.Sink.held in
    let header = rw c.in-Some-2.is at c.in_ok-header.ensures in
    ok-so c.write_sections.result _ _ c.write_sections.ensures.ok
    (λ wrote places script front. sections-all places script c.args.cert.now c.in-Some.line.now c.in-Some.behind.now c.in-Some.ensures (cert_line_of c.in-Some-2.header) header.0 (held c.args.out.now) (held c.write_line.new.out) c.in_ok-write_line.ensures.ok (held c.write_sections.new.out) c.args.printed.now front wrote)

pub returns-clause-err : goal.returns-clause-err
returns-clause-err g c =
    let held = g.P.Sink.held in
    let header = rw c.in-Some-2.is at c.in_ok-header.ensures in
    err-so c.write_sections.result _ _ c.write_sections.ensures.err
    (λ wrote places script front. sections-cut places script c.args.cert.now c.in-Some.line.now c.in-Some.behind.now c.in-Some.ensures (cert_line_of c.in-Some-2.header) header.0 (held c.args.out.now) (held c.write_line.new.out) c.in_ok-write_line.ensures.ok (held c.write_sections.new.out) c.args.printed.now front wrote)
