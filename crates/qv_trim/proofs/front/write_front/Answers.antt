use Rattle.std.proofs.Common.{arith, sym, ◌∙◌}
use Rattle.std.proofs.lemmas.Result.{err_from_is_err_and}
use Rattle.qv_cert.specs.LineView.{cert_line_of}
use Rattle.qv_trim.proofs.Written.{front-more, front-last, front-part, front-cut, front-open}
use Rattle.qv_trim.proofs.front.write_front.Goals as goal

pub returns-in_err-found-clause-err : goal.returns-in_err-found-clause-err
returns-in_err-found-clause-err g c =
    let held = g.O.Sink.held in
    let p = err_from_is_err_and c.from_residual.result c.from_residual.ensures.1 in
    rw p.1 (λ lines rest proves b f. front-cut c.args.text.now lines rest proves c.lines.at (held c.args.out.now) (held c.lines.out) (c.lines.invariant.told lines rest proves b f))

pub returns-in_default-clause-ok : goal.returns-in_default-clause-ok
returns-in_default-clause-ok g c lines rest proves b f =
    absurd (front-open c.args.text.now lines rest proves c.lines.at (g.O.Sink.held c.args.out.now) (g.O.Sink.held c.lines.out) (rw c.in_default.is at c.in_ok-found.ensures) (c.lines.invariant.told lines rest proves b f))

pub returns-in_err-write_line-clause-err : goal.returns-in_err-write_line-clause-err
returns-in_err-write_line-clause-err g c =
    let held = g.O.Sink.held in
    let found = rw c.in-Some.is at c.in_ok-found.ensures in
    let p = err_from_is_err_and c.from_residual-in_err-write_line.result c.from_residual-in_err-write_line.ensures.1 in
    rw p.1
    (λ lines rest proves b f. front-part c.args.text.now lines rest proves c.lines.at c.in-Some.found.behind (held c.args.out.now) (held c.lines.out) (held c.write_line.new.out) (cert_line_of c.in-Some.found.line) found.0
    (c.lines.invariant.told lines rest proves b f) c.in_err-write_line.ensures.err)

pub returns-in-Some-last_of-clause-ok : goal.returns-in-Some-last_of-clause-ok
returns-in-Some-last_of-clause-ok g c lines rest proves b f =
    let held = g.O.Sink.held in
    let found = rw c.in-Some.is at c.in_ok-found.ensures in
    front-last c.args.text.now lines rest proves c.lines.at c.in-Some.found.behind (held c.args.out.now) (held c.lines.out) (held c.write_line.new.out) (cert_line_of c.in-Some.found.line) c.in-Some-last_of.proves found.0
    (c.lines.invariant.told lines rest proves b f) c.in_ok-write_line.ensures.ok (sym c.last_of.ensures ∙ c.in-Some-last_of.is)

pub lines-preserved : goal.lines-preserved
lines-preserved g c =
    let held = g.O.Sink.held in
    let found = rw c.in-Some.is at c.in_ok-found.ensures in
    record {
      told = λ lines rest proves b f.
          front-more c.args.text.now lines rest proves c.lines.at c.in-Some.found.behind (held c.args.out.now) (held c.lines.out) (held c.write_line.new.out) (cert_line_of c.in-Some.found.line) found.0
          (c.lines.invariant.told lines rest proves b f) c.in_ok-write_line.ensures.ok (sym c.last_of.ensures ∙ c.in_default-last_of.is);
      within = found.0.within;
      count = omega (arith, c.lines.invariant.count, c.in_ok-write_line.ensures.count);
    }

pub lines-preserved-in_default-last_of : goal.lines-preserved-in_default-last_of
lines-preserved-in_default-last_of g c =
    let held = g.O.Sink.held in
    let found = rw c.in-Some.is at c.in_ok-found.ensures in
    record {
      told = λ lines rest proves b f.
          front-more c.args.text.now lines rest proves c.lines.at c.in-Some.found.behind (held c.args.out.now) (held c.lines.out) (held c.write_line.new.out) (cert_line_of c.in-Some.found.line) found.0
          (c.lines.invariant.told lines rest proves b f) c.in_ok-write_line.ensures.ok (sym c.last_of.ensures ∙ c.in_default-last_of.is);
      within = found.0.within;
      count = omega (arith, c.lines.invariant.count, c.in_ok-write_line.ensures.count);
    }

pub lines-preserved-in_default-last_of-2 : goal.lines-preserved-in_default-last_of-2
lines-preserved-in_default-last_of-2 g c =
    let held = g.O.Sink.held in
    let found = rw c.in-Some.is at c.in_ok-found.ensures in
    record {
      told = λ lines rest proves b f.
          front-more c.args.text.now lines rest proves c.lines.at c.in-Some.found.behind (held c.args.out.now) (held c.lines.out) (held c.write_line.new.out) (cert_line_of c.in-Some.found.line) found.0
          (c.lines.invariant.told lines rest proves b f) c.in_ok-write_line.ensures.ok (sym c.last_of.ensures ∙ c.in_default-last_of.is);
      within = found.0.within;
      count = omega (arith, c.lines.invariant.count, c.in_ok-write_line.ensures.count);
    }

pub lines-preserved-in_default-last_of-3 : goal.lines-preserved-in_default-last_of-3
lines-preserved-in_default-last_of-3 g c =
    let held = g.O.Sink.held in
    let found = rw c.in-Some.is at c.in_ok-found.ensures in
    record {
      told = λ lines rest proves b f.
          front-more c.args.text.now lines rest proves c.lines.at c.in-Some.found.behind (held c.args.out.now) (held c.lines.out) (held c.write_line.new.out) (cert_line_of c.in-Some.found.line) found.0
          (c.lines.invariant.told lines rest proves b f) c.in_ok-write_line.ensures.ok (sym c.last_of.ensures ∙ c.in_default-last_of.is);
      within = found.0.within;
      count = omega (arith, c.lines.invariant.count, c.in_ok-write_line.ensures.count);
    }
