use Rattle.std.proofs.Common.{arith}
use Rattle.std.proofs.lemmas.Result.{err_from_is_err_and}
use Rattle.qv_cnf.specs.LratLine.{line_of}
use Rattle.qv_trim.proofs.Written.{steps-more, steps-part, steps-end}
use Rattle.qv_trim.proofs.writing.write_steps.Goals as goal

pub lines-preserved : goal.lines-preserved
lines-preserved g c =
    let held = g.O.Sink.held in
    let found = rw c.in-Some.is at c.in_ok-found.ensures in
    record {
      told = λ lines rest b none.
          steps-more c.args.text.now c.args.marks.now lines rest c.lines.at c.in-Some.found.behind c.lines.nth c.next_mark-nth.result (held c.args.out.now) (held c.lines.out) (held c.write_kept.new.out) (line_of c.in-Some.found.step) none
          c.lines-test.true found.0 c.next_mark-nth.ensures (c.lines.invariant.told lines rest b none) c.in_ok-write_kept.ensures.ok;
      count = omega (arith, c.lines.invariant.count, c.in_ok-write_kept.ensures.count);
    }

pub returns-in_default-clause-ok : goal.returns-in_default-clause-ok
returns-in_default-clause-ok g c = λ lines rest b none.
    steps-end c.args.text.now c.args.marks.now lines rest c.lines.at c.lines.nth (g.O.Sink.held c.args.out.now) (g.O.Sink.held c.lines.out) (rw c.in_default.is at c.in_ok-found.ensures) (c.lines.invariant.told lines rest b none)

pub returns-in_err-write_kept-clause-err : goal.returns-in_err-write_kept-clause-err
returns-in_err-write_kept-clause-err g c =
    let held = g.O.Sink.held in
    let found = rw c.in-Some.is at c.in_ok-found.ensures in
    let p = err_from_is_err_and c.from_residual-in_err-write_kept.result c.from_residual-in_err-write_kept.ensures.1 in
    rw p.1
    (λ lines rest b none. steps-part c.args.text.now c.args.marks.now lines rest c.lines.at c.in-Some.found.behind c.lines.nth (held c.args.out.now) (held c.lines.out) (held c.write_kept.new.out) (line_of c.in-Some.found.step) none
    c.lines-test.true found.0 (c.lines.invariant.told lines rest b none) c.in_err-write_kept.ensures.err)
