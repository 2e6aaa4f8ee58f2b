use Rattle.std.proofs.Common.{refl, sym, ◌∙◌, arith}
use Rattle.std.proofs.lemmas.Result.{err_from_is_err_and}
use Rattle.qv_cert.specs.Lines.{lines_left}
use Rattle.qv_cert.proofs.TakingLemmas.{rose_earlier}
use Rattle.qv_check_script.proofs.Limits.{takes-none, takes-on, limit-on}
use Rattle.qv_lrat.specs.Verdict.{judged_lines}
use Rattle.qv_lrat.proofs.Limits.{same-halt}
use Rattle.qv_lrat.proofs.Turns.{judged-on}
use Rattle.qv_lrat.proofs.judging.judge_lines.Goals as goal

pub lines-init : goal.lines-init
lines-init g c = record {
  judged = refl;
  takes = takes-none g.C.Source.read_gives g.C.Source.left c.args.lines.now.taken c.args.proof.now;
  telling = refl;
  count = omega arith;
}

pub lines-preserved : goal.lines-preserved
lines-preserved g c =
    let i = c.lines.invariant in
    let e = c.in_ok-end.ensures in
    let goes = rw c.in-None.is at e.goes in
    record {
      judged = sym goes ∙ i.judged;
      takes = takes-on g.C.Source.read_gives g.C.Source.left c.args.lines.now.taken c.lines.lines.taken c.judge_line.new.lines.taken c.args.proof.now c.lines.proof c.judge_line.new.proof i.takes e.takes;
      telling = e.telling ∙ i.telling;
      count = omega (arith, i.count, e.count);
    }

pub returns-in-Some-clause-judged : goal.returns-in-Some-clause-judged
returns-in-Some-clause-judged g c =
    let ends = rw c.in-Some.is at c.in_ok-end.ensures.end in
    judged-on (judged_lines c.lines.checker c.lines.number) (judged_lines c.args.checker.now 1) (lines_left c.lines.lines.rest (g.C.Source.left c.lines.proof))
    (lines_left c.args.lines.now.rest (g.C.Source.left c.args.proof.now)) c.in-Some.end c.lines.invariant.judged ends

pub returns-in_err-end-clause-read : goal.returns-in_err-end-clause-read
returns-in_err-end-clause-read g c =
    let p = err_from_is_err_and c.from_residual.result c.from_residual.ensures.1 in
    rw (p.1, p.2)
    (λ failed. rose_earlier (g.C.Source.faults c.args.proof.now) (g.C.Source.faults c.lines.proof) (g.C.Source.faults c.judge_line.new.proof) c.lines.invariant.count c.judge_line.ensures.count (c.in_err-end.ensures.read (same-halt _ _ failed)))

pub returns-in_err-end-clause-limit : goal.returns-in_err-end-clause-limit
returns-in_err-end-clause-limit g c =
    let p = err_from_is_err_and c.from_residual.result c.from_residual.ensures.1 in
    rw (p.1, p.2)
    (λ met. limit-on g.C.Source.read_gives g.C.Source.left c.args.lines.now.taken c.lines.lines.taken c.args.proof.now c.lines.proof c.judge_line.new.proof c.lines.invariant.takes (c.in_err-end.ensures.limit (same-halt _ _ met)))

pub returns-in_err-end-clause-no_write : goal.returns-in_err-end-clause-no_write
returns-in_err-end-clause-no_write g c =
    let p = err_from_is_err_and c.from_residual.result c.from_residual.ensures.1 in
    rw (p.1, p.2) (λ wrote. c.in_err-end.ensures.no_write (same-halt _ _ wrote))
