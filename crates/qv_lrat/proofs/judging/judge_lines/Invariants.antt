use Rattle.std.proofs.Common.{◌≡◌, ◌≤◌}
use Rattle.std.specs.Prelude.{option_map}
use Rattle.qv_io.specs.Source.{TellsAsBefore}
use Rattle.qv_cert.specs.Lines.{lines_left}
use Rattle.qv_check_defs.specs.Limits.{Takes}
use Rattle.qv_lrat.specs.Verdict.{judged_lines}
use Rattle.qv_lrat.proofs.judging.judge_lines.Given as goal

-- the judgement of what is left is that of all
abbrev pub invariant-lines : goal.invariant-lines
invariant-lines g l =
    let source = g.C.Source in
    record {
      judged : option_map (judged_lines l.checker l.number) (lines_left l.lines.rest (source.left l.proof)) ≡ option_map (judged_lines l.fn.checker 1) (lines_left l.fn.lines.rest (source.left l.fn.proof));
      takes : Takes source.read_gives source.left l.fn.lines.taken l.fn.proof l.lines.taken l.proof;
      telling : TellsAsBefore (source.left l.fn.proof) (source.left l.proof);
      count : source.faults l.fn.proof ≤ source.faults l.proof;
    }
