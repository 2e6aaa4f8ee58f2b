use Rattle.qv_lrat.proofs.Limits.{limit-whole}
use Rattle.qv_lrat.proofs.Turns.{judged-whole}
use Rattle.qv_lrat.proofs.judging.judge.Goals as goal

pub returns-clause-judged : goal.returns-clause-judged
returns-clause-judged g c =
    judged-whole c.args.checker.now (g.C.Source.left c.args.proof.now) c.new-lines.result.rest c.judge_lines.result c.new-lines.ensures.rest c.judge_lines.ensures.judged

pub returns-clause-limit : goal.returns-clause-limit
returns-clause-limit g c limit =
    limit-whole g.C.Source.read_gives g.C.Source.left c.new-lines.result.taken c.args.proof.now c.judge_lines.new.proof c.new-lines.ensures.taken (c.judge_lines.ensures.limit limit)
