use Rattle.qv_solve.proofs.Answered.{unknown-lines}
use Rattle.qv_solve.proofs.solving.unknown.Goals as goal

pub returns : goal.returns
returns c =
    unknown-lines c.args.number c.args.kind c.in_ok-lines.lines.items c.push.new.self.items c.push-2.new.self.items c.requires c.in_ok-lines.ensures.items c.in_ok-push.ensures.items c.in_ok-push-2.ensures.items
