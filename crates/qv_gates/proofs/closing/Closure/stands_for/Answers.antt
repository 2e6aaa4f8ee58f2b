use Rattle.std.proofs.Common.{rules}
use Rattle.qv_gates.specs.Closing.{StandsFor}
use Rattle.qv_gates.proofs.Following.{equal_from}
use Rattle.qv_gates.proofs.closing.Closure.stands_for.Goals as goal

pub returns-then-is_shown-clause-equal : goal.returns-then-is_shown-clause-equal
returns-then-is_shown-clause-equal c =
    let lit = c.in_ok-face.face.lit in
    let shown : StandsFor c.args.self.now.steps c.args.variable lit = search rules in
    equal_from c.rup_is_true.ensures c.args.self.now.base c.args.self.now.steps c.args.variable lit c.steps-steps.ensures.adds shown
