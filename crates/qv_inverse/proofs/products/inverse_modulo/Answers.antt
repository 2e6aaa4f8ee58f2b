use Rattle.qv_inverse.proofs.Newton.{on_the_way-first, on_the_way-next, on_the_way-last}
use Rattle.qv_inverse.proofs.products.inverse_modulo.Goals as goal

pub loop-i-init : goal.loop-i-init
loop-i-init c = on_the_way-first c.args.width c.args.odd c.low_bits-inverse.result c.low_bits-inverse.ensures

pub loop-i-preserved : goal.loop-i-preserved
loop-i-preserved c =
    on_the_way-next c.args.width c.args.odd c.loop-i.i c.loop-i.inverse c.newton_step-inverse.result c.loop-i-test.true c.newton_step-inverse.ensures c.loop-i.invariant

pub returns-clause-inverse : goal.returns-clause-inverse
returns-clause-inverse c =
    on_the_way-last c.args.width c.args.odd c.loop-i.i c.loop-i.inverse c.loop-i-test.false c.loop-i.invariant
