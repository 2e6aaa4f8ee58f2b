use Rattle.qv_inverse.proofs.Newton.{IsOnTheWay}
use Rattle.qv_inverse.proofs.products.inverse_modulo.Given as goal

abbrev pub invariant-loop-i : goal.invariant-loop-i
invariant-loop-i l = IsOnTheWay l.width l.odd l.i l.inverse
