use Rattle.std.proofs.Common.{arith}
use Rattle.qv_game_outside.proofs.Denials.{has-all, has-next, term-free}
use Rattle.qv_game_outside.proofs.refuting.blast.Goals as goal

pub blasted-init : goal.blasted-init
blasted-init c = c.in_ok-blaster.ensures.none c.args.store.now c.len-few.ensures.shared

pub assert-requires-clause-free : goal.assert-requires-clause-free
assert-requires-clause-free c = term-free c.args.store.now c.args.formulas.now c.blasted.formula-index c.formula-item.result c.blasted-test.true c.formula-item.is c.requires.terms

pub blasted-preserved : goal.blasted-preserved
blasted-preserved c =
    has-next c.args.store.now c.args.formulas.now c.blasted.formula-index c.formula-item.result c.blasted.blaster c.assert.new.self c.blasted-test.true c.formula-item.is c.blasted.invariant c.in-Ok.ensures.more

pub returns : goal.returns
returns c = has-all c.args.store.now c.args.formulas.now c.blasted.formula-index c.blasted.blaster (omega (arith, c.blasted-test.false)) c.blasted.invariant
