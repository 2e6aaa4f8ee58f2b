use Rattle.std.proofs.Common.{arith}
use Rattle.qv_skolem.proofs.FirstBlocks.{run-ends, run-goes_on}
use Rattle.qv_skolem.proofs.blocks.run_length.Goals as goal

pub returns-then-ne-clause-length : goal.returns-then-ne-clause-length
returns-then-ne-clause-length c =
    let ends = run-ends c.args.quant c.args.places.now c.places.number _ c.places-test.true c.if-ne.ensures in
    let same = c.places.invariant.same in
    omega (arith, ends, same)

pub places-preserved : goal.places-preserved
places-preserved c =
    let more = run-goes_on c.args.quant c.args.places.now c.places.number _ c.places-test.true c.if-ne.ensures in
    let same = c.places.invariant.same in
    record { same = omega (arith, more, same); within = omega arith }
