use Rattle.std.proofs.Common.{◌≡◌, ◌+◌, ◌≤◌, Some, Err, ap, arith, length}
use Rattle.std.specs.Prelude.{slice_get}
use Rattle.qv_cert_nodes.proofs.Kept.{found-there}
use Rattle.qv_solve_refute.proofs.Blasted.{blasted-all, blasted-over, blasting-next, blasting-start}
use Rattle.qv_solve_refute.proofs.feeding.blast.Goals as goal

pub blasted-init : goal.blasted-init
blasted-init c =
    blasting-start c.args.store.now c.args.list.now c.args.limit c.in_ok-blaster.blaster c.requires.some
    (c.in_ok-blaster.ensures.none c.args.store.now c.len-nodes.ensures.shared) c.in_ok-blaster.ensures.limit (c.in_ok-blaster.ensures.first c.args.store.now)

pub returns-in-Err-TooManyVariables : goal.returns-in-Err-TooManyVariables
returns-in-Err-TooManyVariables c =
    let at : slice_get c.args.list.now c.blasted.formula-index ≡ Some c.formula-item.result =
    found-there c.args.list.now c.blasted.formula-index c.formula-item.result c.blasted-test.true c.formula-item.is in
    blasted-over c.args.store.now c.args.list.now c.args.limit c.blasted.formula-index c.formula-item.result c.blasted.blaster at c.blasted.invariant
    (c.in-Err-TooManyVariables.ensures.over (ap Err c.in-Err-TooManyVariables.field-0-is))

pub blasted-preserved : goal.blasted-preserved
blasted-preserved c =
    let at : slice_get c.args.list.now c.blasted.formula-index ≡ Some c.formula-item.result =
    found-there c.args.list.now c.blasted.formula-index c.formula-item.result c.blasted-test.true c.formula-item.is in
    blasting-next c.args.store.now c.args.list.now c.args.limit c.blasted.formula-index (c.blasted.formula-index + 1) c.formula-item.result c.blasted.blaster c.assert.new.self at (omega arith) c.blasted.invariant
    c.in-Ok.ensures.more c.assert.ensures.limit c.in-Ok.ensures.within

pub returns : goal.returns
returns c =
    let end : length c.args.list.now ≤ c.blasted.formula-index = omega (arith, c.blasted-test.false) in
    blasted-all c.args.store.now c.args.list.now c.args.limit c.blasted.formula-index c.blasted.blaster end c.blasted.invariant
