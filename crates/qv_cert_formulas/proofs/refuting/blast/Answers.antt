use Rattle.std.proofs.Common.{◌≡◌, ◌+◌, Some, Err, ap, arith}
use Rattle.std.specs.Prelude.{slice_get}
use Rattle.qv_cert_nodes.proofs.Kept.{found-there}
use Rattle.qv_cert_formulas.proofs.Blasted.{blasting-start, blasting-next, blasted-few, blasted-over, blasted-all}
use Rattle.qv_cert_formulas.proofs.refuting.blast.Goals as goal

pub formulas-init : goal.formulas-init
formulas-init c =
    blasting-start c.args.store.now c.args.formulas.now c.in_ok-blaster.blaster
    (c.in_ok-blaster.ensures.none c.args.store.now c.len-nodes.ensures.shared) c.in_ok-blaster.ensures.limit (c.in_ok-blaster.ensures.first c.args.store.now)

pub returns-in-Err-TooManyVariables-clause-few : goal.returns-in-Err-TooManyVariables-clause-few
returns-in-Err-TooManyVariables-clause-few c =
    let at : slice_get c.args.formulas.now c.formulas.formula-index ≡ Some c.formula-item.result =
    found-there c.args.formulas.now c.formulas.formula-index c.formula-item.result c.formulas-test.true c.formula-item.is in
    blasted-over c.args.store.now c.args.formulas.now c.formulas.formula-index c.formula-item.result c.formulas.blaster at c.formulas.invariant
    (c.in-Err-TooManyVariables.ensures.over (ap Err c.in-Err-TooManyVariables.field-0-is))

pub formulas-preserved : goal.formulas-preserved
formulas-preserved c =
    let at : slice_get c.args.formulas.now c.formulas.formula-index ≡ Some c.formula-item.result =
    found-there c.args.formulas.now c.formulas.formula-index c.formula-item.result c.formulas-test.true c.formula-item.is in
    blasting-next c.args.store.now c.args.formulas.now c.formulas.formula-index (c.formulas.formula-index + 1) c.formula-item.result c.formulas.blaster c.assert.new.self at (omega arith) c.formulas.invariant
    c.in-Ok.ensures.more c.assert.ensures.limit c.in-Ok.ensures.within

pub returns-clause-few : goal.returns-clause-few
returns-clause-few c = blasted-few c.args.store.now c.args.formulas.now c.formulas.formula-index c.formulas.blaster (omega (arith, c.formulas-test.false)) c.formulas.invariant

pub returns-clause-list : goal.returns-clause-list
returns-clause-list c = blasted-all c.args.store.now c.args.formulas.now c.formulas.formula-index c.formulas.blaster (omega (arith, c.formulas-test.false)) c.formulas.invariant
