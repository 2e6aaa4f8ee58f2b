use Rattle.std.proofs.Common.{arith}
use Rattle.qv_script_texts.proofs.Shown.{next-constant}
use Rattle.qv_script_texts.proofs.models.model_text.Goals as goal

pub constants-preserved : goal.constants-preserved
constants-preserved c =
    next-constant c.args.constants.now c.args.values.now c.constants.i c.index-constants-i.result c.index-values-i.result c.constants.text.items c.push_definition.new.out.items
    c.constants-test.true (omega (arith, c.requires.many, c.constants-test.true)) c.index-constants-i.is c.index-values-i.is c.constants.invariant
    (grind (arith, c.in_ok-push_definition.ensures.ok, c.deref.ensures.value, c.value.ensures))
