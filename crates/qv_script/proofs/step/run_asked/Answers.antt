use Rattle.std.proofs.Common.{◌∷◌, [], refl}
use Rattle.qv_script_parts.specs.declared.command.Command.TheVariants as code
use Rattle.qv_script.proofs.Calling.{steps-in-as, runs-in-as}
use Rattle.qv_script.proofs.Outsets.{one-is}
use Rattle.qv_script.proofs.step.run_asked.Goals as goal

pub returns-in-Assert-clause-step : goal.returns-in-Assert-clause-step
returns-in-Assert-clause-step c =
    let a = c.args in
    steps-in-as a.place a.expr.now a.command code.Assert (a.t ∷ []) (a.t ∷ []) a.store.now c.assert.new.store a.stack.now c.assert.new.stack c.assert.result c.in-Assert.is refl c.assert.ensures.step

pub returns-in-CheckSatAssuming-clause-step : goal.returns-in-CheckSatAssuming-clause-step
returns-in-CheckSatAssuming-clause-step c =
    let a = c.args in
    steps-in-as a.place a.expr.now a.command code.CheckSatAssuming (a.t ∷ []) (a.t ∷ []) a.store.now c.check_sat_assuming.new.store a.stack.now c.check_sat_assuming.new.stack c.check_sat_assuming.result c.in-CheckSatAssuming.is refl c.check_sat_assuming.ensures.step

pub returns-in-GetValue-clause-step : goal.returns-in-GetValue-clause-step
returns-in-GetValue-clause-step c =
    let a = c.args in
    steps-in-as a.place a.expr.now a.command code.GetValue (a.t ∷ []) (a.t ∷ []) a.store.now c.get_value.new.store a.stack.now a.stack.now c.get_value.result c.in-GetValue.is refl c.get_value.ensures.step

pub returns-in_default-clause-step : goal.returns-in_default-clause-step
returns-in_default-clause-step c = absurd (one-is c.args.command c.requires.terms c.in_default.not-Assert c.in_default.not-CheckSatAssuming c.in_default.not-GetValue)

pub returns-in-Assert-clause-short : goal.returns-in-Assert-clause-short
returns-in-Assert-clause-short c =
    let a = c.args in
    runs-in-as a.place a.expr.now a.command code.Assert (a.t ∷ []) (a.t ∷ []) a.store.now a.stack.now c.assert.result c.in-Assert.is refl c.assert.ensures.short

pub returns-in-CheckSatAssuming-clause-short : goal.returns-in-CheckSatAssuming-clause-short
returns-in-CheckSatAssuming-clause-short c =
    let a = c.args in
    runs-in-as a.place a.expr.now a.command code.CheckSatAssuming (a.t ∷ []) (a.t ∷ []) a.store.now a.stack.now c.check_sat_assuming.result c.in-CheckSatAssuming.is refl c.check_sat_assuming.ensures.short

pub returns-in-GetValue-clause-short : goal.returns-in-GetValue-clause-short
returns-in-GetValue-clause-short c =
    let a = c.args in
    runs-in-as a.place a.expr.now a.command code.GetValue (a.t ∷ []) (a.t ∷ []) a.store.now a.stack.now c.get_value.result c.in-GetValue.is refl c.get_value.ensures.short

pub returns-in_default-clause-short : goal.returns-in_default-clause-short
returns-in_default-clause-short c = absurd (one-is c.args.command c.requires.terms c.in_default.not-Assert c.in_default.not-CheckSatAssuming c.in_default.not-GetValue)
