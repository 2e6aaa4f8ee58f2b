use Rattle.std.proofs.Common.{◌∙◌}
use Rattle.qv_meter.specs.Views.{limits_of}
use Rattle.qv_solve_cores.proofs.Searches.{some-none}
use Rattle.qv_solve_cores.proofs.Steps.{on-error}
use Rattle.qv_shell_answer.proofs.Asking.{core-assertions, core-found, core-ids, core-untrue}
use Rattle.qv_shell_answer.proofs.cores.core.Goals as goal

pub returns-in_err-formulas-clause-memory : goal.returns-in_err-formulas-clause-memory
returns-in_err-formulas-clause-memory c = on-error c.from_residual.result (some-none (limits_of c.args.limits) c.args.meter.now)

pub returns-in_err-places-clause-memory : goal.returns-in_err-places-clause-memory
returns-in_err-places-clause-memory c = on-error c.from_residual-in_err-places.result (some-none (limits_of c.args.limits) c.args.meter.now)

pub unneeded-requires : goal.unneeded-requires
unneeded-requires c =
    core-ids c.args.store.now c.args.script.now c.as_slice.result.now c.as_slice-2.result.now c.args.among (c.as_slice.ensures.value ∙ c.in_ok-formulas.ensures)
    (c.as_slice-2.ensures.value ∙ c.in_ok-places.ensures) c.requires.core

pub returns-in_err-offered-clause-memory : goal.returns-in_err-offered-clause-memory
returns-in_err-offered-clause-memory c = on-error c.from_residual-in_err-offered.result (some-none (limits_of c.args.limits) c.args.meter.now)

pub core_one-requires-clause-ids : goal.core_one-requires-clause-ids
core_one-requires-clause-ids c =
    core-ids c.args.store.now c.args.script.now c.deref.result.now c.deref-2.result.now c.args.among (c.deref.ensures.value ∙ c.in_ok-formulas.ensures)
    (c.deref-2.ensures.value ∙ c.in_ok-places.ensures) c.requires.core

pub core_one-requires-clause-assertions : goal.core_one-requires-clause-assertions
core_one-requires-clause-assertions c =
    core-assertions c.args.store.now c.args.script.now c.deref.result.now c.deref-2.result.now c.args.among (c.deref.ensures.value ∙ c.in_ok-formulas.ensures)
    (c.deref-2.ensures.value ∙ c.in_ok-places.ensures) c.requires.core

pub core_one-requires-clause-unsat : goal.core_one-requires-clause-unsat
core_one-requires-clause-unsat c =
    core-untrue c.args.store.now c.args.script.now c.deref.result.now c.deref-2.result.now c.args.among (c.deref.ensures.value ∙ c.in_ok-formulas.ensures)
    (c.deref-2.ensures.value ∙ c.in_ok-places.ensures) c.requires.core

pub returns-clause-core : goal.returns-clause-core
returns-clause-core c =
    core-found c.args.store.now c.args.script.now c.deref.result.now c.deref-2.result.now c.args.among (c.deref.ensures.value ∙ c.in_ok-formulas.ensures)
    (c.deref-2.ensures.value ∙ c.in_ok-places.ensures)
    (limits_of c.args.limits) c.args.meter.now c.core_one.new.meter c.in_ok-found.found.kept.items c.in_ok-found.ensures.core
