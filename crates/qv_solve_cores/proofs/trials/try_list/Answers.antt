use Rattle.std.proofs.Common.{◌≡◌, Err}
use Rattle.qv_meter.specs.Views.{limits_of}
use Rattle.qv_solve.specs.declared.fault.SolveFault.TheVariants.{NoMemory}
use Rattle.qv_solve_cores.proofs.Searches.{memory-some}
use Rattle.qv_solve_cores.proofs.trials.try_list.Goals as goal

pub returns-clause-memory : goal.returns-clause-memory
returns-clause-memory c =
    let whole : c.solve_one.result ≡ Err NoMemory = cc in
    memory-some (limits_of c.args.limits) c.args.meter.now c.solve_one.new.meter (c.solve_one.ensures.memory whole)
