use Rattle.std.proofs.Common.{subst}
use Rattle.qv_store.specs.Problems.{problem_in}
use Rattle.qv_solve_refute.specs.Refuting.{IsSpentBy}
use Rattle.qv_solve.proofs.Answered.{known-settled, solution-settled, unknown-settled, unknown-solution}
use Rattle.qv_solve.proofs.Kept.{counts-keep, settled-keeps, settled-none, unknown-kept}
use Rattle.qv_solve.proofs.solving.finish.Goals as goal

pub returns-in-Ok-clause-solution : goal.returns-in-Ok-clause-solution
returns-in-Ok-clause-solution c =
    solution-settled (problem_in c.args.store.now c.args.problem.now) c.args.number c.args.problem.now.constants.items c.answer.new.meter c.settle.new.self c.in-Ok.solved c.settle.ensures c.in-Ok.ensures.solution

pub returns-in-Ok-clause-settled : goal.returns-in-Ok-clause-settled
returns-in-Ok-clause-settled c =
    let p = problem_in c.args.store.now c.args.problem.now in
    known-settled p c.settle.new.self c.in-Ok.solved c.in-Ok.ensures.known (settled-none p c.args.meter.now c.answer.new.meter c.settle.new.self c.requires.«record» c.answer.ensures.counts c.settle.ensures)

pub returns-in-Ok-clause-records : goal.returns-in-Ok-clause-records
returns-in-Ok-clause-records c = settled-keeps c.args.meter.now c.answer.new.meter c.settle.new.self c.answer.ensures.counts c.settle.ensures

pub returns-in_ok-unknown-in-Err-Spent-clause-solution : goal.returns-in_ok-unknown-in-Err-Spent-clause-solution
returns-in_ok-unknown-in-Err-Spent-clause-solution c =
    unknown-solution (problem_in c.args.store.now c.args.problem.now) c.args.number c.args.problem.now.constants.items c.in-Err-Spent.kind c.answer.new.meter c.in_ok-unknown-in-Err-Spent.field-0 c.in_ok-unknown-in-Err-Spent.ensures

pub returns-in_ok-unknown-in-Err-Spent-clause-settled : goal.returns-in_ok-unknown-in-Err-Spent-clause-settled
returns-in_ok-unknown-in-Err-Spent-clause-settled c =
    let p = problem_in c.args.store.now c.args.problem.now in
    unknown-settled p c.args.number c.in-Err-Spent.kind c.answer.new.meter c.in_ok-unknown-in-Err-Spent.field-0 c.in_ok-unknown-in-Err-Spent.ensures
    (unknown-kept p c.in-Err-Spent.kind c.args.meter.now c.answer.new.meter c.requires.«record» c.answer.ensures.counts c.newest-record.ensures.metering (subst (IsSpentBy c.answer.new.meter) c.in-Err-Spent.field-0-is c.in-Err-Spent.ensures.spent))

pub returns-in_ok-unknown-in-Err-Spent-clause-records : goal.returns-in_ok-unknown-in-Err-Spent-clause-records
returns-in_ok-unknown-in-Err-Spent-clause-records c = counts-keep c.args.meter.now c.answer.new.meter c.answer.ensures.counts

pub returns-in-Err-NoMemory-clause-records : goal.returns-in-Err-NoMemory-clause-records
returns-in-Err-NoMemory-clause-records c = counts-keep c.args.meter.now c.answer.new.meter c.answer.ensures.counts

pub returns-in_err-unknown-in-Err-Spent-clause-records : goal.returns-in_err-unknown-in-Err-Spent-clause-records
returns-in_err-unknown-in-Err-Spent-clause-records c = counts-keep c.args.meter.now c.answer.new.meter c.answer.ensures.counts
