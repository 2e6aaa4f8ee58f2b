use Rattle.qv_solve_refute.specs.Feeding.{listed_in}
use Rattle.qv_solve_refute.proofs.Tried.{all-tried, no-steps, none-refute, some-wrong}
use Rattle.qv_solve_refute.proofs.trying.refutes.Goals as goal

pub returns-then-is_empty : goal.returns-then-is_empty
returns-then-is_empty c = none-refute (listed_in c.args.clauses.now) c.args.steps.now (no-steps c.args.steps.now c.is_empty.result c.is_empty.ensures c.if-is_empty.true)

pub returns-then-not-have_ids : goal.returns-then-not-have_ids
returns-then-not-have_ids c = some-wrong c.args.steps.now c.have_ids.result c.if-not-have_ids.true c.have_ids.ensures.1

pub returns : goal.returns
returns c = all-tried c.take_all.result c.in_ok-checker.checker (listed_in c.args.clauses.now) c.args.steps.now c.in_ok-checker.ensures (c.have_ids.ensures.0 c.if-not-have_ids.false) c.take_all.ensures
