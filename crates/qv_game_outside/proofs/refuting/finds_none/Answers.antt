use Rattle.std.proofs.Common.{[], subst}
use Rattle.qv_sat.specs.Answering.{IsFailed, OnUnsat}
use Rattle.qv_sat.specs.declared.outcomes.Outcome.{Outcome}
use Rattle.qv_game_outside.proofs.Models.{failed-alone}
use Rattle.qv_game_outside.proofs.refuting.finds_none.Goals as goal

pub returns-in-Ok-Unsat : goal.returns-in-Ok-Unsat
returns-in-Ok-Unsat c = λ yes. failed-alone c.args.core.now.base _ (subst (λ (o : Outcome). OnUnsat o (IsFailed c.args.core.now.base [])) c.in-Ok-Unsat.field-0-is c.in-Ok-Unsat.ensures.unsat)
