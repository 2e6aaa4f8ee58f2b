use Rattle.std.proofs.Common.{◌∙◌}
use Rattle.qv_words.specs.Clauses.{cnf}
use Rattle.qv_cnf_bridge_laws.proofs.Bridging.{clauses-value}
use Rattle.qv_store.specs.Walks.{named}
use Rattle.qv_store.proofs.Replacement.{if-ok}
use Rattle.qv_game_outside.proofs.regions.never.Goals as goal

pub returns : goal.returns
returns c = if-ok c.are_refuted.result (λ refuted none yes v e. none yes v (clauses-value v (cnf (named c.args.store.now c.args.formulas.now)) ∙ e)) c.are_refuted.ensures
