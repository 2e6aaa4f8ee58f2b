use Rattle.std.proofs.Common.{◌∙◌}
use Rattle.std.specs.Prelude.{map}
use Rattle.qv_store.specs.Nodes.{tree_at}
use Rattle.qv_rewrite.proofs.Waiting.{swept-pass}
use Rattle.qv_rewrite.proofs.passing.pass.Goals as goal

pub returns-clause-passed : goal.returns-clause-passed
returns-clause-passed c =
    c.in_ok-ids.ensures.swept ∙ swept-pass c.args.rule (map (tree_at c.args.store.now) c.args.list.now)
