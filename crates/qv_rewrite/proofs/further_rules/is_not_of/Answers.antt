use Rattle.qv_store.specs.Nodes.{tree_at}
use Rattle.qv_rewrite.proofs.FurtherParts.{not-none}
use Rattle.qv_rewrite.proofs.further_rules.is_not_of.Goals as goal

pub returns-then-kids-ne1 : goal.returns-then-kids-ne1
returns-then-kids-ne1 c = not-none c.args.store.now (tree_at c.args.store.now c.args.id) c.args.op c.args.kids.now c.if-kids-ne1.true
