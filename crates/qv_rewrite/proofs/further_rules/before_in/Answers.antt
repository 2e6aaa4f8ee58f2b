use Rattle.qv_store.specs.Nodes.{tree_at}
use Rattle.qv_rewrite.proofs.FurtherParts.{before-none}
use Rattle.qv_rewrite.proofs.further_rules.before_in.Goals as goal

pub returns-then-kids-ne2 : goal.returns-then-kids-ne2
returns-then-kids-ne2 c = record {
  tree = before-none c.args.store.now c.args.op (tree_at c.args.store.now c.args.known) c.args.inner c.args.kids.now c.if-kids-ne2.true;
  below = tt;
}
