use Rattle.qv_rewrite.proofs.Fitting.{under-none}
use Rattle.qv_rewrite.proofs.rules.only_under.Goals as goal

pub returns-then-kids-ne1 : goal.returns-then-kids-ne1
returns-then-kids-ne1 c = record {
  tree = under-none c.args.store.now c.args.op c.args.inner c.args.kids.now c.if-kids-ne1.true;
  below = tt;
}
