use Rattle.qv_words.specs.Tree.{Nil, Cons}
use Rattle.qv_store.specs.Nodes.{tree_at}
use Rattle.qv_rewrite.proofs.Fitting.{literals_one, fold-made}
use Rattle.qv_rewrite.proofs.rules.fold_one.Goals as goal

pub returns : goal.returns
returns c = record {
  tree = fold-made c.args.op (Cons (tree_at c.args.store.now c.args.a) Nil) _ c.apply.result
      (literals_one (tree_at c.args.store.now c.args.a) c.in_ok-a.a c.in_ok-a.ensures)
      c.apply.ensures.sort c.apply.ensures.value;
  below = tt;
}
