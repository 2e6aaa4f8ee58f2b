use Rattle.qv_words.specs.Tree.{Nil, Cons}
use Rattle.qv_store.specs.Nodes.{tree_at}
use Rattle.qv_rewrite.proofs.Fitting.{literals_two, fold-made, fold-rank}
use Rattle.qv_rewrite.proofs.rules.fold_two.Goals as goal

pub apply-requires : goal.apply-requires
apply-requires c =
    fold-rank c.args.op (Cons (tree_at c.args.store.now c.args.a) (Cons (tree_at c.args.store.now c.args.b) Nil)) _
    (literals_two (tree_at c.args.store.now c.args.a) (tree_at c.args.store.now c.args.b) c.in_ok-a.a c.in_ok-b.b c.in_ok-a.ensures c.in_ok-b.ensures)
    c.requires.rank

pub returns : goal.returns
returns c = record {
  tree = fold-made c.args.op (Cons (tree_at c.args.store.now c.args.a) (Cons (tree_at c.args.store.now c.args.b) Nil)) _ c.apply.result
      (literals_two (tree_at c.args.store.now c.args.a) (tree_at c.args.store.now c.args.b) c.in_ok-a.a c.in_ok-b.b c.in_ok-a.ensures c.in_ok-b.ensures)
      c.apply.ensures.sort c.apply.ensures.value;
  below = tt;
}
