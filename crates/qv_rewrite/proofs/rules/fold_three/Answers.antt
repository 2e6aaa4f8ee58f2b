use Rattle.qv_words.specs.Tree.{Nil, Cons}
use Rattle.qv_store.specs.Nodes.{tree_at}
use Rattle.qv_rewrite.proofs.Fitting.{literals_three, fold-made, fold-rank}
use Rattle.qv_rewrite.proofs.rules.fold_three.Goals as goal

pub apply-requires : goal.apply-requires
apply-requires c =
    fold-rank c.args.op (Cons (tree_at c.args.store.now c.args.a) (Cons (tree_at c.args.store.now c.args.b) (Cons (tree_at c.args.store.now c.args.c) Nil))) _
    (literals_three (tree_at c.args.store.now c.args.a) (tree_at c.args.store.now c.args.b) (tree_at c.args.store.now c.args.c) c.in_ok-a.a c.in_ok-b.b c.in_ok-c.c c.in_ok-a.ensures c.in_ok-b.ensures c.in_ok-c.ensures)
    c.requires.rank

pub returns : goal.returns
returns c = record {
  tree = fold-made c.args.op (Cons (tree_at c.args.store.now c.args.a) (Cons (tree_at c.args.store.now c.args.b) (Cons (tree_at c.args.store.now c.args.c) Nil))) _ c.apply.result
      (literals_three (tree_at c.args.store.now c.args.a) (tree_at c.args.store.now c.args.b) (tree_at c.args.store.now c.args.c) c.in_ok-a.a c.in_ok-b.b c.in_ok-c.c c.in_ok-a.ensures c.in_ok-b.ensures c.in_ok-c.ensures)
      c.apply.ensures.sort c.apply.ensures.value;
  below = tt;
}
