use Rattle.qv_words.specs.Tree.{Cons, Nil}
use Rattle.qv_store.specs.Nodes.{tree_at}
use Rattle.qv_rewrite_simps.specs.Held.{picked_tree}
use Rattle.qv_rewrite_simps.proofs.Applying.{small-sorted}
use Rattle.qv_rewrite_simps.proofs.simping.node_of_two.Goals as goal

pub put_picked-requires-clause-sorted : goal.put_picked-requires-clause-sorted
put_picked-requires-clause-sorted c =
    let trees = c.args.store.now in
    small-sorted c.args.op (Cons (tree_at trees c.args.a) (Cons (tree_at trees c.args.b) Nil)) (picked_tree trees c.in-Some.made) c.requires.sorted c.requires.free c.in-Some.ensures.tree
