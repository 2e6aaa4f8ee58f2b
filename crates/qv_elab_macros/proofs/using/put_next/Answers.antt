use Rattle.std.proofs.Common.{length, sym, ◌∙◌, subst}
use Rattle.std.proofs.lemmas.List.Elements.{All-from_recursion}
use Rattle.qv_store.specs.Nodes.{children}
use Rattle.qv_store.specs.Stores.{StandsAt}
use Rattle.qv_store.specs.Walks.{IsEarlier}
use Rattle.qv_store.proofs.Passes.{walk-kids}
use Rattle.qv_store.proofs.Replacement.{none-there, if-ok}
use Rattle.qv_elab_macros.proofs.Insertion.{put-node, put-arg}
use Rattle.qv_elab_macros.proofs.using.put_next.Goals as goal

pub move_node-requires : goal.move_node-requires
move_node-requires c =
    All-from_recursion (IsEarlier c.args.walk.now (length c.args.made.now)) (children c.node-node.result.now)
    (walk-kids c.args.store.now c.args.walk.now c.node-node.ensures.shared c.requires.next.walk (length c.args.made.now) c.args.id c.node-node.result.now c.requires.next.at c.node-node.ensures.tree c.node-node.ensures.children)

pub put-requires-clause-children : goal.put-requires-clause-children
put-requires-clause-children c =
    (put-node c.args.store.now c.args.binders c.args.args.now c.args.walk.now c.args.made.now c.args.id c.node-node.result.now c.in_ok-moved.moved c.requires.next c.node-node.ensures.tree
    (sym c.arg_for.ensures ∙ none-there c.arg_for.result c.in_default.not-Some) c.in_ok-moved.ensures).children

pub put-requires-clause-sorted : goal.put-requires-clause-sorted
put-requires-clause-sorted c =
    (put-node c.args.store.now c.args.binders c.args.args.now c.args.walk.now c.args.made.now c.args.id c.node-node.result.now c.in_ok-moved.moved c.requires.next c.node-node.ensures.tree
    (sym c.arg_for.ensures ∙ none-there c.arg_for.result c.in_default.not-Some) c.in_ok-moved.ensures).sorted

pub returns-clause-id : goal.returns-clause-id
returns-clause-id c =
    let right = put-node c.args.store.now c.args.binders c.args.args.now c.args.walk.now c.args.made.now c.args.id c.node-node.result.now c.in_ok-moved.moved c.requires.next c.node-node.ensures.tree
    (sym c.arg_for.ensures ∙ none-there c.arg_for.result c.in_default.not-Some) c.in_ok-moved.ensures in
    if-ok c.put.result (λ put at. subst (StandsAt c.put.new.self put) right.tree at) c.put.ensures.id

pub returns-in-Some-clause-id : goal.returns-in-Some-clause-id
returns-in-Some-clause-id c =
    put-arg c.args.store.now c.args.binders c.args.args.now c.args.id c.in-Some.arg c.node-node.result.now c.requires.next.args_there c.node-node.ensures.tree (sym c.arg_for.ensures ∙ c.in-Some.is)
