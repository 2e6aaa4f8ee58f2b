use Rattle.std.proofs.Common.{length, sym, ◌∙◌, subst}
use Rattle.std.proofs.lemmas.List.Elements.{All-from_recursion}
use Rattle.qv_store.specs.Nodes.{children}
use Rattle.qv_store.specs.Stores.{StandsAt}
use Rattle.qv_store.specs.Walks.{IsEarlier}
use Rattle.qv_store.proofs.Passes.{walk-kids}
use Rattle.qv_store.proofs.Replacement.{right-node, none-there, if-ok}
use Rattle.qv_store.proofs.replacing.replace.Goals as goal

pub renew-requires : goal.renew-requires
renew-requires c =
    All-from_recursion (IsEarlier c.args.walk.now (length c.args.made.now)) (children c.node-node.result.now)
    (walk-kids c.args.store.now c.args.walk.now c.node-node.ensures.shared c.requires.next.walk (length c.args.made.now) c.args.id c.node-node.result.now c.requires.next.at c.node-node.ensures.tree c.node-node.ensures.children)

pub put-requires-clause-children : goal.put-requires-clause-children
put-requires-clause-children c =
    (right-node c.args.store.now c.args.walk.now c.args.made.now c.args.terms.now c.args.id c.node-node.result.now c.in_ok-renewed.renewed c.node-node.ensures.shared c.requires.id c.requires.next c.node-node.ensures.tree
    (sym c.put_for.ensures ∙ none-there c.put_for.result c.in_default.not-Some) c.in_ok-renewed.ensures).children

pub put-requires-clause-sorted : goal.put-requires-clause-sorted
put-requires-clause-sorted c =
    (right-node c.args.store.now c.args.walk.now c.args.made.now c.args.terms.now c.args.id c.node-node.result.now c.in_ok-renewed.renewed c.node-node.ensures.shared c.requires.id c.requires.next c.node-node.ensures.tree
    (sym c.put_for.ensures ∙ none-there c.put_for.result c.in_default.not-Some) c.in_ok-renewed.ensures).sorted

pub returns-clause-id : goal.returns-clause-id
returns-clause-id c =
    let right = right-node c.args.store.now c.args.walk.now c.args.made.now c.args.terms.now c.args.id c.node-node.result.now c.in_ok-renewed.renewed c.node-node.ensures.shared c.requires.id c.requires.next c.node-node.ensures.tree
    (sym c.put_for.ensures ∙ none-there c.put_for.result c.in_default.not-Some) c.in_ok-renewed.ensures in
    if-ok c.put.result (λ put at. subst (StandsAt c.put.new.self put) right.tree at) c.put.ensures.id
