use Rattle.qv_words.specs.Tree.{Apply}
use Rattle.qv_store.proofs.Visiting.{on-ok}
use Rattle.qv_cert.specs.Listed.{trees_of_nodes}
use Rattle.qv_cert_nodes.specs.Lists.{listed_in}
use Rattle.qv_cert_nodes.proofs.Grown.{node-listed}
use Rattle.qv_cert_nodes.proofs.Clean.{ids-below, application-sorted, application-stands, application-reach}
use Rattle.qv_cert_nodes.proofs.listing.list_operator.Goals as goal

pub put-requires-clause-children : goal.put-requires-clause-children
put-requires-clause-children c =
    ids-below c.args.store.now c.args.listed.now c.args.kids.now c.in_ok-kids.kids.items c.requires.terms c.requires.there c.in_ok-kids.ensures

pub put-requires-clause-sorted : goal.put-requires-clause-sorted
put-requires-clause-sorted c =
    application-sorted c.args.store.now c.args.listed.now c.args.op c.args.kids.now c.in_ok-kids.kids.items c.len-nodes.ensures.shared c.requires.terms c.requires.there c.in_ok-kids.ensures c.requires.rank

pub returns-clause-lists : goal.returns-clause-lists
returns-clause-lists c p h =
    let a = c.args.listed.now in
    let kids = c.args.kids.now in
    on-ok c.push_node.result
    (λ w. node-listed c.args.store.now c.put.new.self p a c.push_node.new.self c.in_ok-id.id c.reach_of_nodes-reach.result (Apply c.args.op (trees_of_nodes (listed_in c.args.store.now a) kids)) h c.put.ensures.grows w
    (application-stands c.args.store.now c.put.new.self a c.args.op kids c.in_ok-kids.kids.items c.in_ok-id.id c.requires.there c.in_ok-kids.ensures c.in_ok-id.ensures.id)
    (application-reach c.args.store.now p a c.args.op kids c.reach_of_nodes-reach.result h c.requires.there c.reach_of_nodes-reach.ensures))
    c.push_node.ensures
