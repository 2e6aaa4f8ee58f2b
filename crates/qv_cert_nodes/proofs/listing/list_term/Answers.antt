use Rattle.qv_store.proofs.Visiting.{on-ok}
use Rattle.qv_cert.specs.Listed.{tree_of_node}
use Rattle.qv_cert_nodes.specs.Lists.{listed_in}
use Rattle.qv_cert_nodes.proofs.Grown.{term-listed}
use Rattle.qv_cert_nodes.proofs.listing.list_term.Goals as goal

pub returns : goal.returns
returns c trees p h =
    on-ok c.push_term.result
    (λ w. term-listed trees p c.args.listed.now c.push_term.new.self (record { place = c.args.place; id = c.node-id.result }) (tree_of_node (listed_in trees c.args.listed.now) c.args.node) h w (c.node-id.ensures.below trees h.nodes) (c.node-id.ensures.tree trees))
    c.push_term.ensures
