-- the greatest reach so far, and of what is left
use Rattle.std.proofs.Common.{◌≡◌, max, drop}
use Rattle.qv_cert_nodes.specs.Lists.{reach_of_nodes}
use Rattle.qv_cert_nodes.proofs.listing.reach_of_nodes.Given as goal

abbrev pub invariant-nodes : goal.invariant-nodes
invariant-nodes l = max l.greatest (reach_of_nodes l.listed (drop l.node-index l.nodes)) ≡ reach_of_nodes l.listed l.nodes
