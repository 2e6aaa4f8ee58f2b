-- the terms so far, and of what is left
use Rattle.std.proofs.Common.{◌≡◌, ◌++◌, map, drop}
use Rattle.qv_cert_nodes.specs.Lists.{id_at}
use Rattle.qv_cert_nodes.proofs.listing.ids_of_nodes.Given as goal

abbrev pub invariant-nodes : goal.invariant-nodes
invariant-nodes l = l.ids.items ++ map (id_at l.listed) (drop l.node-index l.nodes) ≡ map (id_at l.listed) l.nodes
