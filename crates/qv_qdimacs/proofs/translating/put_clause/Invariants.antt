-- the literals so far
use Rattle.std.proofs.Common.{map, take}
use Rattle.qv_qdimacs.specs.Translation.{literal_tree}
use Rattle.qv_qdimacs.specs.Leaves.{leaf_in}
use Rattle.qv_qdimacs.proofs.Standing.{AreSoFar}
use Rattle.qv_qdimacs.proofs.translating.put_clause.Given as goal

abbrev pub invariant-lits : goal.invariant-lits
invariant-lits l = AreSoFar l.fn.store l.store l.ids.items (map (literal_tree (leaf_in l.places)) (take l.lit-index l.clause))
