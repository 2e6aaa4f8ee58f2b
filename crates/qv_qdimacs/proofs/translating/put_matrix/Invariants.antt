-- the clauses so far
use Rattle.std.proofs.Common.{map, take}
use Rattle.qv_qdimacs.specs.Translation.{clause_tree}
use Rattle.qv_qdimacs.specs.Leaves.{leaf_in}
use Rattle.qv_qdimacs.proofs.Standing.{AreSoFar}
use Rattle.qv_qdimacs.proofs.translating.put_matrix.Given as goal

abbrev pub invariant-clauses : goal.invariant-clauses
invariant-clauses l = AreSoFar l.fn.store l.store l.ids.items (map (clause_tree (leaf_in l.places)) (take l.at l.clauses))
