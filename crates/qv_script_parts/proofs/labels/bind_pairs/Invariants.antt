-- the names of the pairs before here are bound
use Rattle.std.proofs.Common.{◌-◌, List}
use Rattle.qv_elab_defs.specs.Shapes.{Pair}
use Rattle.qv_script_parts.specs.Walking.{ArePairsAt}
use Rattle.qv_script_parts.proofs.Walks.{AreLeft}
use Rattle.qv_script_parts.proofs.labels.bind_pairs.Given as goal

abbrev pub invariant-pairs : goal.invariant-pairs
invariant-pairs l = record {
  left : (ps : List Pair) → ArePairsAt l.expr l.list ps → AreLeft l.expr.items.items l.expr.text.items l.close ps l.fn.bound l.at l.bound;
}

abbrev pub decreases-pairs : goal.decreases-pairs
decreases-pairs l = l.close - l.at
