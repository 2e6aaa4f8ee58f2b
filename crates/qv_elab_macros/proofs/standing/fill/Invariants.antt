-- what was added has no depth
use Rattle.std.proofs.Common.{◌≡◌, ◌≤◌, ◌-◌, ℕ, List, length}
use Rattle.qv_words.specs.Tree.{Tree}
use Rattle.qv_elab_macros.specs.PassDown.{peak}
use Rattle.qv_elab_macros.proofs.standing.fill.Given as goal

abbrev pub invariant-places : goal.invariant-places
invariant-places l = record {
  within : length l.depths.items ≤ l.fn.len;
  same : (k : ℕ) (ts : List Tree) → peak k ts l.depths.items ≡ peak k ts l.fn.depths.items;
}

abbrev pub decreases-places : goal.decreases-places
decreases-places l = l.fn.len - length l.depths.items
