-- the blocks behind the list stay at the total
use Rattle.std.proofs.Common.{◌≡◌, ℕ, ◌+◌, ◌-◌, length}
use Rattle.std.specs.Prelude.{slice_index_or}
use Rattle.qv_prenex_matrix.proofs.levels.reach.Given as goal

abbrev pub invariant-grow : goal.invariant-grow
invariant-grow l = (k : ℕ) → slice_index_or l.next.items k l.total ≡ slice_index_or l.fn.next.items k l.total

abbrev pub decreases-grow : goal.decreases-grow
decreases-grow l = l.block + 1 - length l.next.items
