-- what was passed over so far
use Rattle.std.proofs.Common.{◌≡◌, ◌≤◌, ◌+◌, ◌-◌, drop, length}
use Rattle.std.specs.List.{prefix_len}
use Rattle.qv_qdimacs.specs.Ahead.{is_gap}
use Rattle.qv_qdimacs.proofs.lexing.gap_end.Given as goal

abbrev pub invariant-bytes : goal.invariant-bytes
invariant-bytes l = (l.i ≤ length l.text) × (l.i + prefix_len is_gap (drop l.i l.text) ≡ l.fn.at + prefix_len is_gap (drop l.fn.at l.text))

abbrev pub decreases-bytes : goal.decreases-bytes
decreases-bytes l = length l.text - l.i
