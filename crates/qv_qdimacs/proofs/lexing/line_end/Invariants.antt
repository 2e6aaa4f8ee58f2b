-- what was passed over so far
use Rattle.std.proofs.Common.{◌≡◌, ◌≤◌, ◌+◌, ◌-◌, drop, length}
use Rattle.std.specs.List.{position_or_len}
use Rattle.qv_qdimacs.specs.Ahead.{is_lf}
use Rattle.qv_qdimacs.proofs.lexing.line_end.Given as goal

abbrev pub invariant-bytes : goal.invariant-bytes
invariant-bytes l = (l.i ≤ length l.text) × (l.i + position_or_len is_lf (drop l.i l.text) ≡ l.fn.at + position_or_len is_lf (drop l.fn.at l.text))

abbrev pub decreases-bytes : goal.decreases-bytes
decreases-bytes l = length l.text - l.i
