use Rattle.std.proofs.Common.{◌<◌, length}
use Rattle.qv_qdimacs_cases.proofs.lines.change.Given as goal

abbrev pub invariant-bytes : goal.invariant-bytes
invariant-bytes l = l.place < length l.line.items
