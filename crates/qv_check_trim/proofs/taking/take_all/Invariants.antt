use Rattle.std.proofs.Common.{◌≤◌, ◌-◌, length}
use Rattle.qv_sexpr.specs.Limits.{read_limit}
use Rattle.qv_check_trim.specs.Taking.{TookBytes}
use Rattle.qv_check_trim.proofs.taking.take_all.Given as goal

-- what was taken so far
abbrev pub invariant-pieces : goal.invariant-pieces
invariant-pieces g l =
    let source = g.C.Source in
    record {
      took : TookBytes source.read_gives source.left l.fn.source l.bytes.items l.source;
      count : source.faults l.fn.source ≤ source.faults l.source;
    }

abbrev pub decreases-pieces : goal.decreases-pieces
decreases-pieces g l = read_limit - length l.bytes.items
