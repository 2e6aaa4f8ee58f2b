use Rattle.std.proofs.Common.{◌≤◌, ◌-◌}
use Rattle.qv_io.specs.Source.{TellsAsBefore}
use Rattle.qv_dimacs.specs.Reading.{read_limit}
use Rattle.qv_dimacs.specs.View.{state_of}
use Rattle.qv_dimacs.proofs.PieceLemmas.{Reached}
use Rattle.qv_dimacs.proofs.reading.read_text.Given as goal

-- what was taken was read
abbrev pub invariant-pieces : goal.invariant-pieces
invariant-pieces g l =
    let source = g.S.Source in
    record {
      reached : Reached source.read_gives source.left l.fn.source (state_of l.machine) l.source;
      telling : TellsAsBefore (source.left l.fn.source) (source.left l.source);
      count : source.faults l.fn.source ≤ source.faults l.source;
    }

-- bytes are taken only below the limit
abbrev pub decreases-pieces : goal.decreases-pieces
decreases-pieces g l = read_limit - l.machine.place
