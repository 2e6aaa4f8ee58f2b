use Rattle.std.proofs.Common.{◌-◌, ◌≤◌, length, take}
use Rattle.qv_io.specs.Sink.{Appends}
use Rattle.qv_io.proofs.sinks.put_all.Given as goal

-- the sink has taken the first bytes of the piece
abbrev pub invariant-loop-done : goal.invariant-loop-done
invariant-loop-done g l =
    let sink = g.O.Sink in
    record {
      within : l.done ≤ length l.piece;
      taken : Appends (sink.held l.fn.sink) (sink.held l.sink) (take l.done l.piece);
      count : sink.faults l.fn.sink ≤ sink.faults l.sink;
    }

abbrev pub decreases-loop-done : goal.decreases-loop-done
decreases-loop-done g l = length l.piece - l.done
