-- what calls gave so far is the text
use Rattle.std.proofs.Common.{◌≤◌, ◌-◌, length}
use Rattle.qv_io.specs.Source.{TellsAsBefore}
use Rattle.qv_dimacs.specs.Reading.{read_limit}
use Rattle.qv_qdimacs.proofs.PieceLemmas.{Reached}
use Rattle.qv_qdimacs.proofs.reading.read_text.Given as goal

abbrev pub invariant-pieces : goal.invariant-pieces
invariant-pieces g l =
    let source = g.S.Source in
    record {
      reached : Reached source.read_gives source.left l.fn.source l.text.items l.source;
      telling : TellsAsBefore (source.left l.fn.source) (source.left l.source);
      count : source.faults l.fn.source ≤ source.faults l.source;
    }

abbrev pub decreases-pieces : goal.decreases-pieces
decreases-pieces g l = read_limit - length l.text.items
