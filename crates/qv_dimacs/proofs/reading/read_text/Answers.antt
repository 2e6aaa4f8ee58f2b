use Rattle.std.proofs.Common.{refl, ◌∙◌, arith}
use Rattle.qv_dimacs.specs.View.{state_of}
use Rattle.qv_dimacs.proofs.PieceLemmas.{rose_earlier, reached_start, reached_more, reached_halt}
use Rattle.qv_dimacs.proofs.reading.read_text.Goals as goal

pub pieces-init : goal.pieces-init
pieces-init g c = record {
  reached = reached_start _ g.S.Source.read_gives g.S.Source.left c.args.source.now (state_of c.args.machine.now) c.requires;
  telling = refl;
  count = omega arith;
}

pub pieces-preserved : goal.pieces-preserved
pieces-preserved g c =
    let i = c.pieces.invariant in
    record {
      reached = reached_more _ g.S.Source.read_gives g.S.Source.left c.args.source.now (state_of c.pieces.machine) c.pieces.source (state_of c.read_piece.new.machine) c.read_piece.new.source i.reached c.in-Ok.ensures.takes;
      telling = c.read_piece.ensures.telling ∙ i.telling;
      count = omega (arith, i.count, c.read_piece.ensures.count);
    }

pub returns-in-Err-clause-halts : goal.returns-in-Err-clause-halts
returns-in-Err-clause-halts g c =
    let i = c.pieces.invariant in
    let rises = rose_earlier (g.S.Source.faults c.args.source.now) (g.S.Source.faults c.pieces.source) (g.S.Source.faults c.read_piece.new.source) i.count c.read_piece.ensures.count in
    reached_halt _ g.S.Source.read_gives g.S.Source.left _ _ c.args.source.now (state_of c.pieces.machine) c.pieces.source c.in-Err.halt (state_of c.read_piece.new.machine) c.read_piece.new.source rises i.reached c.in-Err.ensures.takes
