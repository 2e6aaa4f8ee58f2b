use Rattle.std.proofs.Common.{refl, ◌∙◌, arith, rules}
use Rattle.qv_qdimacs.specs.Reading.{IsLonger}
use Rattle.qv_qdimacs.proofs.PieceLemmas.{reached_start, reached_more}
use Rattle.qv_qdimacs.proofs.reading.read_text.Goals as goal

pub pieces-init : goal.pieces-init
pieces-init g c = record {
  reached = reached_start _ g.S.Source.read_gives g.S.Source.left c.args.source.now c.args.text.now.items c.requires;
  telling = refl;
  count = omega arith;
}

pub pieces-preserved : goal.pieces-preserved
pieces-preserved g c =
    let i = c.pieces.invariant in
    let longer : IsLonger g.S.Source.read_gives g.S.Source.left c.pieces.text.items c.pieces.source c.read_piece.new.text.items c.read_piece.new.source = search rules in
    record {
      reached = reached_more _ g.S.Source.read_gives g.S.Source.left c.args.source.now c.pieces.text.items c.pieces.source c.read_piece.new.text.items c.read_piece.new.source i.reached longer;
      telling = c.read_piece.ensures.telling ∙ i.telling;
      count = omega (arith, i.count, c.read_piece.ensures.count);
    }
