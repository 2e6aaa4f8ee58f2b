use Rattle.std.proofs.Common.{◌<◌, Bool, false, List, ℕ, length, sym, subst, arith}
use Rattle.qv_sexpr.specs.Limits.{read_limit}
use Rattle.qv_check_trim.specs.Taking.{TakesPiece, TookBytes}
use Rattle.qv_check_trim.proofs.Taken.{took-nothing, took-more, took-short}
use Rattle.qv_check_trim.proofs.taking.take_all.Goals as goal

pub pieces-init : goal.pieces-init
pieces-init g c =
    let source = g.C.Source in
    record {
      took = subst (λ (bytes : List ℕ). TookBytes source.read_gives source.left c.args.source.now bytes c.args.source.now) (sym c.new-bytes.ensures.items) (took-nothing source.read_gives source.left c.args.source.now);
      count = omega arith;
    }

pub pieces-preserved : goal.pieces-preserved
pieces-preserved g c =
    let i = c.pieces.invariant in
    record {
      took = took-more g.C.Source.read_gives g.C.Source.left c.args.source.now c.in_ok-take_piece.field-0 c.pieces.bytes.items c.take_piece.new.bytes.items c.pieces.source c.take_piece.new.source i.took c.in_ok-take_piece.ensures.takes;
      count = omega (arith, i.count, c.take_piece.ensures.count);
    }

pub returns-then-not-branch-clause-small : goal.returns-then-not-branch-clause-small
returns-then-not-branch-clause-small g c =
    let source = g.C.Source in
    let last : TakesPiece source.read_gives source.left false c.pieces.bytes.items c.pieces.source c.take_piece.new.bytes.items c.take_piece.new.source =
    subst (λ (more : Bool). TakesPiece source.read_gives source.left more c.pieces.bytes.items c.pieces.source c.take_piece.new.bytes.items c.take_piece.new.source) c.if-not-branch.true c.in_ok-take_piece.ensures.takes in
    let below : length c.pieces.bytes.items < read_limit = omega (arith, c.pieces-test.true, c.len.ensures) in
    took-short source.read_gives source.left c.args.source.now c.pieces.bytes.items c.take_piece.new.bytes.items c.pieces.source c.take_piece.new.source last below
