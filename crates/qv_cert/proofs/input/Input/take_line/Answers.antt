use Rattle.std.proofs.Common.{refl, ◌∙◌, arith}
use Rattle.std.proofs.lemmas.Result.{err_from_is_err_and}
use Rattle.qv_cert.proofs.TakingLemmas.{held_start, held_more, held_end, held_stop, held_last, not_end, rose_earlier}
use Rattle.qv_cert.proofs.input.Input.take_line.Goals as goal

pub pieces-init : goal.pieces-init
pieces-init g c =
    let old = c.args.self.now in
    record {
      held = rw c.clear.ensures.items (held_start _ g.S.Source.read_gives g.S.Source.left old.buffer old.taken c.args.source.now);
      telling = refl;
      count = omega arith;
    }

pub pieces-preserved : goal.pieces-preserved
pieces-preserved g c =
    let old = c.args.self.now in
    let took = rw c.if-branch.false at c.in_ok-take_to_lf.ensures.takes in
    let new = c.read_piece.new.self in
    record {
      held = rw c.read_piece.ensures.line
          (held_more _ g.S.Source.read_gives g.S.Source.left old.buffer old.taken c.args.source.now c.pieces.self.line.items c.pieces.self.buffer c.take_to_lf.new.line.items c.take_to_lf.new.buffer
          c.pieces.self.taken c.pieces.source c.in_ok-read_piece.field-0 new.buffer new.taken c.read_piece.new.source c.pieces.invariant.held took c.in_ok-read_piece.ensures.ok);
      telling = c.read_piece.ensures.telling ∙ c.pieces.invariant.telling;
      count = omega arith;
    }

pub returns-then-not-branch-clause-err : goal.returns-then-not-branch-clause-err
returns-then-not-branch-clause-err g c =
    let old = c.args.self.now in
    let took = rw c.if-branch.false at c.in_ok-take_to_lf.ensures.takes in
    let last = rw c.if-not-branch.true at c.in_ok-read_piece.ensures.ok in
    let new = c.read_piece.new.self in
    rw (c.end.ensures, c.read_piece.ensures.line)
    (held_end _ g.S.Source.read_gives g.S.Source.left _ old.buffer old.taken c.args.source.now c.pieces.self.line.items c.pieces.self.buffer c.take_to_lf.new.line.items c.take_to_lf.new.buffer
    c.pieces.self.taken c.pieces.source new.buffer new.taken c.read_piece.new.source c.pieces.invariant.held took last)

pub returns-in_err-read_piece-clause-err : goal.returns-in_err-read_piece-clause-err
returns-in_err-read_piece-clause-err g c =
    let old = c.args.self.now in
    let p = err_from_is_err_and c.from_residual-in_err-read_piece.result c.from_residual-in_err-read_piece.ensures.1 in
    let took = rw c.if-branch.false at c.in_ok-take_to_lf.ensures.takes in
    let rises = rose_earlier (g.S.Source.faults c.args.source.now) (g.S.Source.faults c.pieces.source) (g.S.Source.faults c.read_piece.new.source) c.pieces.invariant.count c.read_piece.ensures.count in
    rw (p.1, p.2)
    (held_stop _ g.S.Source.read_gives g.S.Source.left _ _ old.buffer old.taken c.args.source.now c.pieces.self.line.items c.pieces.self.buffer c.take_to_lf.new.line.items c.take_to_lf.new.buffer
    c.pieces.self.taken c.pieces.source c.in_err-read_piece.field-0.0 c.read_piece.new.self.taken c.read_piece.new.source rises c.pieces.invariant.held took c.in_err-read_piece.ensures.err)

pub returns-then-not-branch-clause-last : goal.returns-then-not-branch-clause-last
returns-then-not-branch-clause-last g c =
    let old = c.args.self.now in
    let took = rw c.if-branch.false at c.in_ok-take_to_lf.ensures.takes in
    let last = rw c.if-not-branch.true at c.in_ok-read_piece.ensures.ok in
    let new = c.read_piece.new.self in
    rw (c.end.ensures, c.read_piece.ensures.line)
    (held_last _ g.S.Source.read_gives g.S.Source.left old.buffer old.taken c.args.source.now c.pieces.self.line.items c.pieces.self.buffer c.take_to_lf.new.line.items c.take_to_lf.new.buffer
    c.pieces.self.taken c.pieces.source new.buffer new.taken c.read_piece.new.source c.pieces.invariant.held took last)

pub returns-in_err-read_piece-clause-last : goal.returns-in_err-read_piece-clause-last
returns-in_err-read_piece-clause-last g c =
    let p = err_from_is_err_and c.from_residual-in_err-read_piece.result c.from_residual-in_err-read_piece.ensures.1 in
    rw (p.1, p.2)
    (not_end _ g.S.Source.read_gives _ _ c.pieces.self.taken c.pieces.source c.in_err-read_piece.field-0.0 c.read_piece.new.self.taken c.read_piece.new.source c.in_err-read_piece.ensures.err)
