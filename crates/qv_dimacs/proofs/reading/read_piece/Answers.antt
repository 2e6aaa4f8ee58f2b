use Rattle.std.proofs.Common.{◌≡◌, ◌<◌, length, take, Some, rules, arith}
use Rattle.std.proofs.lemmas.Result.{err_from_is_err_and}
use Rattle.qv_dimacs.specs.Reading.{piece_size}
use Rattle.qv_dimacs.specs.View.{state_of}
use Rattle.qv_dimacs.proofs.PieceLemmas.{gives_none_of, piece_ends, text_ends, piece_takes}
use Rattle.qv_dimacs.proofs.reading.read_piece.Goals as goal

pub returns-in_err-finish-clause-takes : goal.returns-in_err-finish-clause-takes
returns-in_err-finish-clause-takes g c =
    let source = c.args.source.now in
    let later = c.read.new.self in
    let zero : c.in_ok-n.n ≡ 0 = c.if-n-eq0.true in
    let called : g.S.Source.read_gives source piece_size (Some (take c.in_ok-n.n c.read.new.buf)) later = search rules in
    let p = err_from_is_err_and c.from_residual-in_err-finish.result c.from_residual-in_err-finish.ensures.1 in
    rw (p.1, p.2)
    (piece_ends _ g.S.Source.read_gives g.S.Source.left _ (state_of c.args.machine.now) source c.in_err-finish.field-0.0 (state_of c.finish.new.self) later
    (gives_none_of _ g.S.Source.read_gives g.S.Source.left source later c.in_ok-n.n c.read.new.buf zero called c.in_ok-n.ensures.reads.gives)
    (c.in_ok-n.ensures.reads.end zero (search rules)) c.in_err-finish.ensures)

pub returns-then-n-eq0-clause-takes : goal.returns-then-n-eq0-clause-takes
returns-then-n-eq0-clause-takes g c =
    let source = c.args.source.now in
    let later = c.read.new.self in
    let zero : c.in_ok-n.n ≡ 0 = c.if-n-eq0.true in
    let called : g.S.Source.read_gives source piece_size (Some (take c.in_ok-n.n c.read.new.buf)) later = search rules in
    text_ends _ g.S.Source.read_gives g.S.Source.left (state_of c.args.machine.now) source (state_of c.finish.new.self) later
    (gives_none_of _ g.S.Source.read_gives g.S.Source.left source later c.in_ok-n.n c.read.new.buf zero called c.in_ok-n.ensures.reads.gives)
    (c.in_ok-n.ensures.reads.end zero (search rules)) c.in_ok-finish.ensures

pub returns-clause-takes : goal.returns-clause-takes
returns-clause-takes g c =
    let source = c.args.source.now in
    let later = c.read.new.self in
    let bytes = take c.in_ok-n.n c.read.new.buf in
    let called : g.S.Source.read_gives source piece_size (Some (take c.in_ok-n.n c.read.new.buf)) later = search rules in
    let some : 0 < length (take c.in_ok-n.n c.read.new.buf) = search rules in
    piece_takes _ g.S.Source.read_gives g.S.Source.left _ (state_of c.args.machine.now) source bytes c.take_all.result (state_of c.take_all.new.self) later
    (record { called = called; told = c.in_ok-n.ensures.reads.gives }) some (omega arith) c.take_all.ensures.taken c.take_all.ensures.place
