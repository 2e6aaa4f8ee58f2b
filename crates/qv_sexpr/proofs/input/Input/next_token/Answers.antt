use Rattle.std.proofs.Common.{[], refl, ◌∙◌}
use Rattle.std.proofs.lemmas.Result.{err_from_is_err_and}
use Rattle.qv_sexpr.specs.Calls.{nothing}
use Rattle.qv_sexpr.proofs.Along.{along_start, feed_along, token_along, stop_along}
use Rattle.qv_sexpr.proofs.OnDemand.{feeds_later, drops_later}
use Rattle.qv_sexpr.proofs.Taking.{leaves_start, leaves_looked, leaves_later, from_start, gets_token, stands_ahead, same_told, same_from, near_piece, near_token, given_start, given_later, given_same}
use Rattle.qv_sexpr.proofs.input.Input.next_token.Goals as goal

pub pieces-init : goal.pieces-init
pieces-init g c = record {
  told = refl;
  from = from_start c.args.self.now.lexer;
  near = λ h. h;
  given = given_start (g.S.Source.left c.args.source.now) c.args.self.now.lexer;
  leaves = leaves_start g.S.Source.left g.S.Source.faults c.args.self.now.lexer c.args.source.now;
  calls = nothing;
  along = ([], along_start _ g.S.Source.read_gives c.args.self.now.lexer c.args.source.now);
}

pub returns-in-Token-clause-token : goal.returns-in-Token-clause-token
returns-in-Token-clause-token g c =
    gets_token c.args.self.now.lexer c.pieces.self.lexer c.next.new.self c.in-Token.token _ _ c.next.ensures.finished c.pieces.invariant.told c.in-Token.ensures.answer

pub returns-in-Token-clause-ahead : goal.returns-in-Token-clause-ahead
returns-in-Token-clause-ahead g c = stands_ahead c.args.self.now.lexer c.pieces.self.lexer c.next.new.self c.in-Token.token c.pieces.invariant.from c.in-Token.ensures.answer

pub returns-in-Token-clause-near : goal.returns-in-Token-clause-near
returns-in-Token-clause-near g c = λ h. near_token c.pieces.self.lexer c.next.new.self c.in-Token.token c.next.ensures.fed c.next.ensures.finished c.in-Token.ensures.answer (c.pieces.invariant.near h)

pub returns-in-Token-clause-given : goal.returns-in-Token-clause-given
returns-in-Token-clause-given g c = given_same (g.S.Source.left c.args.source.now) (g.S.Source.left c.pieces.source) c.args.self.now.lexer c.pieces.self.lexer c.next.new.self c.next.ensures.fed c.pieces.invariant.given

pub pieces-preserved : goal.pieces-preserved
pieces-preserved g c =
    let i = c.pieces.invariant in
    let old = c.args.self.now.lexer in
    let mid = c.pieces.self.lexer in
    let lex = c.next.new.self in
    let new = c.read_piece.new.self.lexer in
    let more = c.in-More.ensures.answer in
    let took = c.in_ok-read_piece-in-More.ensures.ok in
    let left = g.S.Source.left in
    let faults = g.S.Source.faults in
    let looked = leaves_looked left faults old mid lex c.args.source.now c.pieces.source c.next.ensures.finished c.next.ensures.fed i.leaves in
    record {
      told = i.told ∙ same_told mid lex (left c.pieces.source) c.next.ensures.finished more.same ∙ took.told;
      from = took.from old.place (same_from old.place mid lex more.same i.from);
      near = λ h. near_piece mid lex new (left c.pieces.source) (left c.read_piece.new.source) c.next.ensures.fed more.undecided more.same took;
      given = given_later (left c.args.source.now) (left c.pieces.source) (left c.read_piece.new.source) old mid lex new c.next.ensures.fed i.given took.given;
      leaves = leaves_later left faults old lex new c.args.source.now c.pieces.source c.read_piece.new.source looked c.read_piece.ensures.leaves;
      calls = feeds_later _ g.S.Source.read_gives old mid lex new c.args.source.now c.pieces.source c.read_piece.new.source i.calls (record { answers = more; finished = c.next.ensures.finished; fed = c.next.ensures.fed }) c.in_ok-read_piece-in-More.ensures.call;
      along = feed_along _ g.S.Source.read_gives old mid lex new c.args.source.now c.pieces.source c.read_piece.new.source i.along more c.next.ensures.fed c.in_ok-read_piece-in-More.ensures.call;
    }

pub returns-in_err-read_piece-in-More-clause-calls_err : goal.returns-in_err-read_piece-in-More-clause-calls_err
returns-in_err-read_piece-in-More-clause-calls_err g c =
    let p = err_from_is_err_and c.from_residual.result c.from_residual.ensures.1 in
    let e = c.in_err-read_piece-in-More.ensures in
    rw (p.1, p.2)
    (drops_later _ g.S.Source.read_gives c.args.self.now.lexer c.pieces.self.lexer c.next.new.self c.read_piece.new.self.lexer c.args.source.now c.pieces.source c.read_piece.new.source c.in_err-read_piece-in-More.field-0.0
    c.pieces.invariant.calls (record { answers = c.in-More.ensures.answer; finished = c.next.ensures.finished; fed = c.next.ensures.fed }) e.same e.call_err)

pub returns-in-Token-clause-along : goal.returns-in-Token-clause-along
returns-in-Token-clause-along g c =
    token_along _ g.S.Source.read_gives c.args.self.now.lexer c.pieces.self.lexer c.next.new.self c.args.source.now c.pieces.source c.in-Token.token c.pieces.invariant.along c.next.ensures.fed c.next.ensures.finished c.in-Token.ensures.answer

pub returns-in_err-read_piece-in-More-clause-along_err : goal.returns-in_err-read_piece-in-More-clause-along_err
returns-in_err-read_piece-in-More-clause-along_err g c =
    let p = err_from_is_err_and c.from_residual.result c.from_residual.ensures.1 in
    let e = c.in_err-read_piece-in-More.ensures in
    rw (p.1, p.2)
    (stop_along _ g.S.Source.read_gives c.args.self.now.lexer c.pieces.self.lexer c.next.new.self c.read_piece.new.self.lexer c.args.source.now c.pieces.source c.read_piece.new.source c.in_err-read_piece-in-More.field-0.0
    c.pieces.invariant.along c.in-More.ensures.answer c.next.ensures.fed e.same e.call_err)
