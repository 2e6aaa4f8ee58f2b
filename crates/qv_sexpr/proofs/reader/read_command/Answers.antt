use Rattle.std.proofs.Common.{ℕ, List, ◌≡◌, ◌<◌, length, [], Ok, refl, ap, subst, ◌∙◌, arith}
use Rattle.std.proofs.lemmas.Result.{err_from_is_err_and}
use Rattle.qv_io.specs.Count.{Rose}
use Rattle.qv_text.specs.declared.kinds.Token.{Token}
use Rattle.qv_text.specs.declared.kinds.TokenKind.TheVariants.{RightParen}
use Rattle.qv_text.specs.declared.kinds.Lexed.TheVariants.{Token as GotToken, End as AtEnd}
use Rattle.qv_text.specs.Reading.{Lexeme, gives}
use Rattle.qv_sexpr.specs.Limits.{piece_size}
use Rattle.qv_sexpr.specs.Input.{IsNear, StandsAhead, TokenAlong}
use Rattle.qv_sexpr.specs.Reader.{coming}
use Rattle.qv_sexpr.specs.Building.{TakenAt, Completes, Resumes, Refuses, resumes}
use Rattle.qv_sexpr.specs.Calls.{EndsAsked, nothing}
use Rattle.qv_sexpr.proofs.Along.{command_start_along, take_along, token_cause, take_cause, end_cause}
use Rattle.qv_sexpr.proofs.OnDemand.{on_demand_asked, asked_later, reads_later, stops_token, stops_end, stops_refused}
use Rattle.qv_sexpr.proofs.Taking.{leaves_start, leaves_later, near_start, given_start, given_later}
use Rattle.qv_sexpr.proofs.Commands.{behind_start, rose_later, token_stop, take_stop, end_stop, next_in, told_command, stands_as, with_text, none_at, some_at, map_agree}
use Rattle.qv_sexpr.proofs.reader.read_command.Goals as goal

pub tokens-init : goal.tokens-init
tokens-init g c = record {
  open_lists = [];
  builds = c.new-builder.ensures;
  told = behind_start c.args.input.now.lexer (g.S.Source.left c.args.source.now);
  near = λ h. h;
  forward = omega arith;
  given = given_start (g.S.Source.left c.args.source.now) c.args.input.now.lexer;
  leaves = leaves_start g.S.Source.left g.S.Source.faults c.args.input.now.lexer c.args.source.now;
  calls = nothing;
  along = ([], command_start_along _ g.S.Source.read_gives c.args.input.now.lexer c.args.source.now);
}

pub returns-in_err-token-clause-err : goal.returns-in_err-token-clause-err
returns-in_err-token-clause-err g c =
    let p = err_from_is_err_and c.from_residual.result c.from_residual.ensures.1 in
    let faults = g.S.Source.faults in
    let i = c.tokens.invariant in
    rw (p.1, p.2)
    (token_stop (Rose (faults c.tokens.source) (faults c.next_token.new.source)) (Rose (faults c.args.source.now) (faults c.next_token.new.source)) i.open_lists
    c.args.input.now.lexer c.tokens.input.lexer c.next_token.new.self.lexer (g.S.Source.left c.args.source.now) (g.S.Source.left c.tokens.source) c.in_err-token.field-0.0
    (rose_later _ _ _ i.leaves.count c.next_token.ensures.leaves.count) i.told c.in_err-token.ensures.err)

pub returns-in_err-take-clause-err : goal.returns-in_err-take-clause-err
returns-in_err-take-clause-err g c =
    let p = err_from_is_err_and c.from_residual-in_err-take.result c.from_residual-in_err-take.ensures.1 in
    let left = g.S.Source.left in
    let faults = g.S.Source.faults in
    let i = c.tokens.invariant in
    let stop = c.in_err-take.field-0.0 in
    let next = next_in i.open_lists c.args.input.now.lexer c.tokens.input.lexer c.next_token.new.self.lexer (left c.args.source.now) (left c.tokens.source) (left c.next_token.new.source)
    c.in_ok-token.field-0 c.in-Some.token c.text.result.now c.in-Some.is c.in_ok-token.ensures.token c.text.ensures i.told in
    rw (p.1, p.2)
    (take_stop (Rose (faults c.args.source.now) (faults c.next_token.new.source)) i.open_lists c.args.input.now.lexer c.next_token.new.self.lexer (left c.args.source.now) (left c.next_token.new.source) next.0 stop next.2
    (subst (λ x. Refuses i.open_lists x stop) next.1 (c.in_err-take.ensures i.open_lists i.builds)))

pub returns-then-branch-clause-ok : goal.returns-then-branch-clause-ok
returns-then-branch-clause-ok g c =
    let left = g.S.Source.left in
    let i = c.tokens.invariant in
    let next = next_in i.open_lists c.args.input.now.lexer c.tokens.input.lexer c.next_token.new.self.lexer (left c.args.source.now) (left c.tokens.source) (left c.next_token.new.source)
    c.in_ok-token.field-0 c.in-Some.token c.text.result.now c.in-Some.is c.in_ok-token.ensures.token c.text.ensures i.told in
    let whole : Completes i.open_lists next.0 c.take.new.self =
    subst (λ x. Completes i.open_lists x c.take.new.self) next.1
    (subst (λ b. TakenAt i.open_lists (record { kind = c.in-Some.token.kind; place = c.in-Some.token.place; text = c.text.result.now }) (Ok b) c.take.new.self) c.if-branch.true (c.in_ok-take.ensures i.open_lists i.builds)) in (
      whole.0,
      stands_as c.take.new.self.items.items c.into_expr.result.items.items c.take.new.self.text.items c.into_expr.result.text.items whole.0 c.into_expr.ensures.items c.into_expr.ensures.text whole.1,
      told_command i.open_lists c.args.input.now.lexer c.next_token.new.self.lexer (left c.args.source.now) (left c.next_token.new.source) next.0 whole.0 next.2 whole.2,
    )

-- the token that came, and how far the lexer is behind it
pub returns-then-branch-clause-ahead : goal.returns-then-branch-clause-ahead
returns-then-branch-clause-ahead g c = λ small.
    let left = g.S.Source.left in
    let i = c.tokens.invariant in
    let next = next_in i.open_lists c.args.input.now.lexer c.tokens.input.lexer c.next_token.new.self.lexer (left c.args.source.now) (left c.tokens.source) (left c.next_token.new.source)
    c.in_ok-token.field-0 c.in-Some.token c.text.result.now c.in-Some.is c.in_ok-token.ensures.token c.text.ensures i.told in
    let whole : Completes i.open_lists next.0 c.take.new.self =
    subst (λ x. Completes i.open_lists x c.take.new.self) next.1
    (subst (λ b. TakenAt i.open_lists (record { kind = c.in-Some.token.kind; place = c.in-Some.token.place; text = c.text.result.now }) (Ok b) c.take.new.self) c.if-branch.true (c.in_ok-take.ensures i.open_lists i.builds)) in
    let near = some_at (λ (t : Token). IsNear c.next_token.new.self.lexer × (t.kind ≡ RightParen → length c.next_token.new.self.lexer.rest < piece_size)) c.in_ok-token.field-0 c.in-Some.token c.in-Some.is
    (c.in_ok-token.ensures.near (i.near (near_start c.args.input.now.lexer small))) in
    near.1 (ap (λ (l : Lexeme). l.kind) next.1 ∙ whole.3)

pub returns-then-branch-clause-forward : goal.returns-then-branch-clause-forward
returns-then-branch-clause-forward g c =
    let new = c.next_token.new.self.lexer in
    let came : StandsAhead c.tokens.input.lexer c.in-Some.token new = some_at (λ (t : Token). StandsAhead c.tokens.input.lexer t new) c.in_ok-token.field-0 c.in-Some.token c.in-Some.is c.in_ok-token.ensures.ahead in
    omega (arith, c.tokens.invariant.forward, came.ahead, came.not_empty, came.behind)

pub tokens-preserved : goal.tokens-preserved
tokens-preserved g c =
    let left = g.S.Source.left in
    let i = c.tokens.invariant in
    let old = c.args.input.now.lexer in
    let new = c.next_token.new.self.lexer in
    let next = next_in i.open_lists old c.tokens.input.lexer new (left c.args.source.now) (left c.tokens.source) (left c.next_token.new.source)
    c.in_ok-token.field-0 c.in-Some.token c.text.result.now c.in-Some.is c.in_ok-token.ensures.token c.text.ensures i.told in
    let part : Resumes i.open_lists next.0 c.take.new.self =
    subst (λ x. Resumes i.open_lists x c.take.new.self) next.1
    (subst (λ b. TakenAt i.open_lists (record { kind = c.in-Some.token.kind; place = c.in-Some.token.place; text = c.text.result.now }) (Ok b) c.take.new.self) c.if-branch.false (c.in_ok-take.ensures i.open_lists i.builds)) in
    record {
      open_lists = part.0;
      builds = part.1;
      told = next.2 ∙ map_agree (λ rest. resumes i.open_lists (gives next.0 (coming new rest))) (λ rest. resumes part.0 (coming new rest)) (left c.next_token.new.source) (λ rest. part.2 (coming new rest));
      near = λ h.
          let near = some_at (λ (t : Token). IsNear new × (t.kind ≡ RightParen → length new.rest < piece_size)) c.in_ok-token.field-0 c.in-Some.token c.in-Some.is (c.in_ok-token.ensures.near (i.near h)) in
          near.0;
      forward =
          let came : StandsAhead c.tokens.input.lexer c.in-Some.token new = some_at (λ (t : Token). StandsAhead c.tokens.input.lexer t new) c.in_ok-token.field-0 c.in-Some.token c.in-Some.is c.in_ok-token.ensures.ahead in
          omega (arith, i.forward, came.ahead, came.not_empty, came.behind);
      given = given_later (left c.args.source.now) (left c.tokens.source) (left c.next_token.new.source) old c.tokens.input.lexer c.tokens.input.lexer new refl i.given c.in_ok-token.ensures.given;
      leaves = leaves_later left g.S.Source.faults old c.tokens.input.lexer new c.args.source.now c.tokens.source c.next_token.new.source i.leaves c.next_token.ensures.leaves;
      calls =
          let last = some_at (λ (t : Token). EndsAsked g.S.Source.read_gives c.tokens.input.lexer c.tokens.source (GotToken t) new c.next_token.new.source) c.in_ok-token.field-0 c.in-Some.token c.in-Some.is c.in_ok-token.ensures.calls in
          on_demand_asked _ g.S.Source.read_gives old c.tokens.input.lexer new c.args.source.now c.tokens.source c.next_token.new.source (GotToken c.in-Some.token) i.calls last;
      along =
          let call = g.S.Source.read_gives in
          let token = some_at (λ (t : Token). (bytes : List ℕ) × TokenAlong call c.tokens.input.lexer c.tokens.source bytes t new c.next_token.new.source) c.in_ok-token.field-0 c.in-Some.token c.in-Some.is c.in_ok-token.ensures.along in
          take_along _ call old c.tokens.input.lexer new c.args.source.now c.tokens.source c.next_token.new.source i.open_lists part.0 c.in-Some.token c.text.result.now i.along token c.text.ensures
          (λ ts. ap (λ (l : Lexeme). resumes i.open_lists (gives l ts)) next.1 ∙ part.2 ts);
    }

pub returns-clause-err : goal.returns-clause-err
returns-clause-err g c =
    let left = g.S.Source.left in
    let faults = g.S.Source.faults in
    let i = c.tokens.invariant in
    end_stop (Rose (faults c.args.source.now) (faults c.next_token.new.source)) i.open_lists c.args.input.now.lexer c.tokens.input.lexer c.next_token.new.self.lexer (left c.args.source.now) (left c.tokens.source) c.at_end.result i.told
    (none_at _ c.in_ok-token.field-0 c.in_default.is c.in_ok-token.ensures.end) (c.at_end.ensures i.open_lists i.builds)

pub returns-in_err-token-clause-calls_err : goal.returns-in_err-token-clause-calls_err
returns-in_err-token-clause-calls_err g c =
    let p = err_from_is_err_and c.from_residual.result c.from_residual.ensures.1 in
    rw (p.1, p.2)
    (reads_later _ g.S.Source.read_gives c.args.input.now.lexer c.tokens.input.lexer c.next_token.new.self.lexer c.args.source.now c.tokens.source c.next_token.new.source c.in_err-token.field-0.0
    c.tokens.invariant.calls c.in_err-token.ensures.calls_err)

-- the token that came last
pub returns-in_err-take-clause-calls_err : goal.returns-in_err-take-clause-calls_err
returns-in_err-take-clause-calls_err g c =
    let p = err_from_is_err_and c.from_residual-in_err-take.result c.from_residual-in_err-take.ensures.1 in
    let call = g.S.Source.read_gives in
    let i = c.tokens.invariant in
    let old = c.args.input.now.lexer in
    let mid = c.tokens.input.lexer in
    let new = c.next_token.new.self.lexer in
    let later = c.next_token.new.source in
    let stop = c.in_err-take.field-0.0 in
    let last = some_at (λ (t : Token). EndsAsked call mid c.tokens.source (GotToken t) new later) c.in_ok-token.field-0 c.in-Some.token c.in-Some.is c.in_ok-token.ensures.calls in
    rw (p.1, p.2)
    (stops_token _ call old new c.args.source.now later c.in-Some.token stop
    (asked_later _ call old mid new c.args.source.now c.tokens.source later (GotToken c.in-Some.token) i.calls last)
    (stops_refused i.open_lists (with_text c.in-Some.token c.text.result.now) stop (c.in_err-take.ensures i.open_lists i.builds)))

pub returns-then-branch-clause-calls : goal.returns-then-branch-clause-calls
returns-then-branch-clause-calls g c =
    let call = g.S.Source.read_gives in
    let i = c.tokens.invariant in
    let old = c.args.input.now.lexer in
    let mid = c.tokens.input.lexer in
    let new = c.next_token.new.self.lexer in
    let later = c.next_token.new.source in
    let last = some_at (λ (t : Token). EndsAsked call mid c.tokens.source (GotToken t) new later) c.in_ok-token.field-0 c.in-Some.token c.in-Some.is c.in_ok-token.ensures.calls in
    let whole : Completes i.open_lists (with_text c.in-Some.token c.text.result.now) c.take.new.self =
    subst (λ b. TakenAt i.open_lists (with_text c.in-Some.token c.text.result.now) (Ok b) c.take.new.self) c.if-branch.true (c.in_ok-take.ensures i.open_lists i.builds) in
    (c.in-Some.token, asked_later _ call old mid new c.args.source.now c.tokens.source later (GotToken c.in-Some.token) i.calls last, whole.3)

pub returns-clause-calls_err : goal.returns-clause-calls_err
returns-clause-calls_err g c =
    let call = g.S.Source.read_gives in
    let i = c.tokens.invariant in
    let old = c.args.input.now.lexer in
    let mid = c.tokens.input.lexer in
    let new = c.next_token.new.self.lexer in
    let later = c.next_token.new.source in
    let last = none_at (EndsAsked call mid c.tokens.source AtEnd new later) c.in_ok-token.field-0 c.in_default.is c.in_ok-token.ensures.calls_end in
    stops_end _ call old new c.args.source.now later c.at_end.result
    (asked_later _ call old mid new c.args.source.now c.tokens.source later AtEnd i.calls last)
    (c.at_end.ensures i.open_lists i.builds).0

-- what was taken of the source
pub returns-in_err-token-clause-cause : goal.returns-in_err-token-clause-cause
returns-in_err-token-clause-cause g c =
    let p = err_from_is_err_and c.from_residual.result c.from_residual.ensures.1 in
    let i = c.tokens.invariant in
    rw (p.1, p.2)
    (token_cause _ g.S.Source.read_gives c.args.input.now.lexer c.tokens.input.lexer c.next_token.new.self.lexer c.args.source.now c.tokens.source c.next_token.new.source i.open_lists c.in_err-token.field-0.0
    i.along c.in_err-token.ensures.along_err)

pub returns-in_err-take-clause-cause : goal.returns-in_err-take-clause-cause
returns-in_err-take-clause-cause g c =
    let p = err_from_is_err_and c.from_residual-in_err-take.result c.from_residual-in_err-take.ensures.1 in
    let i = c.tokens.invariant in
    let stop = c.in_err-take.field-0.0 in
    rw (p.1, p.2)
    (take_cause _ g.S.Source.read_gives c.args.input.now.lexer c.next_token.new.self.lexer c.args.source.now c.next_token.new.source c.in-Some.token.kind c.in-Some.token.place stop
    (stops_refused i.open_lists (with_text c.in-Some.token c.text.result.now) stop (c.in_err-take.ensures i.open_lists i.builds)))

pub returns-clause-cause : goal.returns-clause-cause
returns-clause-cause g c =
    let i = c.tokens.invariant in
    end_cause _ g.S.Source.read_gives c.args.input.now.lexer c.next_token.new.self.lexer c.args.source.now c.next_token.new.source c.at_end.result (c.at_end.ensures i.open_lists i.builds).0
