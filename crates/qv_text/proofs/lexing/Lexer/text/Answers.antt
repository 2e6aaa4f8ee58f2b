use Rattle.std.proofs.Common.{◌≡◌, ℕ, ◌-◌, List, length, take, drop, option_map, IfSome, ap, subst, ◌∙◌, arith}
use Rattle.qv_text.specs.Reading.{token_of}
use Rattle.qv_text.specs.Progress.{Progress}
use Rattle.qv_text.specs.Inside.{IsKept, shown}
use Rattle.qv_text.proofs.Feeding.{kept_token, text_as}
use Rattle.qv_text.proofs.lexing.Lexer.text.Goals as goal
use Rattle.qv_text.proofs.lexing.Lexer.text.Goals.{After-self}

-- the token stands in the buffer
kept : (c : After-self) → IsKept c.self.inside.base (length c.self.inside.buffer.items) c.args.token.now × IfSome (shown c.self.inside.base c.self.inside.start c.self.inside.buffer.items c.self.inside.comment c.self.inside.finished c.self.inside.last).last (λ l. take (c.args.token.now.end - c.args.token.now.place) (drop (c.args.token.now.place - c.self.inside.base) c.self.inside.buffer.items) ≡ l.text)
kept c =
    let i = c.self.inside in
    kept_token i.base i.start i.buffer.items i.comment i.finished i.last c.args.token.now c.self.invariant.kept (ap (λ (o : Progress). option_map token_of o.last) c.self.view_is ∙ c.requires)

pub overflow_sub-from : goal.overflow_sub-from
overflow_sub-from c = (kept c).0.begins

pub overflow_sub-to : goal.overflow_sub-to
overflow_sub-to c =
    let k = (kept (goal.at.overflow_sub-to c).After-self).0 in
    omega (arith, k.begins, k.ordered)

pub slice_bounds-result-end : goal.slice_bounds-result-end
slice_bounds-result-end c =
    let k = (kept (goal.at.slice_bounds-result-end c).After-self).0 in
    let size : length c.deref.result.now ≡ length c.self.inside.buffer.items = ap length c.deref.ensures.value in
    omega (arith, k.begins, k.ordered, k.ends)

pub returns : goal.returns
returns c =
    let i = c.self.inside in
    let k = kept (goal.at.returns c).After-self in
    let from = c.args.token.now.place - i.base in
    subst (λ (o : Progress). IfSome o.last (λ l. take (c.args.token.now.end - i.base - from) (drop from c.deref.result.now) ≡ l.text)) c.self.view_is
    (text_as _ _ _
    (ap (λ (xs : List ℕ). take (c.args.token.now.end - i.base - from) (drop from xs)) c.deref.ensures.value
    ∙ ap (λ n. take n (drop from i.buffer.items)) (omega (arith, k.0.begins, k.0.ordered)))
    k.1)
