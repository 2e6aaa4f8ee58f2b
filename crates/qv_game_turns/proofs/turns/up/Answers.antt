use Rattle.std.proofs.Common.{◌≡◌, ◌-◌, ℕ, zero, suc, Some, List, [], ◌∷◌, map, take, get_or, slice_get, ap, ◌∙◌, sym, subst, arith}
use Rattle.qv_game_state.specs.Spans.{Span, span_of}
use Rattle.qv_game_state.specs.declared.spans.Span.{Span as Kept}
use Rattle.qv_game_turns.proofs.turns.up.Goals as goal

span-first : (xs : List Kept) (k j : ℕ) (d : Kept) (s : Span) → j ≡ k → slice_get (map span_of xs) k ≡ Some s → (get_or xs j d).first ≡ s.first
span-first xs k j d s same e = subst (λ (i : ℕ). (get_or xs i d).first ≡ s.first) (sym same) (go xs k e)
  where
    go : (ys : List Kept) (i : ℕ) → slice_get (map span_of ys) i ≡ Some s → (get_or ys i d).first ≡ s.first
    go [] i e = absurd (cc)
    go (y ∷ ys) zero e = let same : span_of y ≡ s = cc in ap (λ (t : Span). t.first) same
    go (y ∷ ys) (suc i) e = go ys i e

pub returns : goal.returns
returns c = (
  c.if-level-eq1.false,
  (let low = c.requires.low in omega (arith, low)),
  λ s at.
      c.truncate.ensures.items ∙ ap (λ (n : ℕ). take n c.args.point.items) (span-first c.args.spans.now (c.args.level - 1 - 1) (c.args.level - 2) _ s (omega arith) at),
)
