-- The blocks of a prefix, with their places.
use Rattle.std.specs.Prelude.{ℕ, suc, ◌+◌, if◌then◌else◌, Option, Some, None, List, [], ◌∷◌, length}
use Rattle.qv_words.specs.Problem.{Place, Quantifier}
use Rattle.qv_words.specs.Linked.{Block, same_quantifier}
use Rattle.qv_store.specs.Problems.{quantifier_of}
use Rattle.qv_game_state.specs.declared.spans.Span.{Span as Kept}

-- who owns a block, and its places from the first one up to the end, which isn't among them
pub record Span : Type 0 where
  pub owner : Quantifier
  pub first : ℕ
  pub end : ℕ

abbrev pub span_of : Kept → Span
span_of s = record { owner = quantifier_of s.owner; first = s.first; end = s.end }

-- the blocks, the first of which begins at this place
abbrev pub spans_from : ℕ → List Block → List Span
spans_from first [] = []
spans_from first (b ∷ bs) = record { owner = b.owner; first = first; end = first + length b.sorts } ∷ spans_from (first + length b.sorts) bs

-- the blocks of places from this one on, where one may have begun
abbrev pub spans_with : ℕ → Option Span → List Place → List Span
spans_with place None [] = []
spans_with place (Some s) [] = s ∷ []
spans_with place None (p ∷ ps) = spans_with (suc place) (Some (record { owner = p.quantifier; first = place; end = suc place })) ps
spans_with place (Some s) (p ∷ ps) =
    if same_quantifier s.owner p.quantifier then spans_with (suc place) (Some (record { owner = s.owner; first = s.first; end = suc place })) ps
    else s ∷ spans_with (suc place) (Some (record { owner = p.quantifier; first = place; end = suc place })) ps
