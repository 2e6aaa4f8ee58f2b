-- Depths over those of children.
use Rattle.std.proofs.Common.{◌≡◌, ℕ, ◌+◌, ◌<◌, max, List, length, drop, get_or, ap, sym, ◌∙◌}
use Rattle.std.proofs.lemmas.List.{drop_more}
use Rattle.qv_store.specs.declared.facts.Facts.{Facts}
use Rattle.qv_store.specs.Facts.{deepest, facts_at}

-- the next number of a list of children, and the rest
pub deepest-next : (facts : List Facts) (kids : List ℕ) (i kid n : ℕ) → i < length kids → kid ≡ get_or kids i kid → n ≡ kid → deepest facts (drop i kids) ≡ max (facts_at facts n).depth (deepest facts (drop (i + 1) kids))
deepest-next facts kids i kid n h is same = ap (deepest facts) (drop_more kids i kid h) ∙ ap (λ k. max (facts_at facts k).depth (deepest facts (drop (i + 1) kids))) (sym (same ∙ is))
