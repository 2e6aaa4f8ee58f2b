-- The first item that is kept.
use Rattle.std.proofs.Common.{◌≡◌, ◌<◌, ◌+◌, ◌∙◌, ◌∷◌, ap, ℕ, Bool, true, false, Some, List, drop, length, get_or}
use Rattle.std.proofs.lemmas.List.{at_drop_more}
use Rattle.qv_core.specs.Searching.{first_from}

-- an item that isn't kept is passed
pub first_passes : (kept : List Bool) (n : ℕ) → n < length kept → get_or kept n false ≡ false → first_from n (drop n kept) ≡ first_from (n + 1) (drop (n + 1) kept)
first_passes kept n within gone = at_drop_more (first_from n) kept n false within ∙ ap (λ b. first_from n (b ∷ drop (n + 1) kept)) gone

-- one that is kept is the first
pub first_found : (kept : List Bool) (n : ℕ) → n < length kept → get_or kept n false ≡ true → first_from n (drop n kept) ≡ Some n
first_found kept n within stays = at_drop_more (first_from n) kept n false within ∙ ap (λ b. first_from n (b ∷ drop (n + 1) kept)) stays
