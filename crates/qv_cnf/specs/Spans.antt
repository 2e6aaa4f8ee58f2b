-- Lists that stand one behind the other in one list, by where each ends.
use Rattle.std.specs.Prelude.{◌≡◌, ℕ, zero, suc, ◌≤◌, List, [], ◌∷◌, length, slice_index_or, slice_range}
use Rattle.qv_cnf.specs.Literal.{Literal}

-- the lists up to these ends, the first of which begins at this place, and each other one where the
-- one before ends
abbrev pub lists_from : ℕ → List Literal → List ℕ → List (List Literal)
lists_from start lits [] = []
lists_from start lits (e ∷ es) = slice_range lits start e ∷ lists_from e lits es

-- the ends don't fall, and the last of them is that of the whole
abbrev pub Packs : ℕ → List Literal → List ℕ → Type 0
Packs start lits [] = start ≡ length lits
Packs start lits (e ∷ es) = (start ≤ e) × Packs e lits es

-- where the list at a place begins, and where one behind the last would
abbrev pub start_at : List ℕ → ℕ → ℕ
start_at ends zero = 0
start_at ends (suc k) = slice_index_or ends k 0
