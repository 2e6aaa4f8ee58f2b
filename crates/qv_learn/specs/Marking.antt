-- Sets of variables.
use Rattle.std.specs.Prelude.{◌≡◌, ℕ, ◌==◌, Bool, ◌||◌, List}
use Rattle.std.specs.List.{list_any}

-- whether the variable is in the set
abbrev pub marked : List ℕ → ℕ → Bool
marked set v = list_any (λ w. w == v) set

-- the variable is in the new set, and no other is new
abbrev pub MarksOne : List ℕ → ℕ → List ℕ → Type 0
MarksOne old v new = (w : ℕ) → marked new w ≡ (marked old w || (v == w))
