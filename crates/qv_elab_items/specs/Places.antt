-- Where names are bound.
use Rattle.std.specs.Prelude.{ℕ, if◌then◌else◌, Option, Some, None, List, [], ◌∷◌, length}
use Rattle.std.specs.Str.{bytes_eq}

-- the place of the newest binding of a name among these, the newest first: the oldest has place 0
abbrev pub place_in : List ℕ → List (List ℕ) → Option ℕ
place_in name [] = None
place_in name (n ∷ ns) = if bytes_eq n name then Some (length ns) else place_in name ns
