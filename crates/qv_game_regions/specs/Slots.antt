-- Terms by their places.
use Rattle.std.specs.Prelude.{ℕ, Option, Some, None, List, ◌++◌, map, replicate}

-- none for the places before the first, and then the terms
abbrev pub slots_from : ℕ → List ℕ → List (Option ℕ)
slots_from first terms = replicate first None ++ map Some terms
