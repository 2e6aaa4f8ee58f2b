-- Arguments that are watched.
use Rattle.std.specs.Prelude.{ℕ, List, [], ◌∷◌}
use Rattle.qv_elab_macros.specs.declared.standing.Watched.{Watched}

-- arguments, each at the depth of its parameter
abbrev pub watched_args : List ℕ → List ℕ → List Watched
watched_args (n ∷ ns) (d ∷ ds) = record { id = n; depth = d } ∷ watched_args ns ds
watched_args _ _ = []
