-- Names behind one more byte.
use Rattle.std.specs.Prelude.{ℕ, List, ◌∷◌}
use Rattle.qv_elab_items.specs.declared.prefixed.Prefixed.{Prefixed}

-- the bytes of both
abbrev pub bytes_of : Prefixed → List ℕ
bytes_of x = x.first ∷ x.name.now
