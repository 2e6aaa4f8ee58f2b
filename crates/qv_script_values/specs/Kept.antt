-- What stays of a text that is added to.
use Rattle.std.specs.Prelude.{◌≡◌, ℕ, List, length, take}

-- what stood in a text still stands at its front
abbrev pub Keeps : List ℕ → List ℕ → Type 0
Keeps old new = take (length old) new ≡ old
