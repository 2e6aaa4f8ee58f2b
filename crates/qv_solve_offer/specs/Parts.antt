-- Parts of lists.
use Rattle.std.specs.Prelude.{◌≡◌, ◌⊎◌, List, [], ◌∷◌}

-- some of a list, in its order
abbrev pub IsPart : {A : Type 0} → List A → List A → Type 0
IsPart xs [] = xs ≡ []
IsPart xs (y ∷ ys) = IsPart xs ys ⊎ ((rest : List _) × (xs ≡ y ∷ rest) × IsPart rest ys)
