-- How names are kept of which no two are the same: in the order in which they came.
use Rattle.std.specs.Prelude.{◌≡◌, ℕ, None, List, [], ◌∷◌, Vec}
use Rattle.std.specs.declared.alloc.Global.{Global}
use Rattle.qv_elab_items.specs.Places.{place_in}

-- names in the order in which they came, in front of others
abbrev pub keys_onto : List (Vec ℕ Global) → List (List ℕ) → List (List ℕ)
keys_onto [] names = names
keys_onto (k ∷ ks) names = keys_onto ks (k.items ∷ names)

-- the names, the newest first
unfoldable pub names_in : List (Vec ℕ Global) → List (List ℕ)
names_in ks = keys_onto ks []

-- no two are the same
abbrev pub HaveNoTwins : List (List ℕ) → Type 0
HaveNoTwins [] = Unit {0}
HaveNoTwins (n ∷ ns) = (place_in n ns ≡ None) × HaveNoTwins ns
