-- What stands for variables, by their places. No public contract cites this.
use Rattle.std.specs.Prelude.{◌≡◌, ℕ, nat_eq, List}
use Rattle.std.specs.HashMap.{get, HashMap}
use Rattle.std.specs.declared.hash.FoldHasher.{FoldHasher}
use Rattle.std.specs.declared.hash.BuildHasherDefault.{BuildHasherDefault}
use Rattle.qv_words.specs.Tree.{Tree}
use Rattle.qv_qdimacs.specs.declared.places.Places.{Places}
use Rattle.qv_qdimacs.specs.Outer.{place_in}
use Rattle.qv_qdimacs.specs.Translation.{leaf_at}

-- numbers of variables
abbrev pub PlaceMap : Type 0
PlaceMap = HashMap ℕ ℕ (BuildHasherDefault FoldHasher)

-- they are the places in a list
abbrev pub ArePlaces : List ℕ → PlaceMap → Type 0
ArePlaces vs places = (v : ℕ) → get nat_eq places v ≡ place_in vs v

-- what stands for a variable
abbrev pub leaf_in : Places → ℕ → Tree
leaf_in places v = leaf_at (get nat_eq places.bound v) (get nat_eq places.outer v)
