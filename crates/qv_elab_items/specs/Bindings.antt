-- How names are kept: the newest place of each, and at each binding the one before it.
use Rattle.std.specs.Prelude.{◌≡◌, ℕ, Some, List, [], ◌∷◌, length, slice_get, slice_index_or, take, Vec}
use Rattle.std.specs.Str.{bytes_eq}
use Rattle.std.specs.HashMap.{HashMap, get_by}
use Rattle.std.specs.declared.alloc.Global.{Global}
use Rattle.std.specs.declared.hash.DefaultHasher.{DefaultHasher}
use Rattle.std.specs.declared.hash.BuildHasherDefault.{BuildHasherDefault}
use Rattle.qv_elab_items.specs.declared.names.Bound.{Bound}
use Rattle.qv_elab_defs.specs.Scopes.{Named}
use Rattle.qv_elab_items.specs.Places.{place_in}

-- the names of bindings, in front of others
abbrev pub names_onto : List Bound → List (List ℕ) → List (List ℕ)
names_onto [] names = names
names_onto (b ∷ bs) names = names_onto bs (b.name.items ∷ names)

-- the names of bindings, the newest first
unfoldable pub names_of : List Bound → List (List ℕ)
names_of bs = names_onto bs []

-- names, the newest first, with what stands at their places
unfoldable pub named_of : List (List ℕ) → List ℕ → Named ℕ
named_of [] ids = []
named_of (n ∷ ns) ids = (n, slice_index_or ids (length ns) 0) ∷ named_of ns ids

-- something stands at the place of each name
abbrev pub HaveIds : List (List ℕ) → List ℕ → Type 0
HaveIds names ids = length names ≡ length ids

-- the map has the newest place of each name, and each binding the newest place before it
pub record AreKept (newest : HashMap (Vec ℕ Global) ℕ (BuildHasherDefault DefaultHasher)) (bound : List Bound) : Type 0 where
  pub found : (name : List ℕ) → get_by (λ k. bytes_eq name k.items) newest ≡ place_in name (names_of bound)
  pub before : (i : ℕ) (b : Bound) → slice_get bound i ≡ Some b → b.before ≡ place_in b.name.items (names_of (take i bound))
