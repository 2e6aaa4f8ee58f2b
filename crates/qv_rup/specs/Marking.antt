-- Which literals are marked.
use Rattle.std.specs.Prelude.{◌≡◌, ℕ, nat_eq, nat_lt, if◌then◌else◌, Bool, false, not, List, [], ◌∷◌, length, map, slice_index_or}
use Rattle.std.specs.HashSet.{HashSet, contains}
use Rattle.std.specs.declared.hash.FoldHasher.{FoldHasher}
use Rattle.std.specs.declared.hash.BuildHasherDefault.{BuildHasherDefault}
use Rattle.qv_cnf.specs.Literal.{Literal, index_of}
use Rattle.qv_cnf.specs.Refutation.{among}
use Rattle.qv_rup.specs.declared.marks.Marked.{Marked}

-- whether a place is marked: in the table, and past its end in the set of the others
abbrev pub mark_at : List Bool → HashSet ℕ (BuildHasherDefault FoldHasher) → ℕ → Bool
mark_at table others k = if nat_lt k (length table) then slice_index_or table k false else contains nat_eq others k

-- the places of the set's literals are marked, and no others
abbrev pub AreMarked : List Bool → HashSet ℕ (BuildHasherDefault FoldHasher) → List Literal → Type 0
AreMarked table others set = (l : Literal) → mark_at table others (index_of l) ≡ among set l

-- the literals of a set, the last one first
abbrev pub literals_of : List Marked → List Literal
literals_of set = map (λ m. m.lit) set

-- each was fresh where it wasn't inserted before
abbrev pub AreFresh : List Marked → Type 0
AreFresh [] = Unit {0}
AreFresh (m ∷ ms) = (m.fresh ≡ not (among (literals_of ms) m.lit)) × AreFresh ms
