-- The logics that a script may set.
use Rattle.std.specs.Prelude.{ℕ, ◌||◌, ◌&&◌, if◌then◌else◌, Bool, List, [], ◌∷◌, length, take, drop, codes}
use Rattle.std.specs.Str.{bytes_eq}
use Rattle.std.specs.List.{list_any}

-- whether a word stands in front of a name
abbrev pub begins_with : List ℕ → List ℕ → Bool
begins_with word name = bytes_eq (take (length word) name) word

-- a name without a word in front of it, where it stands there
abbrev pub without : List ℕ → List ℕ → List ℕ
without word name = if begins_with word name then drop (length word) name else name

-- arrays, with extensionality or not
abbrev pub without_arrays : List ℕ → List ℕ
without_arrays name = if begins_with (codes "AX") name then drop 2 name else without (codes "A") name

-- nothing, or one of the theories of numbers
abbrev pub is_arithmetic : List ℕ → Bool
is_arithmetic name =
    list_any (bytes_eq name) (codes "" ∷ codes "LIA" ∷ codes "LRA" ∷ codes "LIRA" ∷ codes "NIA" ∷ codes "NRA" ∷ codes "NIRA" ∷ codes "IDL" ∷ codes "RDL" ∷ [])

-- BV, and behind it theories in the standard's order
abbrev pub is_of_bits : List ℕ → Bool
is_of_bits name = begins_with (codes "BV") name && is_arithmetic (without (codes "S") (without (codes "DT") (without (codes "FP") (drop 2 name))))

-- a name for all theories
abbrev pub is_all : List ℕ → Bool
is_all name = list_any (bytes_eq name) (codes "ALL" ∷ codes "ALL_SUPPORTED" ∷ [])

-- such a name, or one of the standard's in which BV stands
unfoldable pub is_logic : List ℕ → Bool
is_logic name = is_all name || is_of_bits (without (codes "UF") (without_arrays (without (codes "QF_") name)))
