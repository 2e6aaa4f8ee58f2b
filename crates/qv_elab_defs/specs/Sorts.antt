-- The sort that an expression is, or why it is none.
use Rattle.std.specs.Prelude.{ℕ, ◌&&◌, ◌||◌, nat_le, if◌then◌else◌, Bool, Option, Some, None, List, [], ◌∷◌, Result, Ok, codes}
use Rattle.std.specs.Str.{bytes_eq}
use Rattle.qv_sexpr.specs.Script.{atom, list, none, also}
use Rattle.qv_sexpr.specs.Script.{Tree as Expr}
use Rattle.qv_words.specs.declared.sort.Sort.{Sort}
use Rattle.qv_words.specs.declared.sort.Sort.TheVariants.{Bits}
use Rattle.qv_words.specs.declared.sort.Sort.TheVariants.{Bool as BoolSort}
use Rattle.qv_elab_defs.specs.declared.faults.ElabKind.TheVariants.{Form, NotSupported, UnknownName, Index, Width}
use Rattle.qv_elab_defs.specs.Faults.{Fault, refuse, ◌>>=◌}
use Rattle.qv_elab_defs.specs.Tokens.{items, symbol_of, is_symbol, all_wanted}
use Rattle.qv_elab_defs.specs.Shapes.{Construct, Indexed, Qualified, Unsupported, Application, construct_of, IndexedName, indexed_name}

-- bit-vectors of this width, at this place
abbrev pub bits_sort : ℕ → ℕ → Result Sort Fault
bits_sort place w = if nat_le 1 w && nat_le w 128 then Ok (Bits w) else refuse place Width

-- BitVec has one index
abbrev pub bits_of_indices : ℕ → List ℕ → Result Sort Fault
bits_of_indices place (w ∷ []) = bits_sort place w
bits_of_indices place _ = refuse place Index

-- the names that stand for sorts, or that sorts begin with, without a definition
abbrev pub is_sort_name : List ℕ → Bool
is_sort_name name = bytes_eq name (codes "Bool") || bytes_eq name (codes "BitVec")

-- a sort by its name alone
abbrev pub sort_named : ℕ → Option (List ℕ) → Result Sort Fault
sort_named place (Some name) =
    if bytes_eq name (codes "Bool") then Ok BoolSort
    else (if bytes_eq name (codes "BitVec") then refuse place Index
    else refuse place UnknownName)
sort_named place None = refuse place Form

-- a sort by its name and indices
abbrev pub indexed_sort : ℕ → Option IndexedName → Result Sort Fault
indexed_sort place (Some i) =
    if bytes_eq i.name (codes "BitVec") then all_wanted (i.first ∷ i.others) >>= bits_of_indices place
    else (if bytes_eq i.name (codes "Bool") then (all_wanted (i.first ∷ i.others) >>= λ _. refuse place Index)
    else refuse i.place UnknownName)
indexed_sort place None = refuse place Form

-- a list by its first expression and the others: indexed sorts are the only ones
abbrev pub listed_sort : Construct → ℕ → Expr → List Expr → Result Sort Fault
listed_sort Indexed place first others = indexed_sort place (indexed_name others)
listed_sort Qualified place first others = refuse place NotSupported
listed_sort Unsupported place first others = refuse place NotSupported
listed_sort Application place first (e ∷ es) = refuse place (if is_symbol first then NotSupported else Form)
listed_sort _ place first others = refuse place Form

abbrev pub read_sort : Expr → Result Sort Fault
read_sort (atom l) = sort_named l.place (symbol_of (atom l))
read_sort (list place none close) = refuse place Form
read_sort (list place (also first others) close) = listed_sort (construct_of first) place first (items others)
