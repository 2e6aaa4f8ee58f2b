-- Sorts that are read are lawful.
use Rattle.std.proofs.Common.{◌≡◌, ◌≤◌, ℕ, Bool, true, false, cond, Option, Some, None, List, [], ◌∷◌, Ok, Err, refl, arith}
use Rattle.std.specs.Prelude.{Result, IfOk, ◌&&◌, nat_le, codes}
use Rattle.std.specs.Str.{bytes_eq}
use Rattle.std.proofs.lemmas.Bool.Decides.{nat_tests}
use Rattle.qv_sexpr.specs.Script.{atom, list, none, also}
use Rattle.qv_sexpr.specs.Script.{Tree as Expr}
use Rattle.qv_words.specs.declared.sort.Sort.{Sort}
use Rattle.qv_words.specs.declared.sort.Sort.TheVariants.{Bits}
use Rattle.qv_words.specs.declared.sort.Sort.TheVariants.{Bool as BoolSort}
use Rattle.qv_words.specs.Sort.{IsLawful}
use Rattle.qv_elab_defs.specs.declared.faults.ElabKind.TheVariants.{Index, UnknownName, Width}
use Rattle.qv_elab_defs.specs.Faults.{Fault, refuse, ◌>>=◌}
use Rattle.qv_elab_defs.specs.Tokens.{items, symbol_of, all_wanted}
use Rattle.qv_elab_defs.specs.Shapes.{Construct, Indexed, Application, construct_of, IndexedName, indexed_name}
use Rattle.qv_elab_defs.specs.Sorts.{bits_sort, bits_of_indices, sort_named, indexed_sort, listed_sort}
use Rattle.qv_elab_defs.specs.SortLaws.{SortsAreLawful}

abbrev Fine : Result Sort Fault → Type 0
Fine r = IfOk r IsLawful

either : (b : Bool) (x y : Result Sort Fault) → Fine x → Fine y → Fine (cond b x y)
either true x y h k = h
either false x y h k = k

behind : {A : Type 0} (r : Result A Fault) (next : A → Result Sort Fault) → ((x : A) → Fine (next x)) → Fine (r >>= next)
behind (Ok x) next h = h x
behind (Err fault) next h = tt

fine-bits : (place w : ℕ) → Fine (bits_sort place w)
fine-bits place w = go (nat_le 1 w && nat_le w 128) refl
  where
    go : (b : Bool) → (nat_le 1 w && nat_le w 128) ≡ b → Fine (cond b (Ok (Bits w)) (refuse place Width))
    go true e = let low : 1 ≤ w = grind (arith, nat_tests) in let high : w ≤ 128 = grind (arith, nat_tests) in (low, high)
    go false e = tt

fine-indices : (place : ℕ) (ns : List ℕ) → Fine (bits_of_indices place ns)
fine-indices place [] = tt
fine-indices place (w ∷ []) = fine-bits place w
fine-indices place (w ∷ v ∷ ns) = tt

fine-named : (place : ℕ) (name : Option (List ℕ)) → Fine (sort_named place name)
fine-named place None = tt
fine-named place (Some name) =
    either (bytes_eq name (codes "Bool")) (Ok BoolSort) _ (omega arith, omega arith)
    (either (bytes_eq name (codes "BitVec")) (refuse place Index) (refuse place UnknownName) tt tt)

fine-indexed : (place : ℕ) (name : Option IndexedName) → Fine (indexed_sort place name)
fine-indexed place None = tt
fine-indexed place (Some i) =
    either (bytes_eq i.name (codes "BitVec")) _ _ (behind (all_wanted (i.first ∷ i.others)) (bits_of_indices place) (fine-indices place))
    (either (bytes_eq i.name (codes "Bool")) _ _ (behind (all_wanted (i.first ∷ i.others)) (λ ns. refuse place Index) (λ ns. tt)) tt)

fine-listed : (c : Construct) (place : ℕ) (first : Expr) (others : List Expr) → Fine (listed_sort c place first others)
fine-listed Indexed place first others = fine-indexed place (indexed_name others)
fine-listed Application place first [] = tt
fine-listed Application place first (e ∷ es) = tt
fine-listed _ place first others = tt

pub sorts-are-lawful : SortsAreLawful
sorts-are-lawful (atom l) = fine-named l.place (symbol_of (atom l))
sorts-are-lawful (list place none close) = tt
sorts-are-lawful (list place (also first others) close) = fine-listed (construct_of first) place first (items others)
