-- Heads of applications as the code tells them.
use Rattle.std.specs.Prelude.{◌≡◌, ℕ, Option, Some, None, option_and_then, List, [], ◌∷◌, slice_get, Result, Ok, Err}
use Rattle.qv_sexpr.specs.declared.items.Item.{Item}
use Rattle.qv_words.specs.declared.sort.Sort.{Sort}
use Rattle.qv_words.specs.declared.op.Op.{Op}
use Rattle.qv_words.specs.Tree.{Tree}
use Rattle.qv_sorts.specs.declared.operators.NameFault.{NameFault}
use Rattle.qv_elab_defs.specs.declared.faults.ElabFault.{ElabFault}
use Rattle.qv_elab_defs.specs.declared.faults.ElabFault.TheVariants.{At, NoMemory}
use Rattle.qv_elab_scope.specs.declared.heads.Head.{Head as Told}
use Rattle.qv_elab_scope.specs.declared.heads.Head.TheVariants as told
use Rattle.qv_elab_defs.specs.Faults.{Fault, refuse, ◌>>=◌}
use Rattle.qv_elab_defs.specs.Scopes.{Scope, Definition, found}
use Rattle.qv_elab_defs.specs.declared.faults.ElabKind.TheVariants.{Form, NotSupported, Index}
use Rattle.qv_elab_defs.specs.Tokens.{Number, all_wanted}
use Rattle.qv_elab_defs.specs.Shapes.{Construct, Indexed, Qualified}
use Rattle.qv_elab_defs.specs.Heads.{Head, Macro, Distinct, Operator, HeadName, head_indexed}
use Rattle.qv_elab_items.specs.Flat.{name_in, construct_in, indexed_in}

-- the name that stands at an item of this number
abbrev pub name_at : List ℕ → List Item → ℕ → Option (List ℕ)
name_at text items i = option_and_then (name_in text) (slice_get items i)

-- what is applied, where this name stands at the head
abbrev pub IsHead : Scope → Option (List ℕ) → Told → Head → Type 0
IsHead defs name told.Macro head =
    (n : List ℕ) × (sorts : List Sort) × (read : ℕ → List Tree → Result Tree Fault)
    × (name ≡ Some n) × (found n defs ≡ Some (Definition sorts read)) × (head ≡ Macro sorts read)
IsHead defs name told.Distinct head = head ≡ Distinct
IsHead defs name (told.Operator o) head = head ≡ Operator o

-- a head, or its fault; no memory is wanted
abbrev pub IsTold : Scope → Option (List ℕ) → Result Head Fault → Result Told ElabFault → Type 0
IsTold defs name given (Ok head) = (h : Head) × (given ≡ Ok h) × IsHead defs name head h
IsTold defs name given (Err (At place kind)) = given ≡ Err (record { place = place; kind = kind })
IsTold defs name given (Err NoMemory) = ⊥

-- the operator, if there is one
abbrev pub op_of : Result Op NameFault → Option Op
op_of (Ok o) = Some o
op_of (Err fault) = None

-- a list at the head by its items: by what it begins with, and what follows
abbrev pub head_by : Construct → Scope → ℕ → ℕ → List ℕ → List Item → Result Head Fault
head_by Indexed scope place p text others = head_indexed scope p (indexed_in text others)
head_by Qualified scope place p text others = refuse p NotSupported
head_by _ scope place p text others = refuse place Form

abbrev pub head_in : Scope → ℕ → ℕ → List ℕ → List Item → Result Head Fault
head_in scope place p text [] = refuse place Form
head_in scope place p text (first ∷ others) = head_by (construct_in text first) scope place p text others

-- a name at the head
abbrev pub named : ℕ → ℕ → List ℕ → List Number → HeadName
named head_place place name ns = record { head_place = head_place; place = place; name = name; indices = ns }

-- a head that has no indices
abbrev pub no_head : ℕ → List Number → Result Head Fault
no_head place ns = all_wanted ns >>= λ _. refuse place Index
