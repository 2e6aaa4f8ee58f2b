-- What names stand for.
use Rattle.std.specs.Prelude.{ℕ, suc, ◌+◌, if◌then◌else◌, Option, Some, None, List, [], ◌∷◌, ◌++◌, length, Result}
use Rattle.std.specs.Str.{bytes_eq}
use Rattle.qv_words.specs.declared.sort.Sort.{Sort}
use Rattle.qv_words.specs.Tree.{Tree, Variable}
use Rattle.qv_elab_defs.specs.Faults.{Fault}

-- A constant by its index and sort, a definition, or a sort. A definition is what its body gives at a
-- use, where so many binders are open and these trees stand for its parameters.
pub data Entry : Type 0 where
  Constant : (index : ℕ) → (s : Sort) → Entry
  Definition : (parameters : List Sort) → (body : ℕ → List Tree → Result Tree Fault) → Entry
  Synonym : (s : Sort) → Entry

-- names and what they stand for, the newest first
abbrev pub Named : Type 0 → Type 0
Named A = List (List ℕ × A)

-- the constants, definitions and sorts in force
abbrev pub Scope : Type 0
Scope = Named Entry

abbrev pub if_constant : List ℕ → Entry → Named Sort
if_constant name (Constant index s) = (name, s) ∷ []
if_constant name (Definition parameters body) = []
if_constant name (Synonym s) = []

-- the constants in the order of their declaration
abbrev pub constants_of : Scope → Named Sort
constants_of [] = []
constants_of (x ∷ xs) = constants_of xs ++ if_constant x.0 x.1

-- a scope with one more constant, whose index is the number of constants before it
abbrev pub declared : List ℕ → Sort → Scope → Scope
declared name s scope = (name, Constant (length (constants_of scope)) s) ∷ scope

-- Names of sorts have a table of their own: they stand behind a bar, which no symbol has.
abbrev pub sort_key : List ℕ → List ℕ
sort_key name = 124 ∷ name

-- a scope with one more sort
abbrev pub with_sort : List ℕ → Sort → Scope → Scope
with_sort name s scope = (sort_key name, Synonym s) ∷ scope

-- what a name stands for
abbrev pub found : {A : Type 0} → List ℕ → Named A → Option A
found name [] = None
found name (x ∷ xs) = if bytes_eq x.0 name then Some x.1 else found name xs

-- where an expression stands: the scope, the trees of the names that are bound around it, and how
-- many binders are open
pub record Context : Type 0 where
  pub scope : Scope
  pub bound : Named Tree
  pub binders : ℕ

-- names with their sorts as variables, the first of this level
abbrev pub with_variables : ℕ → Named Sort → Named Tree → Named Tree
with_variables level [] bound = bound
with_variables level (x ∷ xs) bound = with_variables (suc level) xs ((x.0, Variable level x.1) ∷ bound)

-- the same place below binders of these variables
abbrev pub below_binders : Named Sort → Context → Context
below_binders xs c = record { scope = c.scope; bound = with_variables c.binders xs c.bound; binders = c.binders + length xs }

-- no names are bound, and no binder is open
abbrev pub outermost : Scope → Context
outermost scope = record { scope = scope; bound = []; binders = 0 }
