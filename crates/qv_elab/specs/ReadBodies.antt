-- What is answered of definitions that are read, and of their parameters.
use Rattle.std.specs.Prelude.{◌≡◌, List, [], ◌∷◌, ◌++◌, map, Result, Ok, Err, Vec}
use Rattle.qv_sexpr.specs.Script.{Tree as Expr}
use Rattle.qv_words.specs.declared.sort.Sort.{Sort}
use Rattle.qv_words.specs.Tree.{Tree}
use Rattle.std.specs.declared.alloc.Global.{Global}
use Rattle.qv_elab_macros.specs.declared.body.Body.{Body}
use Rattle.qv_elab.specs.declared.bodies.Parameter.{Parameter}
use Rattle.qv_elab_defs.specs.declared.faults.ElabFault.{ElabFault}
use Rattle.qv_elab_defs.specs.declared.faults.ElabFault.TheVariants.{At, NoMemory}
use Rattle.qv_elab_defs.specs.Scopes.{Named, Scope}
use Rattle.qv_elab_defs.specs.Shapes.{Pair}
use Rattle.qv_elab_defs.specs.Defining.{elaborate_body, read_parameters}
use Rattle.qv_elab_macros.specs.Readings.{IsReading}

-- parameters, each by its name
abbrev pub parameters_of : List Parameter → Named Sort
parameters_of parameters = map (λ p. (p.name.items, p.sort)) parameters

-- what is answered of a definition's own reading, or its fault; want of memory says nothing
abbrev pub Reads : List Tree → Scope → Named Sort → Sort → Expr → Result Body ElabFault → Type 0
Reads trees scope parameters s e (Ok body) = IsReading trees scope parameters s e body
Reads trees scope parameters s e (Err (At place kind)) = elaborate_body scope parameters s e ≡ Err (record { place = place; kind = kind })
Reads trees scope parameters s e (Err NoMemory) = Unit {0}

-- the pairs up to some one have no fault
pub record BeginsWell (scope : Scope) (pairs : List Pair) : Type 0 where
  pub front : List Pair
  pub p : Pair
  pub behind : List Pair
  pub parameters : Named Sort
  pub pairs_are : pairs ≡ front ++ p ∷ behind
  pub read : read_parameters scope (front ++ p ∷ []) [] ≡ Ok parameters

-- what is answered of the pairs of a parameter list, or the first fault; where memory ran out at a pair,
-- the pairs up to it have no fault
abbrev pub ReadsParameters : Scope → List Pair → Result (Vec Parameter Global) ElabFault → Type 0
ReadsParameters scope pairs (Ok parameters) = read_parameters scope pairs [] ≡ Ok (parameters_of parameters.items)
ReadsParameters scope pairs (Err (At place kind)) = read_parameters scope pairs [] ≡ Err (record { place = place; kind = kind })
ReadsParameters scope pairs (Err NoMemory) = BeginsWell scope pairs
