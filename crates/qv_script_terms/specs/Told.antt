-- What the formulas of commands are told as. No public contract cites this.
use Rattle.std.specs.Prelude.{◌≡◌, ℕ, List, Result, Ok, Err}
use Rattle.qv_sexpr.specs.Script.{Tree as Written}
use Rattle.qv_words.specs.declared.sort.Sort.TheVariants.{Bool as BoolSort}
use Rattle.qv_words.specs.Tree.{Tree}
use Rattle.qv_store.specs.Stores.{StandsAt}
use Rattle.qv_elab_defs.specs.Faults.{◌>>=◌}
use Rattle.qv_elab_defs.specs.Scopes.{Scope}
use Rattle.qv_elab_defs.specs.Tokens.{place_of}
use Rattle.qv_elab_defs.specs.Elaborating.{of_sort}
use Rattle.qv_elab_defs.specs.Defining.{elaborate}
use Rattle.qv_script_defs.specs.declared.faults.ScriptFault.{ScriptFault}
use Rattle.qv_script_defs.specs.declared.faults.ScriptFault.TheVariants.{At, NoMemory}
use Rattle.qv_script_defs.specs.Faults.{Fault, inside}

-- the formula that an expression is, with the fault of another sort at the place of a second one
abbrev pub formula_of : Scope → Written → Written → Result Tree Fault
formula_of scope e whole = inside (elaborate scope e >>= of_sort BoolSort (place_of whole))

-- the tree of the term that is told, or its fault; want of memory says nothing
abbrev pub TellsTree : List Tree → Result Tree Fault → Result ℕ ScriptFault → Type 0
TellsTree trees given (Ok id) = (t : Tree) × (given ≡ Ok t) × StandsAt trees id t
TellsTree trees given (Err (At place kind)) = given ≡ Err (record { place = place; kind = kind })
TellsTree trees given (Err NoMemory) = Unit {0}
