-- What pins the uses of definitions down.
use Rattle.std.specs.Prelude.{◌≡◌, ℕ, ◌+◌, ◌<◌, ◌≤◌, ◌↔◌, Option, Some, None, IfOk, IfErr, IsErr, List, All, Any, map, zip, length, Result, Ok}
use Rattle.qv_sexpr.specs.Script.{Tree as Expr}
use Rattle.qv_words.specs.declared.sort.Sort.{Sort}
use Rattle.qv_words.specs.Tree.{Tree, tree_sort}
use Rattle.qv_words.specs.Sorted.{IsSorted, free_levels}
use Rattle.qv_elab_defs.specs.declared.faults.ElabKind.TheVariants.{DepthLimit}
use Rattle.qv_elab_defs.specs.Faults.{Fault}
use Rattle.qv_elab_defs.specs.Written.{HasTokens}
use Rattle.qv_elab_defs.specs.Scopes.{Named, Scope}
use Rattle.qv_elab_defs.specs.Applying.{depth_of, depth_limit}
use Rattle.qv_elab_defs.specs.Elaborating.{elab}
use Rattle.qv_elab_defs.specs.Defining.{elaborate_body}
use Rattle.qv_elab_defs.specs.Putting.{put_in}
use Rattle.qv_elab_defs.specs.TreeLaws.{AreParameters, IsScope}

-- the arguments of a use with so many open binders: sorted trees of the parameters' sorts, over
-- variables of these binders
pub record AreArguments (parameters : Named Sort) (binders : ℕ) (args : List Tree) : Type 0 where
  pub count : length args ≡ length parameters
  pub sorted : All IsSorted args
  pub sorts : All (λ x. tree_sort x.1 ≡ Some x.0.1) (zip parameters args)
  pub below : All (λ t. All (λ leaf. leaf.0 < binders) (free_levels t)) args
  pub shallow : All (λ t. depth_of t ≤ depth_limit) args

-- what a use of a definition gives
abbrev pub use_of : Scope → Named Sort → Expr → ℕ → List Tree → Result Tree Fault
use_of scope parameters body binders args =
    elab body (record { scope = scope; bound = zip (map (λ x. x.0) parameters) args; binders = binders })

-- The tree of a definition's own reading is enough for each use: with the arguments put in and the
-- other levels moved, it is what the use gives.
abbrev pub DefinitionsArePutIn : Type 0
DefinitionsArePutIn =
    (scope : Scope) (parameters : Named Sort) (s : Sort) (body : Expr) (t : Tree) (binders : ℕ) (args : List Tree) →
    IsScope scope → AreParameters parameters → HasTokens body → elaborate_body scope parameters s body ≡ Ok t → AreArguments parameters binders args →
    IfOk (use_of scope parameters body binders args) (λ u. u ≡ put_in (length parameters) binders args t)

-- an argument is too deep at this depth below an expression
abbrev pub IsTooDeep : Option ℕ → Tree → Type 0
IsTooDeep None t = ⊥
IsTooDeep (Some n) t = depth_limit < depth_of t + n

-- A use has no fault but that of depth, and has it exactly where some argument is too deep for its
-- parameter: for each parameter that stands in an expression of the body there is a greatest depth
-- at which it stands below one.
abbrev pub UsesFailByDepth : Type 0
UsesFailByDepth =
    (scope : Scope) (parameters : Named Sort) (s : Sort) (body : Expr) (t : Tree) →
    IsScope scope → AreParameters parameters → HasTokens body → elaborate_body scope parameters s body ≡ Ok t →
    (below : List (Option ℕ)) × (length below ≡ length parameters)
    × ((binders : ℕ) (args : List Tree) → AreArguments parameters binders args →
    IfErr (use_of scope parameters body binders args) (λ fault. fault.kind ≡ DepthLimit)
    × (IsErr (use_of scope parameters body binders args) ↔ Any (λ x. IsTooDeep x.0 x.1) (zip below args)))
