-- What a definition's own reading gave, as it is kept.
use Rattle.std.specs.Prelude.{◌≡◌, ℕ, ◌+◌, ◌<◌, ◌↔◌, IsErr, Any, List, map, zip, length, Result, Ok}
use Rattle.qv_sexpr.specs.Script.{Tree as Expr}
use Rattle.qv_words.specs.declared.sort.Sort.{Sort}
use Rattle.qv_words.specs.Tree.{Tree}
use Rattle.qv_store.specs.Stores.{StandsAt}
use Rattle.qv_elab_macros.specs.declared.body.Body.{Body}
use Rattle.qv_elab_defs.specs.Faults.{Fault, ◌>>=◌, at, moved}
use Rattle.qv_elab_defs.specs.Written.{HasTokens}
use Rattle.qv_elab_defs.specs.Scopes.{Named, Scope}
use Rattle.qv_elab_defs.specs.Applying.{depth_of, depth_limit, fitting}
use Rattle.qv_elab_defs.specs.Defining.{elaborate_body}
use Rattle.qv_elab_defs.specs.TreeLaws.{AreParameters, IsScope}
use Rattle.qv_elab_defs.specs.UseLaws.{AreArguments, use_of}

-- a use has a fault exactly where an argument is too deep, each for its depth
abbrev pub IsLimitedBy : Scope → Named Sort → Expr → List ℕ → Type 0
IsLimitedBy scope parameters e depths =
    (binders : ℕ) (args : List Tree) → AreArguments parameters binders args →
    IsErr (use_of scope parameters e binders args) ↔ Any (λ x. depth_limit < depth_of x.1 + x.0) (zip depths args)

-- what a definition's own reading gave
pub record IsReading (trees : List Tree) (scope : Scope) (parameters : Named Sort) (s : Sort) (e : Expr) (body : Body) : Type 0 where
  pub tree : Tree
  pub reading : elaborate_body scope parameters s e ≡ Ok tree
  pub stands : StandsAt trees body.id tree
  pub count : length body.depths.items ≡ length parameters
  pub limited : IsLimitedBy scope parameters e body.depths.items

-- a definition that is used: its parameters have these sorts, and its own reading stands in the
-- store
pub record IsUsed (trees : List Tree) (scope : Scope) (parameters : Named Sort) (s : Sort) (e : Expr) (sorts : List Sort) (body : Body) : Type 0 where
  pub is_scope : IsScope scope
  pub are_parameters : AreParameters parameters
  pub tokens : HasTokens e
  pub sorts_are : sorts ≡ map (λ x. x.1) parameters
  pub reading : IsReading trees scope parameters s e body

-- what a use of a definition gives of these trees, at this place with so many open binders
abbrev pub used_at : ℕ → ℕ → Scope → Named Sort → Expr → List Sort → List Tree → Result Tree Fault
used_at place binders scope parameters e sorts ts =
    at place (fitting sorts ts) >>= λ args. moved place (use_of scope parameters e binders args)
