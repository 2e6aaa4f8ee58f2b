-- What a scope keeps in a store for the names of a scope of definitions.
use Rattle.std.specs.Prelude.{◌≡◌, ℕ, List, [], ◌∷◌, map, reverse}
use Rattle.qv_sexpr.specs.Script.{Tree as Expr}
use Rattle.qv_words.specs.declared.sort.Sort.{Sort}
use Rattle.qv_words.specs.Tree.{Tree}
use Rattle.qv_elab_macros.specs.declared.body.Body.{Body}
use Rattle.qv_elab_scope.specs.declared.scope.Kept.{Kept}
use Rattle.qv_elab_scope.specs.declared.scope.Kept.TheVariants as kept
use Rattle.qv_elab_defs.specs.Written.{HasTokens}
use Rattle.qv_elab_defs.specs.Scopes.{Named, Scope, Entry, Constant, Synonym}
use Rattle.qv_elab_defs.specs.Defining.{definition}
use Rattle.qv_elab_defs.specs.TreeLaws.{AreParameters, IsScope}
use Rattle.qv_elab_scope.specs.Force.{Force}
use Rattle.qv_elab_macros.specs.Readings.{IsReading}

-- a definition as it is kept
pub record IsKeptDefinition (trees : List Tree) (scope : Scope) (sorts : List Sort) (body : Body) (entry : Entry) : Type 0 where
  pub parameters : Named Sort
  pub sort : Sort
  pub expr : Expr
  pub are_parameters : AreParameters parameters
  pub tokens : HasTokens expr
  pub entry_is : entry ≡ definition scope parameters expr
  pub sorts_are : sorts ≡ map (λ x. x.1) parameters
  pub reading : IsReading trees scope parameters sort expr body

-- what is kept for an entry over a scope
abbrev pub IsKeptFor : List Tree → Scope → Kept → Entry → Type 0
IsKeptFor trees scope (kept.Constant i s) entry = entry ≡ Constant i s
IsKeptFor trees scope (kept.Definition sorts body) entry = IsKeptDefinition trees scope sorts.items body entry
IsKeptFor trees scope (kept.Synonym s) entry = entry ≡ Synonym s

-- names and what is kept for them, the newest first
abbrev pub AreKeptFor : List Tree → List (List ℕ) → List Kept → Scope → Type 0
AreKeptFor trees [] [] [] = Unit {0}
AreKeptFor trees (name ∷ names) (k ∷ ks) (x ∷ scope) = (x.0 ≡ name) × IsKeptFor trees scope k x.1 × AreKeptFor trees names ks scope
AreKeptFor trees _ _ _ = ⊥

-- what is in force is kept in the store for this scope
pub record IsScopeIn (trees : List Tree) (force : Force) (scope : Scope) : Type 0 where
  pub is_scope : IsScope scope
  pub kept : AreKeptFor trees force.names (reverse force.kept) scope
