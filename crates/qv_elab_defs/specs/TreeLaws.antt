-- What pins the trees of expressions down.
use Rattle.std.specs.Prelude.{◌≡◌, ◌≢◌, ℕ, ◌≤◌, Some, IfOk, IsSome, List, [], ◌∷◌, All, AllPairs, map, slice_get, Ok}
use Rattle.qv_sexpr.specs.Script.{Tree as Expr}
use Rattle.qv_words.specs.declared.sort.Sort.{Sort}
use Rattle.qv_words.specs.Sort.{IsLawful}
use Rattle.qv_words.specs.Tree.{Tree, tree_sort}
use Rattle.qv_words.specs.Sorted.{IsSorted, constants_of as leaves_of, free_levels}
use Rattle.qv_elab_defs.specs.Written.{HasTokens}
use Rattle.qv_elab_defs.specs.Scopes.{Named, Scope, declared, with_sort, constants_of}
use Rattle.qv_elab_defs.specs.Applying.{depth_of, depth_limit}
use Rattle.qv_elab_defs.specs.Defining.{elaborate, elaborate_body, definition}

-- a parameter list: lawful sorts, and no name twice
abbrev pub AreParameters : Named Sort → Type 0
AreParameters parameters = All (λ x. IsLawful x.1) parameters × AllPairs (λ x y. x.0 ≢ y.0) parameters

-- a scope as commands make it: each name is that of a constant, of a definition whose body has its
-- sort, or of a sort
pub data IsScope : Scope → Type 0 where
  empty : IsScope []
  declares : (scope : Scope) (name : List ℕ) (s : Sort) → IsScope scope → IsLawful s → IsScope (declared name s scope)
  defines : (scope : Scope) (name : List ℕ) (parameters : Named Sort) (s : Sort) (body : Expr) (t : Tree) →
      IsScope scope → AreParameters parameters → HasTokens body → elaborate_body scope parameters s body ≡ Ok t →
      IsScope ((name, definition scope parameters body) ∷ scope)
  abbreviates : (scope : Scope) (name : List ℕ) (s : Sort) → IsScope scope → IsLawful s → IsScope (with_sort name s scope)

-- a tree of a scope: sorted, closed, not too deep, and over constants that are there
pub record IsTreeOf (scope : Scope) (t : Tree) : Type 0 where
  pub sorted : IsSorted t
  pub sort : IsSome (tree_sort t)
  pub closed : free_levels t ≡ []
  pub shallow : depth_of t ≤ depth_limit
  pub constants : All (λ leaf. slice_get (map (λ x. x.1) (constants_of scope)) leaf.0 ≡ Some leaf.1) (leaves_of t)

-- the trees of expressions as they are written are such
abbrev pub ElaboratedAreTrees : Type 0
ElaboratedAreTrees = (scope : Scope) (e : Expr) → IsScope scope → HasTokens e → IfOk (elaborate scope e) (IsTreeOf scope)
