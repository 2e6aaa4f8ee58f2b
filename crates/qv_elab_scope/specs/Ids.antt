-- Ids in a store, and the trees that they stand for: of arguments, of names, and of variables.
pub use Rattle.qv_elab_scope.specs.Variables.{AreNamedAt, AreVariables, quantifier_of}
use Rattle.std.specs.Prelude.{ℕ, Option, List, [], ◌∷◌, map, Result}
use Rattle.std.specs.List.{AllByRecursion}
use Rattle.qv_sexpr.specs.declared.items.Expr.{Expr as Items}
use Rattle.qv_words.specs.declared.sort.Sort.{Sort}
use Rattle.qv_words.specs.Sort.{IsLawful}
use Rattle.qv_words.specs.Tree.{Tree}
use Rattle.qv_store.specs.Stores.{StandsAt}
use Rattle.qv_elab_scope.specs.declared.scope.Kept.{Kept}
use Rattle.qv_elab_scope.specs.declared.scope.Kept.TheVariants as kept
use Rattle.qv_elab_scope.specs.declared.heads.Head.{Head as Told}
use Rattle.qv_elab_defs.specs.Faults.{Fault, ◌>>=◌}
use Rattle.qv_elab_defs.specs.Scopes.{Scope, constants_of}
use Rattle.qv_elab_defs.specs.Heads.{Head}
use Rattle.qv_elab_defs.specs.Applying.{apply, shallow}
use Rattle.qv_elab_defs.specs.OpenTrees.{IsGood, Ends}
use Rattle.qv_elab_scope.specs.Force.{Force}
use Rattle.qv_elab_scope.specs.Kept.{IsScopeIn}
use Rattle.qv_elab_scope.specs.Headed.{name_at, IsHead}

-- ids of these trees
abbrev pub AreAt : List Tree → List ℕ → List Tree → Type 0
AreAt trees [] [] = Unit {0}
AreAt trees (n ∷ ns) (t ∷ ts) = StandsAt trees n t × AreAt trees ns ts
AreAt trees _ _ = ⊥

-- the sort of a constant is lawful
abbrev pub HasLawfulSort : Kept → Type 0
HasLawfulSort (kept.Constant i s) = IsLawful s
HasLawfulSort (kept.Definition sorts body) = Unit {0}
HasLawfulSort (kept.Synonym s) = Unit {0}

-- what a head makes of trees
abbrev pub applied_at : ℕ → ℕ → Head → List Tree → Result Tree Fault
applied_at place binders head ts = apply place binders head ts >>= λ tree. shallow place tree

-- a head at an item, applied to the trees of ids below so many binders
pub record IsApplied (trees : List Tree) (force : Force) (items : Items) (binders : ℕ) (head : Told) (head_at : ℕ) (ns : List ℕ) (defs : Scope) (meant : Head) (ts : List Tree) : Type 0 where
  pub M : ℕ → Option Sort
  pub scope : IsScopeIn trees force defs
  pub is_head : IsHead defs (name_at items.text.items items.items.items head_at) head meant
  pub are : AreAt trees ns ts
  pub good : AllByRecursion (IsGood (map (λ x. x.1) (constants_of defs)) 0 M) ts
  pub ends : Ends M binders
