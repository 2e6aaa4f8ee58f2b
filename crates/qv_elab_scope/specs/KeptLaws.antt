-- What pins down how a scope is kept as it grows.
use Rattle.std.specs.Prelude.{◌≡◌, ℕ, List, [], ◌∷◌, map, Ok, Vec}
use Rattle.std.specs.declared.alloc.Global.{Global}
use Rattle.qv_sexpr.specs.Script.{Tree as Expr}
use Rattle.qv_words.specs.declared.sort.Sort.{Sort}
use Rattle.qv_words.specs.Sort.{IsLawful}
use Rattle.qv_words.specs.Tree.{Tree}
use Rattle.qv_store.specs.Stores.{StandsAt}
use Rattle.qv_elab_macros.specs.declared.body.Body.{Body}
use Rattle.qv_elab_scope.specs.declared.scope.Kept.TheVariants.{Constant, Definition, Synonym}
use Rattle.qv_elab_defs.specs.Written.{HasTokens}
use Rattle.qv_elab_defs.specs.Scopes.{Named, Scope, declared, sort_key, with_sort}
use Rattle.qv_elab_scope.specs.Force.{Force, constants_in, with_name}
use Rattle.qv_elab_defs.specs.Applying.{sort_of}
use Rattle.qv_elab_defs.specs.Defining.{elaborate, definition}
use Rattle.qv_elab_defs.specs.TreeLaws.{AreParameters, IsScope}
use Rattle.qv_elab_macros.specs.Readings.{IsReading}
use Rattle.qv_elab_scope.specs.Kept.{IsScopeIn}

-- a scope with one more definition is kept, where the definition's own reading is
abbrev pub DefinitionsAreKept : Type 0
DefinitionsAreKept =
    (trees : List Tree) (force : Force) (scope : Scope) (name : List ℕ) (parameters : Named Sort) (s : Sort) (e : Expr) (sorts : Vec Sort Global) (body : Body) →
    IsScopeIn trees force scope → AreParameters parameters → HasTokens e → IsReading trees scope parameters s e body → sorts.items ≡ map (λ x. x.1) parameters →
    IsScopeIn trees (with_name name (Definition sorts body) force) ((name, definition scope parameters e) ∷ scope)

-- a scope with one more constant is kept
abbrev pub ConstantsAreKept : Type 0
ConstantsAreKept =
    (trees : List Tree) (force : Force) (scope : Scope) (name : List ℕ) (s : Sort) → IsScopeIn trees force scope → IsLawful s →
    IsScopeIn trees (with_name name (Constant (constants_in force.kept) s) force) (declared name s scope)

-- a scope with one more sort is kept
abbrev pub SortsAreKept : Type 0
SortsAreKept =
    (trees : List Tree) (force : Force) (scope : Scope) (name : List ℕ) (s : Sort) → IsScopeIn trees force scope → IsLawful s →
    IsScopeIn trees (with_name (sort_key name) (Synonym s) force) (with_sort name s scope)

-- the tree of an expression is the own reading of a definition without parameters
abbrev pub TreesAreReadings : Type 0
TreesAreReadings =
    (trees : List Tree) (scope : Scope) (s : Sort) (e : Expr) (t : Tree) (body : Body) →
    IsScope scope → HasTokens e → elaborate scope e ≡ Ok t → sort_of t ≡ s → StandsAt trees body.id t → body.depths.items ≡ [] → IsReading trees scope [] s e body
