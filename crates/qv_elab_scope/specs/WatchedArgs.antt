-- The arguments of uses that are watched.
pub use Rattle.qv_elab_scope.specs.Watching.{watched_args}
use Rattle.std.specs.Prelude.{ℕ, Option, Some, option_and_then, List, []}
use Rattle.qv_sexpr.specs.declared.items.Expr.{Expr as Items}
use Rattle.qv_elab_macros.specs.declared.standing.Watched.{Watched}
use Rattle.qv_elab_scope.specs.declared.heads.Head.{Head}
use Rattle.qv_elab_scope.specs.declared.heads.Head.TheVariants.{Macro}
use Rattle.qv_elab_scope.specs.declared.scope.Kept.{Kept}
use Rattle.qv_elab_scope.specs.declared.scope.Kept.TheVariants.{Definition}
use Rattle.qv_elab_scope.specs.Force.{Force, stands_for}
use Rattle.qv_elab_scope.specs.Headed.{name_at}

-- the arguments of a use of what is kept for its name
abbrev pub watched_by : Head → Option Kept → List ℕ → List Watched
watched_by Macro (Some (Definition sorts body)) ns = watched_args ns body.depths.items
watched_by _ _ ns = []

-- the same where the name stands at an item
abbrev pub watched_at : Force → Items → Head → ℕ → List ℕ → List Watched
watched_at force items head head_at ns = watched_by head (option_and_then (λ n. stands_for n force) (name_at items.text.items items.items.items head_at)) ns
