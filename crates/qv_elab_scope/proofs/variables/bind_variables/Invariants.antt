use Rattle.std.proofs.Common.{◌≡◌, ◌-◌, List, Some}
use Rattle.qv_sexpr.specs.Script.{Trees as Exprs}
use Rattle.qv_sexpr.specs.Items.{StandAll}
use Rattle.qv_store.specs.Stores.{Grows}
use Rattle.qv_elab_defs.specs.Shapes.{Pair, pairs_of}
use Rattle.qv_elab_defs.specs.Scopes.{Scope}
use Rattle.qv_elab_scope.specs.Kept.{IsScopeIn}
use Rattle.qv_elab_scope.specs.Quantifying.{AreBoundBefore}
use Rattle.qv_elab_scope.proofs.variables.bind_variables.Given as goal

-- the variables of the pairs before here are bound
abbrev pub invariant-variables : goal.invariant-variables
invariant-variables l = record {
  grows : Grows l.initial.store l.store;
  bound : (defs : Scope) (pairs : Exprs) (ps : List Pair) → IsScopeIn l.initial.store l.scope defs → pairs_of pairs ≡ Some ps → StandAll l.expr.items.items l.expr.text.items l.from pairs l.to → AreBoundBefore l.expr l.store defs l.level ps l.initial.bound l.bound l.at l.to l.below;
}

abbrev pub decreases-variables : goal.decreases-variables
decreases-variables l = l.to - l.at
