-- the first pairs are read
use Rattle.std.proofs.Common.{◌≡◌, ◌+◌, ◌-◌, List, Some}
use Rattle.qv_sexpr.specs.Script.{Trees as Exprs}
use Rattle.qv_sexpr.specs.Items.{StandAll}
use Rattle.qv_words.specs.Tree.{Tree}
use Rattle.qv_elab_defs.specs.Scopes.{Scope}
use Rattle.qv_elab_scope.specs.Kept.{IsScopeIn}
use Rattle.qv_elab_defs.specs.Shapes.{Pair, pairs_of}
use Rattle.qv_elab.specs.ParameterLists.{AreReadBefore}
use Rattle.qv_elab.proofs.parameters.read_parameters.Given as goal

abbrev pub invariant-pairs : goal.invariant-pairs
invariant-pairs l = record {
  read : (trees : List Tree) (defs : Scope) (inside : Exprs) (pairs : List Pair) → IsScopeIn trees l.scope defs → pairs_of inside ≡ Some pairs →
      StandAll l.expr.items.items l.expr.text.items (l.fn.at + 1) inside l.close →
      AreReadBefore l.expr defs pairs l.names l.parameters.items l.next l.close;
}

abbrev pub decreases-pairs : goal.decreases-pairs
decreases-pairs l = l.close - l.next
