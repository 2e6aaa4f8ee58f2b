use Rattle.std.proofs.Common.{◌≤◌, ◌+◌, ◌-◌, length, take, drop}
use Rattle.qv_words.specs.declared.sort.Sort.{Sort}
use Rattle.qv_store.specs.Nodes.{tree_at}
use Rattle.qv_store.specs.Stores.{StandsAt, Grows}
use Rattle.qv_elab_defs.specs.Scopes.{Named}
use Rattle.qv_elab_defs.specs.Elaborating.{closed}
use Rattle.qv_elab_scope.specs.Variables.{quantifier_of}
use Rattle.qv_elab_scope.specs.Quantifying.{IsClosing}
use Rattle.qv_elab_scope.proofs.closing.close_over.Given as goal

-- the variables from here on are closed over
abbrev pub invariant-variables : goal.invariant-variables
invariant-variables l = record {
  grows : Grows l.initial.store l.store;
  within : l.at ≤ length l.bound;
  from : l.from ≤ l.at;
  stands : (xs : Named Sort) → IsClosing l.initial.store (l.binders - (length l.bound - l.from)) l.fn.body (take (length l.bound - l.from) l.bound) xs → StandsAt l.store l.id (closed (quantifier_of l.is_universal) (l.binders - (length l.bound - l.from) + (l.at - l.from)) (drop (l.at - l.from) xs) (tree_at l.initial.store l.fn.body));
}

abbrev pub decreases-variables : goal.decreases-variables
decreases-variables l = l.at
