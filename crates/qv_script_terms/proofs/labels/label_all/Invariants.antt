use Rattle.std.proofs.Common.{List}
use Rattle.qv_store.specs.Stores.{Grows}
use Rattle.qv_script_defs.specs.State.{State}
use Rattle.qv_script_defs.specs.Labels.{Label}
use Rattle.qv_script_parts.specs.Walking.{AreLabels}
use Rattle.qv_script_stack.specs.Held.{IsScriptIn}
use Rattle.qv_script_stack.specs.Changes.{IsLonger}
use Rattle.qv_script_terms.proofs.Labelled.{SoFar}
use Rattle.qv_script_terms.proofs.labels.label_all.Given as goal

-- the first terms are defined
abbrev pub invariant-labels : goal.invariant-labels
invariant-labels l = record {
  so_far : (s : State) (ls : List Label) → IsScriptIn l.fn.store l.fn.stack s → AreLabels l.expr l.labels ls → SoFar l.store l.stack l.place ls s l.at-index;
  longer : IsLonger l.fn.stack l.stack;
  grows : Grows l.fn.store l.store;
}
