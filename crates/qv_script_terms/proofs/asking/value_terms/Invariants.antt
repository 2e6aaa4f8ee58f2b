use Rattle.std.proofs.Common.{List}
use Rattle.qv_sexpr.specs.Script.{Tree as Written}
use Rattle.qv_store.specs.Stores.{Grows}
use Rattle.qv_script_defs.specs.State.{State}
use Rattle.qv_script_stack.specs.Held.{IsScriptIn}
use Rattle.qv_script_parts.specs.Parted.{AreParts}
use Rattle.qv_script_terms.proofs.Asked.{ValuesSoFar}
use Rattle.qv_script_terms.proofs.asking.value_terms.Given as goal

-- the terms of the first parts
abbrev pub invariant-terms : goal.invariant-terms
invariant-terms l = record {
  so_far : (s : State) (es : List Written) → IsScriptIn l.initial.store l.stack s → AreParts l.expr l.parts es → ValuesSoFar l.store s es l.terms.items l.part-index;
  grows : Grows l.initial.store l.store;
}
