use Rattle.std.proofs.Common.{ℕ, Ok}
use Rattle.std.specs.Prelude.{Result}
use Rattle.qv_store.specs.Stores.{Grows}
use Rattle.qv_elab_defs.specs.Faults.{Fault}
use Rattle.qv_elab_defs.specs.Scopes.{Scope}
use Rattle.qv_elab_scope.specs.Kept.{IsScopeIn}
use Rattle.qv_elab_defs.specs.Looking.{Seen}
use Rattle.qv_elab_frames.specs.Loop.{source, state_of, IsNext, steps_left}
use Rattle.qv_elab.proofs.elaborating.run.Given as goal

-- what the whole gives behind the first step stays the same, and the store grows
abbrev pub invariant-items : goal.invariant-items
invariant-items l = record {
  same : (defs : Scope) (end : ℕ) (given : Result Seen Fault) →
      IsScopeIn l.initial.store l.scope defs →
      IsNext (source l.expr end defs) l.initial.store (state_of l.initial.elaborator) given (Ok l.initial.next) →
      IsNext (source l.expr end defs) l.store (state_of l.elaborator) given (Ok l.next);
  grows : Grows l.initial.store l.store;
}

abbrev pub decreases-items : goal.decreases-items
decreases-items l = steps_left l.expr l.next
