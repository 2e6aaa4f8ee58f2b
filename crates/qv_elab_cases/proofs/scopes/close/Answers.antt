use Rattle.std.proofs.Common.{sym, subst}
use Rattle.qv_elab_scope.specs.Force.{Force}
use Rattle.qv_elab_cases.specs.Sessions.{IsKept}
use Rattle.qv_elab_cases.proofs.Closing.{kept-closed}
use Rattle.qv_elab_cases.proofs.scopes.close.Goals as goal

pub returns : goal.returns
returns c = record {
  kept = subst (λ (x : Force). IsKept c.args.store.now x) (sym c.pop.ensures) (kept-closed c.args.store.now _ c.args.scope.now c.requires.kept);
}
