use Rattle.std.proofs.Common.{[], sym, subst}
use Rattle.qv_elab_defs.specs.TreeLaws.{empty}
use Rattle.qv_elab_scope.specs.Force.{Force}
use Rattle.qv_elab_cases.specs.Sessions.{IsKept}
use Rattle.qv_elab_cases.proofs.session.Session.new.Goals as goal

pub returns : goal.returns
returns c =
    let nothing : Force = record { names = []; kept = []; starts = [] } in
    let kept : IsKept c.new.result nothing = ([], record { is_scope = empty; kept = tt }) in
    subst (λ (force : Force). IsKept c.new.result force) (sym c.new-2.ensures) kept
