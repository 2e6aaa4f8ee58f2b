use Rattle.qv_elab_scope.proofs.Growing.{scope-grows}
use Rattle.qv_elab_cases.proofs.scopes.term_of.Goals as goal

pub returns : goal.returns
returns c =
    let h = c.requires.kept in
    record { kept = (h.0, scope-grows c.args.store.now c.elaborate.new.store c.elaborate.ensures.grows c.args.scope.now h.0 h.1) }
