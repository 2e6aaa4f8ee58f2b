-- the first arguments are not too deep
use Rattle.std.proofs.Common.{◌≡◌, drop}
use Rattle.qv_store.specs.Walks.{named}
use Rattle.qv_elab_macros.specs.PutIn.{some_too_deep}
use Rattle.qv_elab_macros.proofs.using.is_too_deep.Given as goal

abbrev pub invariant-each : goal.invariant-each
invariant-each l =
    some_too_deep (named l.store l.args) l.depths ≡ some_too_deep (named l.store (drop l.place l.args)) (drop l.place l.depths)
