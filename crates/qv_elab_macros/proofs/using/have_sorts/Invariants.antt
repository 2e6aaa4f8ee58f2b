-- the first arguments have the sorts of their parameters
use Rattle.std.proofs.Common.{◌≡◌, drop, map}
use Rattle.qv_store.specs.Walks.{named}
use Rattle.qv_elab_defs.specs.Applying.{sort_of, are_sorts_eq}
use Rattle.qv_elab_macros.proofs.using.have_sorts.Given as goal

abbrev pub invariant-each : goal.invariant-each
invariant-each l =
    are_sorts_eq l.sorts (map (λ t. sort_of t) (named l.store l.args))
    ≡ are_sorts_eq (drop l.place l.sorts) (map (λ t. sort_of t) (named l.store (drop l.place l.args)))
