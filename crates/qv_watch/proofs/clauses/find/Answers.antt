use Rattle.std.proofs.lemmas.Bool.{false≢true}
use Rattle.std.proofs.Common.{◌∙◌}
use Rattle.qv_watch.proofs.Storing.{found_missed}
use Rattle.qv_watch.proofs.clauses.find.Goals as goal

pub returns-else-has_at-2-clause-none : goal.returns-else-has_at-2-clause-none
returns-else-has_at-2-clause-none c k s here live same =
    found_missed c.args.slots.now c.args.places.now c.args.id k s c.direct_place-direct.result c.copied-kept.result c.requires here live same c.direct_place-direct.ensures (c.copied-kept.ensures ∙ c.get.ensures.value) (λ h. false≢true (c.if-has_at.ensures.1 h)) (λ h. false≢true (c.if-has_at-2.ensures.1 h))
