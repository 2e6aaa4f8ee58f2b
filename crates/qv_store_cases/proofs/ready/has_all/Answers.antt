use Rattle.std.proofs.Common.{◌<◌, length, subst}
use Rattle.std.specs.Prelude.{All}
use Rattle.std.proofs.lemmas.List.{take_all}
use Rattle.std.proofs.lemmas.List.Elements.{All-more}
use Rattle.qv_store_cases.proofs.ready.has_all.Goals as goal

pub terms-preserved : goal.terms-preserved
terms-preserved c =
    All-more (λ id. id < length c.args.store.now) c.args.ids.now c.terms.id-index c.id-item.result c.terms-test.true c.terms.invariant
    (subst (λ id. id < length c.args.store.now) c.id-item.is (c.has.ensures.0 c.if-not-has.false))

pub returns : goal.returns
returns c = λ h. subst (All (λ id. id < length c.args.store.now)) (take_all c.terms.id-index c.args.ids.now c.terms-test.false) c.terms.invariant
