use Rattle.std.proofs.Common.{Contains, sym, subst, ◌∙◌}
use Rattle.std.specs.Prelude.{All}
use Rattle.std.proofs.lemmas.List.{take_all}
use Rattle.qv_trees.proofs.Behind.{behind-next, has-next}
use Rattle.qv_trees.proofs.copying.visit_all.Goals as goal

pub terms-preserved : goal.terms-preserved
terms-preserved c =
    let old = c.terms.walk in
    let new = c.visit.new.self in
    let ids = c.args.ids.now in
    record {
      walk = c.visit.ensures.walk;
      order = sym (behind-next c.args.store.now old new ids c.terms.id-index c.id-item.result c.terms-test.true c.id-item.is c.in_ok-visit.ensures.order) ∙ c.terms.invariant.order;
      has = has-next old new ids c.terms.id-index c.id-item.result c.terms-test.true c.id-item.is c.visit.ensures.behind c.terms.invariant.has c.in_ok-visit.ensures.has;
    }

pub returns-clause-has : goal.returns-clause-has
returns-clause-has c = subst (All (Contains c.terms.walk)) (take_all c.terms.id-index c.args.ids.now c.terms-test.false) c.terms.invariant.has
