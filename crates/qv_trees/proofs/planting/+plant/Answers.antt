use Rattle.std.proofs.Common.{◌≡◌, ap, sym, ◌∙◌, subst, take, ◌+◌, arith, rules}
use Rattle.qv_words.specs.declared.op.Op.{Op}
use Rattle.qv_words.specs.Tree.{Tree, Apply}
use Rattle.qv_words.specs.Sorted.{IsSorted, AreSortedBelow, no_levels, with_level}
use Rattle.qv_terms.specs.declared.term.Term.{Term}
use Rattle.qv_terms.specs.declared.term.Term.TheViews.{the_lemmas}
use Rattle.qv_terms.proofs.Rows.{tree-App}
use Rattle.qv_terms.specs.View.{tree, trees}
use Rattle.qv_store.specs.Nodes.{trees_at}
use Rattle.qv_store.specs.Stores.{StandsAt}
use Rattle.qv_store.proofs.Replacement.{if-ok, grows-more}
use Rattle.qv_trees.specs.Planted.{ArePlanted}
use Rattle.qv_trees.proofs.Sown.{body-sorted, sorted-at, planted-push}
use Rattle.qv_trees.proofs.planting.+plant.Goals as goal

pub plant-plant_all-requires : goal.plant-plant_all-requires
plant-plant_all-requires t c =
    let shape : tree c.args.term.now ≡ Apply c.in-App.op (trees c.deref.result.now) =
    ap tree c.in-App.is ∙ tree-App c.in-App.op c.in-App.kids ∙ ap (λ kids. Apply c.in-App.op (trees kids)) (sym c.deref.ensures.value) in
    let sorted = subst IsSorted shape c.requires in
    (search (rules, the_lemmas), sorted.0)

pub plant-put-requires-in-App-clause-sorted : goal.plant-put-requires-in-App-clause-sorted
plant-put-requires-in-App-clause-sorted t c =
    let shape : tree c.args.term.now ≡ Apply c.in-App.op (trees c.deref.result.now) =
    ap tree c.in-App.is ∙ tree-App c.in-App.op c.in-App.kids ∙ ap (λ kids. Apply c.in-App.op (trees kids)) (sym c.deref.ensures.value) in
    let own : tree c.args.term.now ≡ Apply c.in-App.op (trees_at c.plant_all.new.store c.in_ok-kids-in-App.kids.items) = shape ∙ ap (Apply c.in-App.op) (sym c.in_ok-kids-in-App.ensures.ids.trees) in
    subst IsSorted own c.requires

pub plant-plant-requires : goal.plant-plant-requires
plant-plant-requires t c =
    let sorted = subst (λ (u : Term). IsSorted (tree u)) c.in-All.is c.requires in
    (search (rules, the_lemmas), subst (λ (u : Term). IsSorted (tree u)) (sym c.deref-in-All.ensures) (body-sorted (tree c.in-All.body.value) (with_level no_levels c.in-All.level c.in-All.sort) sorted.1))

pub plant-plant-requires-in-Ex : goal.plant-plant-requires-in-Ex
plant-plant-requires-in-Ex t c =
    let sorted = subst (λ (u : Term). IsSorted (tree u)) c.in-Ex.is c.requires in
    (search (rules, the_lemmas), subst (λ (u : Term). IsSorted (tree u)) (sym c.deref-in-Ex.ensures) (body-sorted (tree c.in-Ex.body.value) (with_level no_levels c.in-Ex.level c.in-Ex.sort) sorted.1))

pub plant-returns-in_ok-kids-in-App-clause-id : goal.plant-returns-in_ok-kids-in-App-clause-id
plant-returns-in_ok-kids-in-App-clause-id t c =
    let shape : tree c.args.term.now ≡ Apply c.in-App.op (trees c.deref.result.now) =
    ap tree c.in-App.is ∙ tree-App c.in-App.op c.in-App.kids ∙ ap (λ kids. Apply c.in-App.op (trees kids)) (sym c.deref.ensures.value) in
    let own : tree c.args.term.now ≡ Apply c.in-App.op (trees_at c.plant_all.new.store c.in_ok-kids-in-App.kids.items) = shape ∙ ap (Apply c.in-App.op) (sym c.in_ok-kids-in-App.ensures.ids.trees) in
    if-ok c.put-in-App.result (λ id at. subst (StandsAt c.put-in-App.new.self id) (sym own) at) c.put-in-App.ensures.id

pub plant_all-plant-requires : goal.plant_all-plant-requires
plant_all-plant-requires t c =
    (search (rules, the_lemmas), sorted-at c.args.terms.now c.terms.term-index c.term-item.result c.terms-test.true c.term-item.is c.requires)

pub plant_all-terms-preserved : goal.plant_all-terms-preserved
plant_all-terms-preserved t c = record {
  planted = subst (λ ids. ArePlanted c.plant.new.store ids (trees (take (c.terms.term-index + 1) c.args.terms.now))) (sym c.in_ok-push.ensures.ok)
      (planted-push c.terms.store c.plant.new.store c.terms.ids.items c.args.terms.now c.terms.term-index c.in_ok-id.id c.term-item.result c.terms.invariant.planted c.plant.ensures.grows c.terms-test.true c.term-item.is c.in_ok-id.ensures.id);
  grows = grows-more c.args.store.now c.terms.store c.plant.new.store c.terms.invariant.grows c.plant.ensures.grows;
}
