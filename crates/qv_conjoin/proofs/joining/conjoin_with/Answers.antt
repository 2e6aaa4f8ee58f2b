use Rattle.std.proofs.Common.{◌≡◌, ◌<◌, ◌+◌, ◌++◌, ◌∷◌, [], ℕ, List, Some, length, map, take, refl, ap, sym, subst, ◌∙◌}
use Rattle.std.proofs.lemmas.List.{take_more, take_all, map-append}
use Rattle.qv_words.specs.declared.sort.Sort.TheVariants.{Bool as BoolSort}
use Rattle.qv_words.specs.declared.op.Op.TheVariants.{And}
use Rattle.qv_words.specs.Tree.{Tree, tree_sort}
use Rattle.qv_words.specs.Prenex.{binary}
use Rattle.qv_words.specs.Problem.{conjunction_with}
use Rattle.qv_store.specs.Nodes.{tree_at}
use Rattle.qv_store.proofs.Replacement.{grown-tree, grown-within, grows-more}
use Rattle.qv_conjoin.proofs.Joined.{conjunction-push, grows-itself, sort-both}
use Rattle.qv_conjoin.proofs.joining.conjoin_with.Goals as goal

pub each-init : goal.each-init
each-init c = record {
  grows = grows-itself c.args.store.now;
  stands = record { below = c.requires.id; tree = refl };
  shared = c.requires.shared;
  bool = c.requires.bool;
}

pub put_and-requires : goal.put_and-requires
put_and-requires c =
    let old = c.args.store.now in
    let now = c.each.store in
    let low : c.formula-item.result < length old =
    subst (λ (n : ℕ). n < length old) (sym c.formula-item.is) (c.requires.ids c.each.formula-index c.formula-item.result c.each-test.true) in
    let sort : tree_sort (tree_at old c.formula-item.result) ≡ Some BoolSort =
    subst (λ (n : ℕ). tree_sort (tree_at old n) ≡ Some BoolSort) (sym c.formula-item.is) (c.requires.bools c.each.formula-index c.formula-item.result c.each-test.true) in
    record {
      a = c.each.invariant.stands.below;
      b = grown-within old now c.each.invariant.grows c.formula-item.result low;
      a_bool = c.each.invariant.bool;
      b_bool = ap (λ (t : Tree). tree_sort t) (grown-tree old now c.each.invariant.grows c.formula-item.result low) ∙ sort;
    }

pub each-preserved : goal.each-preserved
each-preserved c =
    let old = c.args.store.now in
    let now = c.each.store in
    let new = c.put_and.new.store in
    let first = tree_at old c.args.first in
    let k = c.each.formula-index in
    let rest = c.args.rest.now in
    let low : c.formula-item.result < length old =
    subst (λ (n : ℕ). n < length old) (sym c.formula-item.is) (c.requires.ids k c.formula-item.result c.each-test.true) in
    let sort : tree_sort (tree_at old c.formula-item.result) ≡ Some BoolSort =
    subst (λ (n : ℕ). tree_sort (tree_at old n) ≡ Some BoolSort) (sym c.formula-item.is) (c.requires.bools k c.formula-item.result c.each-test.true) in
    let same : tree_at now c.formula-item.result ≡ tree_at old c.formula-item.result = grown-tree old now c.each.invariant.grows c.formula-item.result low in
    let whole : binary And (tree_at now c.each.id) (tree_at now c.formula-item.result) ≡ conjunction_with first (map (tree_at old) (take (k + 1) rest)) =
    ap (λ (t : Tree). binary And t (tree_at now c.formula-item.result)) c.each.invariant.stands.tree
    ∙ ap (λ (t : Tree). binary And (conjunction_with first (map (tree_at old) (take k rest))) t) same
    ∙ sym (conjunction-push first (map (tree_at old) (take k rest)) (tree_at old c.formula-item.result))
    ∙ sym (ap (λ (xs : List Tree). conjunction_with first xs)
    (ap (map (tree_at old)) (take_more rest k c.formula-item.result c.each-test.true ∙ ap (λ (n : ℕ). take k rest ++ n ∷ []) (sym c.formula-item.is))
    ∙ map-append (tree_at old) (take k rest) (c.formula-item.result ∷ []))) in
    record {
      grows = grows-more old now new c.each.invariant.grows c.put_and.ensures.grows;
      stands = record { below = c.in_ok-id.ensures.id.below; tree = c.in_ok-id.ensures.id.tree ∙ whole };
      shared = c.put_and.ensures.shared;
      bool = ap (λ (t : Tree). tree_sort t) c.in_ok-id.ensures.id.tree
          ∙ sort-both (tree_at now c.each.id) (tree_at now c.formula-item.result) c.each.invariant.bool (ap (λ (t : Tree). tree_sort t) same ∙ sort);
    }

pub returns : goal.returns
returns c =
    let whole = ap (λ (xs : List ℕ). conjunction_with (tree_at c.args.store.now c.args.first) (map (tree_at c.args.store.now) xs)) (take_all c.each.formula-index c.args.rest.now c.each-test.false) in
    record {
      id = record { below = c.each.invariant.stands.below; tree = c.each.invariant.stands.tree ∙ whole };
      grows = c.each.invariant.grows;
      shared = c.each.invariant.shared;
    }
