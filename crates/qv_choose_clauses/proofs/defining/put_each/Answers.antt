use Rattle.std.proofs.Common.{◌≡◌, ◌+◌, ◌<◌, ℕ, true, List, [], ◌∷◌, Option, Some, length, map, take, slice_get, refl, sym, ap, subst, ◌∙◌, arith}
use Rattle.std.proofs.lemmas.Option.{slice_get-get_or}
use Rattle.std.proofs.lemmas.List.Elements.{All-from_recursion}
use Rattle.std.specs.List.{AllByRecursion}
use Rattle.qv_words.specs.Tree.{Tree}
use Rattle.qv_words.specs.Sorted.{no_levels, with_level}
use Rattle.qv_words.specs.Replacement.{HasTheirSorts}
use Rattle.qv_words.specs.Passes.{truth_literal}
use Rattle.qv_words.specs.Choice.{with_term}
use Rattle.qv_words.proofs.Leaves.{both}
use Rattle.qv_words.proofs.Elements.{all-weaker}
use Rattle.qv_store.specs.Nodes.{tree_at}
use Rattle.qv_store.specs.Stores.{StandsAt}
use Rattle.qv_store.specs.Walks.{named}
use Rattle.qv_store.proofs.Replacement.{grows-more}
use Rattle.qv_choose_clauses.specs.Implying.{IsSettling}
use Rattle.qv_choose_clauses.specs.Defining.{IsTruth}
use Rattle.qv_choose_clauses.specs.Placing.{NothingPut}
use Rattle.qv_choose_clauses.proofs.Stores.{grows-itself, tree-grows, length-grows}
use Rattle.qv_choose_clauses.proofs.SettleLaws.{settling-grows, put-truth, truth-grows, next-made}
use Rattle.qv_choose_clauses.proofs.defining.put_each.Goals as goal

pub clauses-init : goal.clauses-init
clauses-init c = record { grows = grows-itself c.args.store.now; put = refl; made = ap (named c.args.store.now) c.new-made.ensures.items; truths = subst (AllByRecursion (IsTruth c.args.store.now)) (sym c.new-made.ensures.items) tt }

pub put_one-requires-clause-region : goal.put_one-requires-clause-region
put_one-requires-clause-region c =
    let own : IsSettling c.args.place c.args.store.now c.clause-item.result = subst (IsSettling c.args.place c.args.store.now) (sym c.clause-item.is) (c.requires.clauses c.clauses.clause-index c.clause-item.result c.clauses-test.true) in
    (settling-grows c.args.store.now c.clauses.store c.args.place c.clause-item.result c.clauses.invariant.grows own).below

pub put_one-requires-clause-free : goal.put_one-requires-clause-free
put_one-requires-clause-free c =
    let own : IsSettling c.args.place c.args.store.now c.clause-item.result = subst (IsSettling c.args.place c.args.store.now) (sym c.clause-item.is) (c.requires.clauses c.clauses.clause-index c.clause-item.result c.clauses-test.true) in
    (settling-grows c.args.store.now c.clauses.store c.args.place c.clause-item.result c.clauses.invariant.grows own).free

pub put_one-requires-clause-none : goal.put_one-requires-clause-none
put_one-requires-clause-none c = subst NothingPut (sym c.clauses.invariant.put) c.requires.none

pub put_one-requires-clause-level : goal.put_one-requires-clause-level
put_one-requires-clause-level c = omega (arith, c.requires.level, ap length c.clauses.invariant.put)

pub put_one-requires-clause-term : goal.put_one-requires-clause-term
put_one-requires-clause-term c = omega (arith, c.requires.yes.below, length-grows c.args.store.now c.clauses.store c.clauses.invariant.grows)

pub put_one-requires-clause-sorts : goal.put_one-requires-clause-sorts
put_one-requires-clause-sorts c =
    let own : IsSettling c.args.place c.args.store.now c.clause-item.result = subst (IsSettling c.args.place c.args.store.now) (sym c.clause-item.is) (c.requires.clauses c.clauses.clause-index c.clause-item.result c.clauses-test.true) in
    let yes : tree_at c.clauses.store c.args.yes ≡ truth_literal true = tree-grows c.args.store.now c.clauses.store c.args.yes c.clauses.invariant.grows c.requires.yes.below ∙ c.requires.yes.tree in
    subst (λ (t : Tree). HasTheirSorts (with_level no_levels c.args.place.level t) (tree_at c.clauses.store c.clause-item.result)) (sym yes)
    (settling-grows c.args.store.now c.clauses.store c.args.place c.clause-item.result c.clauses.invariant.grows own).sorts

pub clauses-preserved : goal.clauses-preserved
clauses-preserved c =
    let old = c.args.store.now in
    let now = c.clauses.store in
    let new = c.put_one.new.store in
    let item : ℕ = c.clause-item.result in
    let own : IsSettling c.args.place old item = subst (IsSettling c.args.place old) (sym c.clause-item.is) (c.requires.clauses c.clauses.clause-index item c.clauses-test.true) in
    let at : slice_get c.args.clauses.now c.clauses.clause-index ≡ Some item = slice_get-get_or c.args.clauses.now c.clauses.clause-index item c.clauses-test.true ∙ ap (λ o. Some o) (sym c.clause-item.is) in
    let yes : tree_at now c.args.yes ≡ truth_literal true = tree-grows old now c.args.yes c.clauses.invariant.grows c.requires.yes.below ∙ c.requires.yes.tree in
    let stands : StandsAt new c.in_ok-one.one (with_term c.args.place.level (truth_literal true) (tree_at now item)) = subst (λ (t : Tree). StandsAt new c.in_ok-one.one (with_term c.args.place.level t (tree_at now item))) yes c.in_ok-one.ensures.id in
    let here = settling-grows old now c.args.place item c.clauses.invariant.grows own in
    let below = all-weaker (IsTruth now) (λ n. n < length now) c.clauses.made.items (λ n h. h.below) c.clauses.invariant.truths in
    record {
      grows = grows-more old now new c.clauses.invariant.grows c.put_one.ensures.grows;
      put = c.put_one.ensures.same ∙ c.clauses.invariant.put;
      made = next-made old now new c.args.place.level c.args.clauses.now c.clauses.made.items c.push.new.self.items c.clauses.clause-index item c.in_ok-one.one at c.clauses.invariant.grows c.put_one.ensures.grows own.below below c.in_ok-push.ensures.items stands c.clauses.invariant.made;
      truths = subst (AllByRecursion (IsTruth new)) (sym c.in_ok-push.ensures.items)
          (both (IsTruth new) c.clauses.made.items (c.in_ok-one.one ∷ []) (all-weaker (IsTruth now) (IsTruth new) c.clauses.made.items (λ n h. truth-grows now new n c.put_one.ensures.grows h) c.clauses.invariant.truths)
          (put-truth now new c.args.place item c.in_ok-one.one here stands, tt));
    }
