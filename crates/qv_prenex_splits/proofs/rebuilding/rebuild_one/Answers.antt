use Rattle.std.proofs.Common.{◌≡◌, ◌<◌, ℕ, None, Some, [], arith, length, sym, ap, ◌∙◌, subst}
use Rattle.qv_words.specs.Tree.{Tree}
use Rattle.std.specs.Prelude.{Option}
use Rattle.qv_words.specs.Sorted.{IsSorted}
use Rattle.qv_store.specs.Nodes.{tree_at}
use Rattle.qv_store.specs.Stores.{StandsAt}
use Rattle.qv_store.proofs.Replacement.{grown-tree, grown-within, grows-more}
use Rattle.qv_store.proofs.Visiting.{popped-none}
use Rattle.qv_prenex_splits.specs.Rebuilt.{rebuilt}
use Rattle.qv_prenex_splits.specs.Rebuilding.{top_in, AreRebuilt, Steps}
use Rattle.qv_prenex_splits.proofs.Waiting.{down-end, down-at, down-push, down-pop, work-up}
use Rattle.qv_prenex_splits.proofs.Keeping.{kept-grows}
use Rattle.qv_prenex_splits.proofs.Changing.{top-grows, change-grows, rebuilt-grows, made-step, kept-updated, is_made, updated-done, missing-test}
use Rattle.qv_prenex_splits.proofs.rebuilding.rebuild_one.Goals as goal

pub make_next-requires-clause-id : goal.make_next-requires-clause-id
make_next-requires-clause-id c =
    let P : ℕ → Type 0 = λ k. IsSorted (rebuilt (top_in c.args.store.now c.args.change.now c.args.names.now) (tree_at c.args.store.now k)) in
    let at = down-at P (length c.args.store.now) (is_made c.down.made) c.down.waiting.items c.down.id c.args.root c.down.invariant.down in
    grown-within c.args.store.now c.down.store c.down.invariant.grows c.down.id at.below

pub make_next-requires-clause-change : goal.make_next-requires-clause-change
make_next-requires-clause-change c = change-grows c.args.store.now c.down.store c.args.change.now c.args.names.now c.down.invariant.grows c.requires.change

pub make_next-requires-clause-sorted : goal.make_next-requires-clause-sorted
make_next-requires-clause-sorted c =
    let P : ℕ → Type 0 = λ k. IsSorted (rebuilt (top_in c.args.store.now c.args.change.now c.args.names.now) (tree_at c.args.store.now k)) in
    let at = down-at P (length c.args.store.now) (is_made c.down.made) c.down.waiting.items c.down.id c.args.root c.down.invariant.down in
    let tops = top-grows c.args.store.now c.down.store c.args.change.now c.args.names.now c.down.invariant.grows c.requires.change in
    let same = grown-tree c.args.store.now c.down.store c.down.invariant.grows c.down.id at.below in
    subst IsSorted (sym (ap (λ top. rebuilt top (tree_at c.down.store c.down.id)) tops ∙ ap (rebuilt (top_in c.args.store.now c.args.change.now c.args.names.now)) same)) at.holds

pub make_next-requires-clause-made : goal.make_next-requires-clause-made
make_next-requires-clause-made c =
    let tops = top-grows c.args.store.now c.down.store c.args.change.now c.args.names.now c.down.invariant.grows c.requires.change in
    subst (λ (top : Tree → Option Tree). AreRebuilt top c.down.store c.down.made) (sym tops) c.down.invariant.made

pub reach_of-reach-requires-clause-id : goal.reach_of-reach-requires-clause-id
reach_of-reach-requires-clause-id c =
    let P : ℕ → Type 0 = λ k. IsSorted (rebuilt (top_in c.args.store.now c.args.change.now c.args.names.now) (tree_at c.args.store.now k)) in
    let at = down-at P (length c.args.store.now) (is_made c.down.made) c.down.waiting.items c.down.id c.args.root c.down.invariant.down in
    grown-within c.down.store c.make_next.new.store c.make_next.ensures.grows c.down.id (grown-within c.args.store.now c.down.store c.down.invariant.grows c.down.id at.below)

pub reach_of-reach-requires-clause-kept : goal.reach_of-reach-requires-clause-kept
reach_of-reach-requires-clause-kept c = kept-grows c.down.store c.make_next.new.store c.down.made c.make_next.ensures.grows c.down.invariant.made.kept

pub down-preserved-in-First : goal.down-preserved-in-First
down-preserved-in-First c =
    let old = c.args.store.now in
    let top = top_in old c.args.change.now c.args.names.now in
    let P : ℕ → Type 0 = λ k. IsSorted (rebuilt top (tree_at old k)) in
    let tops = top-grows old c.down.store c.args.change.now c.args.names.now c.down.invariant.grows c.requires.change in
    let at = down-at P (length old) (is_made c.down.made) c.down.waiting.items c.down.id c.args.root c.down.invariant.down in
    let needed = subst (Steps (top_in c.down.store c.args.change.now c.args.names.now) c.down.store c.make_next.new.store c.down.made c.down.id) c.in-First.is c.in_ok-kid.ensures.step in
    let low : c.in-First.kid < length old = omega (arith, needed.below, at.below) in
    let sorted : IsSorted (rebuilt top (tree_at old c.in-First.kid)) =
    subst IsSorted (ap (λ t. rebuilt t (tree_at c.down.store c.in-First.kid)) tops ∙ ap (rebuilt top) (grown-tree old c.down.store c.down.invariant.grows c.in-First.kid low)) needed.sorted in
    record {
      grows = grows-more old c.down.store c.make_next.new.store c.down.invariant.grows c.make_next.ensures.grows;
      shared = c.make_next.ensures.shared;
      made = rebuilt-grows top c.down.store c.make_next.new.store c.down.made c.make_next.ensures.grows c.down.invariant.made;
      down = down-push P (length old) (is_made c.down.made) c.down.waiting.items c.push.new.self.items c.down.id c.in-First.kid c.args.root c.in_ok-push-in-First.ensures.items c.down.invariant.down needed.below sorted
          (missing-test c.down.made c.in-First.kid needed.missing);
    }

pub down-smaller : goal.down-smaller
down-smaller c =
    let old = c.args.store.now in
    let P : ℕ → Type 0 = λ k. IsSorted (rebuilt (top_in old c.args.change.now c.args.names.now) (tree_at old k)) in
    let updated = kept-updated c.down.store c.down.made c.insert.new.self c.down.id c.in-Made.new c.reach_of-reach.result c.down.invariant.made.kept c.in_ok-insert-in-Made.ensures in
    let done = updated-done c.down.made c.insert.new.self c.down.id c.in-Made.new updated in
    let at = down-at P (length old) (is_made c.down.made) c.down.waiting.items c.down.id c.args.root c.down.invariant.down in
    let next = down-pop P (length old) (is_made c.down.made) (is_made c.insert.new.self) c.down.waiting.items c.pop.new.self.items c.down.id c.in-Some.parent c.args.root c.in-Some.ensures.items done c.down.invariant.down in
    let above = down-at P (length old) (is_made c.insert.new.self) c.pop.new.self.items c.in-Some.parent c.args.root next in
    work-up (is_made c.down.made) (is_made c.insert.new.self) (length old) c.down.id c.in-Some.parent done at.missing at.below above.below

pub down-preserved : goal.down-preserved
down-preserved c =
    let old = c.args.store.now in
    let top = top_in old c.args.change.now c.args.names.now in
    let P : ℕ → Type 0 = λ k. IsSorted (rebuilt top (tree_at old k)) in
    let tops = top-grows old c.down.store c.args.change.now c.args.names.now c.down.invariant.grows c.requires.change in
    let at = down-at P (length old) (is_made c.down.made) c.down.waiting.items c.down.id c.args.root c.down.invariant.down in
    let updated = kept-updated c.down.store c.down.made c.insert.new.self c.down.id c.in-Made.new c.reach_of-reach.result c.down.invariant.made.kept c.in_ok-insert-in-Made.ensures in
    let done = updated-done c.down.made c.insert.new.self c.down.id c.in-Made.new updated in
    let stands = subst (Steps (top_in c.down.store c.args.change.now c.args.names.now) c.down.store c.make_next.new.store c.down.made c.down.id) c.in-Made.is c.in_ok-kid.ensures.step in
    let own : StandsAt c.make_next.new.store c.in-Made.new (rebuilt top (tree_at c.down.store c.down.id)) = subst (λ (t : Tree → Option Tree). StandsAt c.make_next.new.store c.in-Made.new (rebuilt t (tree_at c.down.store c.down.id))) tops stands in
    record {
      grows = grows-more old c.down.store c.make_next.new.store c.down.invariant.grows c.make_next.ensures.grows;
      shared = c.make_next.ensures.shared;
      made = made-step top c.down.store c.make_next.new.store c.down.made c.insert.new.self c.down.id c.in-Made.new c.reach_of-reach.result c.make_next.ensures.grows (grown-within old c.down.store c.down.invariant.grows c.down.id at.below) c.reach_of-reach.ensures c.in_ok-insert-in-Made.ensures own c.down.invariant.made;
      down = down-pop P (length old) (is_made c.down.made) (is_made c.insert.new.self) c.down.waiting.items c.pop.new.self.items c.down.id c.in-Some.parent c.args.root c.in-Some.ensures.items done c.down.invariant.down;
    }

pub returns-in-None-clause-id : goal.returns-in-None-clause-id
returns-in-None-clause-id c =
    let old = c.args.store.now in
    let top = top_in old c.args.change.now c.args.names.now in
    let P : ℕ → Type 0 = λ k. IsSorted (rebuilt top (tree_at old k)) in
    let tops = top-grows old c.down.store c.args.change.now c.args.names.now c.down.invariant.grows c.requires.change in
    let at = down-at P (length old) (is_made c.down.made) c.down.waiting.items c.down.id c.args.root c.down.invariant.down in
    let stands = subst (Steps (top_in c.down.store c.args.change.now c.args.names.now) c.down.store c.make_next.new.store c.down.made c.down.id) c.in-Made.is c.in_ok-kid.ensures.step in
    let none : c.down.waiting.items ≡ [] = popped-none c.down.waiting.items c.pop.result (λ h. c.pop.ensures.variant.1 (omega (arith, h, c.down.waiting.ok.0))) (λ x e. absurd (let bad : None ≡ Some x = sym c.in-None.is ∙ e in cc)) in
    let end : c.down.id ≡ c.args.root = down-end P (length old) (is_made c.down.made) c.down.waiting.items c.down.id c.args.root none c.down.invariant.down in
    subst (StandsAt c.make_next.new.store c.in-Made.new)
    (ap (λ t. rebuilt t (tree_at c.down.store c.down.id)) tops ∙ ap (rebuilt top) (grown-tree old c.down.store c.down.invariant.grows c.down.id at.below) ∙ ap (λ n. rebuilt top (tree_at old n)) end)
    stands

pub returns-in-None-clause-made : goal.returns-in-None-clause-made
returns-in-None-clause-made c =
    let old = c.args.store.now in
    let top = top_in old c.args.change.now c.args.names.now in
    let P : ℕ → Type 0 = λ k. IsSorted (rebuilt top (tree_at old k)) in
    let tops = top-grows old c.down.store c.args.change.now c.args.names.now c.down.invariant.grows c.requires.change in
    let at = down-at P (length old) (is_made c.down.made) c.down.waiting.items c.down.id c.args.root c.down.invariant.down in
    let stands = subst (Steps (top_in c.down.store c.args.change.now c.args.names.now) c.down.store c.make_next.new.store c.down.made c.down.id) c.in-Made.is c.in_ok-kid.ensures.step in
    let own : StandsAt c.make_next.new.store c.in-Made.new (rebuilt top (tree_at c.down.store c.down.id)) = subst (λ (t : Tree → Option Tree). StandsAt c.make_next.new.store c.in-Made.new (rebuilt t (tree_at c.down.store c.down.id))) tops stands in
    made-step top c.down.store c.make_next.new.store c.down.made c.insert.new.self c.down.id c.in-Made.new c.reach_of-reach.result c.make_next.ensures.grows (grown-within old c.down.store c.down.invariant.grows c.down.id at.below) c.reach_of-reach.ensures c.in_ok-insert-in-Made.ensures own c.down.invariant.made

pub returns-in_err-kid-clause-grows : goal.returns-in_err-kid-clause-grows
returns-in_err-kid-clause-grows c = grows-more c.args.store.now c.down.store c.make_next.new.store c.down.invariant.grows c.make_next.ensures.grows

pub returns-in_err-push-in-First-clause-grows : goal.returns-in_err-push-in-First-clause-grows
returns-in_err-push-in-First-clause-grows c = grows-more c.args.store.now c.down.store c.make_next.new.store c.down.invariant.grows c.make_next.ensures.grows

pub returns-in_err-insert-in-Made-clause-grows : goal.returns-in_err-insert-in-Made-clause-grows
returns-in_err-insert-in-Made-clause-grows c = grows-more c.args.store.now c.down.store c.make_next.new.store c.down.invariant.grows c.make_next.ensures.grows

pub returns-in-None-clause-grows : goal.returns-in-None-clause-grows
returns-in-None-clause-grows c = grows-more c.args.store.now c.down.store c.make_next.new.store c.down.invariant.grows c.make_next.ensures.grows
