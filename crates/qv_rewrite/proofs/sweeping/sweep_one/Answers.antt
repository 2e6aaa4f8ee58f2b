use Rattle.std.proofs.Common.{ℕ, List, length, sym, subst}
use Rattle.qv_words.specs.Tree.{IsQuantifierFree}
use Rattle.qv_rewrite.specs.Steps.{Steps}
use Rattle.qv_rewrite.proofs.Waiting.{IsDown, IsUpdated, tree-grows, swept-grows, swept-step, down-at, down-push, down-pop, work-up}
use Rattle.qv_rewrite.proofs.sweeping.sweep_one.Goals as goal
use Rattle.qv_store.proofs.Replacement.{grows-more as grows-trans}

pub step-requires-clause-free : goal.step-requires-clause-free
step-requires-clause-free c =
    let at = down-at c.args.store.now c.down.made c.down.waiting.items c.down.id c.args.root c.down.invariant.down in
    subst IsQuantifierFree (sym (tree-grows c.args.store.now c.down.store c.down.id c.down.invariant.grows at.below)) at.free

pub down-preserved-in-First : goal.down-preserved-in-First
down-preserved-in-First c =
    let missing = subst (Steps c.args.rewriting c.down.store c.step.new.store c.down.made c.down.id) c.in-First.is c.in_ok-kid.ensures.step in
    record {
      grows = grows-trans c.args.store.now c.down.store c.step.new.store c.down.invariant.grows c.step.ensures.grows;
      shared = c.step.ensures.shared;
      swept = swept-grows c.args.rewriting c.down.store c.step.new.store c.down.made c.step.ensures.grows c.down.invariant.swept;
      down = subst (λ (xs : List ℕ). IsDown c.args.store.now c.down.made xs c.in-First.kid c.args.root) (sym c.in_ok-push-in-First.ensures.items)
          (down-push c.args.store.now c.down.store c.down.made c.down.waiting.items c.down.id c.in-First.kid c.args.root c.down.invariant.grows c.down.invariant.down missing);
    }

pub down-preserved : goal.down-preserved
down-preserved c =
    let at = subst (Steps c.args.rewriting c.down.store c.step.new.store c.down.made c.down.id) c.in-Made.is c.in_ok-kid.ensures.step in
    let updated : IsUpdated c.down.made c.insert.new.self c.down.id c.in-Made.new =
    record { here = c.in_ok-insert-in-Made.ensures.updates.1; others = c.in_ok-insert-in-Made.ensures.updates.2 } in
    record {
      grows = grows-trans c.args.store.now c.down.store c.step.new.store c.down.invariant.grows c.step.ensures.grows;
      shared = c.step.ensures.shared;
      swept = swept-step c.args.rewriting c.args.store.now c.down.store c.step.new.store c.down.made c.insert.new.self c.down.waiting.items c.down.id c.in-Made.new c.args.root c.down.invariant.grows c.step.ensures.grows c.down.invariant.down updated at c.down.invariant.swept;
      down = down-pop c.args.store.now c.down.made c.insert.new.self c.down.waiting.items c.pop.new.self.items c.down.id c.in-Made.new c.in-Some.parent c.args.root c.in-Some.ensures.items updated c.down.invariant.down;
    }

pub down-smaller : goal.down-smaller
down-smaller c =
    let updated : IsUpdated c.down.made c.insert.new.self c.down.id c.in-Made.new =
    record { here = c.in_ok-insert-in-Made.ensures.updates.1; others = c.in_ok-insert-in-Made.ensures.updates.2 } in
    let at = down-at c.args.store.now c.down.made c.down.waiting.items c.down.id c.args.root c.down.invariant.down in
    let next = down-pop c.args.store.now c.down.made c.insert.new.self c.down.waiting.items c.pop.new.self.items c.down.id c.in-Made.new c.in-Some.parent c.args.root c.in-Some.ensures.items updated c.down.invariant.down in
    let above = down-at c.args.store.now c.insert.new.self c.pop.new.self.items c.in-Some.parent c.args.root next in
    work-up c.down.made c.insert.new.self (length c.args.store.now) c.down.id c.in-Made.new c.in-Some.parent updated at.missing at.below above.below

pub returns-in-None-clause-made : goal.returns-in-None-clause-made
returns-in-None-clause-made c =
    let at = subst (Steps c.args.rewriting c.down.store c.step.new.store c.down.made c.down.id) c.in-Made.is c.in_ok-kid.ensures.step in
    let updated : IsUpdated c.down.made c.insert.new.self c.down.id c.in-Made.new =
    record { here = c.in_ok-insert-in-Made.ensures.updates.1; others = c.in_ok-insert-in-Made.ensures.updates.2 } in
    swept-step c.args.rewriting c.args.store.now c.down.store c.step.new.store c.down.made c.insert.new.self c.down.waiting.items c.down.id c.in-Made.new c.args.root c.down.invariant.grows c.step.ensures.grows c.down.invariant.down updated at c.down.invariant.swept
