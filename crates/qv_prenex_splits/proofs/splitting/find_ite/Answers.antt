use Rattle.std.proofs.Common.{length, nat_eq, sym, subst}
use Rattle.std.specs.HashSet.{contains}
use Rattle.qv_prenex_splits.specs.Splitting.{Leads, LooksAt}
use Rattle.qv_prenex_splits.proofs.Waiting.{down-at, down-push, down-pop, work-up}
use Rattle.qv_prenex_splits.proofs.Choices.{IsAdded, added-done, added-bare, leads-more, leading-push, leading-pop, leading-all}
use Rattle.qv_prenex_splits.proofs.splitting.find_ite.Goals as goal

pub look-requires-clause-id : goal.look-requires-clause-id
look-requires-clause-id c =
    (down-at (Leads c.args.store.now c.args.root) (length c.args.store.now) (contains nat_eq c.down.bare) c.down.waiting.items c.down.id c.args.root c.down.invariant.down).below

pub returns-in-Ite-clause-first : goal.returns-in-Ite-clause-first
returns-in-Ite-clause-first c =
    let at = down-at (Leads c.args.store.now c.args.root) (length c.args.store.now) (contains nat_eq c.down.bare) c.down.waiting.items c.down.id c.args.root c.down.invariant.down in
    sym (at.holds _ c.in-Ite.ensures.1)

pub down-preserved-in-First : goal.down-preserved-in-First
down-preserved-in-First c =
    let P = Leads c.args.store.now c.args.root in
    let seen = subst (LooksAt c.args.store.now c.down.bare c.down.id) c.in-First.is c.look.ensures in
    let at = down-at P (length c.args.store.now) (contains nat_eq c.down.bare) c.down.waiting.items c.down.id c.args.root c.down.invariant.down in
    record {
      bare = c.down.invariant.bare;
      down = down-push P (length c.args.store.now) (contains nat_eq c.down.bare) c.down.waiting.items c.push.new.self.items c.down.id c.in-First.kid c.args.root c.in_ok-push-in-First.ensures.items c.down.invariant.down seen.below
          (leads-more c.args.store.now c.args.root c.down.id c.in-First.kid at.holds seen.leads) seen.missing;
      leading = leading-push c.args.store.now c.down.waiting.items c.push.new.self.items c.down.id c.in-First.kid c.in_ok-push-in-First.ensures.items c.down.invariant.leading seen.leads;
    }

pub down-smaller : goal.down-smaller
down-smaller c =
    let P = Leads c.args.store.now c.args.root in
    let n = length c.args.store.now in
    let added : IsAdded c.down.bare c.insert.new.self c.down.id = (c.in_ok-insert-in-Nothing.ensures.updates.1, c.in_ok-insert-in-Nothing.ensures.updates.2) in
    let done = added-done c.down.bare c.insert.new.self c.down.id added in
    let at = down-at P n (contains nat_eq c.down.bare) c.down.waiting.items c.down.id c.args.root c.down.invariant.down in
    let next = down-pop P n (contains nat_eq c.down.bare) (contains nat_eq c.insert.new.self) c.down.waiting.items c.pop.new.self.items c.down.id c.in-Some.parent c.args.root c.in-Some.ensures.items done c.down.invariant.down in
    let above = down-at P n (contains nat_eq c.insert.new.self) c.pop.new.self.items c.in-Some.parent c.args.root next in
    work-up (contains nat_eq c.down.bare) (contains nat_eq c.insert.new.self) n c.down.id c.in-Some.parent done at.missing at.below above.below

pub down-preserved : goal.down-preserved
down-preserved c =
    let P = Leads c.args.store.now c.args.root in
    let added : IsAdded c.down.bare c.insert.new.self c.down.id = (c.in_ok-insert-in-Nothing.ensures.updates.1, c.in_ok-insert-in-Nothing.ensures.updates.2) in
    let seen = subst (LooksAt c.args.store.now c.down.bare c.down.id) c.in-Nothing.is c.look.ensures in
    record {
      bare = added-bare c.args.store.now c.down.bare c.insert.new.self c.down.id added seen c.down.invariant.bare;
      down = down-pop P (length c.args.store.now) (contains nat_eq c.down.bare) (contains nat_eq c.insert.new.self) c.down.waiting.items c.pop.new.self.items c.down.id c.in-Some.parent c.args.root c.in-Some.ensures.items
          (added-done c.down.bare c.insert.new.self c.down.id added) c.down.invariant.down;
      leading = leading-pop c.args.store.now c.down.waiting.items c.pop.new.self.items c.down.id c.in-Some.parent c.in-Some.ensures.items c.down.invariant.leading;
    }

pub returns-in-Ite-clause-above : goal.returns-in-Ite-clause-above
returns-in-Ite-clause-above c =
    leading-all c.args.store.now (Leads c.args.store.now c.args.root) (contains nat_eq c.down.bare) c.down.waiting.items c.down.id c.args.root c.in-Ite.ite c.down.invariant.leading c.down.invariant.down c.in-Ite.ensures.0 c.in-Ite.ensures.1
