use Rattle.std.proofs.Common.{◌≡◌, ◌≤◌, ◌∙◌, [], length, ap, sym, subst, arith}
use Rattle.qv_words.specs.Tree.{Tree}
use Rattle.qv_rewrite_passes.specs.Simps.{simped}
use Rattle.qv_store.specs.Nodes.{tree_at}
use Rattle.qv_store.specs.Stores.{StandsAt}
use Rattle.qv_store.specs.Walks.{named, with_subtrees}
use Rattle.qv_store.proofs.Passes.{contains-earlier, earlier-in}
use Rattle.qv_store.proofs.Replacement.{grown-tree}
use Rattle.qv_rewrite_simps.specs.Held.{AreSimped}
use Rattle.qv_rewrite_simps.proofs.Applying.{all-free}
use Rattle.qv_rewrite_simps.proofs.Found.{simped-turned}
use Rattle.qv_rewrite_simps.proofs.simping.simp.Goals as goal

pub simp_each-requires-clause-free : goal.simp_each-requires-clause-free
simp_each-requires-clause-free c =
    let trees = c.args.store.now in
    let order : named trees c.visit.new.self ≡ with_subtrees [] (tree_at trees c.args.id) =
    c.in_ok-visit.ensures.order ∙ ap (λ ids. with_subtrees (named trees ids) (tree_at trees c.args.id)) c.new-walk.ensures in
    all-free trees c.visit.new.self c.args.id order c.requires.free

pub found-requires : goal.found-requires
found-requires c =
    let old = c.args.store.now in
    let now = c.simp_each.new.store in
    let many : length c.visit.new.self ≤ length c.deref.result.now = omega (arith, ap length c.deref.ensures.value, c.in_ok-made.ensures.many) in
    record {
      made = subst (AreSimped now (tree_at now) c.visit.new.self) (sym c.deref.ensures.value)
          (simped-turned old now c.visit.new.self c.in_ok-made.made.items c.simp_each.ensures.grows c.visit.ensures.walk c.in_ok-made.ensures.made);
      id = earlier-in c.visit.new.self (length c.visit.new.self) (length c.deref.result.now) c.args.id many (contains-earlier c.visit.new.self c.args.id c.in_ok-visit.ensures.has);
    }

pub returns-clause-id : goal.returns-clause-id
returns-clause-id c =
    subst (λ (t : Tree). StandsAt c.simp_each.new.store c.found.result (simped t)) (grown-tree c.args.store.now c.simp_each.new.store c.simp_each.ensures.grows c.args.id c.requires.id) c.found.ensures
