use Rattle.std.proofs.Common.{◌<◌, ℕ, length, sym, subst}
use Rattle.qv_words.specs.declared.sort.Sort.TheVariants.{Bool}
use Rattle.qv_rewrite_passes.specs.Xors.{as_truth}
use Rattle.qv_store.specs.Nodes.{tree_at}
use Rattle.qv_store.proofs.Replacement.{grown-tree, grows-more}
use Rattle.qv_rewrite_sums.proofs.Held.{at-place, at-mapped}
use Rattle.qv_rewrite_xors.specs.Held.{IsAtom}
use Rattle.qv_rewrite_xors.proofs.Standing.{of-standing, made-more, sorts-more}
use Rattle.qv_rewrite_xors.proofs.building.truths.Goals as goal

pub as_truth-requires-clause-atom : goal.as_truth-requires-clause-atom
as_truth-requires-clause-atom c =
    let old = c.args.store.now in
    let x = c.id-item.result in
    let low = at-place (λ (n : ℕ). n < length old) c.args.atoms.now c.atoms.id-index x c.requires.below c.atoms-test.true c.id-item.is in
    subst (IsAtom Bool) (sym (grown-tree old c.atoms.store c.atoms.invariant.grows x low))
    (at-mapped (IsAtom Bool) (tree_at old) c.args.atoms.now c.atoms.id-index x c.requires.atoms c.atoms-test.true c.id-item.is)

pub atoms-preserved : goal.atoms-preserved
atoms-preserved c =
    let old = c.args.store.now in
    let now = c.atoms.store in
    let new = c.as_truth.new.store in
    let x = c.id-item.result in
    let made = c.in_ok-truth.ensures.id in
    record {
      grows = grows-more old now new c.atoms.invariant.grows c.as_truth.ensures.grows;
      truths = made-more old now new as_truth Bool c.args.atoms.now c.atoms.truths.items c.push.new.self.items c.atoms.id-index x c.in_ok-truth.truth
          c.atoms.invariant.grows c.as_truth.ensures.grows c.atoms-test.true c.id-item.is c.requires.below c.atoms.invariant.sorts c.atoms.invariant.truths made.stands.tree c.in_ok-push.ensures.items;
      sorts = sorts-more now new Bool c.atoms.truths.items c.push.new.self.items c.in_ok-truth.truth c.as_truth.ensures.grows c.atoms.invariant.sorts
          (of-standing new Bool c.in_ok-truth.truth (as_truth (tree_at now x)) made) c.in_ok-push.ensures.items;
    }
