use Rattle.std.proofs.Common.{◌<◌, length, arith, subst, sym}
use Rattle.std.proofs.lemmas.List.Elements.{All-from_recursion}
use Rattle.qv_words.specs.Tree.{IsQuantifierFree}
use Rattle.qv_rewrite_passes.specs.Simps.{simped}
use Rattle.qv_store.proofs.Replacement.{grows-more}
use Rattle.qv_rewrite.proofs.Waiting.{grows-itself, length-grows, tree-grows}
use Rattle.qv_rewrite_lists.proofs.Making.{made-below, made-more, made-pass, made-whole}
use Rattle.qv_rewrite_lists.proofs.taking.simp_all.Goals as goal

pub formulas-init : goal.formulas-init
formulas-init c = record {
  grows = grows-itself c.args.store.now;
  made = rw c.new-simped.ensures.items tt;
}

pub simp-requires : goal.simp-requires
simp-requires c =
    let low : c.id-item.result < length c.args.store.now = rw c.id-item.is (c.requires.below c.formulas.id-index c.id-item.result c.formulas-test.true) in
    record {
      id = omega (arith, low, length-grows c.args.store.now c.formulas.store c.formulas.invariant.grows);
      free = subst IsQuantifierFree (sym (tree-grows c.args.store.now c.formulas.store c.id-item.result c.formulas.invariant.grows low))
          (rw c.id-item.is (c.requires.free c.formulas.id-index c.id-item.result c.formulas-test.true));
    }

pub formulas-preserved : goal.formulas-preserved
formulas-preserved c = record {
  grows = grows-more c.args.store.now c.formulas.store c.simp.new.store c.formulas.invariant.grows c.simp.ensures.grows;
  made = rw c.in_ok-push.ensures.items
      (made-more simped c.args.store.now c.formulas.store c.simp.new.store c.args.list.now c.formulas.simped.items c.formulas.id-index c.id-item.result c.in_ok-made.made c.formulas-test.true c.id-item.is (rw c.id-item.is (c.requires.below c.formulas.id-index c.id-item.result c.formulas-test.true)) c.formulas.invariant.grows c.simp.ensures.grows c.formulas.invariant.made c.in_ok-made.ensures.id);
}

pub returns-clause-list : goal.returns-clause-list
returns-clause-list c =
    made-pass simped c.args.store.now c.formulas.store c.args.list.now c.formulas.simped.items
    (made-whole simped c.args.store.now c.formulas.store c.args.list.now c.formulas.simped.items c.formulas.id-index c.formulas-test.false c.formulas.invariant.made)

pub returns-clause-below : goal.returns-clause-below
returns-clause-below c =
    All-from_recursion (λ m. m < length c.formulas.store) c.formulas.simped.items
    (made-below simped c.args.store.now c.formulas.store c.args.list.now c.formulas.simped.items
    (made-whole simped c.args.store.now c.formulas.store c.args.list.now c.formulas.simped.items c.formulas.id-index c.formulas-test.false c.formulas.invariant.made))

pub returns-in_err-push-clause-grows : goal.returns-in_err-push-clause-grows
returns-in_err-push-clause-grows c = grows-more c.args.store.now c.formulas.store c.simp.new.store c.formulas.invariant.grows c.simp.ensures.grows
