use Rattle.std.proofs.Common.{◌<◌, length, arith}
use Rattle.std.proofs.lemmas.List.Elements.{All-from_recursion}
use Rattle.qv_rewrite_passes.specs.Xors.{xored}
use Rattle.qv_store.proofs.Replacement.{grows-more}
use Rattle.qv_rewrite.proofs.Waiting.{grows-itself, length-grows}
use Rattle.qv_rewrite_lists.proofs.Making.{made-below, made-more, made-pass, made-whole}
use Rattle.qv_rewrite_lists.proofs.taking.xor_all.Goals as goal

pub formulas-init : goal.formulas-init
formulas-init c = record {
  grows = grows-itself c.args.store.now;
  made = rw c.new-chains.ensures.items tt;
}

pub xor-requires : goal.xor-requires
xor-requires c =
    let low : c.id-item.result < length c.args.store.now = rw c.id-item.is (c.requires c.formulas.id-index c.id-item.result c.formulas-test.true) in
    omega (arith, low, length-grows c.args.store.now c.formulas.store c.formulas.invariant.grows)

pub formulas-preserved : goal.formulas-preserved
formulas-preserved c = record {
  grows = grows-more c.args.store.now c.formulas.store c.xor.new.store c.formulas.invariant.grows c.xor.ensures.grows;
  made = rw c.in_ok-push.ensures.items
      (made-more xored c.args.store.now c.formulas.store c.xor.new.store c.args.list.now c.formulas.chains.items c.formulas.id-index c.id-item.result c.in_ok-made.made c.formulas-test.true c.id-item.is (rw c.id-item.is (c.requires c.formulas.id-index c.id-item.result c.formulas-test.true)) c.formulas.invariant.grows c.xor.ensures.grows c.formulas.invariant.made c.in_ok-made.ensures.id);
}

pub returns-clause-list : goal.returns-clause-list
returns-clause-list c =
    made-pass xored c.args.store.now c.formulas.store c.args.list.now c.formulas.chains.items
    (made-whole xored c.args.store.now c.formulas.store c.args.list.now c.formulas.chains.items c.formulas.id-index c.formulas-test.false c.formulas.invariant.made)

pub returns-clause-below : goal.returns-clause-below
returns-clause-below c =
    All-from_recursion (λ m. m < length c.formulas.store) c.formulas.chains.items
    (made-below xored c.args.store.now c.formulas.store c.args.list.now c.formulas.chains.items
    (made-whole xored c.args.store.now c.formulas.store c.args.list.now c.formulas.chains.items c.formulas.id-index c.formulas-test.false c.formulas.invariant.made))

pub returns-in_err-push-clause-grows : goal.returns-in_err-push-clause-grows
returns-in_err-push-clause-grows c = grows-more c.args.store.now c.formulas.store c.xor.new.store c.formulas.invariant.grows c.xor.ensures.grows
