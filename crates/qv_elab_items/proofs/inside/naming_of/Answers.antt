use Rattle.std.proofs.Common.{arith}
use Rattle.qv_elab_items.proofs.Attributed.{next-before, next-at, naming-onward, naming-end}
use Rattle.qv_elab_items.proofs.inside.naming_of.Goals as goal

pub behind-next-requires : goal.behind-next-requires
behind-next-requires c =
    let a = c.args in
    let l = c.attributes.invariant.left c.requires.stand.0 c.requires.stand.1 in
    next-before a.items.now a.text.now c.attributes.at a.to l.0 l.1 c.attributes-test.true

pub naming_with-naming-requires-clause-stand : goal.naming_with-naming-requires-clause-stand
naming_with-naming-requires-clause-stand c =
    let a = c.args in
    let l = c.attributes.invariant.left c.requires.stand.0 c.requires.stand.1 in
    let n = next-at a.items.now a.text.now c.attributes.at a.to l.0 l.1 c.attributes-test.true c.behind-next.result c.behind-next.ensures in
    (n.1, n.4)

pub attributes-smaller : goal.attributes-smaller
attributes-smaller c =
    let a = c.args in
    let l = c.attributes.invariant.left c.requires.stand.0 c.requires.stand.1 in
    let n = next-at a.items.now a.text.now c.attributes.at a.to l.0 l.1 c.attributes-test.true c.behind-next.result c.behind-next.ensures in
    omega (arith, n.5, n.6)

pub attributes-preserved : goal.attributes-preserved
attributes-preserved c = record {
  left = naming-onward c.args.items.now c.args.text.now c.args.from c.attributes.at c.args.to c.attributes.naming c.attributes.invariant.left c.attributes-test.true c.behind-next.result c.behind-next.ensures c.naming_with-naming.result c.naming_with-naming.ensures;
}

pub returns : goal.returns
returns c = λ es h. naming-end c.args.items.now c.args.text.now c.args.from c.attributes.at c.args.to c.attributes.naming c.attributes.invariant.left c.attributes-test.false es h
