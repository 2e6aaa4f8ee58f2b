use Rattle.std.proofs.Common.{◌≡◌, ℕ, ◌<◌, ◌≤◌, true, false, arith}
use Rattle.std.specs.Prelude.{nat_lt}
use Rattle.std.proofs.lemmas.Bool.Decides.{nat_tests}
use Rattle.qv_elab_items.proofs.Pairing.{begins-within, next-of, no-pair, one-pair, pair-onward, pairs-end}
use Rattle.qv_elab_items.proofs.inside.are_pairs.Goals as goal

pub behind_pair-requires-clause-stands : goal.behind_pair-requires-clause-stands
behind_pair-requires-clause-stands c =
    let l = c.pairs.invariant.left c.requires.0 c.requires.1 in
    let n = next-of c.args.items.now c.args.text.now c.pairs.at c.args.to l.0 l.1 c.pairs-test.true in
    (n.0, n.2, n.4)

pub behind_pair-requires-clause-within : goal.behind_pair-requires-clause-within
behind_pair-requires-clause-within c =
    let l = c.pairs.invariant.left c.requires.0 c.requires.1 in
    let n = next-of c.args.items.now c.args.text.now c.pairs.at c.args.to l.0 l.1 c.pairs-test.true in
    begins-within c.args.items.now c.args.text.now c.pairs.at n.0 n.2 n.4

pub pairs-smaller : goal.pairs-smaller
pairs-smaller c =
    let up = pair-onward c.args.items.now c.args.text.now c.args.from c.pairs.at c.in-Some.next c.args.to c.requires.0 c.requires.1 c.pairs.invariant.left c.pairs-test.true c.in-Some.ensures in
    omega (arith, up.0, up.1)

pub pairs-preserved : goal.pairs-preserved
pairs-preserved c = record {
  left = one-pair c.args.items.now c.args.text.now c.args.from c.pairs.at c.in-Some.next c.args.to c.pairs.invariant.left c.pairs-test.true c.in-Some.ensures;
}

pub returns-in-None : goal.returns-in-None
returns-in-None c = λ pairs h.
    no-pair c.args.items.now c.args.text.now c.args.from c.pairs.at c.args.to pairs c.pairs.invariant.left h c.pairs-test.true c.in-None.ensures

is-less : (a b : ℕ) → a < b → nat_lt a b ≡ true
is-less a b h = grind (arith, nat_tests)

not-less : (a b : ℕ) → b ≤ a → nat_lt a b ≡ false
not-less a b h = grind (arith, nat_tests)

pub returns : goal.returns
returns c = λ pairs h.
    pairs-end c.args.items.now c.args.text.now c.args.from c.pairs.at c.args.to pairs (nat_lt c.args.from c.args.to) c.pairs.invariant.left h c.pairs-test.false (is-less c.args.from c.args.to) (not-less c.args.from c.args.to)
