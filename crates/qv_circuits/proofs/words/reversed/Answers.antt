use Rattle.std.proofs.Common.{◌≡◌, ◌-◌, length, refl, arith}
use Rattle.std.proofs.Math.Seq.{drop-length}
use Rattle.qv_circuits.proofs.MadeLists.{lits-reverse, reverse-turn}
use Rattle.qv_circuits.proofs.words.reversed.Goals as goal

pub literals-init : goal.literals-init
literals-init c = let none : length c.args.bits.now - 0 ≡ length c.args.bits.now = omega arith in rw (c.in_ok-lits.ensures.items, none, drop-length c.args.bits.now) refl

pub literals-preserved : goal.literals-preserved
literals-preserved c = rw c.in_ok-push.ensures.items (reverse-turn c.args.bits.now c.literals.lits.items c.literals.i c.index-bits-bits.result (omega arith) c.index-bits-bits.is c.literals.invariant)

pub returns : goal.returns
returns c =
    let all : length c.args.bits.now - c.literals.i ≡ 0 = omega arith in
    rw (c.literals.invariant, all) (lits-reverse c.args.bits.now)
