use Rattle.std.proofs.Common.{◌≡◌, ◌-◌, arith, refl}
use Rattle.qv_blast.proofs.Values.{bits-end, bits-turn}
use Rattle.qv_blast.proofs.blaster.bits_of_word.Goals as goal

pub bits-init : goal.bits-init
bits-init c =
    let all : c.width-width.result - 0 ≡ c.width-width.result = omega arith in
    rw (c.in_ok-bits.ensures.items, all, c.value-value.ensures) refl

pub bits-preserved : goal.bits-preserved
bits-preserved c =
    rw c.in_ok-push.ensures.items (bits-turn _ c.width-width.result c.bits._i c.bits.value c.bits.bits.items c.literal_of.result (omega arith) c.literal_of.ensures c.bits.invariant)

pub returns : goal.returns
returns c =
    let none : c.width-width.result - c.bits._i ≡ 0 = omega arith in
    let whole = bits-end _ c.width-width.result c.bits._i c.bits.value c.bits.bits.items none c.bits.invariant in
    rw (whole, c.width-width.ensures, c.sort.ensures) refl
