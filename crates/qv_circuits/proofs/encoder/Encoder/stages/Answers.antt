use Rattle.std.proofs.Common.{◌≡◌, ◌<◌, ◌-◌, ◌^◌, ℕ, length, min, arith}
use Rattle.qv_circuits.specs.Adding.{lit_of, lits_of}
use Rattle.qv_circuits.proofs.Rounds.{doubled, stages-ends, stages-stops, stages-turn}
use Rattle.qv_circuits.proofs.Running.{exits}
use Rattle.qv_circuits.proofs.encoder.Encoder.stages.Goals as goal

-- how far the bits move, where it matters
as-far : (p n w : ℕ) → p ≡ min n (2 ^ 64 - 1) → w < 2 ^ 64 → min p w ≡ min n w
as-far p n w e h = omega (arith, e, h)

pub returns-in_err-present-2 : goal.returns-in_err-present-2
returns-in_err-present-2 c =
    let short : length c.stages.present.items < 2 ^ 64 = omega (arith, c.stages.present.ok, c.stages.present.small) in
    let far = as-far c.stages.places (2 ^ c.stages.bit-index) (length c.stages.present.items) c.stages.invariant.1 short in
    let g = rw c.deref.ensures.value at c.in_err-present-2.ensures in
    exits c.from_residual-in_err-present-2.result (λ v. lits_of v.items) c.from_residual-in_err-present-2.ensures.1
    (stages-stops c.args.left (lit_of c.args.fill) c.args.amount.now c.stages.present.items c.stages.bit-index (2 ^ c.stages.bit-index) c.stages.places c.bit-item.result _ (omega arith) c.bit-item.is far c.stages.invariant.0 g)

pub stages-preserved : goal.stages-preserved
stages-preserved c =
    let short : length c.stages.present.items < 2 ^ 64 = omega (arith, c.stages.present.ok, c.stages.present.small) in
    let far = as-far c.stages.places (2 ^ c.stages.bit-index) (length c.stages.present.items) c.stages.invariant.1 short in
    let g = rw c.deref.ensures.value at c.in_ok-present-2.ensures in
    let next = doubled c.stages.bit-index in (
      rw next (stages-turn c.args.left (lit_of c.args.fill) c.args.amount.now c.stages.present.items c.in_ok-present-2.present.items c.stages.bit-index (2 ^ c.stages.bit-index) c.stages.places c.bit-item.result _ (omega arith) c.bit-item.is far c.stages.invariant.0 g),
      omega (arith, next, c.stages.invariant.1, c.saturating_mul-places.ensures),
    )

pub returns : goal.returns
returns c = stages-ends c.args.left (lit_of c.args.fill) c.args.amount.now c.stages.present.items c.stages.bit-index (2 ^ c.stages.bit-index) _ (omega arith) c.stages.invariant.0
