use Rattle.std.proofs.Common.{◌≡◌, ◌+◌, ◌-◌, sym, ◌∙◌, rules, Err, ◌<◌, arith, length}
use Rattle.qv_elab_apply.specs.Outlines.{all_joined_right}
use Rattle.qv_elab_apply.proofs.Chaining.{outline-right, outline-fault, outline-begin}
use Rattle.qv_elab_apply.proofs.outlines.joined_right.Goals as goal

pub outlines-init : goal.outlines-init
outlines-init c = record { within = omega (arith, c.requires); chain = outline-begin c.args.op _ c.args.outlines.now c.requires }

pub outlines-preserved : goal.outlines-preserved
outlines-preserved c =
    let before : c.outlines.left - 1 + 1 ≡ c.outlines.left = omega (arith, c.outlines-test.true) in
    record {
      within = omega (arith, c.outlines.invariant.within);
      chain = outline-right c.args.op c.outlines.chain _ c.args.outlines.now c.outlines.left (c.outlines.left - 1) c.outlines.invariant.chain c.outlines.invariant.within before
          ∙ sym c.joined.ensures ∙ c.in_ok-chain.was;
    }

pub returns-in_err-chain : goal.returns-in_err-chain
returns-in_err-chain c =
    let before : c.outlines.left - 1 + 1 ≡ c.outlines.left = omega (arith, c.outlines-test.true) in
    let step = outline-right c.args.op c.outlines.chain _ c.args.outlines.now c.outlines.left (c.outlines.left - 1) c.outlines.invariant.chain c.outlines.invariant.within before in
    let within : c.outlines.left - 1 < length c.args.outlines.now = omega (arith, c.outlines.invariant.within) in
    let fault : all_joined_right c.args.op c.args.outlines.now ≡ Err c.in_err-chain.field-0.0 =
    outline-fault c.args.op c.args.outlines.now (c.outlines.left - 1) c.in_err-chain.field-0.0 within (step ∙ sym c.joined.ensures ∙ c.in_err-chain.was) in
    rw fault (search rules)
