use Rattle.std.proofs.Common.{◌∙◌}
use Rattle.std.proofs.lemmas.List.{length-map}
use Rattle.qv_circuits.specs.Adding.{lit_of, lits_of}
use Rattle.qv_circuits.proofs.Running.{encodes-then, exits, no-memory, ran-base, stopped-first, stopped-then}
use Rattle.qv_circuits.proofs.encoder.Encoder.shift.Goals as goal

pub returns-in_err-bits : goal.returns-in_err-bits
returns-in_err-bits c =
    let h = rw (c.front.ensures, c.stage_count-count.ensures) at c.in_err-bits.ensures in
    exits c.from_residual.result (λ v. lits_of v.items) c.from_residual.ensures.1 (rw (length-map c.args.a.now lit_of) (stopped-first _ h))

pub returns-in_err-far : goal.returns-in_err-far
returns-in_err-far c =
    let h = rw (c.front.ensures, c.stage_count-count.ensures) at c.in_ok-bits.ensures in
    let g = rw (c.behind.ensures, c.stage_count-count.ensures) at c.in_err-far.ensures in
    exits c.from_residual-in_err-far.result (λ v. lits_of v.items) c.from_residual-in_err-far.ensures.1 (rw (length-map c.args.a.now lit_of) (stopped-then _ h (stopped-first _ g)))

pub returns-in_err-fills : goal.returns-in_err-fills
returns-in_err-fills c = exits c.from_residual-in_err-fills.result (λ v. lits_of v.items) c.from_residual-in_err-fills.ensures.1 (no-memory (ran-base c.in_ok-far.ensures ∙ ran-base c.in_ok-bits.ensures))

pub returns : goal.returns
returns c =
    let h = rw (c.front.ensures, c.stage_count-count.ensures) at c.in_ok-bits.ensures in
    let g = rw (c.behind.ensures, c.stage_count-count.ensures) at c.in_ok-far.ensures in
    let f = rw (c.deref.ensures.value, c.deref-2.ensures.value, c.in_ok-fills.ensures) at c.select.ensures in
    rw (length-map c.args.a.now lit_of) (encodes-then _ (λ v. lits_of v.items) c.select.result _ h (encodes-then _ (λ v. lits_of v.items) c.select.result _ g f))
