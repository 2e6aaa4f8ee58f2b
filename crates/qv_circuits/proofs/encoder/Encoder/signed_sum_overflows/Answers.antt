use Rattle.qv_circuits.specs.Adding.{lit_of}
use Rattle.qv_circuits.proofs.Running.{encodes-then, exits, stopped-first, stopped-then}
use Rattle.qv_circuits.proofs.encoder.Encoder.signed_sum_overflows.Goals as goal

pub returns-in_err-sum : goal.returns-in_err-sum
returns-in_err-sum c =
    let stop = rw (c.no.ensures) at c.in_err-sum.ensures in
    exits c.from_residual.result lit_of c.from_residual.ensures.1
    (stopped-first _ stop)

pub returns-in_err-x : goal.returns-in_err-x
returns-in_err-x c =
    let sum-ran = rw (c.no.ensures) at c.in_ok-sum.ensures in
    let stop = rw (c.top.ensures, c.top-2.ensures, c.deref.ensures.value) at c.in_err-x.ensures in
    exits c.from_residual-in_err-x.result lit_of c.from_residual-in_err-x.ensures.1
    (stopped-then _ sum-ran (stopped-first _ stop))

pub returns-in_err-y : goal.returns-in_err-y
returns-in_err-y c =
    let sum-ran = rw (c.no.ensures) at c.in_ok-sum.ensures in
    let x-ran = rw (c.top.ensures, c.top-2.ensures, c.deref.ensures.value) at c.in_ok-x.ensures in
    let stop = rw (c.top-3.ensures, c.top-4.ensures, c.deref-2.ensures.value) at c.in_err-y.ensures in
    exits c.from_residual-in_err-y.result lit_of c.from_residual-in_err-y.ensures.1
    (stopped-then _ sum-ran (stopped-then _ x-ran (stopped-first _ stop)))

pub returns : goal.returns
returns c =
    let sum-ran = rw (c.no.ensures) at c.in_ok-sum.ensures in
    let x-ran = rw (c.top.ensures, c.top-2.ensures, c.deref.ensures.value) at c.in_ok-x.ensures in
    let y-ran = rw (c.top-3.ensures, c.top-4.ensures, c.deref-2.ensures.value) at c.in_ok-y.ensures in
    encodes-then _ lit_of c.and.result _ sum-ran (encodes-then _ lit_of c.and.result _ x-ran (encodes-then _ lit_of c.and.result _ y-ran c.and.ensures))
