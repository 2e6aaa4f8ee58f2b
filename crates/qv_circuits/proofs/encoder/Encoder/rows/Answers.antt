use Rattle.std.proofs.Common.{◌≡◌, ◌<◌, length, arith}
use Rattle.std.proofs.lemmas.Bool.Decides.{nat_tests}
use Rattle.qv_circuits.specs.Adding.{lits_of}
use Rattle.qv_circuits.proofs.Rounds.{rows-empty, rows-ends, rows-stops, rows-turn}
use Rattle.qv_circuits.proofs.Running.{exits, out-of-memory, unfinished}
use Rattle.qv_circuits.proofs.encoder.Encoder.rows.Goals as goal

pub returns-then-is_empty : goal.returns-then-is_empty
returns-then-is_empty c =
    let none : length c.as_slice-present.result.now ≡ 0 = grind (arith, nat_tests) in
    let h = rw (← c.as_slice-present.ensures.value) at c.rows.invariant in
    rows-empty (lits_of c.args.a.now) c.as_slice-present.result.now c.args.bits.now c.rows.done.items c.rows.bit-index (λ r. r) none (omega arith) h

pub returns-in_err-next : goal.returns-in_err-next
returns-in_err-next c =
    let some : 0 < length c.as_slice-present.result.now = grind (arith, nat_tests) in
    let h = rw (← c.as_slice-present.ensures.value) at c.rows.invariant in
    let g = rw c.behind.ensures at c.in_err-next.ensures in
    exits c.from_residual-in_err-next.result (λ v. lits_of v.items) c.from_residual-in_err-next.ensures.1
    (rows-stops (lits_of c.args.a.now) c.as_slice-present.result.now c.args.bits.now c.rows.bit-index c.bit-item.result _ some (omega arith) c.bit-item.is h g)

pub returns-in_err-push : goal.returns-in_err-push
returns-in_err-push c =
    exits c.from_residual-in_err-push.result (λ v. lits_of v.items) c.from_residual-in_err-push.ensures.1 (unfinished c.rows.invariant c.in_ok-next.ensures)

pub rows-preserved : goal.rows-preserved
rows-preserved c =
    let some : 0 < length c.as_slice-present.result.now = grind (arith, nat_tests) in
    let h = rw (← c.as_slice-present.ensures.value) at c.rows.invariant in
    let g = rw c.behind.ensures at c.in_ok-next.ensures in
    rw c.in_ok-push.ensures.items (rows-turn (lits_of c.args.a.now) c.as_slice-present.result.now c.args.bits.now c.rows.done.items c.in_ok-next.next.items c.rows.bit-index c.index-present-0.result c.bit-item.result (λ r. r) some c.index-present-0.is (omega arith) c.bit-item.is h g)

pub returns-in_err-extend_from_slice : goal.returns-in_err-extend_from_slice
returns-in_err-extend_from_slice c =
    exits c.from_residual-in_err-extend_from_slice.result (λ v. lits_of v.items) c.from_residual-in_err-extend_from_slice.ensures.1 (out-of-memory c.rows.invariant)

pub returns : goal.returns
returns c =
    rw (c.in_ok-extend_from_slice.ensures.items, c.deref.ensures.value)
    (rows-ends (lits_of c.args.a.now) c.rows.sum.items c.args.bits.now c.rows.done.items c.rows.bit-index (λ r. r) (omega arith) c.rows.invariant)
