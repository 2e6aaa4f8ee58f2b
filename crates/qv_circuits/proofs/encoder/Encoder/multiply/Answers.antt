use Rattle.std.proofs.Common.{◌≡◌, ◌<◌, drop, length, arith}
use Rattle.std.proofs.lemmas.Bool.Decides.{nat_tests}
use Rattle.qv_words.specs.Routine.{rows}
use Rattle.qv_circuits.specs.Adding.{lits_of}
use Rattle.qv_circuits.proofs.Rounds.{mul-first, mul-none}
use Rattle.qv_circuits.proofs.Running.{encodes-same, encodes-then, exits, same-back, same-stopped, stopped-first}
use Rattle.qv_circuits.proofs.encoder.Encoder.multiply.Goals as goal

pub returns-then-is_empty : goal.returns-then-is_empty
returns-then-is_empty c =
    let none : length c.args.b.now ≡ 0 = grind (arith, nat_tests) in
    rw c.new.ensures.items (mul-none (lits_of c.args.a.now) c.args.b.now none)

pub returns-in_err-first : goal.returns-in_err-first
returns-in_err-first c =
    let some : 0 < length c.args.b.now = grind (arith, nat_tests) in
    let h = rw (c.deref.ensures.value, c.in_ok-copies.ensures) at c.in_err-first.ensures in
    let first = mul-first c.args.a.now c.args.b.now c.index-b-0.result some c.index-b-0.is in
    exits c.from_residual-in_err-first.result (λ v. lits_of v.items) c.from_residual-in_err-first.ensures.1
    (same-stopped (same-back first) (stopped-first (λ acc. rows (lits_of c.args.a.now) acc (drop 1 (lits_of c.args.b.now))) h))

pub returns : goal.returns
returns c =
    let some : 0 < length c.args.b.now = grind (arith, nat_tests) in
    let h = rw (c.deref.ensures.value, c.in_ok-copies.ensures) at c.in_ok-first.ensures in
    let g = rw c.behind.ensures at c.rows.ensures in
    let first = mul-first c.args.a.now c.args.b.now c.index-b-0.result some c.index-b-0.is in
    encodes-same (λ v. lits_of v.items) c.rows.result _ _ (same-back first)
    (encodes-then (λ acc. rows (lits_of c.args.a.now) acc (drop 1 (lits_of c.args.b.now))) (λ v. lits_of v.items) c.rows.result _ h g)
