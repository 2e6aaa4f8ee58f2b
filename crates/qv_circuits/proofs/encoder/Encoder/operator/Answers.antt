use Rattle.std.proofs.Common.{◌≡◌, ◌<◌, ◌≤◌, length, arith}
use Rattle.std.proofs.lemmas.List.{length-map}
use Rattle.qv_circuits.specs.Adding.{lit_of, lits_of}
use Rattle.qv_circuits.proofs.Ranked.{fits-counts, of-one, of-two, of-choice, of-three, of-length, one-of, two-of, three-of}
use Rattle.qv_circuits.proofs.encoder.Encoder.operator.Goals as goal

pub unary-requires : goal.unary-requires
unary-requires c =
    let args = c.args.args.now in
    let is = one-of args c.a-item.result (let n : length args ≡ 1 = omega arith in n) c.a-item.is in
    let h = rw is at c.requires in
    rw (← length-map c.a-item.result.now lit_of) (fits-counts c.args.op (lits_of c.a-item.result.now) h)

pub returns-in-len1 : goal.returns-in-len1
returns-in-len1 c =
    let args = c.args.args.now in
    let is = one-of args c.a-item.result (let n : length args ≡ 1 = omega arith in n) c.a-item.is in
    rw (is, of-one c.args.op (lits_of c.a-item.result.now)) c.unary.ensures

pub returns-in-len2 : goal.returns-in-len2
returns-in-len2 c =
    let args = c.args.args.now in
    let a = c.a-item-then-args-lt3.result in
    let b = c.b-item.result in
    let is = two-of args a b (let n : length args ≡ 2 = omega arith in n) c.a-item-then-args-lt3.is c.b-item.is in
    rw (is, of-two c.args.op (lits_of a.now) (lits_of b.now)) c.binary.ensures

pub returns-in-Ite : goal.returns-in-Ite
returns-in-Ite c =
    let args = c.args.args.now in
    let d = c.c-item.result in
    let a = c.a-item-then-args-lt4.result in
    let b = c.b-item-then-args-lt4.result in
    let is = three-of args d a b (let n : length args ≡ 3 = omega arith in n) c.c-item.is c.a-item-then-args-lt4.is c.b-item-then-args-lt4.is in
    rw (c.in-Ite.is, is, of-choice (lits_of d.now) (lits_of a.now) (lits_of b.now)) c.choice.ensures

pub returns-in_default : goal.returns-in_default
returns-in_default c =
    let args = c.args.args.now in
    let d = c.c-item.result in
    let a = c.a-item-then-args-lt4.result in
    let b = c.b-item-then-args-lt4.result in
    let is = three-of args d a b (let n : length args ≡ 3 = omega arith in n) c.c-item.is c.a-item-then-args-lt4.is c.b-item-then-args-lt4.is in
    let h = rw c.new-in_default.ensures.items at c.without_gates-in_default.ensures in
    rw (is, of-three c.args.op (lits_of d.now) (lits_of a.now) (lits_of b.now) c.in_default.not-Ite) h

pub returns-in-empty : goal.returns-in-empty
returns-in-empty c =
    let h = rw c.new.ensures.items at c.without_gates.ensures in
    let few : length c.args.args.now < 1 = c.in-empty.len_below in
    rw (of-length c.args.op c.args.args.now (λ v. lits_of v.now) (λ n. omega (arith, n)) (λ n. omega (arith, n)) (λ n. omega (arith, n))) h

pub returns-in-len4-up : goal.returns-in-len4-up
returns-in-len4-up c =
    let h = rw c.new-in-len4-up.ensures.items at c.without_gates-in-len4-up.ensures in
    let many : 4 ≤ length c.args.args.now = c.in-len4-up.len_at_least in
    rw (of-length c.args.op c.args.args.now (λ v. lits_of v.now) (λ n. omega (arith, n)) (λ n. omega (arith, n)) (λ n. omega (arith, n))) h
