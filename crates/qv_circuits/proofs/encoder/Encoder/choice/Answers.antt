use Rattle.std.proofs.Common.{◌≡◌, ◌≢◌, length, arith}
use Rattle.qv_circuits.specs.Adding.{lits_of}
use Rattle.qv_circuits.proofs.Ranked.{choice-by, choice-none}
use Rattle.qv_circuits.proofs.Running.{ran-done}
use Rattle.qv_circuits.proofs.encoder.Encoder.choice.Goals as goal

pub returns-then-c-ne1 : goal.returns-then-c-ne1
returns-then-c-ne1 c =
    let none : length c.args.c.now ≢ 1 = omega arith in
    rw (c.new.ensures.items, choice-none c.args.c.now (lits_of c.args.a.now) (lits_of c.args.b.now) none) (ran-done _ _)

pub returns : goal.returns
returns c =
    let one : length c.args.c.now ≡ 1 = omega arith in
    rw (choice-by c.args.c.now c.index-c-0.result (lits_of c.args.a.now) (lits_of c.args.b.now) one c.index-c-0.is) c.select.ensures
