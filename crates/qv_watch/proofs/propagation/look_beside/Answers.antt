use Rattle.std.proofs.Common.{sym}
use Rattle.qv_watch.proofs.Walking.{beside_at, known_at}
use Rattle.qv_watch.proofs.propagation.look_beside.Goals as goal

pub returns-in-Some : goal.returns-in-Some
returns-in-Some c = known_at c.args.clauses.now c.args.watches.now.pairs.items c.args.values.now.entries c.args.place c.args.other c.in-Some.next c.in-Some.ensures

pub returns-in-Some-get_at : goal.returns-in-Some-get_at
returns-in-Some-get_at c = beside_at c.args.clauses.now c.args.watches.now.pairs.items c.args.values.now.entries c.args.place c.args.other c.in-Some-get_at.lits.now c.open_beside.result (sym c.in-Some-get_at.ensures) c.open_beside.ensures
