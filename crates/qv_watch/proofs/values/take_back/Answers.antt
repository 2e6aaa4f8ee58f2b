use Rattle.std.proofs.Common.{◌≡◌, ◌-◌, [], ◌∷◌, ◌++◌, arith}
use Rattle.qv_watch.specs.Table.{IsTable}
use Rattle.qv_watch.proofs.Tabling.{IsTable-take_back, front_is_taken}
use Rattle.qv_watch.proofs.Telling.{IsTold-take_back, within_places}
use Rattle.qv_watch.proofs.values.take_back.Goals as goal
use Rattle.qv_watch.proofs.values.take_back.Goals.{After-place_of}

table_before : (c : After-place_of) → IsTable c.args.vars.now (c.pop.new.self.items ++ c.in-Some.lit ∷ [])
table_before c = rw c.in-Some.ensures.items at c.requires.table

pub returns-in-Some-clause-table : goal.returns-in-Some-clause-table
returns-in-Some-clause-table c =
    let at : c.place_of.result ≡ c.in-Some.lit.variable - 1 = omega (arith, c.place_of.ensures.place) in
    rw at (IsTable-take_back c.args.vars.now c.pop.new.self.items c.in-Some.lit (table_before c))

pub returns-in-Some-clause-entries : goal.returns-in-Some-clause-entries
returns-in-Some-clause-entries c =
    let at : c.place_of.result ≡ c.in-Some.lit.variable - 1 = omega (arith, c.place_of.ensures.place) in
    rw (at, c.in-Some.ensures.items) (front_is_taken c.args.vars.now c.pop.new.self.items c.in-Some.lit (table_before c))

pub untell-requires : goal.untell-requires
untell-requires c =
    within_places c.args.truths.now c.args.vars.now c.pop.new.self.items c.in-Some.lit (rw c.in-Some.ensures.items at c.requires.table) c.requires.places

pub returns-in-Some-clause-told : goal.returns-in-Some-clause-told
returns-in-Some-clause-told c =
    let at : c.place_of.result ≡ c.in-Some.lit.variable - 1 = omega (arith, c.place_of.ensures.place) in
    rw (at, c.untell.ensures)
    (IsTold-take_back c.args.truths.now c.args.vars.now c.pop.new.self.items c.in-Some.lit (rw c.in-Some.ensures.items at c.requires.table) c.requires.places (rw c.in-Some.ensures.items at c.requires.told))
