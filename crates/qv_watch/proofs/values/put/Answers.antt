use Rattle.std.proofs.Common.{◌≡◌, ◌<◌, ◌-◌, length, arith}
use Rattle.qv_watch.specs.Table.{filled}
use Rattle.qv_watch.proofs.Tabling.{IsTable-put, entries_of-put, put_has_place}
use Rattle.qv_watch.proofs.Telling.{IsTold-put}
use Rattle.qv_watch.proofs.Placing.{ArePlaced-put}
use Rattle.qv_watch.proofs.values.put.Goals as goal

pub push_reserved-requires : goal.push_reserved-requires
push_reserved-requires c =
    let vars = c.args.vars.now in
    let order = c.args.order.now.items in
    let place : filled vars < length vars = put_has_place vars order c.args.lit c.args.level c.args.reason c.requires.table (omega (arith, c.requires.place)) c.requires.has_room c.requires.fresh in
    omega (arith, c.requires.table.counted, c.requires.capacity, c.args.order.now.ok.0)

pub returns-clause-table : goal.returns-clause-table
returns-clause-table c =
    let at : c.args.place ≡ c.args.lit.variable - 1 = omega (arith, c.requires.place) in
    rw (c.push_reserved.ensures.items, at, c.is_positive.ensures)
    (IsTable-put c.args.vars.now c.args.order.now.items c.args.lit c.args.level c.args.reason c.requires.table (omega (arith, c.requires.place)) c.requires.has_room c.requires.fresh)

pub returns-clause-entries : goal.returns-clause-entries
returns-clause-entries c =
    let at : c.args.place ≡ c.args.lit.variable - 1 = omega (arith, c.requires.place) in
    rw (c.push_reserved.ensures.items, at, c.is_positive.ensures)
    (entries_of-put c.args.vars.now c.args.order.now.items c.args.lit c.args.level c.args.reason c.requires.table (omega (arith, c.requires.place)) c.requires.has_room c.requires.fresh)

pub returns-clause-placed : goal.returns-clause-placed
returns-clause-placed c =
    let at : c.args.place ≡ c.args.lit.variable - 1 = omega (arith, c.requires.place) in
    let len : c.len.result ≡ length c.args.order.now.items = omega (arith, c.len.ensures, c.args.order.now.ok.0) in
    rw (c.push_reserved.ensures.items, at, len)
    (ArePlaced-put c.args.vars.now c.args.order.now.items c.args.positions.now c.args.lit c.requires.table c.requires.placed (omega (arith, c.requires.place)) (omega (arith, c.requires.has_room, c.requires.wide)) c.requires.fresh)

pub returns-clause-told : goal.returns-clause-told
returns-clause-told c =
    let at : c.args.place ≡ c.args.lit.variable - 1 = omega (arith, c.requires.place) in
    rw (c.push_reserved.ensures.items, at, c.is_positive.ensures, c.tell.ensures)
    (IsTold-put c.args.truths.now c.args.vars.now c.args.order.now.items c.args.lit c.args.level c.args.reason c.requires.table (omega (arith, c.requires.place)) c.requires.has_room c.requires.fresh c.requires.places c.requires.told)
