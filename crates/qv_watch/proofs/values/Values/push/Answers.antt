use Rattle.std.proofs.Common.{◌≡◌, ◌<◌, ◌≤◌, length, ◌∙◌, ap, arith, None}
use Rattle.qv_watch.specs.Entries.{entry_at, value_of}
use Rattle.qv_watch.specs.Table.{entries_of, filled}
use Rattle.qv_watch.proofs.Entering.{entry_at-fresh}
use Rattle.qv_watch.proofs.Tabling.{put_has_place}
use Rattle.qv_watch.proofs.Valuing.{written, entries_within, level_after-steps, level_below, IsValued-push}
use Rattle.qv_watch.proofs.values.Values.push.Goals as goal
use Rattle.qv_watch.proofs.values.Values.push.Goals.{After-self}

fresh : (c : After-self) → entry_at c.args.lit.variable (entries_of c.self.inside.vars.items c.self.inside.order.items) ≡ None
fresh c =
    let entries = entries_of c.self.inside.vars.items c.self.inside.order.items in
    entry_at-fresh entries c.args.lit (ap (λ v. value_of v.entries c.args.lit) c.self.view_is ∙ c.requires.fresh)

pub put-requires-clause-fresh : goal.put-requires-clause-fresh
put-requires-clause-fresh c = rw c.deref_mut-2.ensures.value (fresh (goal.at.put-requires-clause-fresh c).After-self)

pub next_level-level-requires : goal.next_level-level-requires
next_level-level-requires c =
    let old = c.self.inside in
    let room : c.args.lit.variable ≤ length old.vars.items = rw (← c.self.view_is) at c.requires.has_room in
    let less : filled old.vars.items < length old.vars.items = put_has_place old.vars.items old.order.items c.args.lit 0 None c.self.invariant.table (omega (arith, c.place_of-place.ensures.place)) room (fresh (goal.at.next_level-level-requires c).After-self) in
    let below = level_below old.truths.items old.vars.items old.order.items old.positions.items _ old.level c.self.invariant less in
    omega (arith, c.self.invariant.few)

pub invariant_of-self : goal.invariant_of-self
invariant_of-self c =
    let old = c.self.inside in
    let len : length c.put.new.vars ≡ old.vars.len = omega arith in
    let wide : length c.put.new.positions ≡ old.positions.len = omega arith in
    let told : length c.put.new.truths ≡ old.truths.len = omega arith in
    let steps = level_after-steps old.level c.args.reason in
    rw (written c.put.new.truths old.truths.items old.truths.len told, written c.put.new.vars old.vars.items old.vars.len len, written c.put.new.positions old.positions.items old.positions.len wide)
    (IsValued-push old.truths.items c.put.new.truths old.vars.items c.put.new.vars old.order.items c.put.new.order.items old.positions.items c.put.new.positions _ _ old.level _ c.self.invariant (omega (arith, old.truths.ok.0)) c.put.ensures.told c.put.ensures.table c.put.ensures.placed (omega (arith, old.positions.ok.0)) (rw c.deref_mut-2.ensures.value at c.put.ensures.entries) c.put.ensures.capacity (omega (arith, old.vars.ok.0)) (omega (arith, c.next_level-level.ensures, steps.0)) (omega (arith, c.next_level-level.ensures, steps.1)))

pub returns-clause-within : goal.returns-clause-within
returns-clause-within c =
    let old = c.self.inside in
    let len : length c.put.new.vars ≡ old.vars.len = omega arith in
    rw (written c.put.new.vars old.vars.items old.vars.len len) (entries_within c.put.new.vars c.put.new.order.items c.put.ensures.table)
