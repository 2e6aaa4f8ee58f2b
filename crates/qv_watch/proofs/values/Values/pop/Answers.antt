use Rattle.std.proofs.Common.{◌≡◌, length, arith}
use Rattle.qv_watch.specs.Entries.{last_level}
use Rattle.qv_watch.specs.Table.{entries_of}
use Rattle.qv_watch.proofs.Valuing.{IsValued-pop, written}
use Rattle.qv_watch.proofs.values.Values.pop.Goals as goal

pub invariant_of-self : goal.invariant_of-self
invariant_of-self c =
    let old = c.self.inside in
    let len : length c.take_back.new.vars ≡ old.vars.len = omega arith in
    let whole = written c.take_back.new.vars old.vars.items old.vars.len len in
    let now : c.level_of_last-self-inside.result ≡ last_level (entries_of c.take_back.new.vars c.take_back.new.order.items) = rw (c.deref.ensures.value, whole, c.deref-2.ensures.value) at c.level_of_last-self-inside.ensures in
    let told : length c.take_back.new.truths ≡ old.truths.len = omega arith in
    rw (written c.take_back.new.truths old.truths.items old.truths.len told, whole)
    (IsValued-pop old.truths.items c.take_back.new.truths old.vars.items c.take_back.new.vars old.order.items c.take_back.new.order.items old.positions.items _ _ old.level _ c.self.invariant (omega (arith, old.truths.ok.0)) c.take_back.ensures.told c.take_back.ensures.table (rw c.deref_mut-2.ensures.value at c.take_back.ensures.entries) c.take_back.ensures.capacity (omega (arith, old.vars.ok.0)) now)
