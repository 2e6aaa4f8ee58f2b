use Rattle.std.proofs.Common.{◌≤◌, length, subst}
use Rattle.qv_watch.proofs.Valuing.{entries_within}
use Rattle.qv_watch.proofs.values.Values.literal_at.Goals as goal

pub returns-clause-within : goal.returns-clause-within
returns-clause-within c = subst (λ v. length v.entries ≤ v.room) c.self.view_is (entries_within c.self.inside.vars.items c.self.inside.order.items c.self.invariant.table)
