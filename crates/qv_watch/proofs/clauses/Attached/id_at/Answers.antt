use Rattle.std.proofs.Common.{subst}
use Rattle.qv_watch.specs.Attaching.{IsNamed}
use Rattle.qv_watch.proofs.Storing.{named_stored}
use Rattle.qv_watch.proofs.clauses.Attached.id_at.Goals as goal

pub returns-clause-named : goal.returns-clause-named
returns-clause-named c = subst IsNamed c.self.view_is (named_stored c.self.inside.lits.items c.self.inside.slots.items c.self.inside.places c.self.invariant)
