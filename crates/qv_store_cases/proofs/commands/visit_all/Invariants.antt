use Rattle.std.proofs.Common.{◌≤◌, length}
use Rattle.qv_store.specs.Walks.{IsWalk}
use Rattle.qv_store_cases.proofs.commands.visit_all.Given as goal

abbrev pub decreases-ids : goal.decreases-ids
decreases-ids l = l.left

abbrev pub invariant-ids : goal.invariant-ids
invariant-ids l = (l.left ≤ length l.ids) × IsWalk l.store l.walk
