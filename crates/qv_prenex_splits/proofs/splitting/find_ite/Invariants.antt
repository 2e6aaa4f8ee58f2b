-- what is found in the term at hand is found in those that wait
use Rattle.std.proofs.Common.{length, nat_eq}
use Rattle.std.specs.HashSet.{contains}
use Rattle.qv_prenex_splits.specs.Splitting.{AreBare, Leads}
use Rattle.qv_prenex_splits.proofs.Waiting.{IsDown, work}
use Rattle.qv_prenex_splits.proofs.Choices.{AreLeading}
use Rattle.qv_prenex_splits.proofs.splitting.find_ite.Given as goal

abbrev pub invariant-down : goal.invariant-down
invariant-down l = record {
  bare : AreBare l.store l.bare;
  down : IsDown (Leads l.store l.fn.root) (contains nat_eq l.bare) (length l.store) l.waiting.items l.id l.fn.root;
  leading : AreLeading l.store l.waiting.items l.id;
}

abbrev pub decreases-down : goal.decreases-down
decreases-down l = work (contains nat_eq l.bare) (length l.store) l.id
