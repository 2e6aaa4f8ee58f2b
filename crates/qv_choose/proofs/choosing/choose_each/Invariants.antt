-- the choice so far: what is chosen for the other places goes on with it
use Rattle.std.proofs.Common.{◌≡◌, ◌≤◌}
use Rattle.qv_choose.specs.Listing.{numbers_in}
use Rattle.qv_choose.proofs.GoingLaws.{IsGoing}
use Rattle.qv_choose.proofs.choosing.choose_each.Given as goal

abbrev pub invariant-places : goal.invariant-places
invariant-places l = record {
  low : l.fn.first ≤ l.level;
  point : l.point ≡ l.fn.point;
  put : l.put ≡ l.fn.put;
  so_far : IsGoing l.fn.point l.fn.first l.fn.end l.fn.store l.fn.parts l.store l.parts l.level l.terms.items (numbers_in l.lists);
}
