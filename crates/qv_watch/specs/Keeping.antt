-- What a trail with its watches keeps.
use Rattle.std.specs.Prelude.{◌≡◌, false, length, Option, Some}
use Rattle.qv_watch.specs.Attaching.{Stored, attached_in}
use Rattle.std.specs.Prelude.{List}
use Rattle.qv_watch.specs.Table.{Entered}
use Rattle.qv_watch.specs.TrailState.{IsTrail}
use Rattle.qv_watch.specs.Viewed.{state_of}
use Rattle.qv_watch.specs.Watching.{IsWatching}
use Rattle.qv_watch.specs.declared.propagation.Propagated.{Propagated}
use Rattle.qv_watch.specs.declared.propagation.Propagated.TheVariants.{Quiet}
use Rattle.qv_watch.specs.declared.watches.Watches.{Watches}

-- the trail keeps what every trail keeps; unless the watches are lost, each clause is minded, and
-- each literal was followed where no clause is unit or false
pub record IsKept (clauses : List Stored) (values : Entered) (watches : Watches) (answer : Option Propagated) : Type 0 where
  pub trail : IsTrail (state_of (attached_in clauses) values answer)
  pub watching : watches.lost ≡ false → IsWatching clauses values.entries watches
  pub quiet : answer ≡ Some Quiet → watches.lost ≡ false → watches.head ≡ length values.entries
