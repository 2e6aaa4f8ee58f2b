-- A scan of the clauses, which derives literals.
use Rattle.std.specs.Prelude.{◌≡◌, ℕ, ◌<◌, List}
use Rattle.qv_cnf.specs.Listing.{Numbered}
use Rattle.qv_watch.specs.Attaching.{Stored, attached_in}
use Rattle.qv_watch.specs.Entries.{Entry, last_level, up_to, IsSettled}
use Rattle.qv_watch.specs.Table.{Entered}
use Rattle.qv_watch.specs.TrailState.{AllHaveRoom, Continues, IsGrown}

-- what stands before it: the clauses' variables have room, and each entry may stand behind those
-- before it
pub record MayScan (clauses : List Stored) (values : Entered) : Type 0 where
  pub has_room : AllHaveRoom values.room (attached_in clauses)
  pub grown : IsGrown values.room (attached_in clauses) values.entries

-- at the levels below that of the last literal no clause is unit or false
abbrev pub IsSettledBelow : List Numbered → List Entry → Type 0
IsSettledBelow clauses entries = (k : ℕ) → k < last_level entries → IsSettled clauses (up_to k entries)

-- what it does: the room stays, and the entries go on, at their level, by literals that came from
-- clauses
pub record Scans (clauses : List Stored) (old new : Entered) : Type 0 where
  pub room : new.room ≡ old.room
  pub grown : IsGrown new.room (attached_in clauses) new.entries
  pub goes_on : Continues (last_level old.entries) old.entries new.entries
