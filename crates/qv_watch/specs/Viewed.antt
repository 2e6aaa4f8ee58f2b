-- A trail by its parts.
use Rattle.std.specs.Prelude.{List, Option}
use Rattle.qv_cnf.specs.Listing.{Numbered}
use Rattle.qv_watch.specs.Entries.{last_level}
use Rattle.qv_watch.specs.Table.{Entered}
use Rattle.qv_watch.specs.TrailState.{TrailState}
use Rattle.qv_watch.specs.declared.propagation.Propagated.{Propagated}

-- the clauses, the values and the answer; the level is that of the last literal
abbrev pub state_of : List Numbered → Entered → Option Propagated → TrailState
state_of clauses values answer = record { room = values.room; clauses = clauses; entries = values.entries; level = last_level values.entries; answer = answer }
