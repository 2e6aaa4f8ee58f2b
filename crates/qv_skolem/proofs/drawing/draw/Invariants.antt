-- the first blocks are drawn
use Rattle.std.proofs.Common.{◌-◌, length}
use Rattle.qv_store.specs.Problems.{problem_in}
use Rattle.qv_store.specs.Stores.{Grows}
use Rattle.qv_entries.specs.Rows.{entries_in}
use Rattle.qv_skolem.proofs.Rounds.{IsDrawnTo}
use Rattle.qv_skolem.proofs.drawing.draw.Given as goal

abbrev pub invariant-levels : goal.invariant-levels
invariant-levels l = record {
  grows : Grows l.fn.store l.store;
  drawn : IsDrawnTo (problem_in l.fn.store l.problem) (entries_in l.fn.store l.entries) l.store l.level l.slots.items;
}

abbrev pub decreases-levels : goal.decreases-levels
decreases-levels l = length l.problem.prefix.items - length l.slots.items
