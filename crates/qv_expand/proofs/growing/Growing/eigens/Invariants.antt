-- the lines of the first places of the block are drawn
use Rattle.std.proofs.Common.{◌≡◌, ◌+◌, length, map, take}
use Rattle.qv_words.specs.Linked.{paths_of, with_eigens}
use Rattle.qv_store.specs.Stores.{Grows}
use Rattle.qv_store.specs.Problems.{place_of, problem_in}
use Rattle.qv_entries.specs.Rows.{entries_in}
use Rattle.qv_skolem.specs.Blocks.{sorts_of}
use Rattle.qv_expand.specs.Charges.{OnlyCounts}
use Rattle.qv_expand.specs.Growth.{drawn_in, IsExpanding}
use Rattle.qv_expand.proofs.growing.Growing.eigens.Given as goal

abbrev pub invariant-places : goal.invariant-places
invariant-places l = record {
  grows : Grows l.fn.store l.store;
  only : OnlyCounts l.fn.meter l.meter;
  expanding : IsExpanding l.store l.problem l.entries l.meter l.self;
  deep : length l.self.path.items ≡ length l.fn.self.path.items + l.place-index;
  drawn : drawn_in l.store (paths_of (problem_in l.fn.store l.problem) (entries_in l.fn.store l.entries)) l.self
      ≡ with_eigens l.number (drawn_in l.fn.store (paths_of (problem_in l.fn.store l.problem) (entries_in l.fn.store l.entries)) l.fn.self) (sorts_of (map place_of (take l.place-index l.block)));
}
