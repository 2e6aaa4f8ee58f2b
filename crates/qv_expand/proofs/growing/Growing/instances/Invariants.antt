-- the lines of the entry's first terms are drawn
use Rattle.std.proofs.Common.{◌≡◌, ◌+◌, length, take}
use Rattle.qv_words.specs.Linked.{paths_of, with_instances}
use Rattle.qv_store.specs.Stores.{Grows}
use Rattle.qv_store.specs.Problems.{problem_in}
use Rattle.qv_store.specs.Walks.{named}
use Rattle.qv_entries.specs.Rows.{entries_in}
use Rattle.qv_expand.specs.Charges.{OnlyCounts}
use Rattle.qv_expand.specs.Growth.{drawn_in, IsExpanding}
use Rattle.qv_expand.proofs.growing.Growing.instances.Given as goal

abbrev pub invariant-terms : goal.invariant-terms
invariant-terms l = record {
  grows : Grows l.fn.store l.store;
  only : OnlyCounts l.fn.meter l.meter;
  expanding : IsExpanding l.store l.fn._problem l.entries l.meter l.self;
  deep : length l.self.path.items ≡ length l.fn.self.path.items + l.term-index;
  drawn : drawn_in l.store (paths_of (problem_in l.fn.store l.fn._problem) (entries_in l.fn.store l.entries)) l.self
      ≡ with_instances l.number (drawn_in l.fn.store (paths_of (problem_in l.fn.store l.fn._problem) (entries_in l.fn.store l.entries)) l.fn.self) (named l.fn.store (take l.term-index l.term-items));
}
