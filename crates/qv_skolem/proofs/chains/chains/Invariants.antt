-- the chains of the entries from a number on
use Rattle.std.proofs.Common.{◌≡◌, length, drop}
use Rattle.qv_words.specs.Problem.{Existential}
use Rattle.qv_words.specs.Linked.{entries_of}
use Rattle.qv_store.specs.Stores.{Grows}
use Rattle.qv_store.specs.Replacing.{put_by_level}
use Rattle.qv_entries.specs.Rows.{entries_in}
use Rattle.qv_skolem.specs.Chains.{AreChains}
use Rattle.qv_skolem.proofs.Leading.{some_entries}
use Rattle.qv_skolem.proofs.chains.chains.Given as goal

abbrev pub invariant-entries : goal.invariant-entries
invariant-entries l = record {
  grows : Grows l.fn.store l.store;
  chains : AreChains l.store (put_by_level l.fn.store l.slots) (entries_of l.level Existential (drop l.number (entries_in l.fn.store l.entries))) (length l.block) l.chains.items;
  behind : l.behind ≡ some_entries (entries_of l.level Existential (drop l.number (entries_in l.fn.store l.entries)));
}
