-- the term is put into the parts so far
use Rattle.std.proofs.Common.{◌≡◌, ◌<◌, length, drop}
use Rattle.std.specs.List.{AllByRecursion}
use Rattle.qv_store.specs.Nodes.{tree_at}
use Rattle.qv_store.specs.Stores.{Grows}
use Rattle.qv_store.specs.Walks.{named}
use Rattle.qv_choose.proofs.PartLaws.{IsPutting}
use Rattle.qv_choose.proofs.parting.put_each.Given as goal

abbrev pub invariant-numbers : goal.invariant-numbers
invariant-numbers l = record {
  grows : Grows l.fn.store l.store;
  put : l.put ≡ l.fn.put;
  many : length l.parts ≡ length l.fn.parts;
  below : AllByRecursion (λ id. id < length l.store) l.parts;
  putting : IsPutting l.fn.level (tree_at l.fn.store l.fn.term) (named l.fn.store l.fn.parts) (named l.store l.parts) (drop l.number-index l.numbers);
}
