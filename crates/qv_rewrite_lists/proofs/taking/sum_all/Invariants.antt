-- the terms of the sums so far
use Rattle.std.proofs.Common.{take}
use Rattle.qv_words.specs.Sums.{summed}
use Rattle.qv_store.specs.Stores.{Grows}
use Rattle.qv_rewrite_lists.proofs.Making.{AreMade}
use Rattle.qv_rewrite_lists.proofs.taking.sum_all.Given as goal

abbrev pub invariant-formulas : goal.invariant-formulas
invariant-formulas l = record {
  grows : Grows l.fn.store l.store;
  made : AreMade summed l.fn.store l.store (take l.id-index l.list) l.sums.items;
}
