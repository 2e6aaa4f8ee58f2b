-- the terms of the chains so far
use Rattle.std.proofs.Common.{take}
use Rattle.qv_rewrite_passes.specs.Xors.{xored}
use Rattle.qv_store.specs.Stores.{Grows}
use Rattle.qv_rewrite_lists.proofs.Making.{AreMade}
use Rattle.qv_rewrite_lists.proofs.taking.xor_all.Given as goal

abbrev pub invariant-formulas : goal.invariant-formulas
invariant-formulas l = record {
  grows : Grows l.fn.store l.store;
  made : AreMade xored l.fn.store l.store (take l.id-index l.list) l.chains.items;
}
