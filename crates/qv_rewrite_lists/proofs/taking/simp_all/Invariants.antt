-- the formulas behind small rules so far
use Rattle.std.proofs.Common.{take}
use Rattle.qv_rewrite_passes.specs.Simps.{simped}
use Rattle.qv_store.specs.Stores.{Grows}
use Rattle.qv_rewrite_lists.proofs.Making.{AreMade}
use Rattle.qv_rewrite_lists.proofs.taking.simp_all.Given as goal

abbrev pub invariant-formulas : goal.invariant-formulas
invariant-formulas l = record {
  grows : Grows l.fn.store l.store;
  made : AreMade simped l.fn.store l.store (take l.id-index l.list) l.simped.items;
}
