-- the terms of the products so far
use Rattle.std.proofs.Common.{take}
use Rattle.qv_store.specs.Stores.{Grows}
use Rattle.qv_rewrite_sums.proofs.Built.{AreTerms}
use Rattle.qv_rewrite_sums.proofs.building.product_terms.Given as goal

abbrev pub invariant-products : goal.invariant-products
invariant-products l = record {
  grows : Grows l.fn.store l.store;
  terms : AreTerms l.fn.store l.store l.width l.terms.items (take l.product-index l.sum);
}
