-- the terms of the chains so far
use Rattle.std.proofs.Common.{take}
use Rattle.std.specs.List.{AllZip}
use Rattle.qv_rewrite_passes.specs.Xors.{xored}
use Rattle.qv_store.specs.Nodes.{tree_at}
use Rattle.qv_store.specs.Stores.{Grows, StandsAt}
use Rattle.qv_rewrite_xors.proofs.xoring.terms_of.Given as goal

abbrev pub invariant-kids : goal.invariant-kids
invariant-kids l = record {
  grows : Grows l.fn.store l.store;
  terms : AllZip (λ kid term. StandsAt l.store term (xored (tree_at l.fn.store kid))) (take l.kid-index l.kids) l.terms.items;
}
