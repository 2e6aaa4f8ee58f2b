-- the terms of the sums so far
use Rattle.std.proofs.Common.{take}
use Rattle.std.specs.List.{AllZip}
use Rattle.qv_words.specs.Sums.{summed}
use Rattle.qv_store.specs.Nodes.{tree_at}
use Rattle.qv_store.specs.Stores.{Grows, StandsAt}
use Rattle.qv_rewrite_sums.proofs.summing.terms_of.Given as goal

abbrev pub invariant-kids : goal.invariant-kids
invariant-kids l = record {
  grows : Grows l.fn.store l.store;
  terms : AllZip (λ kid term. StandsAt l.store term (summed (tree_at l.fn.store kid))) (take l.kid-index l.kids) l.terms.items;
}
