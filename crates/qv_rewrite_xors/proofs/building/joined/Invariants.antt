-- the term joins those so far
use Rattle.std.proofs.Common.{map, take, fold}
use Rattle.qv_words.specs.Prenex.{binary}
use Rattle.qv_store.specs.Nodes.{tree_at}
use Rattle.qv_store.specs.Stores.{Grows}
use Rattle.qv_rewrite_sums.specs.Held.{StandsAs}
use Rattle.qv_rewrite_xors.proofs.building.joined.Given as goal

abbrev pub invariant-rest : goal.invariant-rest
invariant-rest l = record {
  grows : Grows l.fn.store l.store;
  stands : StandsAs l.store l.sort l.term (fold (binary l.op) (tree_at l.fn.store l.fn.first) (map (tree_at l.fn.store) (take l.next-index l.rest)));
}
