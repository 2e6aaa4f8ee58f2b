-- what is left is true at the point where the region is
use Rattle.qv_words.specs.Word.{values_of}
use Rattle.qv_entries.specs.Conjunctions.{AreAlike}
use Rattle.qv_entries.specs.Holding.{IsAskable}
use Rattle.qv_entries.specs.Tables.{IsTable}
use Rattle.qv_entries.proofs.holding.are_true.Given as goal

abbrev pub invariant-parts : goal.invariant-parts
invariant-parts l = record {
  table : IsTable l.store l.point l.table;
  askable : IsAskable l.store l.point l.left;
  alike : AreAlike l.store (values_of l.point) l.left l.fn.region;
}

abbrev pub decreases-parts : goal.decreases-parts
decreases-parts l = l.left
