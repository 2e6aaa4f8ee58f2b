-- no entry so far holds the point
use Rattle.std.proofs.Common.{map, take}
use Rattle.std.specs.Prelude.{All}
use Rattle.qv_words.specs.Word.{values_of}
use Rattle.qv_store.specs.Problems.{quantifier_of}
use Rattle.qv_entries.specs.Rows.{entry_in, row_of}
use Rattle.qv_entries.specs.Holding.{HoldsAt}
use Rattle.qv_entries.specs.Tables.{IsTable}
use Rattle.qv_entries.proofs.holding.first_holding.Given as goal

abbrev pub invariant-entries : goal.invariant-entries
invariant-entries l = record {
  table : IsTable l.store l.point l.table;
  none : All (λ e. HoldsAt l.level (quantifier_of l.winner) (values_of l.point) e → ⊥) (map (λ e. entry_in l.store (row_of e)) (take l.number l.entries));
}
