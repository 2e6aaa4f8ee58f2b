use Rattle.std.proofs.Common.{◌≡◌, false, take, length, slice_index_or}
use Rattle.qv_cnf.specs.Literal.{index_of, Literal}
use Rattle.qv_cnf.specs.Refutation.{among}
use Rattle.qv_game_state.proofs.marks.marks_of.Given as goal

abbrev pub invariant-lits : goal.invariant-lits
invariant-lits l = record {
  long : length l.marks.items ≡ length l.initial.marks.items;
  marked : (x : Literal) → slice_index_or l.marks.items (index_of x) false ≡ among (take l.lit-index l.core) x;
}
