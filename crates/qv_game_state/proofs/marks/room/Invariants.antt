use Rattle.std.proofs.Common.{◌<◌, ◌^◌, All, take}
use Rattle.qv_cnf.specs.Literal.{index_of}
use Rattle.qv_game_state.proofs.marks.room.Given as goal

abbrev pub invariant-lits : goal.invariant-lits
invariant-lits l = record {
  above : All (λ x. index_of x < l.room) (take l.lit-index l.lits);
  small : l.room < 2 ^ 32;
}
