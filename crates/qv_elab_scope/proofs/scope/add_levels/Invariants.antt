use Rattle.std.proofs.Common.{◌≡◌, ◌+◌, ◌++◌, replicate, vec_len, vec_capacity}
use Rattle.qv_elab_scope.proofs.scope.add_levels.Given as goal

-- so many levels stand behind those that were there, in the same memory
abbrev pub invariant-levels : goal.invariant-levels
invariant-levels l = record {
  items : l.levels.items ≡ l.initial.levels.items ++ replicate l.counter l.level;
  len : vec_len l.levels ≡ vec_len l.initial.levels + l.counter;
  capacity : vec_capacity l.levels ≡ vec_capacity l.initial.levels;
}
