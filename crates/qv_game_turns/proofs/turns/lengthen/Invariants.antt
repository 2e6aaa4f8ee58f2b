use Rattle.std.proofs.Common.{◌≡◌, ◌++◌, take}
use Rattle.qv_game_turns.proofs.turns.lengthen.Given as goal

abbrev pub invariant-values : goal.invariant-values
invariant-values l = l.point.items ≡ l.initial.point.items ++ take l.value-index l.values
