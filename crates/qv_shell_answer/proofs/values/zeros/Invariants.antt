use Rattle.std.proofs.Common.{take}
use Rattle.qv_shell_answer.specs.Values.{AreZeros}
use Rattle.qv_shell_answer.proofs.values.zeros.Given as goal

abbrev pub invariant-owns : goal.invariant-owns
invariant-owns l = AreZeros (take l.own-index l.constants) l.words.items
