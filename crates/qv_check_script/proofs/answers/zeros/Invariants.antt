use Rattle.std.proofs.Common.{take}
use Rattle.qv_check_script.specs.Turns.{AreZeros}
use Rattle.qv_check_script.proofs.answers.zeros.Given as goal

abbrev pub invariant-constants : goal.invariant-constants
invariant-constants l = AreZeros (take l.own-index l.constants) l.words.items
