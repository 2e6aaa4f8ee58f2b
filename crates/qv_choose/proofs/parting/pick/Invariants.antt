-- the members so far
use Rattle.std.proofs.Common.{take}
use Rattle.qv_choose.specs.Parts.{AreAt}
use Rattle.qv_choose.proofs.parting.pick.Given as goal

abbrev pub invariant-numbers : goal.invariant-numbers
invariant-numbers l = AreAt l.ids (take l.number-index l.numbers) l.picked.items
