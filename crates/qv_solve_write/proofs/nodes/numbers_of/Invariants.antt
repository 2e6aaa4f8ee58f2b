-- the numbers so far
use Rattle.std.proofs.Common.{take}
use Rattle.std.specs.List.{AllZip}
use Rattle.qv_solve_write.specs.Places.{IsNumbered}
use Rattle.qv_solve_write.proofs.nodes.numbers_of.Given as goal

abbrev pub invariant-numbered : goal.invariant-numbered
invariant-numbered l = AllZip (IsNumbered l.walk) (take l.id-index l.ids) l.numbers.items
