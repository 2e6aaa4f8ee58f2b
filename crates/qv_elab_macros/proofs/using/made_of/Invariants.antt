-- what was made of the first terms
use Rattle.std.proofs.Common.{take}
use Rattle.std.specs.List.{AllZip}
use Rattle.qv_store.specs.Walks.{IsFound}
use Rattle.qv_elab_macros.proofs.using.made_of.Given as goal

abbrev pub invariant-kids : goal.invariant-kids
invariant-kids l = AllZip (IsFound l.walk l.made) (take l.kid-index l.kids) l.new.items
