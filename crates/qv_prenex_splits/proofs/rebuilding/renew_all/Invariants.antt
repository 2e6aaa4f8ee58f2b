-- what was made of the first terms
use Rattle.std.proofs.Common.{take}
use Rattle.qv_prenex_splits.specs.Rebuilding.{AreMadeOf}
use Rattle.qv_prenex_splits.proofs.rebuilding.renew_all.Given as goal

abbrev pub invariant-kids : goal.invariant-kids
invariant-kids l = AreMadeOf l.made (take l.kid-index l.kids) l.new.items
