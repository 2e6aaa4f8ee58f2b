use Rattle.std.proofs.Common.{◌≡◌, ◌-◌, length, drop}
use Rattle.qv_elab_items.proofs.names.Names.truncate.Given as goal

abbrev pub invariant-names : goal.invariant-names
invariant-names l = drop (length l.self - l.left) l.self ≡ drop (length l.fn.self - l.left) l.fn.self

abbrev pub decreases-names : goal.decreases-names
decreases-names l = length l.self
