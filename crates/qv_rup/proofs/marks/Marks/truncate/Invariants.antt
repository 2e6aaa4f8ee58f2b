use Rattle.std.proofs.Common.{◌≡◌, ◌-◌, length, drop}
use Rattle.qv_rup.proofs.marks.Marks.truncate.Given as goal

-- what is left at the end is the same
abbrev pub invariant-cutting : goal.invariant-cutting
invariant-cutting l = drop (length l.self - l.left) l.self ≡ drop (length l.fn.self - l.left) l.fn.self

abbrev pub decreases-cutting : goal.decreases-cutting
decreases-cutting l = length l.self
