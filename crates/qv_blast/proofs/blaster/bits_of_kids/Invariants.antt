use Rattle.std.proofs.Common.{map, take}
use Rattle.qv_blast.specs.Blasters.{AreFound}
use Rattle.qv_blast.proofs.blaster.bits_of_kids.Given as goal

-- those so far are found
abbrev pub invariant-kids : goal.invariant-kids
invariant-kids l = AreFound l.terms l.bits (take l.kid-index l.kids) (map (λ v. v.now) l.args.items)
