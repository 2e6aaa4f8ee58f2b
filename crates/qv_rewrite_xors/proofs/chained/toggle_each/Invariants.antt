-- the terms so far and those that are left make what all make
use Rattle.std.proofs.Common.{◌≡◌, drop, fold}
use Rattle.qv_rewrite_xors.specs.Held.{toggled_ids}
use Rattle.qv_rewrite_xors.proofs.chained.toggle_each.Given as goal

abbrev pub invariant-others : goal.invariant-others
invariant-others l = fold toggled_ids l.atoms.items (drop l.id-index l.others) ≡ fold toggled_ids l.fn.atoms.items l.others
