use Rattle.std.proofs.Common.{◌≡◌, ◌<◌, ◌*◌, ◌^◌}
use Rattle.qv_words.specs.Op.{copies}
use Rattle.qv_words.proofs.parts.repeat.Given as goal

-- so many copies so far
abbrev pub invariant-loop-i : goal.invariant-loop-i
invariant-loop-i l = (l.all ≡ copies l.i l.width l.a) × (l.all < 2 ^ (l.i * l.width))
