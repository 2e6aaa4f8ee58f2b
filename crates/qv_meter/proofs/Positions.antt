-- The tallies of a problem's lanes.
use Rattle.std.proofs.Common.{◌≡◌, ◌<◌, refl, ap, arith}
use Rattle.qv_words.specs.Problem.{Problem, Existential, Universal}
use Rattle.qv_meter.specs.Units.{Lane, Query, Final}
use Rattle.qv_meter.specs.Records.{IsLaneOf, lane_count, position_of}

pub within : (p : Problem) (a : Lane) → IsLaneOf p a → position_of a < lane_count p
within p Final h = omega arith
within p (Query Existential k) h = omega (arith, h.low, h.high)
within p (Query Universal k) h = omega (arith, h.low, h.high)

pub apart : (p : Problem) (a b : Lane) → IsLaneOf p a → IsLaneOf p b → position_of a ≡ position_of b → a ≡ b
apart p Final Final h k e = refl
apart p Final (Query Existential l) h k e = absurd (omega (arith, k.low, e))
apart p Final (Query Universal l) h k e = absurd (omega (arith, k.low, e))
apart p (Query Existential l) Final h k e = absurd (omega (arith, h.low, e))
apart p (Query Universal l) Final h k e = absurd (omega (arith, h.low, e))
apart p (Query Existential l) (Query Existential m) h k e = ap (Query Existential) (omega (arith, h.low, k.low, e))
apart p (Query Universal l) (Query Universal m) h k e = ap (Query Universal) (omega (arith, h.low, k.low, e))
apart p (Query Existential l) (Query Universal m) h k e = absurd (omega (arith, h.low, k.low, e))
apart p (Query Universal l) (Query Existential m) h k e = absurd (omega (arith, h.low, k.low, e))
