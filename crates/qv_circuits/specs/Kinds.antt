-- The circuits of operators, by their kinds.
use Rattle.std.specs.Prelude.{◌≤◌, ◌<◌, ◌+◌, ◌-◌, ℕ, Bool, if◌then◌else◌, List, [], ◌++◌, drop, take, replicate}
use Rattle.qv_words.specs.Gate.{Lit, Circuit, done, ◌>>=◌, no}
use Rattle.qv_words.specs.declared.op.Op.{Op}
use Rattle.qv_words.specs.declared.op.Op.TheVariants.{Not, BvNot, Equal as EqualOp, BvUlt, BvUle, BvUgt, BvUge, BvSlt, BvSle, BvSgt, BvSge, BvComp, BvUaddo, BvSaddo, BvUmulo, BvSmulo, BvUsubo, BvSsubo, BvSdivo, Extract, Repeat, ZeroExtend, SignExtend, RotateLeft, RotateRight}
use Rattle.qv_words.specs.Routine.{copies, div, each, equal, negs, slt, sub, top, turned_left, turned_right, ult}
use Rattle.qv_words.specs.OpCircuit.{negated_each, not_one, one, product_overflow, signed_difference_overflow, signed_product_overflow, signed_quotient_overflow, signed_sum_overflow, sum_overflow}
use Rattle.qv_circuits.specs.declared.predicates.Predicate.{Predicate}
use Rattle.qv_circuits.specs.declared.predicates.Predicate.TheVariants.{Equal, Less, SignedLess, SumOverflows, SignedSumOverflows, ProductOverflows, SignedProductOverflows, SignedDifferenceOverflows, SignedQuotientOverflows}

-- what is asked of two words
abbrev pub test_circuit : Predicate → List Lit → List Lit → Circuit Lit
test_circuit Equal = equal
test_circuit Less = ult
test_circuit SignedLess = slt
test_circuit SumOverflows = sum_overflow
test_circuit SignedSumOverflows = signed_sum_overflow
test_circuit ProductOverflows = product_overflow
test_circuit SignedProductOverflows = signed_product_overflow
test_circuit SignedDifferenceOverflows = signed_difference_overflow
test_circuit SignedQuotientOverflows = signed_quotient_overflow

-- one bit, negated or not
abbrev pub tested : Bool → Circuit Lit → Circuit (List Lit)
tested negate m = if negate then not_one m else one m

-- a gate bit by bit, negated or not
abbrev pub bitwise : Bool → (Lit → Lit → Circuit Lit) → List Lit → List Lit → Circuit (List Lit)
bitwise negate op a b = if negate then negated_each (each op a b) else each op a b

-- a difference, a quotient and a remainder alone
abbrev pub difference : List Lit → List Lit → Circuit (List Lit)
difference a b = do
  d ← sub a b
  done d.0

abbrev pub quotient : List Lit → List Lit → Circuit (List Lit)
quotient a b = do
  d ← div a b
  done d.0

abbrev pub remainder : List Lit → List Lit → Circuit (List Lit)
remainder a b = do
  d ← div a b
  done d.1

-- indices that are small enough to count bits, at an argument of so many
abbrev pub CountsBits : Op → ℕ → Type 0
CountsBits (Extract i j) w = (j ≤ i) × (i < 128)
CountsBits (Repeat k) w = k ≤ 128
CountsBits (ZeroExtend k) w = k ≤ 128
CountsBits (SignExtend k) w = k ≤ 128
CountsBits (RotateLeft k) w = 1 ≤ w
CountsBits (RotateRight k) w = 1 ≤ w
CountsBits o w = Unit {0}

-- the bits from a place on, and then those before it
abbrev pub turned_at : ℕ → List Lit → List Lit
turned_at n bits = drop n bits ++ take n bits

-- the bits of an operator that moves those of its argument
abbrev pub moved_bits : Op → List Lit → List Lit
moved_bits Not a = negs a
moved_bits BvNot a = negs a
moved_bits (Extract i j) a = take (i - j + 1) (drop j a)
moved_bits (Repeat k) a = copies k a
moved_bits (ZeroExtend k) a = a ++ replicate k no
moved_bits (SignExtend k) a = a ++ replicate k (top a)
moved_bits (RotateLeft k) a = turned_left k a
moved_bits (RotateRight k) a = turned_right k a
moved_bits _ a = []

-- an operator that asks something of two words
abbrev pub IsPredicate : Op → Type 0
IsPredicate EqualOp = Unit {0}
IsPredicate BvUlt = Unit {0}
IsPredicate BvUle = Unit {0}
IsPredicate BvUgt = Unit {0}
IsPredicate BvUge = Unit {0}
IsPredicate BvSlt = Unit {0}
IsPredicate BvSle = Unit {0}
IsPredicate BvSgt = Unit {0}
IsPredicate BvSge = Unit {0}
IsPredicate BvComp = Unit {0}
IsPredicate BvUaddo = Unit {0}
IsPredicate BvSaddo = Unit {0}
IsPredicate BvUmulo = Unit {0}
IsPredicate BvSmulo = Unit {0}
IsPredicate BvUsubo = Unit {0}
IsPredicate BvSsubo = Unit {0}
IsPredicate BvSdivo = Unit {0}
IsPredicate _ = ⊥
