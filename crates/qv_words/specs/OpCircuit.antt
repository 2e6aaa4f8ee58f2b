-- The circuit of each operator.
use Rattle.std.specs.Prelude.{◌+◌, ◌-◌, true, false, List, [], ◌∷◌, ◌++◌, length, take, drop, replicate}
use Rattle.qv_words.specs.declared.op.Op.{Op}
use Rattle.qv_words.specs.declared.op.Op.TheVariants.{Not, And, Or, Xor, Implies, Equal, Ite, BvNot, BvNeg, BvAnd, BvOr, BvXor, BvNand, BvNor, BvXnor, BvAdd, BvSub, BvMul, BvUdiv, BvUrem, BvSdiv, BvSrem, BvSmod, BvShl, BvLshr, BvAshr, BvUlt, BvUle, BvUgt, BvUge, BvSlt, BvSle, BvSgt, BvSge, BvComp, Concat, Extract, Repeat, ZeroExtend, SignExtend, RotateLeft, RotateRight, BvNego, BvUaddo, BvSaddo, BvUmulo, BvSmulo, BvUsubo, BvSsubo, BvSdivo}
use Rattle.qv_words.specs.Gate.{Lit, Circuit, done, ◌>>=◌, neg, yes, no, and, or, xor}
use Rattle.qv_words.specs.Routine.{negs, top, add, sum_of, neg_bits, sub, sel, each, disjunction_of, equal, ult, slt, shift, mul, div, abs, least_signed, copies, turned_left, turned_right}

-- one bit as the bits of a result, and negated
abbrev pub one : Circuit Lit → Circuit (List Lit)
one m = do
  g ← m
  done (g ∷ [])

abbrev pub not_one : Circuit Lit → Circuit (List Lit)
not_one m = do
  g ← m
  done (neg g ∷ [])

abbrev pub negated_each : Circuit (List Lit) → Circuit (List Lit)
negated_each m = do
  bits ← m
  done (negs bits)

-- the signed quotient and remainders, from those of the magnitudes
abbrev pub signed_quotient : List Lit → List Lit → Circuit (List Lit)
signed_quotient a b = do
  m ← abs a
  n ← abs b
  d ← div m n
  x ← xor (top a) (top b)
  q ← neg_bits d.0
  sel x q d.0

abbrev pub remainder_of : List Lit → List Lit → Circuit (List Lit)
remainder_of a b = do
  m ← abs a
  n ← abs b
  d ← div m n
  r ← neg_bits d.1
  sel (top a) r d.1

abbrev pub modulus : List Lit → List Lit → Circuit (List Lit)
modulus a b = do
  m ← abs a
  n ← abs b
  d ← div m n
  r ← neg_bits d.1
  u ← sel (top a) r d.1
  z ← equal d.1 (replicate (length a) no)
  x ← xor (top a) (top b)
  t ← and x (neg z)
  g ← each and (replicate (length b) t) b
  sum_of u g no

-- the overflow predicates
abbrev pub sum_overflow : List Lit → List Lit → Circuit Lit
sum_overflow a b = do
  s ← add a b no
  done s.1

abbrev pub signed_sum_overflow : List Lit → List Lit → Circuit Lit
signed_sum_overflow a b = do
  s ← sum_of a b no
  x ← xor (top a) (top s)
  y ← xor (top b) (top s)
  and x y

abbrev pub product_overflow : List Lit → List Lit → Circuit Lit
product_overflow a b = do
  p ← mul (a ++ replicate (length a) no) (b ++ replicate (length b) no)
  disjunction_of (drop (length a) p)

abbrev pub signed_product_overflow : List Lit → List Lit → Circuit Lit
signed_product_overflow a b = do
  p ← mul (a ++ replicate (length a) (top a)) (b ++ replicate (length b) (top b))
  x ← each xor (drop (length a) p) (replicate (length a) (top (take (length a) p)))
  disjunction_of x

abbrev pub signed_difference_overflow : List Lit → List Lit → Circuit Lit
signed_difference_overflow a b = do
  s ← sub a b
  x ← xor (top a) (top b)
  y ← xor (top a) (top s.0)
  and x y

abbrev pub signed_quotient_overflow : List Lit → List Lit → Circuit Lit
signed_quotient_overflow a b = do
  e ← equal a (least_signed (length a))
  f ← equal b (replicate (length b) yes)
  and e f

-- of one argument
abbrev pub unary_circuit : Op → List Lit → Circuit (List Lit)
unary_circuit Not a = done (negs a)
unary_circuit BvNot a = done (negs a)
unary_circuit BvNeg a = neg_bits a
unary_circuit (Extract i j) a = done (take (i - j + 1) (drop j a))
unary_circuit (Repeat k) a = done (copies k a)
unary_circuit (ZeroExtend k) a = done (a ++ replicate k no)
unary_circuit (SignExtend k) a = done (a ++ replicate k (top a))
unary_circuit (RotateLeft k) a = done (turned_left k a)
unary_circuit (RotateRight k) a = done (turned_right k a)
unary_circuit BvNego a = one (equal a (least_signed (length a)))
unary_circuit _ a = done []

-- of two arguments
abbrev pub binary_circuit : Op → List Lit → List Lit → Circuit (List Lit)
binary_circuit And a b = each and a b
binary_circuit Or a b = each or a b
binary_circuit Xor a b = each xor a b
binary_circuit Implies a b = each or (negs a) b
binary_circuit Equal a b = one (equal a b)
binary_circuit BvComp a b = one (equal a b)
binary_circuit BvAnd a b = each and a b
binary_circuit BvOr a b = each or a b
binary_circuit BvXor a b = each xor a b
binary_circuit BvNand a b = negated_each (each and a b)
binary_circuit BvNor a b = negated_each (each or a b)
binary_circuit BvXnor a b = negated_each (each xor a b)
binary_circuit BvAdd a b = sum_of a b no
binary_circuit BvSub a b = do
  d ← sub a b
  done d.0
binary_circuit BvMul a b = mul a b
binary_circuit BvUdiv a b = do
  d ← div a b
  done d.0
binary_circuit BvUrem a b = do
  d ← div a b
  done d.1
binary_circuit BvSdiv a b = signed_quotient a b
binary_circuit BvSrem a b = remainder_of a b
binary_circuit BvSmod a b = modulus a b
binary_circuit BvShl a b = shift true no a b
binary_circuit BvLshr a b = shift false no a b
binary_circuit BvAshr a b = shift false (top a) a b
binary_circuit BvUlt a b = one (ult a b)
binary_circuit BvUle a b = not_one (ult b a)
binary_circuit BvUgt a b = one (ult b a)
binary_circuit BvUge a b = not_one (ult a b)
binary_circuit BvSlt a b = one (slt a b)
binary_circuit BvSle a b = not_one (slt b a)
binary_circuit BvSgt a b = one (slt b a)
binary_circuit BvSge a b = not_one (slt a b)
binary_circuit Concat a b = done (b ++ a)
binary_circuit BvUaddo a b = one (sum_overflow a b)
binary_circuit BvSaddo a b = one (signed_sum_overflow a b)
binary_circuit BvUmulo a b = one (product_overflow a b)
binary_circuit BvSmulo a b = one (signed_product_overflow a b)
binary_circuit BvUsubo a b = one (ult a b)
binary_circuit BvSsubo a b = one (signed_difference_overflow a b)
binary_circuit BvSdivo a b = one (signed_quotient_overflow a b)
binary_circuit _ a b = done []

-- a choice by one bit
abbrev pub choice_circuit : List Lit → List Lit → List Lit → Circuit (List Lit)
choice_circuit (c ∷ []) a b = sel c a b
choice_circuit _ a b = done []

-- the circuit of an operator at the bits of its arguments
unfoldable pub op_circuit : Op → List (List Lit) → Circuit (List Lit)
op_circuit o (a ∷ []) = unary_circuit o a
op_circuit o (a ∷ b ∷ []) = binary_circuit o a b
op_circuit Ite (c ∷ a ∷ b ∷ []) = choice_circuit c a b
op_circuit _ _ = done []
