-- The operators in groups, by what they are about.
use Rattle.qv_words.specs.declared.op.Op.{Op}
use Rattle.qv_words.specs.declared.op.Op.TheVariants.{Not, And, Or, Xor, Implies, Equal, Ite, BvNot, BvNeg, BvAnd, BvOr, BvXor, BvNand, BvNor, BvXnor, BvAdd, BvSub, BvMul, BvUdiv, BvUrem, BvSdiv, BvSrem, BvSmod, BvShl, BvLshr, BvAshr, BvUlt, BvUle, BvUgt, BvUge, BvSlt, BvSle, BvSgt, BvSge, BvComp, Concat, Extract, Repeat, ZeroExtend, SignExtend, RotateLeft, RotateRight, BvNego, BvUaddo, BvSaddo, BvUmulo, BvSmulo, BvUsubo, BvSsubo, BvSdivo}

pub data Group : Type 0 where
  Core : Group
  Bitwise : Group
  Arithmetic : Group
  Comparison : Group
  Parts : Group
  Overflow : Group

abbrev pub group_of : Op → Group
group_of Not = Core
group_of And = Core
group_of Or = Core
group_of Xor = Core
group_of Implies = Core
group_of Equal = Core
group_of Ite = Core
group_of BvNot = Bitwise
group_of BvAnd = Bitwise
group_of BvOr = Bitwise
group_of BvXor = Bitwise
group_of BvNand = Bitwise
group_of BvNor = Bitwise
group_of BvXnor = Bitwise
group_of BvNeg = Arithmetic
group_of BvAdd = Arithmetic
group_of BvSub = Arithmetic
group_of BvMul = Arithmetic
group_of BvUdiv = Arithmetic
group_of BvUrem = Arithmetic
group_of BvSdiv = Arithmetic
group_of BvSrem = Arithmetic
group_of BvSmod = Arithmetic
group_of BvUlt = Comparison
group_of BvUle = Comparison
group_of BvUgt = Comparison
group_of BvUge = Comparison
group_of BvSlt = Comparison
group_of BvSle = Comparison
group_of BvSgt = Comparison
group_of BvSge = Comparison
group_of BvComp = Comparison
group_of BvShl = Parts
group_of BvLshr = Parts
group_of BvAshr = Parts
group_of Concat = Parts
group_of (Extract i j) = Parts
group_of (Repeat k) = Parts
group_of (ZeroExtend k) = Parts
group_of (SignExtend k) = Parts
group_of (RotateLeft k) = Parts
group_of (RotateRight k) = Parts
group_of BvNego = Overflow
group_of BvUaddo = Overflow
group_of BvSaddo = Overflow
group_of BvUmulo = Overflow
group_of BvSmulo = Overflow
group_of BvUsubo = Overflow
group_of BvSsubo = Overflow
group_of BvSdivo = Overflow
