-- The names of the operators, as the standard's theories Core and FixedSizeBitVectors and the logic
-- QF_BV have them; those of the overflow predicates are this project's own choice.
use Rattle.std.specs.Prelude.{◌≡◌, ◌≢◌, ℕ, List, [], ◌∷◌, length, codes}
use Rattle.qv_words.specs.declared.op.Op.{Op}
use Rattle.qv_words.specs.declared.op.Op.TheVariants.{Not, And, Or, Xor, Implies, Equal, Ite, BvNot, BvNeg, BvAnd, BvOr, BvXor, BvNand, BvNor, BvXnor, BvAdd, BvSub, BvMul, BvUdiv, BvUrem, BvSdiv, BvSrem, BvSmod, BvShl, BvLshr, BvAshr, BvUlt, BvUle, BvUgt, BvUge, BvSlt, BvSle, BvSgt, BvSge, BvComp, Concat, Extract, Repeat, ZeroExtend, SignExtend, RotateLeft, RotateRight, BvNego, BvUaddo, BvSaddo, BvUmulo, BvSmulo, BvUsubo, BvSsubo, BvSdivo}

-- an operator's name
abbrev pub name_of : Op → List ℕ
name_of Not = codes "not"
name_of And = codes "and"
name_of Or = codes "or"
name_of Xor = codes "xor"
name_of Implies = codes "=>"
name_of Equal = codes "="
name_of Ite = codes "ite"
name_of BvNot = codes "bvnot"
name_of BvNeg = codes "bvneg"
name_of BvAnd = codes "bvand"
name_of BvOr = codes "bvor"
name_of BvXor = codes "bvxor"
name_of BvNand = codes "bvnand"
name_of BvNor = codes "bvnor"
name_of BvXnor = codes "bvxnor"
name_of BvAdd = codes "bvadd"
name_of BvSub = codes "bvsub"
name_of BvMul = codes "bvmul"
name_of BvUdiv = codes "bvudiv"
name_of BvUrem = codes "bvurem"
name_of BvSdiv = codes "bvsdiv"
name_of BvSrem = codes "bvsrem"
name_of BvSmod = codes "bvsmod"
name_of BvShl = codes "bvshl"
name_of BvLshr = codes "bvlshr"
name_of BvAshr = codes "bvashr"
name_of BvUlt = codes "bvult"
name_of BvUle = codes "bvule"
name_of BvUgt = codes "bvugt"
name_of BvUge = codes "bvuge"
name_of BvSlt = codes "bvslt"
name_of BvSle = codes "bvsle"
name_of BvSgt = codes "bvsgt"
name_of BvSge = codes "bvsge"
name_of BvComp = codes "bvcomp"
name_of Concat = codes "concat"
name_of (Extract i j) = codes "extract"
name_of (Repeat k) = codes "repeat"
name_of (ZeroExtend k) = codes "zero_extend"
name_of (SignExtend k) = codes "sign_extend"
name_of (RotateLeft k) = codes "rotate_left"
name_of (RotateRight k) = codes "rotate_right"
name_of BvNego = codes "bvnego"
name_of BvUaddo = codes "bvuaddo"
name_of BvSaddo = codes "bvsaddo"
name_of BvUmulo = codes "bvumulo"
name_of BvSmulo = codes "bvsmulo"
name_of BvUsubo = codes "bvusubo"
name_of BvSsubo = codes "bvssubo"
name_of BvSdivo = codes "bvsdivo"

-- an operator's indices, in the order in which they are written
abbrev pub indices_of : Op → List ℕ
indices_of (Extract i j) = i ∷ j ∷ []
indices_of (Repeat k) = k ∷ []
indices_of (ZeroExtend k) = k ∷ []
indices_of (SignExtend k) = k ∷ []
indices_of (RotateLeft k) = k ∷ []
indices_of (RotateRight k) = k ∷ []
indices_of _ = []

-- the operator is the one of this name with these indices
pub record IsNamed (bytes numbers : List ℕ) (o : Op) : Type 0 where
  pub name : name_of o ≡ bytes
  pub indices : indices_of o ≡ numbers

-- no operator has the name
abbrev pub NamesNone : List ℕ → Type 0
NamesNone name = (o : Op) → name_of o ≢ name

-- an operator has the name, with another number of indices
abbrev pub NamesAtOther : List ℕ → List ℕ → Type 0
NamesAtOther name indices = (o : Op) × (name_of o ≡ name) × (length (indices_of o) ≢ length indices)
