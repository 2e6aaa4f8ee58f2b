-- Names and what they name.
use Rattle.std.proofs.Common.{◌≡◌, ◌≢◌, ◌↔◌, ◌∙◌, sym, ap, subst, refl, ℕ, Option, Some, None, List, [], ◌∷◌, length, cond}
use Rattle.std.proofs.Common.{Bool as Truth, true, false}
use Rattle.std.specs.Prelude.{find, bytes_eq, IfSome, IfNone}
use Rattle.std.proofs.lemmas.Slice.Eq.{bytes_eq-Decides}
use Rattle.qv_words.specs.declared.op.Op.{Op}
use Rattle.qv_words.specs.declared.op.Op.TheVariants.{Not, And, Or, Xor, Implies, Equal, Ite, BvNot, BvNeg, BvAnd, BvOr, BvXor, BvNand, BvNor, BvXnor, BvAdd, BvSub, BvMul, BvUdiv, BvUrem, BvSdiv, BvSrem, BvSmod, BvShl, BvLshr, BvAshr, BvUlt, BvUle, BvUgt, BvUge, BvSlt, BvSle, BvSgt, BvSge, BvComp, Concat, Extract, Repeat, ZeroExtend, SignExtend, RotateLeft, RotateRight, BvNego, BvUaddo, BvSaddo, BvUmulo, BvSmulo, BvUsubo, BvSsubo, BvSdivo}
use Rattle.qv_sorts.specs.declared.operators.TheConstants.{OPERATORS}
use Rattle.qv_sorts.specs.Names.{name_of, indices_of, IsNamed, NamesAtOther}

-- the first operator that has a name
abbrev pub first_of : List Op → List ℕ → Option Op
first_of ops name = find (λ o. bytes_eq (name_of o) name) ops

-- it has the name
pub first_of-named : (name : List ℕ) (ops : List Op) → IfSome (first_of ops name) (λ o. name_of o ≡ name)
first_of-named name [] = tt
first_of-named name (o ∷ ops) = go (bytes_eq (name_of o) name) refl (first_of-named name ops)
  where
    go : (b : Truth) → bytes_eq (name_of o) name ≡ b → IfSome (first_of ops name) (λ p. name_of p ≡ name) → IfSome (cond b (Some o) (first_of ops name)) (λ p. name_of p ≡ name)
    go true e rest = (bytes_eq-Decides (name_of o) name).0 e
    go false e rest = rest

-- the operator with these indices in place of its own, where it has so many
abbrev with : Op → List ℕ → Op
with (Extract i j) (m ∷ n ∷ []) = Extract m n
with (Repeat k) (n ∷ []) = Repeat n
with (ZeroExtend k) (n ∷ []) = ZeroExtend n
with (SignExtend k) (n ∷ []) = SignExtend n
with (RotateLeft k) (n ∷ []) = RotateLeft n
with (RotateRight k) (n ∷ []) = RotateRight n
with o _ = o

-- the operator, its indices being 0
abbrev plain : Op → Op
plain (Extract i j) = Extract 0 0
plain (Repeat k) = Repeat 0
plain (ZeroExtend k) = ZeroExtend 0
plain (SignExtend k) = SignExtend 0
plain (RotateLeft k) = RotateLeft 0
plain (RotateRight k) = RotateRight 0
plain o = o

-- an operator's name finds it
found : (o : Op) → first_of OPERATORS (name_of o) ≡ Some (plain o)
found Not = refl
found And = refl
found Or = refl
found Xor = refl
found Implies = refl
found Equal = refl
found Ite = refl
found BvNot = refl
found BvNeg = refl
found BvAnd = refl
found BvOr = refl
found BvXor = refl
found BvNand = refl
found BvNor = refl
found BvXnor = refl
found BvAdd = refl
found BvSub = refl
found BvMul = refl
found BvUdiv = refl
found BvUrem = refl
found BvSdiv = refl
found BvSrem = refl
found BvSmod = refl
found BvShl = refl
found BvLshr = refl
found BvAshr = refl
found BvUlt = refl
found BvUle = refl
found BvUgt = refl
found BvUge = refl
found BvSlt = refl
found BvSle = refl
found BvSgt = refl
found BvSge = refl
found BvComp = refl
found Concat = refl
found (Extract i j) = refl
found (Repeat k) = refl
found (ZeroExtend k) = refl
found (SignExtend k) = refl
found (RotateLeft k) = refl
found (RotateRight k) = refl
found BvNego = refl
found BvUaddo = refl
found BvSaddo = refl
found BvUmulo = refl
found BvSmulo = refl
found BvUsubo = refl
found BvSsubo = refl
found BvSdivo = refl

-- its indices make it whole again
whole : (o : Op) → with (plain o) (indices_of o) ≡ o
whole Not = refl
whole And = refl
whole Or = refl
whole Xor = refl
whole Implies = refl
whole Equal = refl
whole Ite = refl
whole BvNot = refl
whole BvNeg = refl
whole BvAnd = refl
whole BvOr = refl
whole BvXor = refl
whole BvNand = refl
whole BvNor = refl
whole BvXnor = refl
whole BvAdd = refl
whole BvSub = refl
whole BvMul = refl
whole BvUdiv = refl
whole BvUrem = refl
whole BvSdiv = refl
whole BvSrem = refl
whole BvSmod = refl
whole BvShl = refl
whole BvLshr = refl
whole BvAshr = refl
whole BvUlt = refl
whole BvUle = refl
whole BvUgt = refl
whole BvUge = refl
whole BvSlt = refl
whole BvSle = refl
whole BvSgt = refl
whole BvSge = refl
whole BvComp = refl
whole Concat = refl
whole (Extract i j) = refl
whole (Repeat k) = refl
whole (ZeroExtend k) = refl
whole (SignExtend k) = refl
whole (RotateLeft k) = refl
whole (RotateRight k) = refl
whole BvNego = refl
whole BvUaddo = refl
whole BvSaddo = refl
whole BvUmulo = refl
whole BvSmulo = refl
whole BvUsubo = refl
whole BvSsubo = refl
whole BvSdivo = refl

same_count : (o : Op) → length (indices_of o) ≡ length (indices_of (plain o))
same_count Not = refl
same_count And = refl
same_count Or = refl
same_count Xor = refl
same_count Implies = refl
same_count Equal = refl
same_count Ite = refl
same_count BvNot = refl
same_count BvNeg = refl
same_count BvAnd = refl
same_count BvOr = refl
same_count BvXor = refl
same_count BvNand = refl
same_count BvNor = refl
same_count BvXnor = refl
same_count BvAdd = refl
same_count BvSub = refl
same_count BvMul = refl
same_count BvUdiv = refl
same_count BvUrem = refl
same_count BvSdiv = refl
same_count BvSrem = refl
same_count BvSmod = refl
same_count BvShl = refl
same_count BvLshr = refl
same_count BvAshr = refl
same_count BvUlt = refl
same_count BvUle = refl
same_count BvUgt = refl
same_count BvUge = refl
same_count BvSlt = refl
same_count BvSle = refl
same_count BvSgt = refl
same_count BvSge = refl
same_count BvComp = refl
same_count Concat = refl
same_count (Extract i j) = refl
same_count (Repeat k) = refl
same_count (ZeroExtend k) = refl
same_count (SignExtend k) = refl
same_count (RotateLeft k) = refl
same_count (RotateRight k) = refl
same_count BvNego = refl
same_count BvUaddo = refl
same_count BvSaddo = refl
same_count BvUmulo = refl
same_count BvSmulo = refl
same_count BvUsubo = refl
same_count BvSsubo = refl
same_count BvSdivo = refl

-- operators of one name are the same but for their indices
same_plain : (o p : Op) → name_of o ≡ name_of p → plain o ≡ plain p
same_plain o p e =
    let one = found o in
    let other = found p in
    let both = ap (first_of OPERATORS) e in cc

-- and have as many of them
pub one_count : (o p : Op) → name_of o ≡ name_of p → length (indices_of o) ≡ length (indices_of p)
one_count o p e = same_count o ∙ ap (λ q. length (indices_of q)) (same_plain o p e) ∙ sym (same_count p)

-- a name and indices name one operator
pub one_operator : (o p : Op) → name_of o ≡ name_of p → indices_of o ≡ indices_of p → o ≡ p
one_operator o p e f =
    let start = whole o in
    let end = whole p in
    let plains = same_plain o p e in cc

-- what the operator of a name becomes with these indices, where it has so many
pub record IsRefit (indices : List ℕ) (p : Op) (fit : Option Op) : Type 0 where
  pub some : IfSome fit (λ o. (name_of o ≡ name_of p) × (indices_of o ≡ indices))
  pub none : IfNone fit (length (indices_of p) ≢ length indices)

-- is the one operator of this name with these indices
pub refit-named : (name indices : List ℕ) (p : Op) (fit : Option Op) → name_of p ≡ name → IsRefit indices p fit → (o : Op) → (fit ≡ Some o) ↔ IsNamed name indices o
refit-named name indices p None e refit o = (
  λ h. absurd (cc),
  λ h. absurd (refit.none (one_count p o (e ∙ sym h.name) ∙ ap length h.indices)),
)
refit-named name indices p (Some q) e refit o = (
  λ h. let same : q ≡ o = cc in subst (IsNamed name indices) same (record { name = refit.some.0 ∙ e; indices = refit.some.1 }),
  λ h. ap Some (one_operator q o (refit.some.0 ∙ e ∙ sym h.name) (refit.some.1 ∙ sym h.indices)),
)

-- and where it has another number, it isn't
pub refit-none : (name indices : List ℕ) (p : Op) (fit : Option Op) → name_of p ≡ name → IsRefit indices p fit → (fit ≡ None) ↔ NamesAtOther name indices
refit-none name indices p None e refit = (λ h. (p, e, refit.none), λ h. refl)
refit-none name indices p (Some q) e refit = (
  λ h. absurd (cc),
  λ h. absurd (h.2 (one_count h.0 q (h.1 ∙ sym e ∙ sym refit.some.0) ∙ ap length refit.some.1)),
)
