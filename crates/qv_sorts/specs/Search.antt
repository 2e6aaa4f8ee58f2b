-- The operator of a name and indices, by a search.
use Rattle.std.specs.Prelude.{◌≡◌, ◌↔◌, ℕ, Option, Some, None, option_and_then, List, [], ◌∷◌, find}
use Rattle.std.specs.Str.{bytes_eq}
use Rattle.qv_words.specs.declared.op.Op.{Op}
use Rattle.qv_words.specs.declared.op.Op.TheVariants.{Not, And, Or, Xor, Implies, Equal, Ite, BvNot, BvNeg, BvAnd, BvOr, BvXor, BvNand, BvNor, BvXnor, BvAdd, BvSub, BvMul, BvUdiv, BvUrem, BvSdiv, BvSrem, BvSmod, BvShl, BvLshr, BvAshr, BvUlt, BvUle, BvUgt, BvUge, BvSlt, BvSle, BvSgt, BvSge, BvComp, Concat, Extract, Repeat, ZeroExtend, SignExtend, RotateLeft, RotateRight, BvNego, BvUaddo, BvSaddo, BvUmulo, BvSmulo, BvUsubo, BvSsubo, BvSdivo}
use Rattle.qv_sorts.specs.Names.{name_of, IsNamed}

-- an operator of each name
abbrev pub operators : List Op
operators =
    Not ∷ And ∷ Or ∷ Xor ∷ Implies ∷ Equal ∷ Ite
    ∷ BvNot ∷ BvNeg ∷ BvAnd ∷ BvOr ∷ BvXor ∷ BvNand ∷ BvNor ∷ BvXnor
    ∷ BvAdd ∷ BvSub ∷ BvMul ∷ BvUdiv ∷ BvUrem ∷ BvSdiv ∷ BvSrem ∷ BvSmod ∷ BvShl ∷ BvLshr ∷ BvAshr
    ∷ BvUlt ∷ BvUle ∷ BvUgt ∷ BvUge ∷ BvSlt ∷ BvSle ∷ BvSgt ∷ BvSge ∷ BvComp ∷ Concat
    ∷ Extract 0 0 ∷ Repeat 0 ∷ ZeroExtend 0 ∷ SignExtend 0 ∷ RotateLeft 0 ∷ RotateRight 0
    ∷ BvNego ∷ BvUaddo ∷ BvSaddo ∷ BvUmulo ∷ BvSmulo ∷ BvUsubo ∷ BvSsubo ∷ BvSdivo ∷ []

-- the one of this name
unfoldable pub operator_named : List ℕ → Option Op
operator_named name = find (λ o. bytes_eq (name_of o) name) operators

-- the operator without indices
abbrev pub without_indices : Op → List ℕ → Option Op
without_indices o [] = Some o
without_indices o (n ∷ ns) = None

-- an operator with one index, and with two
abbrev pub one_index : (ℕ → Op) → List ℕ → Option Op
one_index o (k ∷ []) = Some (o k)
one_index o _ = None

abbrev pub two_indices : (ℕ → ℕ → Op) → List ℕ → Option Op
two_indices o (i ∷ j ∷ []) = Some (o i j)
two_indices o _ = None

-- the operator of the same name with these indices
abbrev pub with_indices : Op → List ℕ → Option Op
with_indices (Extract i j) ns = two_indices Extract ns
with_indices (Repeat k) ns = one_index Repeat ns
with_indices (ZeroExtend k) ns = one_index ZeroExtend ns
with_indices (SignExtend k) ns = one_index SignExtend ns
with_indices (RotateLeft k) ns = one_index RotateLeft ns
with_indices (RotateRight k) ns = one_index RotateRight ns
with_indices o ns = without_indices o ns

-- the operator of a name with these indices, where there is one
abbrev pub indexed_operator : List ℕ → List ℕ → Option Op
indexed_operator name indices = option_and_then (λ o. with_indices o indices) (operator_named name)

-- it is found exactly where an operator has this name and these indices
abbrev pub OperatorsAreFound : Type 0
OperatorsAreFound = (name indices : List ℕ) (o : Op) → (indexed_operator name indices ≡ Some o) ↔ IsNamed name indices o
