-- The inverse term of each operator that has one, for each of its arguments, at small widths, over
-- the other argument s and the target t.
use Rattle.std.proofs.Common.{◌≡◌, ℕ, Some, None, Option, List, [], ◌∷◌, map, refl}
use Rattle.qv_words.specs.declared.sort.Sort.TheVariants.{Bits}
use Rattle.qv_words.specs.declared.sort.Sort.TheVariants.{Bool as BoolSort}
use Rattle.qv_words.specs.declared.op.Op.{Op}
use Rattle.qv_words.specs.declared.op.Op.TheVariants.{Not, Equal, BvNot, BvNeg, BvAnd, BvOr, BvXor, BvNand, BvNor, BvXnor, BvAdd, BvSub, BvMul, BvUdiv, BvUrem, BvSdiv, BvShl, BvLshr, BvAshr, BvUlt, BvComp, Concat, Extract, Repeat, ZeroExtend, SignExtend, RotateLeft, RotateRight}
use Rattle.qv_words.specs.Tree.{Tree, Variable}
use Rattle.qv_words.specs.Prenex.{binary, ite}
use Rattle.qv_words.specs.Inverse.{inverse_term, inverse_modulo, number, unary}

abbrev s : Tree
s = Variable 0 (Bits 2)

abbrev t : ℕ → Tree
t w = Variable 1 (Bits w)

-- at one argument, and at two, all of two bits
unfoldable row : Op → Option Tree
unfolding inverse_term
row o = inverse_term o 0 (Bits 2 ∷ []) None

unfoldable rows : Op → List (Option Tree)
unfolding inverse_term
rows o = inverse_term o 0 (Bits 2 ∷ Bits 2 ∷ []) None ∷ inverse_term o 1 (Bits 2 ∷ Bits 2 ∷ []) None ∷ []

abbrev both : (first second : Tree) → List (Option Tree)
both first second = Some first ∷ Some second ∷ []

sums : map rows (BvAdd ∷ BvSub ∷ []) ≡ both (binary BvSub (t 2) s) (binary BvSub (t 2) s) ∷ both (binary BvAdd (t 2) s) (binary BvSub s (t 2)) ∷ []
unfolding rows
sums = refl

negations : map row (BvNot ∷ BvNeg ∷ []) ≡ Some (unary BvNot (t 2)) ∷ Some (unary BvNeg (t 2)) ∷ []
unfolding row
negations = refl

bit-by-bit : map rows (BvXor ∷ BvXnor ∷ BvAnd ∷ BvOr ∷ BvNand ∷ BvNor ∷ []) ≡
    both (binary BvXor (t 2) s) (binary BvXor (t 2) s) ∷ both (binary BvXnor (t 2) s) (binary BvXnor (t 2) s) ∷ both (t 2) (t 2) ∷ both (t 2) (t 2)
    ∷ both (unary BvNot (t 2)) (unary BvNot (t 2)) ∷ both (unary BvNot (t 2)) (unary BvNot (t 2)) ∷ []
unfolding rows
bit-by-bit = refl

divisions : map rows (BvUdiv ∷ BvUrem ∷ []) ≡
    both (binary BvMul s (t 2)) (binary BvUdiv s (t 2)) ∷ both (t 2) (ite (binary Equal s (t 2)) (number 2 0) (binary BvSub s (t 2))) ∷ []
unfolding rows
divisions = refl

-- the amounts 0 and 1 in turn, and 2 at the end
amounts : Op → Tree
amounts o = ite (binary Equal (binary o s (number 2 0)) (t 2)) (number 2 0) (ite (binary Equal (binary o s (number 2 1)) (t 2)) (number 2 1) (number 2 2))

shifts : map rows (BvShl ∷ BvLshr ∷ BvAshr ∷ []) ≡
    both (binary BvLshr (t 2) s) (amounts BvShl) ∷ both (binary BvShl (t 2) s) (amounts BvLshr)
    ∷ both (ite (binary BvUlt s (number 2 2)) (binary BvShl (t 2) s) (t 2)) (amounts BvAshr) ∷ []
unfolding rows amounts
shifts = refl

-- by 6 at three bits: one zero at the end, and 3 times 3 is 1 modulo 8; by 5 at four bits; none by 0,
-- and none without a literal
products : inverse_term BvMul 0 (Bits 3 ∷ Bits 3 ∷ []) (Some 6) ∷ inverse_term BvMul 1 (Bits 4 ∷ Bits 4 ∷ []) (Some 5) ∷ inverse_term BvMul 0 (Bits 3 ∷ Bits 3 ∷ []) (Some 0) ∷ rows BvMul
    ≡ Some (binary BvMul (binary BvLshr (t 3) (number 3 1)) (number 3 3)) ∷ Some (binary BvMul (binary BvLshr (t 4) (number 4 0)) (number 4 13)) ∷ None ∷ None ∷ None ∷ []
unfolding inverse_term inverse_modulo rows
products = refl

-- the high part of the target, and the low one
joined : inverse_term Concat 0 (Bits 2 ∷ Bits 3 ∷ []) None ∷ inverse_term Concat 1 (Bits 2 ∷ Bits 3 ∷ []) None ∷ [] ≡ Some (unary (Extract 4 3) (t 5)) ∷ Some (unary (Extract 2 0) (t 5)) ∷ []
unfolding inverse_term
joined = refl

-- a part, with zeros where the value has other bits
parts : map (λ o. inverse_term o 0 (Bits 4 ∷ []) None) (Extract 2 1 ∷ Extract 3 1 ∷ Extract 2 0 ∷ Extract 3 0 ∷ []) ≡
    Some (binary Concat (number 1 0) (binary Concat (t 2) (number 1 0))) ∷ Some (binary Concat (t 3) (number 1 0)) ∷ Some (binary Concat (number 1 0) (t 3)) ∷ Some (t 4) ∷ []
unfolding inverse_term
parts = refl

longer : map row (Repeat 3 ∷ ZeroExtend 2 ∷ SignExtend 1 ∷ []) ≡ Some (unary (Extract 1 0) (t 6)) ∷ Some (unary (Extract 1 0) (t 4)) ∷ Some (unary (Extract 1 0) (t 3)) ∷ []
unfolding row
longer = refl

turned : map row (RotateLeft 5 ∷ RotateRight 1 ∷ []) ≡ Some (unary (RotateRight 5) (t 2)) ∷ Some (unary (RotateLeft 1) (t 2)) ∷ []
unfolding row
turned = refl

-- other operators have none, nor has another position
none : rows BvSdiv ∷ rows BvUlt ∷ rows BvComp ∷ rows Equal ∷ [] ≡ (None ∷ None ∷ []) ∷ (None ∷ None ∷ []) ∷ (None ∷ None ∷ []) ∷ (None ∷ None ∷ []) ∷ []
unfolding rows
none = refl

no-position : inverse_term BvAdd 2 (Bits 2 ∷ Bits 2 ∷ []) None ∷ inverse_term BvNot 1 (Bits 2 ∷ []) None ∷ inverse_term Not 0 (BoolSort ∷ []) None ∷ [] ≡ None ∷ None ∷ None ∷ []
unfolding inverse_term
no-position = refl
