-- Which of the lists of up to three sorts, out of Bool, one bit and two bits, have a rank, with the
-- sort of the result, and what is so at 128 bits; they come from another program.
use Rattle.std.proofs.Common.{◌≡◌, ℕ, Some, None, List, [], ◌∷◌, ◌++◌, map, refl}
use Rattle.std.specs.List.{flat_map}
use Rattle.std.specs.Option.{option_to_list}
use Rattle.qv_words.specs.declared.sort.Sort.{Sort}
use Rattle.qv_words.specs.declared.sort.Sort.TheVariants.{Bool as BoolSort, Bits}
use Rattle.qv_words.specs.declared.op.Op.{Op}
use Rattle.qv_words.specs.declared.op.Op.TheVariants.{Not, And, Or, Xor, Implies, Equal, Ite, BvNot, BvNeg, BvAnd, BvOr, BvXor, BvNand, BvNor, BvXnor, BvAdd, BvSub, BvMul, BvUdiv, BvUrem, BvSdiv, BvSrem, BvSmod, BvShl, BvLshr, BvAshr, BvUlt, BvUle, BvUgt, BvUge, BvSlt, BvSle, BvSgt, BvSge, BvComp, Concat, Extract, Repeat, ZeroExtend, SignExtend, RotateLeft, RotateRight, BvNego, BvUaddo, BvSaddo, BvUmulo, BvSmulo, BvUsubo, BvSsubo, BvSdivo}
use Rattle.qv_words.specs.Rank.{result_sort}

abbrev b : Sort
b = BoolSort

abbrev w : ℕ → Sort
w n = Bits n

-- each list with one sort more in front
abbrev longer : List (List Sort) → List (List Sort)
longer lists = flat_map (λ s. map (λ l. s ∷ l) lists) (b ∷ w 1 ∷ w 2 ∷ [])

abbrev lists : List (List Sort)
lists = ([] ∷ []) ++ longer ([] ∷ []) ++ longer (longer ([] ∷ [])) ++ longer (longer (longer ([] ∷ [])))

abbrev ranks : Op → List (List Sort × Sort)
ranks o = flat_map (λ sorts. map (λ s. (sorts, s)) (option_to_list (result_sort o sorts))) lists

not-ranks : ranks Not ≡
    (b ∷ [], b) ∷ []
not-ranks = refl

and-ranks : ranks And ≡
    (b ∷ b ∷ [], b) ∷ []
and-ranks = refl

or-ranks : ranks Or ≡
    (b ∷ b ∷ [], b) ∷ []
or-ranks = refl

xor-ranks : ranks Xor ≡
    (b ∷ b ∷ [], b) ∷ []
xor-ranks = refl

implies-ranks : ranks Implies ≡
    (b ∷ b ∷ [], b) ∷ []
implies-ranks = refl

equal-ranks : ranks Equal ≡
    (b ∷ b ∷ [], b) ∷ (w 1 ∷ w 1 ∷ [], b) ∷ (w 2 ∷ w 2 ∷ [], b) ∷ []
equal-ranks = refl

ite-ranks : ranks Ite ≡
    (b ∷ b ∷ b ∷ [], b) ∷ (b ∷ w 1 ∷ w 1 ∷ [], w 1) ∷ (b ∷ w 2 ∷ w 2 ∷ [], w 2) ∷ []
ite-ranks = refl

bvnot-ranks : ranks BvNot ≡
    (w 1 ∷ [], w 1) ∷ (w 2 ∷ [], w 2) ∷ []
bvnot-ranks = refl

bvneg-ranks : ranks BvNeg ≡
    (w 1 ∷ [], w 1) ∷ (w 2 ∷ [], w 2) ∷ []
bvneg-ranks = refl

bvand-ranks : ranks BvAnd ≡
    (w 1 ∷ w 1 ∷ [], w 1) ∷ (w 2 ∷ w 2 ∷ [], w 2) ∷ []
bvand-ranks = refl

bvor-ranks : ranks BvOr ≡
    (w 1 ∷ w 1 ∷ [], w 1) ∷ (w 2 ∷ w 2 ∷ [], w 2) ∷ []
bvor-ranks = refl

bvxor-ranks : ranks BvXor ≡
    (w 1 ∷ w 1 ∷ [], w 1) ∷ (w 2 ∷ w 2 ∷ [], w 2) ∷ []
bvxor-ranks = refl

bvnand-ranks : ranks BvNand ≡
    (w 1 ∷ w 1 ∷ [], w 1) ∷ (w 2 ∷ w 2 ∷ [], w 2) ∷ []
bvnand-ranks = refl

bvnor-ranks : ranks BvNor ≡
    (w 1 ∷ w 1 ∷ [], w 1) ∷ (w 2 ∷ w 2 ∷ [], w 2) ∷ []
bvnor-ranks = refl

bvxnor-ranks : ranks BvXnor ≡
    (w 1 ∷ w 1 ∷ [], w 1) ∷ (w 2 ∷ w 2 ∷ [], w 2) ∷ []
bvxnor-ranks = refl

bvadd-ranks : ranks BvAdd ≡
    (w 1 ∷ w 1 ∷ [], w 1) ∷ (w 2 ∷ w 2 ∷ [], w 2) ∷ []
bvadd-ranks = refl

bvsub-ranks : ranks BvSub ≡
    (w 1 ∷ w 1 ∷ [], w 1) ∷ (w 2 ∷ w 2 ∷ [], w 2) ∷ []
bvsub-ranks = refl

bvmul-ranks : ranks BvMul ≡
    (w 1 ∷ w 1 ∷ [], w 1) ∷ (w 2 ∷ w 2 ∷ [], w 2) ∷ []
bvmul-ranks = refl

bvudiv-ranks : ranks BvUdiv ≡
    (w 1 ∷ w 1 ∷ [], w 1) ∷ (w 2 ∷ w 2 ∷ [], w 2) ∷ []
bvudiv-ranks = refl

bvurem-ranks : ranks BvUrem ≡
    (w 1 ∷ w 1 ∷ [], w 1) ∷ (w 2 ∷ w 2 ∷ [], w 2) ∷ []
bvurem-ranks = refl

bvsdiv-ranks : ranks BvSdiv ≡
    (w 1 ∷ w 1 ∷ [], w 1) ∷ (w 2 ∷ w 2 ∷ [], w 2) ∷ []
bvsdiv-ranks = refl

bvsrem-ranks : ranks BvSrem ≡
    (w 1 ∷ w 1 ∷ [], w 1) ∷ (w 2 ∷ w 2 ∷ [], w 2) ∷ []
bvsrem-ranks = refl

bvsmod-ranks : ranks BvSmod ≡
    (w 1 ∷ w 1 ∷ [], w 1) ∷ (w 2 ∷ w 2 ∷ [], w 2) ∷ []
bvsmod-ranks = refl

bvshl-ranks : ranks BvShl ≡
    (w 1 ∷ w 1 ∷ [], w 1) ∷ (w 2 ∷ w 2 ∷ [], w 2) ∷ []
bvshl-ranks = refl

bvlshr-ranks : ranks BvLshr ≡
    (w 1 ∷ w 1 ∷ [], w 1) ∷ (w 2 ∷ w 2 ∷ [], w 2) ∷ []
bvlshr-ranks = refl

bvashr-ranks : ranks BvAshr ≡
    (w 1 ∷ w 1 ∷ [], w 1) ∷ (w 2 ∷ w 2 ∷ [], w 2) ∷ []
bvashr-ranks = refl

bvult-ranks : ranks BvUlt ≡
    (w 1 ∷ w 1 ∷ [], b) ∷ (w 2 ∷ w 2 ∷ [], b) ∷ []
bvult-ranks = refl

bvule-ranks : ranks BvUle ≡
    (w 1 ∷ w 1 ∷ [], b) ∷ (w 2 ∷ w 2 ∷ [], b) ∷ []
bvule-ranks = refl

bvugt-ranks : ranks BvUgt ≡
    (w 1 ∷ w 1 ∷ [], b) ∷ (w 2 ∷ w 2 ∷ [], b) ∷ []
bvugt-ranks = refl

bvuge-ranks : ranks BvUge ≡
    (w 1 ∷ w 1 ∷ [], b) ∷ (w 2 ∷ w 2 ∷ [], b) ∷ []
bvuge-ranks = refl

bvslt-ranks : ranks BvSlt ≡
    (w 1 ∷ w 1 ∷ [], b) ∷ (w 2 ∷ w 2 ∷ [], b) ∷ []
bvslt-ranks = refl

bvsle-ranks : ranks BvSle ≡
    (w 1 ∷ w 1 ∷ [], b) ∷ (w 2 ∷ w 2 ∷ [], b) ∷ []
bvsle-ranks = refl

bvsgt-ranks : ranks BvSgt ≡
    (w 1 ∷ w 1 ∷ [], b) ∷ (w 2 ∷ w 2 ∷ [], b) ∷ []
bvsgt-ranks = refl

bvsge-ranks : ranks BvSge ≡
    (w 1 ∷ w 1 ∷ [], b) ∷ (w 2 ∷ w 2 ∷ [], b) ∷ []
bvsge-ranks = refl

bvcomp-ranks : ranks BvComp ≡
    (w 1 ∷ w 1 ∷ [], w 1) ∷ (w 2 ∷ w 2 ∷ [], w 1) ∷ []
bvcomp-ranks = refl

bvuaddo-ranks : ranks BvUaddo ≡
    (w 1 ∷ w 1 ∷ [], b) ∷ (w 2 ∷ w 2 ∷ [], b) ∷ []
bvuaddo-ranks = refl

bvsaddo-ranks : ranks BvSaddo ≡
    (w 1 ∷ w 1 ∷ [], b) ∷ (w 2 ∷ w 2 ∷ [], b) ∷ []
bvsaddo-ranks = refl

bvumulo-ranks : ranks BvUmulo ≡
    (w 1 ∷ w 1 ∷ [], b) ∷ (w 2 ∷ w 2 ∷ [], b) ∷ []
bvumulo-ranks = refl

bvsmulo-ranks : ranks BvSmulo ≡
    (w 1 ∷ w 1 ∷ [], b) ∷ (w 2 ∷ w 2 ∷ [], b) ∷ []
bvsmulo-ranks = refl

bvusubo-ranks : ranks BvUsubo ≡
    (w 1 ∷ w 1 ∷ [], b) ∷ (w 2 ∷ w 2 ∷ [], b) ∷ []
bvusubo-ranks = refl

bvssubo-ranks : ranks BvSsubo ≡
    (w 1 ∷ w 1 ∷ [], b) ∷ (w 2 ∷ w 2 ∷ [], b) ∷ []
bvssubo-ranks = refl

bvsdivo-ranks : ranks BvSdivo ≡
    (w 1 ∷ w 1 ∷ [], b) ∷ (w 2 ∷ w 2 ∷ [], b) ∷ []
bvsdivo-ranks = refl

bvnego-ranks : ranks BvNego ≡
    (w 1 ∷ [], b) ∷ (w 2 ∷ [], b) ∷ []
bvnego-ranks = refl

concat-ranks : ranks Concat ≡
    (w 1 ∷ w 1 ∷ [], w 2) ∷ (w 1 ∷ w 2 ∷ [], w 3) ∷ (w 2 ∷ w 1 ∷ [], w 3) ∷ (w 2 ∷ w 2 ∷ [], w 4) ∷
    []
concat-ranks = refl

extract_0_0-ranks : ranks (Extract 0 0) ≡
    (w 1 ∷ [], w 1) ∷ (w 2 ∷ [], w 1) ∷ []
extract_0_0-ranks = refl

extract_1_0-ranks : ranks (Extract 1 0) ≡
    (w 2 ∷ [], w 2) ∷ []
extract_1_0-ranks = refl

extract_1_1-ranks : ranks (Extract 1 1) ≡
    (w 2 ∷ [], w 1) ∷ []
extract_1_1-ranks = refl

extract_0_1-ranks : ranks (Extract 0 1) ≡
    []
extract_0_1-ranks = refl

extract_2_0-ranks : ranks (Extract 2 0) ≡
    []
extract_2_0-ranks = refl

repeat_0-ranks : ranks (Repeat 0) ≡
    []
repeat_0-ranks = refl

repeat_1-ranks : ranks (Repeat 1) ≡
    (w 1 ∷ [], w 1) ∷ (w 2 ∷ [], w 2) ∷ []
repeat_1-ranks = refl

repeat_2-ranks : ranks (Repeat 2) ≡
    (w 1 ∷ [], w 2) ∷ (w 2 ∷ [], w 4) ∷ []
repeat_2-ranks = refl

zeroextend_0-ranks : ranks (ZeroExtend 0) ≡
    (w 1 ∷ [], w 1) ∷ (w 2 ∷ [], w 2) ∷ []
zeroextend_0-ranks = refl

zeroextend_1-ranks : ranks (ZeroExtend 1) ≡
    (w 1 ∷ [], w 2) ∷ (w 2 ∷ [], w 3) ∷ []
zeroextend_1-ranks = refl

signextend_0-ranks : ranks (SignExtend 0) ≡
    (w 1 ∷ [], w 1) ∷ (w 2 ∷ [], w 2) ∷ []
signextend_0-ranks = refl

signextend_1-ranks : ranks (SignExtend 1) ≡
    (w 1 ∷ [], w 2) ∷ (w 2 ∷ [], w 3) ∷ []
signextend_1-ranks = refl

rotateleft_0-ranks : ranks (RotateLeft 0) ≡
    (w 1 ∷ [], w 1) ∷ (w 2 ∷ [], w 2) ∷ []
rotateleft_0-ranks = refl

rotateleft_5-ranks : ranks (RotateLeft 5) ≡
    (w 1 ∷ [], w 1) ∷ (w 2 ∷ [], w 2) ∷ []
rotateleft_5-ranks = refl

rotateright_0-ranks : ranks (RotateRight 0) ≡
    (w 1 ∷ [], w 1) ∷ (w 2 ∷ [], w 2) ∷ []
rotateright_0-ranks = refl

rotateright_5-ranks : ranks (RotateRight 5) ≡
    (w 1 ∷ [], w 1) ∷ (w 2 ∷ [], w 2) ∷ []
rotateright_5-ranks = refl

ranks-at-limit :
    result_sort Concat (w 64 ∷ w 64 ∷ []) ∷ result_sort Concat (w 64 ∷ w 65 ∷ []) ∷
    result_sort Concat (w 128 ∷ w 1 ∷ []) ∷ result_sort (Extract 127 0) (w 128 ∷ []) ∷
    result_sort (Extract 128 0) (w 128 ∷ []) ∷ result_sort (Extract 127 127) (w 128 ∷ []) ∷
    result_sort (Repeat 64) (w 2 ∷ []) ∷ result_sort (Repeat 65) (w 2 ∷ []) ∷
    result_sort (Repeat 128) (w 1 ∷ []) ∷ result_sort (Repeat 129) (w 1 ∷ []) ∷
    result_sort (ZeroExtend 127) (w 1 ∷ []) ∷ result_sort (ZeroExtend 128) (w 1 ∷ []) ∷
    result_sort (SignExtend 1) (w 127 ∷ []) ∷ result_sort (SignExtend 1) (w 128 ∷ []) ∷
    result_sort (RotateLeft 18446744073709551616) (w 128 ∷ []) ∷
    result_sort (RotateRight 18446744073709551616) (w 128 ∷ []) ∷
    result_sort BvAdd (w 128 ∷ w 128 ∷ []) ∷ []
    ≡ Some (w 128) ∷ None ∷ None ∷ Some (w 128) ∷ None ∷ Some (w 1) ∷ Some (w 128) ∷ None ∷
    Some (w 128) ∷ None ∷ Some (w 128) ∷ None ∷ Some (w 128) ∷ None ∷ Some (w 128) ∷ Some (w 128) ∷
    Some (w 128) ∷ []
ranks-at-limit = refl
