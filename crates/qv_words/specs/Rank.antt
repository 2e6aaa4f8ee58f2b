-- The ranks of the operators: which sorts of arguments each takes, and the sort of its result, as
-- the standard's theories Core and FixedSizeBitVectors have them, for widths up to 128.
use Rattle.std.specs.Prelude.{ℕ, ◌+◌, ◌-◌, ◌*◌, ◌==◌, nat_lt, nat_le, ◌&&◌, Option, Some, None, option_map, option_and_then, List, [], ◌∷◌, if◌then◌else◌}
use Rattle.std.specs.Prelude.{Bool as Truth, true, false}
use Rattle.qv_words.specs.declared.sort.Sort.{Sort}
use Rattle.qv_words.specs.declared.sort.Sort.TheVariants.{Bool, Bits}
use Rattle.qv_words.specs.declared.op.Op.{Op}
use Rattle.qv_words.specs.declared.op.Op.TheVariants.{Not, And, Or, Xor, Implies, Equal, Ite, BvNot, BvNeg, BvAnd, BvOr, BvXor, BvNand, BvNor, BvXnor, BvAdd, BvSub, BvMul, BvUdiv, BvUrem, BvSdiv, BvSrem, BvSmod, BvShl, BvLshr, BvAshr, BvUlt, BvUle, BvUgt, BvUge, BvSlt, BvSle, BvSgt, BvSge, BvComp, Concat, Extract, Repeat, ZeroExtend, SignExtend, RotateLeft, RotateRight, BvNego, BvUaddo, BvSaddo, BvUmulo, BvSmulo, BvUsubo, BvSsubo, BvSdivo}

-- whether two sorts are the same
abbrev pub sort_eq : Sort → Sort → Truth
sort_eq Bool Bool = true
sort_eq Bool (Bits w) = false
sort_eq (Bits v) Bool = false
sort_eq (Bits v) (Bits w) = v == w

-- one truth value, and two
abbrev pub one_bool : List Sort → Option Sort
one_bool (Bool ∷ []) = Some Bool
one_bool _ = None

abbrev pub two_bools : List Sort → Option Sort
two_bools (Bool ∷ Bool ∷ []) = Some Bool
two_bools _ = None

-- the sort of two arguments of one sort
abbrev pub two_alike : List Sort → Option Sort
two_alike (s ∷ t ∷ []) = if sort_eq s t then Some s else None
two_alike _ = None

-- the sort of a choice between two values of one sort
abbrev pub choice : List Sort → Option Sort
choice (Bool ∷ s ∷ t ∷ []) = if sort_eq s t then Some s else None
choice _ = None

-- the width of one bit-vector, of two of one width, and of two behind one another
abbrev pub one_width : List Sort → Option ℕ
one_width (Bits w ∷ []) = Some w
one_width _ = None

abbrev pub two_widths : List Sort → Option ℕ
two_widths (Bits v ∷ Bits w ∷ []) = if v == w then Some v else None
two_widths _ = None

abbrev pub joined_width : List Sort → Option ℕ
joined_width (Bits v ∷ Bits w ∷ []) = Some (v + w)
joined_width _ = None

-- the bit-vectors of a width of at most 128
abbrev pub bits_of : ℕ → Option Sort
bits_of w = if nat_le w 128 then Some (Bits w) else None

-- bits i down to j of w bits, and k copies of w bits, where there are such
abbrev pub bits_between : (i j w : ℕ) → Option Sort
bits_between i j w = if nat_lt i w && nat_le j i then Some (Bits (i - j + 1)) else None

abbrev pub bits_repeated : (k w : ℕ) → Option Sort
bits_repeated k w = if nat_le 1 k then bits_of (k * w) else None

-- the sort of the result, where the arguments' sorts have a rank
abbrev pub result_sort : Op → List Sort → Option Sort
result_sort Not sorts = one_bool sorts
result_sort And sorts = two_bools sorts
result_sort Or sorts = two_bools sorts
result_sort Xor sorts = two_bools sorts
result_sort Implies sorts = two_bools sorts
result_sort Equal sorts = option_map (λ _. Bool) (two_alike sorts)
result_sort Ite sorts = choice sorts
result_sort BvNot sorts = option_map Bits (one_width sorts)
result_sort BvNeg sorts = option_map Bits (one_width sorts)
result_sort BvAnd sorts = option_map Bits (two_widths sorts)
result_sort BvOr sorts = option_map Bits (two_widths sorts)
result_sort BvXor sorts = option_map Bits (two_widths sorts)
result_sort BvNand sorts = option_map Bits (two_widths sorts)
result_sort BvNor sorts = option_map Bits (two_widths sorts)
result_sort BvXnor sorts = option_map Bits (two_widths sorts)
result_sort BvAdd sorts = option_map Bits (two_widths sorts)
result_sort BvSub sorts = option_map Bits (two_widths sorts)
result_sort BvMul sorts = option_map Bits (two_widths sorts)
result_sort BvUdiv sorts = option_map Bits (two_widths sorts)
result_sort BvUrem sorts = option_map Bits (two_widths sorts)
result_sort BvSdiv sorts = option_map Bits (two_widths sorts)
result_sort BvSrem sorts = option_map Bits (two_widths sorts)
result_sort BvSmod sorts = option_map Bits (two_widths sorts)
result_sort BvShl sorts = option_map Bits (two_widths sorts)
result_sort BvLshr sorts = option_map Bits (two_widths sorts)
result_sort BvAshr sorts = option_map Bits (two_widths sorts)
result_sort BvUlt sorts = option_map (λ _. Bool) (two_widths sorts)
result_sort BvUle sorts = option_map (λ _. Bool) (two_widths sorts)
result_sort BvUgt sorts = option_map (λ _. Bool) (two_widths sorts)
result_sort BvUge sorts = option_map (λ _. Bool) (two_widths sorts)
result_sort BvSlt sorts = option_map (λ _. Bool) (two_widths sorts)
result_sort BvSle sorts = option_map (λ _. Bool) (two_widths sorts)
result_sort BvSgt sorts = option_map (λ _. Bool) (two_widths sorts)
result_sort BvSge sorts = option_map (λ _. Bool) (two_widths sorts)
result_sort BvComp sorts = option_map (λ _. Bits 1) (two_widths sorts)
result_sort Concat sorts = option_and_then bits_of (joined_width sorts)
result_sort (Extract i j) sorts = option_and_then (bits_between i j) (one_width sorts)
result_sort (Repeat k) sorts = option_and_then (bits_repeated k) (one_width sorts)
result_sort (ZeroExtend k) sorts = option_and_then (λ w. bits_of (w + k)) (one_width sorts)
result_sort (SignExtend k) sorts = option_and_then (λ w. bits_of (w + k)) (one_width sorts)
result_sort (RotateLeft k) sorts = option_map Bits (one_width sorts)
result_sort (RotateRight k) sorts = option_map Bits (one_width sorts)
result_sort BvNego sorts = option_map (λ _. Bool) (one_width sorts)
result_sort BvUaddo sorts = option_map (λ _. Bool) (two_widths sorts)
result_sort BvSaddo sorts = option_map (λ _. Bool) (two_widths sorts)
result_sort BvUmulo sorts = option_map (λ _. Bool) (two_widths sorts)
result_sort BvSmulo sorts = option_map (λ _. Bool) (two_widths sorts)
result_sort BvUsubo sorts = option_map (λ _. Bool) (two_widths sorts)
result_sort BvSsubo sorts = option_map (λ _. Bool) (two_widths sorts)
result_sort BvSdivo sorts = option_map (λ _. Bool) (two_widths sorts)
