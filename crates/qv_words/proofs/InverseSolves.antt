-- The rows of sums, of the operators that work bit by bit, and of parts solve them.
use Rattle.std.proofs.Common.{◌≡◌, ℕ, ◌+◌, ◌-◌, ◌*◌, ◌/◌, ◌%◌, ◌^◌, ◌<◌, Option, List, [], ◌∷◌, refl, sym, ap, ◌∙◌, subst, arith, slice_get, bit_and, bit_or, bit_xor, lt_of_le_of_lt}
use Rattle.std.specs.Prelude.{unwrap_or}
use Rattle.std.proofs.lemmas.Nat.{mod_below, or_lt, xor_comm, and_comm, or_comm, and_le_l, shr_high, mod_low}
use Rattle.std.proofs.Math.Nat.{mod-eq_of_lt}
use Rattle.qv_words.specs.declared.sort.Sort.{Sort}
use Rattle.qv_words.specs.declared.sort.Sort.TheVariants.{Bits, Bool as BoolSort}
use Rattle.qv_words.specs.declared.op.Op.{Op}
use Rattle.qv_words.specs.declared.op.Op.TheVariants.{BvNot, BvNeg, BvAnd, BvOr, BvXor, BvNand, BvNor, BvXnor, BvAdd, BvSub, Concat, Extract, Repeat, ZeroExtend, SignExtend, RotateLeft, RotateRight}
use Rattle.qv_words.specs.Sort.{IsLawful, IsValueOf}
use Rattle.qv_words.specs.Op.{op_value, turned, copies}
use Rattle.qv_words.specs.Tree.{Tree}
use Rattle.qv_words.specs.Prenex.{binary}
use Rattle.qv_words.specs.Inverse.{Solves, solving, arguments, other_term, target_term}
use Rattle.qv_words.proofs.Unique.{one_meaning}
use Rattle.qv_words.proofs.Bounds.{modulo-lt, complement-lt}
use Rattle.qv_words.proofs.InverseCases.{OfRows, of_pairs, of_ones, of_wider, of_extract, of_concat, wider_by, wider_copies}
use Rattle.qv_words.proofs.InverseRows.{Gives, of_target, of_not, of_neg, of_left, of_right, of_target_other, of_other_target, of_low, of_high, of_between}
use Rattle.qv_words.proofs.InverseValues.{sum_first, sum_second, difference_first, difference_second, opposite, complement_twice, xor_twice, xnor_twice, and_again, or_again, part_of_shifted, low_of_copies, low_of_signed, turned_back}

-- the number that a function gives of s and t solves the operator, wherever any does
abbrev pub IsSolution : Op → ℕ → List Sort → Option ℕ → (ℕ → ℕ → ℕ) → Type 0
IsSolution o position sorts value f =
    (s t x : ℕ) → unwrap_or value s ≡ s → IsValueOf x (unwrap_or (slice_get sorts position) BoolSort) → IsValueOf s (unwrap_or (slice_get sorts (1 - position)) BoolSort) →
    op_value o sorts (arguments position sorts x s) ≡ t → op_value o sorts (arguments position sorts (f s t) s) ≡ t

-- then a tree that gives it solves the operator
pub solves : (o : Op) (position : ℕ) (sorts : List Sort) (value : Option ℕ) (tree : Tree) (w : ℕ) (f : ℕ → ℕ → ℕ) → Gives tree w f → IsSolution o position sorts value f → Solves o position sorts value tree
solves o position sorts value tree w f gives solution s t x y literal is fx fs m =
    let same : f s t ≡ y = one_meaning tree [] (solving s t) (f s t) y (gives s t).means m in
    subst (λ (z : ℕ). op_value o sorts (arguments position sorts z s) ≡ t) same (solution s t x literal fx fs is)

-- what has a value below a bound is below it
below_as : (m x t : ℕ) → x ≡ t → x < m → t < m
below_as m x t e f = subst (λ (n : ℕ). n < m) e f

pub not_solved : OfRows (Solves BvNot) BvNot
not_solved =
    of_ones (Solves BvNot) BvNot (λ w. refl)
    (λ w value l. solves BvNot 0 (Bits w ∷ []) value _ w (λ s t. 2 ^ w - 1 - t) (of_not w l) (λ s t x literal fx fs is. complement_twice (2 ^ w) t (below_as (2 ^ w) (2 ^ w - 1 - x) t is (complement-lt w x))))
    (λ w v r value lw lv lr e. tt) (λ w v r value lw lv lr e. tt)

pub neg_solved : OfRows (Solves BvNeg) BvNeg
neg_solved =
    of_ones (Solves BvNeg) BvNeg (λ w. refl)
    (λ w value l. solves BvNeg 0 (Bits w ∷ []) value _ w (λ s t. (2 ^ w - t) % 2 ^ w) (of_neg w l) (λ s t x literal fx fs is. opposite (2 ^ w) t (below_as (2 ^ w) ((2 ^ w - x) % 2 ^ w) t is (modulo-lt w (2 ^ w - x)))))
    (λ w v r value lw lv lr e. tt) (λ w v r value lw lv lr e. tt)

pub add_solved : OfRows (Solves BvAdd) BvAdd
add_solved =
    of_pairs (Solves BvAdd) BvAdd (λ w v. refl) (λ w r value l m e. tt)
    (λ w value l. solves BvAdd 0 (Bits w ∷ Bits w ∷ []) value _ w (λ s t. (t + 2 ^ w - s) % 2 ^ w) (of_target_other BvSub w refl l) (λ s t x literal fx fs is. sum_first (2 ^ w) x s t fs is))
    (λ w value l. solves BvAdd 1 (Bits w ∷ Bits w ∷ []) value _ w (λ s t. (t + 2 ^ w - s) % 2 ^ w) (of_target_other BvSub w refl l) (λ s t x literal fx fs is. sum_second (2 ^ w) x s t fs is))

pub sub_first : (w : ℕ) (value : Option ℕ) → IsLawful (Bits w) → Solves BvSub 0 (Bits w ∷ Bits w ∷ []) value (binary BvAdd (target_term (Bits w)) (other_term (Bits w)))
sub_first w value l = solves BvSub 0 (Bits w ∷ Bits w ∷ []) value _ w (λ s t. (t + s) % 2 ^ w) (of_target_other BvAdd w refl l) (λ s t x literal fx fs is. difference_first (2 ^ w) x s t fs is)

pub sub_second : (w : ℕ) (value : Option ℕ) → IsLawful (Bits w) → Solves BvSub 1 (Bits w ∷ Bits w ∷ []) value (binary BvSub (other_term (Bits w)) (target_term (Bits w)))
sub_second w value l =
    solves BvSub 1 (Bits w ∷ Bits w ∷ []) value _ w (λ s t. (s + 2 ^ w - t) % 2 ^ w) (of_other_target BvSub w refl l) (λ s t x literal fx fs is. difference_second (2 ^ w) s t fs (below_as (2 ^ w) ((s + 2 ^ w - x) % 2 ^ w) t is (modulo-lt w (s + 2 ^ w - x))))

pub and_solved : OfRows (Solves BvAnd) BvAnd
and_solved =
    of_pairs (Solves BvAnd) BvAnd (λ w v. refl) (λ w r value l m e. tt)
    (λ w value l. solves BvAnd 0 (Bits w ∷ Bits w ∷ []) value _ w (λ s t. t) (of_target w l) (λ s t x literal fx fs is. ap (λ n. bit_and n s) (sym is) ∙ and_again x s ∙ is))
    (λ w value l. solves BvAnd 1 (Bits w ∷ Bits w ∷ []) value _ w (λ s t. t) (of_target w l) (λ s t x literal fx fs is. and_comm s t ∙ ap (λ n. bit_and n s) (sym is ∙ and_comm s x) ∙ and_again x s ∙ and_comm x s ∙ is))

pub or_solved : OfRows (Solves BvOr) BvOr
or_solved =
    of_pairs (Solves BvOr) BvOr (λ w v. refl) (λ w r value l m e. tt)
    (λ w value l. solves BvOr 0 (Bits w ∷ Bits w ∷ []) value _ w (λ s t. t) (of_target w l) (λ s t x literal fx fs is. ap (λ n. bit_or n s) (sym is) ∙ or_again x s ∙ is))
    (λ w value l. solves BvOr 1 (Bits w ∷ Bits w ∷ []) value _ w (λ s t. t) (of_target w l) (λ s t x literal fx fs is. or_comm s t ∙ ap (λ n. bit_or n s) (sym is ∙ or_comm s x) ∙ or_again x s ∙ or_comm x s ∙ is))

pub xor_solved : OfRows (Solves BvXor) BvXor
xor_solved =
    of_pairs (Solves BvXor) BvXor (λ w v. refl) (λ w r value l m e. tt)
    (λ w value l. solves BvXor 0 (Bits w ∷ Bits w ∷ []) value _ w (λ s t. bit_xor t s) (of_target_other BvXor w refl l) (λ s t x literal fx fs is. xor_twice t s))
    (λ w value l. solves BvXor 1 (Bits w ∷ Bits w ∷ []) value _ w (λ s t. bit_xor t s) (of_target_other BvXor w refl l) (λ s t x literal fx fs is. xor_comm s (bit_xor t s) ∙ xor_twice t s))

-- the same of the turned results
nand_value : (w x s t : ℕ) → x < 2 ^ w → 2 ^ w - 1 - bit_and x s ≡ t → 2 ^ w - 1 - t ≡ bit_and x s
nand_value w x s t fx is = ap (λ n. 2 ^ w - 1 - n) (sym is) ∙ complement_twice (2 ^ w) (bit_and x s) (lt_of_le_of_lt (and_le_l x s) fx)

nor_value : (w x s t : ℕ) → x < 2 ^ w → s < 2 ^ w → 2 ^ w - 1 - bit_or x s ≡ t → 2 ^ w - 1 - t ≡ bit_or x s
nor_value w x s t fx fs is = ap (λ n. 2 ^ w - 1 - n) (sym is) ∙ complement_twice (2 ^ w) (bit_or x s) (or_lt w x s fx fs)

pub nand_solved : OfRows (Solves BvNand) BvNand
nand_solved =
    of_pairs (Solves BvNand) BvNand (λ w v. refl) (λ w r value l m e. tt)
    (λ w value l. solves BvNand 0 (Bits w ∷ Bits w ∷ []) value _ w (λ s t. 2 ^ w - 1 - t) (of_not w l) (λ s t x literal fx fs is.
    ap (λ n. 2 ^ w - 1 - bit_and n s) (nand_value w x s t fx is) ∙ ap (λ n. 2 ^ w - 1 - n) (and_again x s) ∙ is))
    (λ w value l. solves BvNand 1 (Bits w ∷ Bits w ∷ []) value _ w (λ s t. 2 ^ w - 1 - t) (of_not w l) (λ s t x literal fx fs is.
    let turned_is : 2 ^ w - 1 - bit_and x s ≡ t = ap (λ n. 2 ^ w - 1 - n) (and_comm x s) ∙ is in
    ap (λ n. 2 ^ w - 1 - n) (and_comm s (2 ^ w - 1 - t)) ∙ ap (λ n. 2 ^ w - 1 - bit_and n s) (nand_value w x s t fx turned_is) ∙ ap (λ n. 2 ^ w - 1 - n) (and_again x s) ∙ turned_is))

pub nor_solved : OfRows (Solves BvNor) BvNor
nor_solved =
    of_pairs (Solves BvNor) BvNor (λ w v. refl) (λ w r value l m e. tt)
    (λ w value l. solves BvNor 0 (Bits w ∷ Bits w ∷ []) value _ w (λ s t. 2 ^ w - 1 - t) (of_not w l) (λ s t x literal fx fs is.
    ap (λ n. 2 ^ w - 1 - bit_or n s) (nor_value w x s t fx fs is) ∙ ap (λ n. 2 ^ w - 1 - n) (or_again x s) ∙ is))
    (λ w value l. solves BvNor 1 (Bits w ∷ Bits w ∷ []) value _ w (λ s t. 2 ^ w - 1 - t) (of_not w l) (λ s t x literal fx fs is.
    let turned_is : 2 ^ w - 1 - bit_or x s ≡ t = ap (λ n. 2 ^ w - 1 - n) (or_comm x s) ∙ is in
    ap (λ n. 2 ^ w - 1 - n) (or_comm s (2 ^ w - 1 - t)) ∙ ap (λ n. 2 ^ w - 1 - bit_or n s) (nor_value w x s t fx fs turned_is) ∙ ap (λ n. 2 ^ w - 1 - n) (or_again x s) ∙ turned_is))

pub xnor_solved : OfRows (Solves BvXnor) BvXnor
xnor_solved =
    of_pairs (Solves BvXnor) BvXnor (λ w v. refl) (λ w r value l m e. tt)
    (λ w value l. solves BvXnor 0 (Bits w ∷ Bits w ∷ []) value _ w (λ s t. 2 ^ w - 1 - bit_xor t s) (of_target_other BvXnor w refl l) (λ s t x literal fx fs is.
    xnor_twice w t s (below_as (2 ^ w) (2 ^ w - 1 - bit_xor x s) t is (complement-lt w (bit_xor x s))) fs))
    (λ w value l. solves BvXnor 1 (Bits w ∷ Bits w ∷ []) value _ w (λ s t. 2 ^ w - 1 - bit_xor t s) (of_target_other BvXnor w refl l) (λ s t x literal fx fs is.
    ap (λ n. 2 ^ w - 1 - n) (xor_comm s (2 ^ w - 1 - bit_xor t s)) ∙ xnor_twice w t s (below_as (2 ^ w) (2 ^ w - 1 - bit_xor s x) t is (complement-lt w (bit_xor s x))) fs))

-- parts: the row is the argument itself, or has the same bits in the part
pub concat_solved : OfRows (Solves Concat) Concat
concat_solved =
    of_concat (Solves Concat)
    (λ w v value l m. solves Concat 0 (Bits w ∷ Bits v ∷ []) value _ w (λ s t. t / 2 ^ v % 2 ^ w) (of_high w v l m) (λ s t x literal fx fs is.
    let same : t / 2 ^ v % 2 ^ w ≡ x = ap (λ n. n / 2 ^ v % 2 ^ w) (sym is) ∙ ap (λ n. n % 2 ^ w) (shr_high x v s fs) ∙ mod-eq_of_lt fx in
    ap (λ n. n * 2 ^ v + s) same ∙ is))
    (λ w v value l m. solves Concat 1 (Bits v ∷ Bits w ∷ []) value _ w (λ s t. t % 2 ^ w) (of_low w (v + w) l m (omega arith)) (λ s t x literal fx fs is.
    let same : t % 2 ^ w ≡ x = ap (λ n. n % 2 ^ w) (sym is) ∙ mod_low s w x fx in
    ap (λ n. s * 2 ^ w + n) same ∙ is))

pub extract_solved : (i j : ℕ) → OfRows (Solves (Extract i j)) (Extract i j)
extract_solved i j =
    of_extract (Solves (Extract i j)) i j (λ w value l inside order.
    solves (Extract i j) 0 (Bits w ∷ []) value _ w (λ s t. t * 2 ^ j) (of_between w i j l inside order) (λ s t x literal fx fs is.
    part_of_shifted t j (i - j + 1) (below_as (2 ^ (i - j + 1)) (x / 2 ^ j % 2 ^ (i - j + 1)) t is (modulo-lt (i - j + 1) (x / 2 ^ j)))))

pub repeat_solved : (k : ℕ) → OfRows (Solves (Repeat k)) (Repeat k)
repeat_solved k =
    of_wider (Solves (Repeat k)) (Repeat k) (λ w r l. wider_copies k w r) (λ w n value l m h.
    solves (Repeat k) 0 (Bits w ∷ []) value _ w (λ s t. t % 2 ^ w) (of_low w n l m h) (λ s t x literal fx fs is.
    ap (λ n. copies k w (n % 2 ^ w)) (sym is) ∙ low_of_copies k w x fx ∙ is))
    (λ w v r value lw lv lr e. tt) (λ w v r value lw lv lr e. tt)

pub zero_extend_solved : (k : ℕ) → OfRows (Solves (ZeroExtend k)) (ZeroExtend k)
zero_extend_solved k =
    of_wider (Solves (ZeroExtend k)) (ZeroExtend k) (λ w r l. wider_by k w r) (λ w n value l m h.
    solves (ZeroExtend k) 0 (Bits w ∷ []) value _ w (λ s t. t % 2 ^ w) (of_low w n l m h) (λ s t x literal fx fs is.
    mod-eq_of_lt (below_as (2 ^ w) x t is fx)))
    (λ w v r value lw lv lr e. tt) (λ w v r value lw lv lr e. tt)

pub sign_extend_solved : (k : ℕ) → OfRows (Solves (SignExtend k)) (SignExtend k)
sign_extend_solved k =
    of_wider (Solves (SignExtend k)) (SignExtend k) (λ w r l. wider_by k w r) (λ w n value l m h.
    solves (SignExtend k) 0 (Bits w ∷ []) value _ w (λ s t. t % 2 ^ w) (of_low w n l m h) (λ s t x literal fx fs is.
    let same : t % 2 ^ w ≡ x = ap (λ n. n % 2 ^ w) (sym is) ∙ low_of_signed w k x fx in
    ap (λ n. op_value (SignExtend k) (Bits w ∷ []) (n ∷ [])) same ∙ is))
    (λ w v r value lw lv lr e. tt) (λ w v r value lw lv lr e. tt)

-- a turn back gives the argument
pub left_solved : (k : ℕ) → OfRows (Solves (RotateLeft k)) (RotateLeft k)
left_solved k =
    of_ones (Solves (RotateLeft k)) (RotateLeft k) (λ w. refl) (λ w value l.
    solves (RotateLeft k) 0 (Bits w ∷ []) value _ w (λ s t. turned w t (k % w)) (of_right w k l) (λ s t x literal fx fs is.
    let part : k % w < w = mod_below k w l.0 in
    let same : turned w t (k % w) ≡ x = ap (λ n. turned w n (k % w)) (sym is) ∙ turned_back w (k % w) x (omega arith) fx in
    ap (λ n. turned w n (w - k % w)) same ∙ is))
    (λ w v r value lw lv lr e. tt) (λ w v r value lw lv lr e. tt)

pub right_solved : (k : ℕ) → OfRows (Solves (RotateRight k)) (RotateRight k)
right_solved k =
    of_ones (Solves (RotateRight k)) (RotateRight k) (λ w. refl) (λ w value l.
    solves (RotateRight k) 0 (Bits w ∷ []) value _ w (λ s t. turned w t (w - k % w)) (of_left w k l) (λ s t x literal fx fs is.
    let part : k % w < w = mod_below k w l.0 in
    let there : w - (w - k % w) ≡ k % w = omega arith in
    let back : turned w (turned w x (k % w)) (w - k % w) ≡ x = ap (λ n. turned w (turned w x n) (w - k % w)) (sym there) ∙ turned_back w (w - k % w) x (omega arith) fx in
    let same : turned w t (w - k % w) ≡ x = ap (λ n. turned w n (w - k % w)) (sym is) ∙ back in
    ap (λ n. turned w n (k % w)) same ∙ is))
    (λ w v r value lw lv lr e. tt) (λ w v r value lw lv lr e. tt)
