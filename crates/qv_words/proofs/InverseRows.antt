-- The rows of inverse terms: each is a sorted tree, and stands for a number over s and t.
use Rattle.std.proofs.Common.{◌≡◌, ℕ, zero, suc, ◌+◌, ◌-◌, ◌*◌, ◌/◌, ◌%◌, ◌^◌, ◌≤◌, ◌<◌, ◌==◌, cond, nat_lt, [], ◌∷◌, refl, arith, lt_of_le_of_lt}
use Rattle.std.specs.Prelude.{option_map}
use Rattle.std.proofs.lemmas.Bool.{cond_both}
use Rattle.std.proofs.lemmas.Nat.{pow_pos, pow-add}
use Rattle.qv_words.specs.declared.sort.Sort.TheVariants.{Bits}
use Rattle.qv_words.specs.declared.op.Op.{Op}
use Rattle.qv_words.specs.declared.op.Op.TheVariants.{Equal, BvNot, BvNeg, BvSub, BvMul, BvShl, BvLshr, BvUlt, Extract, RotateLeft, RotateRight}
use Rattle.qv_words.specs.Sort.{IsLawful}
use Rattle.qv_words.specs.Rank.{result_sort, two_widths}
use Rattle.qv_words.specs.Op.{op_value, turned, shifted_left}
use Rattle.qv_words.specs.Tree.{Tree}
use Rattle.qv_words.specs.Prenex.{binary, ite}
use Rattle.qv_words.specs.Inverse.{unary, number, other_term, target_term, trailing_zeros, inverse_modulo, amount_chain, zeros_before, zeros_behind}
use Rattle.qv_words.proofs.Bounds.{modulo-lt}
use Rattle.qv_words.proofs.InverseTrees.{Stands, stands_other, stands_target, stands_number, stands_unary, stands_pair, stands_equal, stands_less, stands_choice, stands_as, stands_before, stands_behind, stands_part, stands_low}

-- whatever s and t are, a tree of w bits means the number that a function gives of them
abbrev pub Gives : Tree → ℕ → (ℕ → ℕ → ℕ) → Type 0
Gives tree w f = (s t : ℕ) → Stands s t tree (Bits w) (f s t)

pub of_target : (w : ℕ) → IsLawful (Bits w) → Gives (target_term (Bits w)) w (λ s t. t)
of_target w l s t = stands_target s t (Bits w) l

of_other : (w : ℕ) → IsLawful (Bits w) → Gives (other_term (Bits w)) w (λ s t. s)
of_other w l s t = stands_other s t (Bits w) l

pub of_not : (w : ℕ) → IsLawful (Bits w) → Gives (unary BvNot (target_term (Bits w))) w (λ s t. 2 ^ w - 1 - t)
of_not w l s t = stands_unary s t BvNot (target_term (Bits w)) (Bits w) (Bits w) t refl (of_target w l s t)

pub of_neg : (w : ℕ) → IsLawful (Bits w) → Gives (unary BvNeg (target_term (Bits w))) w (λ s t. (2 ^ w - t) % 2 ^ w)
of_neg w l s t = stands_unary s t BvNeg (target_term (Bits w)) (Bits w) (Bits w) t refl (of_target w l s t)

pub of_left : (w k : ℕ) → IsLawful (Bits w) → Gives (unary (RotateLeft k) (target_term (Bits w))) w (λ s t. turned w t (w - k % w))
of_left w k l s t = stands_unary s t (RotateLeft k) (target_term (Bits w)) (Bits w) (Bits w) t refl (of_target w l s t)

pub of_right : (w k : ℕ) → IsLawful (Bits w) → Gives (unary (RotateRight k) (target_term (Bits w))) w (λ s t. turned w t (k % w))
of_right w k l s t = stands_unary s t (RotateRight k) (target_term (Bits w)) (Bits w) (Bits w) t refl (of_target w l s t)

-- an operator of the target and the other argument, in both orders
abbrev pub IsAlike : Op → ℕ → Type 0
IsAlike o w = result_sort o (Bits w ∷ Bits w ∷ []) ≡ option_map Bits (two_widths (Bits w ∷ Bits w ∷ []))

pub of_target_other : (o : Op) (w : ℕ) → IsAlike o w → IsLawful (Bits w) → Gives (binary o (target_term (Bits w)) (other_term (Bits w))) w (λ s t. op_value o (Bits w ∷ Bits w ∷ []) (t ∷ s ∷ []))
of_target_other o w rank l s t = stands_pair s t o (target_term (Bits w)) (other_term (Bits w)) w t s rank (of_target w l s t) (of_other w l s t)

pub of_other_target : (o : Op) (w : ℕ) → IsAlike o w → IsLawful (Bits w) → Gives (binary o (other_term (Bits w)) (target_term (Bits w))) w (λ s t. op_value o (Bits w ∷ Bits w ∷ []) (s ∷ t ∷ []))
of_other_target o w rank l s t = stands_pair s t o (other_term (Bits w)) (target_term (Bits w)) w s t rank (of_other w l s t) (of_target w l s t)

-- a part of the target, of v bits
pub of_low : (w v : ℕ) → IsLawful (Bits w) → IsLawful (Bits v) → w ≤ v → Gives (unary (Extract (w - 1) 0) (target_term (Bits v))) w (λ s t. t % 2 ^ w)
of_low w v l m inside s t = stands_low s t v w t (target_term (Bits v)) l.0 inside (of_target v m s t)

pub of_high : (w v : ℕ) → IsLawful (Bits w) → IsLawful (Bits (w + v)) → Gives (unary (Extract (w + v - 1) v) (target_term (Bits (w + v)))) w (λ s t. t / 2 ^ v % 2 ^ w)
of_high w v l m s t =
    let some : 1 ≤ w = l.0 in
    stands_part s t (w + v - 1) v (w + v) w t (target_term (Bits (w + v))) (omega arith) (omega arith) (omega arith) (of_target (w + v) m s t)

-- the target between zeros
pub of_between : (w i j : ℕ) → IsLawful (Bits w) → i < w → j ≤ i → Gives (zeros_before (w - 1 - i) (zeros_behind j (target_term (Bits (i - j + 1))))) w (λ s t. t * 2 ^ j)
of_between w i j l inside order s t =
    let most : w ≤ 128 = l.1 in
    let target = stands_target s t (Bits (i - j + 1)) (omega arith, omega arith) in
    let behind = stands_behind s t j (i - j + 1) t (target_term (Bits (i - j + 1))) (omega arith) target in
    stands_as s t (zeros_before (w - 1 - i) (zeros_behind j (target_term (Bits (i - j + 1))))) (w - 1 - i + (i - j + 1 + j)) w (t * 2 ^ j) (t * 2 ^ j) (omega arith) refl
    (stands_before s t (w - 1 - i) (i - j + 1 + j) (t * 2 ^ j) (zeros_behind j (target_term (Bits (i - j + 1)))) (omega arith) behind)

-- a number is below 2 to its power
pub below_pow : (n : ℕ) → n < 2 ^ n
below_pow zero = pow_pos 0
below_pow (suc n) = omega (arith, below_pow n, pow-add 2 n 1)

-- the literals of a product's row
pub trailing-le : (k n : ℕ) → trailing_zeros k n ≤ k
trailing-le zero n = omega arith
trailing-le (suc k) n = cond_both (n % 2 == 0) (suc (trailing_zeros k (n / 2))) 0 (λ x. x ≤ suc k) (λ _. omega (arith, trailing-le k (n / 2))) (λ _. omega arith)

pub inverse-lt : (w a : ℕ) → inverse_modulo w a < 2 ^ w
unfolding inverse_modulo
inverse-lt w a = search modulo-lt

pub of_product : (w c i : ℕ) → IsLawful (Bits w) → c ≤ w → i < 2 ^ w → Gives (binary BvMul (binary BvLshr (target_term (Bits w)) (number w c)) (number w i)) w (λ s t. op_value BvLshr (Bits w ∷ Bits w ∷ []) (t ∷ c ∷ []) * i % 2 ^ w)
of_product w c i l h f s t =
    let shifted = stands_pair s t BvLshr (target_term (Bits w)) (number w c) w t c refl (of_target w l s t) (stands_number s t w c l (lt_of_le_of_lt h (below_pow w))) in
    stands_pair s t BvMul (binary BvLshr (target_term (Bits w)) (number w c)) (number w i) w (op_value BvLshr (Bits w ∷ Bits w ∷ []) (t ∷ c ∷ [])) i refl shifted (stands_number s t w i l f)

-- the first amount from i on, of which there are n before the width, by which s shifted is t
abbrev pub first_amount : Op → (w s t i : ℕ) → ℕ → ℕ
first_amount shift w s t i zero = w
first_amount shift w s t i (suc n) = cond (op_value shift (Bits w ∷ Bits w ∷ []) (s ∷ i ∷ []) == t) i (first_amount shift w s t (suc i) n)

amount_from : (shift : Op) (w : ℕ) → IsAlike shift w → IsLawful (Bits w) → (i n : ℕ) → i + n ≤ w → Gives (amount_chain shift w (other_term (Bits w)) (target_term (Bits w)) i n) w (λ s t. first_amount shift w s t i n)
amount_from shift w rank l i zero h s t = stands_number s t w w l (below_pow w)
amount_from shift w rank l i (suc n) h s t =
    let amount = stands_number s t w i l (lt_of_le_of_lt (omega arith) (below_pow w)) in
    let shifted = stands_pair s t shift (other_term (Bits w)) (number w i) w s i rank (of_other w l s t) amount in
    let at = stands_equal s t (binary shift (other_term (Bits w)) (number w i)) (target_term (Bits w)) w (op_value shift (Bits w ∷ Bits w ∷ []) (s ∷ i ∷ [])) t shifted (of_target w l s t) in
    stands_choice s t (binary Equal (binary shift (other_term (Bits w)) (number w i)) (target_term (Bits w))) (number w i) (amount_chain shift w (other_term (Bits w)) (target_term (Bits w)) (suc i) n)
    w i (first_amount shift w s t (suc i) n) (op_value shift (Bits w ∷ Bits w ∷ []) (s ∷ i ∷ []) == t) at amount (amount_from shift w rank l (suc i) n (omega arith) s t)

pub of_amount : (shift : Op) (w : ℕ) → IsAlike shift w → IsLawful (Bits w) → Gives (amount_chain shift w (other_term (Bits w)) (target_term (Bits w)) 0 w) w (λ s t. first_amount shift w s t 0 w)
of_amount shift w rank l = amount_from shift w rank l 0 w (omega arith)

-- the row for what is shifted with its sign, and for a divisor
pub of_signed : (w : ℕ) → IsLawful (Bits w) → Gives (ite (binary BvUlt (other_term (Bits w)) (number w w)) (binary BvShl (target_term (Bits w)) (other_term (Bits w))) (target_term (Bits w))) w (λ s t. cond (nat_lt s w) (shifted_left w t s) t)
of_signed w l s t =
    let less = stands_less s t (other_term (Bits w)) (number w w) w s w (of_other w l s t) (stands_number s t w w l (below_pow w)) in
    let shifted = of_target_other BvShl w refl l s t in
    stands_choice s t (binary BvUlt (other_term (Bits w)) (number w w)) (binary BvShl (target_term (Bits w)) (other_term (Bits w))) (target_term (Bits w)) w (shifted_left w t s) t (nat_lt s w) less shifted (of_target w l s t)

pub of_divisor : (w n : ℕ) → n ≤ w → IsLawful (Bits w) → Gives (ite (binary Equal (other_term (Bits w)) (target_term (Bits w))) (number w n) (binary BvSub (other_term (Bits w)) (target_term (Bits w)))) w (λ s t. cond (s == t) n ((s + 2 ^ w - t) % 2 ^ w))
of_divisor w n h l s t =
    let same = stands_equal s t (other_term (Bits w)) (target_term (Bits w)) w s t (of_other w l s t) (of_target w l s t) in
    stands_choice s t (binary Equal (other_term (Bits w)) (target_term (Bits w))) (number w n) (binary BvSub (other_term (Bits w)) (target_term (Bits w))) w n ((s + 2 ^ w - t) % 2 ^ w) (s == t) same
    (stands_number s t w n l (lt_of_le_of_lt h (below_pow w))) (of_other_target BvSub w refl l s t)
