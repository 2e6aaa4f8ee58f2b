-- The leaves of inverse terms.
use Rattle.std.proofs.Common.{◌≡◌, ℕ, zero, suc, ◌-◌, ◌/◌, ◌^◌, ◌==◌, Bool, true, false, cond, Option, Some, None, [], ◌∷◌, slice_get, refl, sym, ◌∙◌}
use Rattle.std.specs.Prelude.{IfSome, unwrap_or}
use Rattle.qv_words.specs.declared.sort.Sort.{Sort}
use Rattle.qv_words.specs.declared.sort.Sort.TheVariants.{Bits, Bool as BoolSort}
use Rattle.qv_words.specs.declared.op.Op.{Op}
use Rattle.qv_words.specs.declared.op.Op.TheVariants.{BvNot, BvNeg, BvAnd, BvOr, BvXor, BvNand, BvNor, BvXnor, BvAdd, BvSub, BvMul, BvUdiv, BvUrem, BvShl, BvLshr, BvAshr, Concat, Extract, Repeat, ZeroExtend, SignExtend, RotateLeft, RotateRight}
use Rattle.qv_words.specs.Rank.{result_sort}
use Rattle.qv_words.specs.Tree.{Tree}
use Rattle.qv_words.specs.Inverse.{other_term, target_term, number, product_row, trailing_zeros, inverse_modulo, amount_chain, zeros_before, zeros_behind}
use Rattle.qv_words.specs.Prenex.{binary}
use Rattle.qv_words.specs.InverseLaws.{IsOver}
use Rattle.qv_words.proofs.InverseCases.{Saying, OfRows, of_rows}

-- a row is over the other argument, and the target of the result's sort
abbrev pub Over : Op → Saying
Over o position sorts value row = (r : Sort) → result_sort o sorts ≡ Some r → IsOver (unwrap_or (slice_get sorts (1 - position)) BoolSort) r row

one_sort : (p : Option Sort) (q r : Sort) → p ≡ Some q → p ≡ Some r → q ≡ r
one_sort p q r e f = same (sym e ∙ f)
  where
    same : Some q ≡ Some r → q ≡ r
    same k = cc

pub before_over : (q r : Sort) (n : ℕ) (t : Tree) → IsOver q r t → IsOver q r (zeros_before n t)
before_over q r zero t h = h
before_over q r (suc n) t h = (tt, (h, tt))

pub behind_over : (q r : Sort) (n : ℕ) (t : Tree) → IsOver q r t → IsOver q r (zeros_behind n t)
behind_over q r zero t h = h
behind_over q r (suc n) t h = (h, (tt, tt))

amount_over : (shift : Op) (w : ℕ) (q r : Sort) (s t : Tree) (i n : ℕ) → IsOver q r s → IsOver q r t → IsOver q r (amount_chain shift w s t i n)
amount_over shift w q r s t i zero g h = tt
amount_over shift w q r s t i (suc n) g h = (((g, (tt, tt)), (h, tt)), (tt, (amount_over shift w q r s t (suc i) n g h, tt)))

product_over : (Q : Tree → Type 0) (w : ℕ) (t : Tree) (value : Option ℕ) → ((c i : ℕ) → Q (binary BvMul (binary BvLshr t (number w c)) (number w i))) → IfSome (product_row w t value) Q
product_over Q w t None each = tt
product_over Q w t (Some s) each = go (s == 0) _ (each (trailing_zeros w s) (inverse_modulo w (s / 2 ^ trailing_zeros w s)))
  where
    go : (b : Bool) (row : Tree) → Q row → IfSome (cond b None (Some row)) Q
    go true row k = tt
    go false row k = k

pub over : (o : Op) → OfRows (Over o) o
over BvNot = of_rows (Over BvNot) BvNot (λ w r value l m e q f. (one_sort _ r q e f, tt)) (λ w v r value lw lv lr e. tt) (λ w v r value lw lv lr e. tt)
over BvNeg = of_rows (Over BvNeg) BvNeg (λ w r value l m e q f. (one_sort _ r q e f, tt)) (λ w v r value lw lv lr e. tt) (λ w v r value lw lv lr e. tt)
over (Repeat k) = of_rows (Over (Repeat k)) (Repeat k) (λ w r value l m e q f. (one_sort _ r q e f, tt)) (λ w v r value lw lv lr e. tt) (λ w v r value lw lv lr e. tt)
over (ZeroExtend k) = of_rows (Over (ZeroExtend k)) (ZeroExtend k) (λ w r value l m e q f. (one_sort _ r q e f, tt)) (λ w v r value lw lv lr e. tt) (λ w v r value lw lv lr e. tt)
over (SignExtend k) = of_rows (Over (SignExtend k)) (SignExtend k) (λ w r value l m e q f. (one_sort _ r q e f, tt)) (λ w v r value lw lv lr e. tt) (λ w v r value lw lv lr e. tt)
over (RotateLeft k) = of_rows (Over (RotateLeft k)) (RotateLeft k) (λ w r value l m e q f. (one_sort _ r q e f, tt)) (λ w v r value lw lv lr e. tt) (λ w v r value lw lv lr e. tt)
over (RotateRight k) = of_rows (Over (RotateRight k)) (RotateRight k) (λ w r value l m e q f. (one_sort _ r q e f, tt)) (λ w v r value lw lv lr e. tt) (λ w v r value lw lv lr e. tt)
over (Extract i j) = of_rows (Over (Extract i j)) (Extract i j) (λ w r value l m e q f. before_over BoolSort q (w - 1 - i) (zeros_behind j (target_term r)) (behind_over BoolSort q j (target_term r) (one_sort _ r q e f))) (λ w v r value lw lv lr e. tt) (λ w v r value lw lv lr e. tt)
over Concat = of_rows (Over Concat) Concat (λ w r value l m e. tt) (λ w v r value lw lv lr e q f. (one_sort _ r q e f, tt)) (λ w v r value lw lv lr e q f. (one_sort _ r q e f, tt))
over BvAnd = of_rows (Over BvAnd) BvAnd (λ w r value l m e. tt) (λ w v r value lw lv lr e q f. one_sort _ r q e f) (λ w v r value lw lv lr e q f. one_sort _ r q e f)
over BvOr = of_rows (Over BvOr) BvOr (λ w r value l m e. tt) (λ w v r value lw lv lr e q f. one_sort _ r q e f) (λ w v r value lw lv lr e q f. one_sort _ r q e f)
over BvNand = of_rows (Over BvNand) BvNand (λ w r value l m e. tt) (λ w v r value lw lv lr e q f. (one_sort _ r q e f, tt)) (λ w v r value lw lv lr e q f. (one_sort _ r q e f, tt))
over BvNor = of_rows (Over BvNor) BvNor (λ w r value l m e. tt) (λ w v r value lw lv lr e q f. (one_sort _ r q e f, tt)) (λ w v r value lw lv lr e q f. (one_sort _ r q e f, tt))
over BvXor = of_rows (Over BvXor) BvXor (λ w r value l m e. tt) (λ w v r value lw lv lr e q f. (one_sort _ r q e f, (refl, tt))) (λ w v r value lw lv lr e q f. (one_sort _ r q e f, (refl, tt)))
over BvXnor = of_rows (Over BvXnor) BvXnor (λ w r value l m e. tt) (λ w v r value lw lv lr e q f. (one_sort _ r q e f, (refl, tt))) (λ w v r value lw lv lr e q f. (one_sort _ r q e f, (refl, tt)))
over BvAdd = of_rows (Over BvAdd) BvAdd (λ w r value l m e. tt) (λ w v r value lw lv lr e q f. (one_sort _ r q e f, (refl, tt))) (λ w v r value lw lv lr e q f. (one_sort _ r q e f, (refl, tt)))
over BvSub = of_rows (Over BvSub) BvSub (λ w r value l m e. tt) (λ w v r value lw lv lr e q f. (one_sort _ r q e f, (refl, tt))) (λ w v r value lw lv lr e q f. (refl, (one_sort _ r q e f, tt)))
over BvUdiv = of_rows (Over BvUdiv) BvUdiv (λ w r value l m e. tt) (λ w v r value lw lv lr e q f. (refl, (one_sort _ r q e f, tt))) (λ w v r value lw lv lr e q f. (refl, (one_sort _ r q e f, tt)))
over BvUrem = of_rows (Over BvUrem) BvUrem (λ w r value l m e. tt) (λ w v r value lw lv lr e q f. one_sort _ r q e f) (λ w v r value lw lv lr e q f. ((refl, (one_sort _ r q e f, tt)), (tt, ((refl, (one_sort _ r q e f, tt)), tt))))
over BvShl = of_rows (Over BvShl) BvShl (λ w r value l m e. tt) (λ w v r value lw lv lr e q f. (one_sort _ r q e f, (refl, tt))) (λ w v r value lw lv lr e q f. amount_over BvShl w (Bits v) q (other_term (Bits v)) (target_term r) 0 w refl (one_sort _ r q e f))
over BvLshr = of_rows (Over BvLshr) BvLshr (λ w r value l m e. tt) (λ w v r value lw lv lr e q f. (one_sort _ r q e f, (refl, tt))) (λ w v r value lw lv lr e q f. amount_over BvLshr w (Bits v) q (other_term (Bits v)) (target_term r) 0 w refl (one_sort _ r q e f))
over BvAshr = of_rows (Over BvAshr) BvAshr (λ w r value l m e. tt) (λ w v r value lw lv lr e q f. ((refl, (tt, tt)), ((one_sort _ r q e f, (refl, tt)), (one_sort _ r q e f, tt)))) (λ w v r value lw lv lr e q f. amount_over BvAshr w (Bits v) q (other_term (Bits v)) (target_term r) 0 w refl (one_sort _ r q e f))
over BvMul =
    of_rows (Over BvMul) BvMul (λ w r value l m e. tt)
    (λ w v r value lw lv lr e. product_over (Over BvMul 0 (Bits w ∷ Bits v ∷ []) value) w (target_term r) value (λ c i q f. ((one_sort _ r q e f, (tt, tt)), (tt, tt))))
    (λ w v r value lw lv lr e. product_over (Over BvMul 1 (Bits v ∷ Bits w ∷ []) value) w (target_term r) value (λ c i q f. ((one_sort _ r q e f, (tt, tt)), (tt, tt))))
over o = of_rows (Over o) o (λ w r value l m e. tt) (λ w v r value lw lv lr e. tt) (λ w v r value lw lv lr e. tt)
