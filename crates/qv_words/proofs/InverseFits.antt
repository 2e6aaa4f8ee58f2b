-- Each inverse term is a sorted tree of its argument's sort.
use Rattle.std.proofs.Common.{◌≡◌, ℕ, ◌+◌, ◌/◌, ◌^◌, ◌==◌, Bool, true, false, Option, Some, None, ◌∷◌, [], cond, slice_get, arith, refl, ◌*◌, ◌%◌}
use Rattle.std.specs.Prelude.{IfSome}
use Rattle.qv_words.specs.declared.sort.Sort.TheVariants.{Bits}
use Rattle.qv_words.specs.declared.op.Op.{Op}
use Rattle.qv_words.specs.declared.op.Op.TheVariants.{BvNot, BvNeg, BvAnd, BvOr, BvXor, BvNand, BvNor, BvXnor, BvAdd, BvSub, BvMul, BvUdiv, BvUrem, BvShl, BvLshr, BvAshr, Concat, Extract, Repeat, ZeroExtend, SignExtend, RotateLeft, RotateRight}
use Rattle.qv_words.specs.Sort.{IsLawful}
use Rattle.qv_words.specs.Tree.{Tree, tree_sort}
use Rattle.qv_words.specs.Sorted.{IsSorted}
use Rattle.qv_words.specs.Prenex.{binary}
use Rattle.qv_words.specs.Op.{op_value}
use Rattle.qv_words.specs.Inverse.{product_row, number, target_term, trailing_zeros, inverse_modulo}
use Rattle.qv_words.proofs.InverseCases.{Saying, OfRows, of_rows, of_pairs, of_ones, of_wider, of_extract, of_concat, wider_by, wider_copies}
use Rattle.qv_words.proofs.InverseRows.{Gives, of_target, of_not, of_neg, of_left, of_right, of_target_other, of_other_target, of_low, of_high, of_between, of_product, of_amount, of_signed, of_divisor, trailing-le, inverse-lt}

abbrev pub Fit : Saying
Fit position sorts value row = IsSorted row × (tree_sort row ≡ slice_get sorts position)

-- a tree that stands for a number is sorted
fit : (tree : Tree) (w : ℕ) (f : ℕ → ℕ → ℕ) → Gives tree w f → IsSorted tree × (tree_sort tree ≡ Some (Bits w))
fit tree w f g = let h = g 0 0 in (h.sorted, h.sort)

product_fits : (w : ℕ) (value : Option ℕ) → IsLawful (Bits w) → IfSome (product_row w (target_term (Bits w)) value) (λ row. IsSorted row × (tree_sort row ≡ Some (Bits w)))
product_fits w None l = tt
product_fits w (Some s) l = go (s == 0)
  where
    c : ℕ
    c = trailing_zeros w s

    i : ℕ
    i = inverse_modulo w (s / 2 ^ c)

    go : (b : Bool) → IfSome (cond b None (Some (binary BvMul (binary BvLshr (target_term (Bits w)) (number w c)) (number w i)))) (λ row. IsSorted row × (tree_sort row ≡ Some (Bits w)))
    go true = tt
    go false =
        fit (binary BvMul (binary BvLshr (target_term (Bits w)) (number w c)) (number w i)) w (λ s t. op_value BvLshr (Bits w ∷ Bits w ∷ []) (t ∷ c ∷ []) * i % 2 ^ w)
        (of_product w c i l (trailing-le w s) (inverse-lt w (s / 2 ^ c)))

pub fits : (o : Op) → OfRows Fit o
fits BvNot = of_ones Fit BvNot (λ w. refl) (λ w value l. fit _ w _ (of_not w l)) (λ w v r value lw lv lr e. tt) (λ w v r value lw lv lr e. tt)
fits BvNeg = of_ones Fit BvNeg (λ w. refl) (λ w value l. fit _ w _ (of_neg w l)) (λ w v r value lw lv lr e. tt) (λ w v r value lw lv lr e. tt)
fits (RotateLeft k) = of_ones Fit (RotateLeft k) (λ w. refl) (λ w value l. fit _ w _ (of_right w k l)) (λ w v r value lw lv lr e. tt) (λ w v r value lw lv lr e. tt)
fits (RotateRight k) = of_ones Fit (RotateRight k) (λ w. refl) (λ w value l. fit _ w _ (of_left w k l)) (λ w v r value lw lv lr e. tt) (λ w v r value lw lv lr e. tt)
fits (Repeat k) = of_wider Fit (Repeat k) (λ w r l. wider_copies k w r) (λ w n value l m h. fit _ w _ (of_low w n l m h)) (λ w v r value lw lv lr e. tt) (λ w v r value lw lv lr e. tt)
fits (ZeroExtend k) = of_wider Fit (ZeroExtend k) (λ w r l. wider_by k w r) (λ w n value l m h. fit _ w _ (of_low w n l m h)) (λ w v r value lw lv lr e. tt) (λ w v r value lw lv lr e. tt)
fits (SignExtend k) = of_wider Fit (SignExtend k) (λ w r l. wider_by k w r) (λ w n value l m h. fit _ w _ (of_low w n l m h)) (λ w v r value lw lv lr e. tt) (λ w v r value lw lv lr e. tt)
fits (Extract i j) = of_extract Fit i j (λ w value l inside order. fit _ w _ (of_between w i j l inside order))
fits Concat = of_concat Fit (λ w v value l m. fit _ w _ (of_high w v l m)) (λ w v value l m. fit _ w _ (of_low w (v + w) l m (omega arith)))
fits BvAnd = of_pairs Fit BvAnd (λ w v. refl) (λ w r value l m e. tt) (λ w value l. fit _ w _ (of_target w l)) (λ w value l. fit _ w _ (of_target w l))
fits BvOr = of_pairs Fit BvOr (λ w v. refl) (λ w r value l m e. tt) (λ w value l. fit _ w _ (of_target w l)) (λ w value l. fit _ w _ (of_target w l))
fits BvNand = of_pairs Fit BvNand (λ w v. refl) (λ w r value l m e. tt) (λ w value l. fit _ w _ (of_not w l)) (λ w value l. fit _ w _ (of_not w l))
fits BvNor = of_pairs Fit BvNor (λ w v. refl) (λ w r value l m e. tt) (λ w value l. fit _ w _ (of_not w l)) (λ w value l. fit _ w _ (of_not w l))
fits BvXor = of_pairs Fit BvXor (λ w v. refl) (λ w r value l m e. tt) (λ w value l. fit _ w _ (of_target_other BvXor w refl l)) (λ w value l. fit _ w _ (of_target_other BvXor w refl l))
fits BvXnor = of_pairs Fit BvXnor (λ w v. refl) (λ w r value l m e. tt) (λ w value l. fit _ w _ (of_target_other BvXnor w refl l)) (λ w value l. fit _ w _ (of_target_other BvXnor w refl l))
fits BvAdd = of_pairs Fit BvAdd (λ w v. refl) (λ w r value l m e. tt) (λ w value l. fit _ w _ (of_target_other BvSub w refl l)) (λ w value l. fit _ w _ (of_target_other BvSub w refl l))
fits BvSub = of_pairs Fit BvSub (λ w v. refl) (λ w r value l m e. tt) (λ w value l. fit _ w _ (of_target_other BvAdd w refl l)) (λ w value l. fit _ w _ (of_other_target BvSub w refl l))
fits BvMul = of_pairs Fit BvMul (λ w v. refl) (λ w r value l m e. tt) product_fits product_fits
fits BvUdiv = of_pairs Fit BvUdiv (λ w v. refl) (λ w r value l m e. tt) (λ w value l. fit _ w _ (of_other_target BvMul w refl l)) (λ w value l. fit _ w _ (of_other_target BvUdiv w refl l))
fits BvUrem = of_pairs Fit BvUrem (λ w v. refl) (λ w r value l m e. tt) (λ w value l. fit _ w _ (of_target w l)) (λ w value l. fit _ w _ (of_divisor w _ (omega (arith, l.0)) l))
fits BvShl = of_pairs Fit BvShl (λ w v. refl) (λ w r value l m e. tt) (λ w value l. fit _ w _ (of_target_other BvLshr w refl l)) (λ w value l. fit _ w _ (of_amount BvShl w refl l))
fits BvLshr = of_pairs Fit BvLshr (λ w v. refl) (λ w r value l m e. tt) (λ w value l. fit _ w _ (of_target_other BvShl w refl l)) (λ w value l. fit _ w _ (of_amount BvLshr w refl l))
fits BvAshr = of_pairs Fit BvAshr (λ w v. refl) (λ w r value l m e. tt) (λ w value l. fit _ w _ (of_signed w l)) (λ w value l. fit _ w _ (of_amount BvAshr w refl l))
fits o = of_rows Fit o (λ w r value l m e. tt) (λ w v r value lw lv lr e. tt) (λ w v r value lw lv lr e. tt)
