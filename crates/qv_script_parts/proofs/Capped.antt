-- Numbers up to the greatest limit, digit by digit.
use Rattle.std.proofs.Common.{◌≡◌, ◌+◌, ◌*◌, ◌<◌, ◌^◌, ℕ, List, length, take, get_or, sym, ap, ◌∙◌, arith}
use Rattle.std.specs.Prelude.{min}
use Rattle.std.proofs.lemmas.List.Sums.{fold_more}
use Rattle.qv_elab_defs.specs.Tokens.{digit_value, number_of}

-- a number over the limit stays over it
one-more : (n v d : ℕ) → v ≡ min n (2 ^ 60) → min (v * 10 + d) (2 ^ 60) ≡ min (n * 10 + d) (2 ^ 60)
one-more n v d e = omega (arith, e)

pub limit-more : (ds : List ℕ) (i v w : ℕ) → i < length ds → v ≡ min (number_of 10 (take i ds)) (2 ^ 60) → w ≡ min (v * 10 + digit_value (get_or ds i 0)) (2 ^ 60) →
    w ≡ min (number_of 10 (take (i + 1) ds)) (2 ^ 60)
limit-more ds i v w lt e is =
    is ∙ one-more (number_of 10 (take i ds)) v (digit_value (get_or ds i 0)) e
    ∙ ap (λ (n : ℕ). min n (2 ^ 60)) (sym (fold_more (λ (n : ℕ) (b : ℕ). n * 10 + digit_value b) 0 ds i 0 lt))
