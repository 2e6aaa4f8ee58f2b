-- Tallies of which one was raised.
use Rattle.std.proofs.Common.{◌≡◌, ℕ, zero, suc, ◌+◌, ◌<◌, List, [], ◌∷◌, length, set, get_or, Some, refl, ap, arith}
use Rattle.std.specs.List.{slice_get}
use Rattle.std.specs.Prelude.{slice_index, sum}
use Rattle.std.proofs.lemmas.Option.{slice_get_within, get_or_from_slice_get}
use Rattle.std.proofs.lemmas.List.Sums.{sum_by-set}

pub set-set : (ns : List ℕ) (i x y : ℕ) → set (set ns i x) i y ≡ set ns i y
set-set [] i x y = refl
set-set (n ∷ ns) zero x y = refl
set-set (n ∷ ns) (suc i) x y = ap (λ (ms : List ℕ). n ∷ ms) (set-set ns i x y)

pub sum-raised : (ns : List ℕ) (i n : ℕ) → slice_get ns i ≡ Some n → sum (set ns i (n + 1)) ≡ sum ns + 1
sum-raised ns i n h =
    let within : i < length ns = slice_get_within ns i n h in
    let old : get_or ns i 0 ≡ n = get_or_from_slice_get ns i n 0 h in
    let changed : sum (set ns i (n + 1)) + get_or ns i 0 ≡ sum ns + (n + 1) = sum_by-set (λ x. x) ns i (n + 1) 0 within in
    omega (arith, old, changed)

pub raised-here : (ns : List ℕ) (i n m : ℕ) → slice_get ns i ≡ Some n → slice_get (set ns i m) i ≡ Some m
raised-here [] i n m h = cc
raised-here (x ∷ ns) zero n m h = refl
raised-here (x ∷ ns) (suc i) n m h = raised-here ns i n m h

pub index-of : (ns : List ℕ) (i n : ℕ) → slice_get ns i ≡ Some n → slice_index ns i ≡ n
index-of ns i n h = get_or_from_slice_get ns i n 0 h
