-- Reading decimal digits one after the other.
use Rattle.std.proofs.Common.{◌^◌, ◌-ℤ◌, to_z, of_z, w64, FitsSigned, ◌≡◌, ℕ, ◌+◌, ◌-◌, ◌*◌, ◌<◌, ◌≤◌, Bool, true, false, cond, eqb, leb, List, [], ◌∷◌, length, get_or, drop, Option, Some, None, refl, ◌∙◌, arith}
use Rattle.std.specs.Prelude.{pos, neg_ℤ}
use Rattle.std.specs.Option.{option_map, option_and_then}
use Rattle.std.proofs.Math.Nat.{pow-le-pow_right}
use Rattle.std.proofs.lemmas.Grind.{pow_more}
use Rattle.std.proofs.lemmas.Int.{ints, to_z_pos, to_z-of_z}
use Rattle.std.specs.Char.{is_ascii_digit, digit_value}
use Rattle.std.specs.Str.{all_ascii_digits}
use Rattle.std.specs.Str.Parse.{digits_value_after}
use Rattle.std.proofs.lemmas.Bool.{lt-leb, le-leb, and_right}
use Rattle.std.proofs.lemmas.Bool.Decides.{nat_tests}
use Rattle.std.proofs.lemmas.List.{at_drop_more}
use Rattle.qv_lrat_text.specs.Decimal.{in_range, number_from, signed_number}

-- the number, where `value` is what the digits before `rest` write
abbrev pub number_behind : ℕ → ℕ → ℕ → List ℕ → Option ℕ
number_behind least most value rest = cond (all_ascii_digits rest) (in_range least most (digits_value_after 10 value rest)) None

pub number_from-nil : (least most : ℕ) (word : List ℕ) → length word ≡ 0 → number_from least most word ≡ None
unfolding number_from
number_from-nil least most [] e = refl
number_from-nil least most (c ∷ cs) e = absurd (omega arith)

pub number_from-start : (least most : ℕ) (word : List ℕ) → (length word ≡ 0 → ⊥) → number_from least most word ≡ number_behind least most 0 word
unfolding number_from
number_from-start least most [] h = absurd (h refl)
number_from-start least most (c ∷ cs) h = refl

digits_value_after-ge : (n : ℕ) (ds : List ℕ) → n ≤ digits_value_after 10 n ds
digits_value_after-ge n [] = omega arith
digits_value_after-ge n (c ∷ cs) = omega (arith, digits_value_after-ge (n * 10 + digit_value c) cs)

pub in_range-above : (least most n : ℕ) → most < n → in_range least most n ≡ None
in_range-above least most n above = rw (and_right (leb least n) (leb n most) (lt-leb n most above)) refl

-- more digits make a number no smaller
pub number_behind-above : (least most n : ℕ) (rest : List ℕ) → most < n → number_behind least most n rest ≡ None
number_behind-above least most n rest above =
    elim (all_ascii_digits rest) as (λ b. cond b (in_range least most (digits_value_after 10 n rest)) None ≡ None) [
      | true ↦ in_range-above least most (digits_value_after 10 n rest) (omega (arith, digits_value_after-ge n rest))
      | false ↦ refl
    ]

digit_value-digit : (c : ℕ) → is_ascii_digit c ≡ true → digit_value c ≡ c - 48
digit_value-digit c h = grind (arith, nat_tests)

pub digit-lt : (c : ℕ) → is_ascii_digit c ≡ true → c - 48 < 10
digit-lt c h = grind (arith, nat_tests)

number_behind-digit : (least most n c : ℕ) (cs : List ℕ) → is_ascii_digit c ≡ true → number_behind least most n (c ∷ cs) ≡ number_behind least most (n * 10 + (c - 48)) cs
number_behind-digit least most n c cs h = rw (h, digit_value-digit c h) refl

-- the steps of a loop over the digits
pub number_behind-more : (least most n : ℕ) (word : List ℕ) (i : ℕ) → i < length word → is_ascii_digit (get_or word i 0) ≡ true
    → number_behind least most n (drop i word) ≡ number_behind least most (n * 10 + (get_or word i 0 - 48)) (drop (i + 1) word)
number_behind-more least most n word i lt h =
    at_drop_more (number_behind least most n) word i 0 lt ∙ number_behind-digit least most n (get_or word i 0) (drop (i + 1) word) h

pub number_behind-over : (least most n : ℕ) (word : List ℕ) (i : ℕ) → i < length word → is_ascii_digit (get_or word i 0) ≡ true
    → most < n * 10 + (get_or word i 0 - 48) → number_behind least most n (drop i word) ≡ None
number_behind-over least most n word i lt h above =
    number_behind-more least most n word i lt h ∙ number_behind-above least most (n * 10 + (get_or word i 0 - 48)) (drop (i + 1) word) above

-- a number behind a minus, and one without
pub signed_number-negative : (most : ℕ) (word digits : List ℕ) (read : Option ℕ) → eqb (get_or word 0 0) 45 ≡ true → digits ≡ drop 1 word
    → read ≡ number_from 1 most digits → signed_number most word ≡ option_map (λ n. neg_ℤ (pos n)) read
unfolding signed_number
signed_number-negative most word digits read minus digits-is read-is = rw (minus, read-is, digits-is) refl

pub signed_number-positive : (most : ℕ) (word : List ℕ) (read : Option ℕ) → eqb (get_or word 0 0) 45 ≡ false
    → read ≡ number_from 1 most word → signed_number most word ≡ option_map pos read
unfolding signed_number
signed_number-positive most word read plain read-is = rw (plain, read-is) refl

-- the casts of the code
pub negated_cast : (n : ℕ) → n < 2 ^ 63 → to_z w64 (of_z w64 (pos 0 -ℤ to_z w64 n)) ≡ neg_ℤ (pos n)
negated_cast n small =
    let cast : to_z w64 n ≡ pos n = to_z_pos w64 n small in
    let fits : FitsSigned w64 (pos 0 -ℤ to_z w64 n) = omega (arith, ints) in
    let e : pos 0 -ℤ pos n ≡ neg_ℤ (pos n) = omega (arith, ints) in
    to_z-of_z w64 (pos 0 -ℤ to_z w64 n) fits ∙ rw cast e

-- ---- words so short that their numbers need no test

-- the number that `value` and the digits of `rest` write
abbrev pub written_behind : ℕ → List ℕ → Option ℕ
written_behind value rest = cond (all_ascii_digits rest) (Some (digits_value_after 10 value rest)) None

written_behind-digit : (n c : ℕ) (cs : List ℕ) → is_ascii_digit c ≡ true → written_behind n (c ∷ cs) ≡ written_behind (n * 10 + (c - 48)) cs
written_behind-digit n c cs h = rw (h, digit_value-digit c h) refl

pub written_behind-more : (n : ℕ) (word : List ℕ) (i : ℕ) → i < length word → is_ascii_digit (get_or word i 0) ≡ true
    → written_behind n (drop i word) ≡ written_behind (n * 10 + (get_or word i 0 - 48)) (drop (i + 1) word)
written_behind-more n word i lt h = at_drop_more (written_behind n) word i 0 lt ∙ written_behind-digit n (get_or word i 0) (drop (i + 1) word) h

-- so many digits write a number below that power of ten
pub more_digits : (i n d : ℕ) → n < 10 ^ i → d < 10 → n * 10 + d < 10 ^ (i + 1)
more_digits i n d below digit = omega (arith, pow_more 10 i)

pub few_digits : (i : ℕ) → i ≤ 19 → 10 ^ i ≤ 10 ^ 19
few_digits i few = pow-le-pow_right (omega arith) few

pub number_from-written : (least most : ℕ) (word : List ℕ) (read : Option ℕ) → (length word ≡ 0 → ⊥) → read ≡ written_behind 0 word
    → number_from least most word ≡ option_and_then (λ n. in_range least most n) read
unfolding number_from
number_from-written least most [] read some is = absurd (some refl)
number_from-written least most (c ∷ cs) read some is = rw is (chosen (all_ascii_digits (c ∷ cs)) (digits_value_after 10 0 (c ∷ cs)))
  where
    chosen : (b : Bool) (n : ℕ) → cond b (in_range least most n) None ≡ option_and_then (λ m. in_range least most m) (cond b (Some n) None)
    chosen true n = refl
    chosen false n = refl

pub in_range-below : (least most n : ℕ) → n < least → in_range least most n ≡ None
in_range-below least most n below = rw (lt-leb least n below) refl

pub in_range-inside : (least most n : ℕ) → least ≤ n → n ≤ most → in_range least most n ≡ Some n
in_range-inside least most n above below = rw (le-leb least n above, le-leb n most below) refl
