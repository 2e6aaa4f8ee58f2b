-- What a word's number is, from how it parses.
use Rattle.std.proofs.Common.{◌≡◌, ◌≢◌, ◌∙◌, ℕ, ◌<◌, ◌≤◌, ◌^◌, Bool, true, false, ◌&&◌, cond, leb, List, [], ◌∷◌, length, get_or, Option, Some, None, refl, inl, inr, arith}
use Rattle.std.specs.Prelude.{Ok, Err, nat_lt}
use Rattle.std.specs.Str.{all_ascii_digits}
use Rattle.std.specs.Str.Parse.{ParsesUnsigned, digits_value}
use Rattle.std.proofs.lemmas.Str.Parse.{IsNumeralModel, numerals_by_value, tells_all_ascii_digits, parse_plain}
use Rattle.std.proofs.lemmas.Bool.{and_parts, and_left, and_right, and_from, lt-leb, le-leb, lt-ltb, ltb-true, cases_lt}
use Rattle.qv_shell_args.specs.Number.{is_numeral, number_in}

own : IsNumeralModel (λ ds. all_ascii_digits ds ≡ true) (digits_value 10)
own = numerals_by_value _ tells_all_ascii_digits

abbrev in_range : ℕ → ℕ → ℕ → Option ℕ
in_range least most number = cond (leb least number && leb number most) (Some number) None

numeral-in : (least most : ℕ) (word : List ℕ) → is_numeral word ≡ true → number_in least most word ≡ in_range least most (digits_value 10 word)
unfolding number_in
numeral-in least most word h = rw h refl

other-in : (least most : ℕ) (word : List ℕ) → is_numeral word ≡ false → number_in least most word ≡ None
unfolding number_in
other-in least most word h = rw h refl

inside : (least most n : ℕ) → least ≤ n → n ≤ most → in_range least most n ≡ Some n
inside least most n low high = rw (and_from (leb least n) (leb n most) (le-leb least n low) (le-leb n most high)) refl

below : (least most n : ℕ) → n < least → in_range least most n ≡ None
below least most n low = rw (and_left (leb least n) (leb n most) (lt-leb least n low)) refl

above : (least most n : ℕ) → most < n → in_range least most n ≡ None
above least most n high = rw (and_right (leb least n) (leb n most) (lt-leb n most high)) refl

-- no number begins with a plus
pub plus-in : (least most : ℕ) (word : List ℕ) → get_or word 0 0 ≡ 43 → number_in least most word ≡ None
plus-in least most [] e = other-in least most [] refl
plus-in least most (c ∷ cs) e = other-in least most (c ∷ cs) (and_right (nat_lt 0 (length (c ∷ cs))) (all_ascii_digits (c ∷ cs)) (rw e refl))

parsed-in : (least most n : ℕ) (word : List ℕ) → ParsesUnsigned {E = ℕ} 64 10 word (Ok n) → get_or word 0 0 ≢ 43 → number_in least most word ≡ in_range least most n
parsed-in least most n word parses plain =
    let read = parse_plain own {E = ℕ} 64 word (Ok n) parses plain in
    rw read.1 (numeral-in least most word (and_from _ _ (lt-ltb 0 (length word) read.0.1) read.0.0))

pub inside-in : (least most n : ℕ) (word : List ℕ) → ParsesUnsigned {E = ℕ} 64 10 word (Ok n) → get_or word 0 0 ≢ 43 → least ≤ n → n ≤ most
    → number_in least most word ≡ Some n
inside-in least most n word parses plain low high = parsed-in least most n word parses plain ∙ inside least most n low high

pub below-in : (least most n : ℕ) (word : List ℕ) → ParsesUnsigned {E = ℕ} 64 10 word (Ok n) → get_or word 0 0 ≢ 43 → n < least → number_in least most word ≡ None
below-in least most n word parses plain low = parsed-in least most n word parses plain ∙ below least most n low

pub above-in : (least most n : ℕ) (word : List ℕ) → ParsesUnsigned {E = ℕ} 64 10 word (Ok n) → get_or word 0 0 ≢ 43 → most < n → number_in least most word ≡ None
above-in least most n word parses plain high = parsed-in least most n word parses plain ∙ above least most n high

pub failed-in : (least most : ℕ) (word : List ℕ) → ParsesUnsigned {E = ℕ} 64 10 word (Err 0) → get_or word 0 0 ≢ 43 → most < 2 ^ 64 → number_in least most word ≡ None
failed-in least most word parses plain small = go (is_numeral word) refl
  where
    large : is_numeral word ≡ true → most < digits_value 10 word
    large h =
        let parts = and_parts (nat_lt 0 (length word)) (all_ascii_digits word) h in
        let fails = parse_plain own {E = ℕ} 64 word (Err 0) parses plain in
        elim (cases_lt (digits_value 10 word) (2 ^ 64)) [
          | inl fits ↦ absurd (fails (parts.1, ltb-true 0 (length word) parts.0, fits))
          | inr over ↦ omega (arith, over, small)
        ]

    go : (b : Bool) → is_numeral word ≡ b → number_in least most word ≡ None
    go false h = other-in least most word h
    go true h = numeral-in least most word h ∙ above least most (digits_value 10 word) (large h)
