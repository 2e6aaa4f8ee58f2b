-- Digits, one more at a time, and the number of them that is kept.
use Rattle.std.proofs.Common.{◌≡◌, ℕ, ◌+◌, ◌-◌, ◌*◌, ◌<◌, ◌≤◌, ◌⊎◌, min, true, false, eqb, leb, ◌&&◌, List, [], ◌∷◌, ◌++◌, None, refl, sym, ap, ◌∙◌, inl, inr, arith}
use Rattle.std.specs.Char.{is_ascii_digit, digit_value}
use Rattle.std.specs.Str.{all_ascii_digits}
use Rattle.std.specs.Str.Parse.{digits_value}
use Rattle.std.proofs.lemmas.Bool.{cases_Bool, leb-true, leb-false, lt-leb, and_right, eqb-true}
use Rattle.std.proofs.lemmas.Bool.Decides.{nat_tests}
use Rattle.std.proofs.lemmas.Int.Digits.{digits_value_push}
use Rattle.std.proofs.lemmas.List.{length-append}
use Rattle.std.proofs.Math.Nat.{min-eq_left, min-eq_right}
use Rattle.qv_lrat_text.specs.Decimal.{in_range, number_from}
use Rattle.qv_dimacs.specs.Seen.{greatest, more, Writes}

pub digit_value-digit : (c : ℕ) → is_ascii_digit c ≡ true → digit_value c ≡ c - 48
digit_value-digit c h = grind (arith, nat_tests)

pub all-append : (xs ys : List ℕ) → all_ascii_digits (xs ++ ys) ≡ (all_ascii_digits xs && all_ascii_digits ys)
all-append [] ys = refl
all-append (x ∷ xs) ys =
    elim (cases_Bool (is_ascii_digit x)) [
      | inl h ↦ rw h (all-append xs ys)
      | inr h ↦ rw h refl
    ]

pub all-push : (xs : List ℕ) (c : ℕ) → all_ascii_digits xs ≡ true → is_ascii_digit c ≡ true → all_ascii_digits (xs ++ c ∷ []) ≡ true
all-push xs c all digit = all-append xs (c ∷ []) ∙ rw (all, digit) refl

-- a byte that is no digit
pub all-other : (xs : List ℕ) (c : ℕ) (rest : List ℕ) → all_ascii_digits xs ≡ true → is_ascii_digit c ≡ false → all_ascii_digits (xs ++ c ∷ rest) ≡ false
all-other xs c rest all other = all-append xs (c ∷ rest) ∙ rw (all, other) refl

-- a number that is too large stays so
low : (x g : ℕ) → x ≤ g → min x g ≡ x
low x g h = min-eq_left h

high : (x g : ℕ) → g ≤ x → min x g ≡ g
high x g h = min-eq_right h

order : (a b : ℕ) → (a ≤ b) ⊎ (b ≤ a)
order a b =
    elim (cases_Bool (leb a b)) [
      | inl h ↦ inl (leb-true a b h)
      | inr h ↦ inr (omega (arith, leb-false a b h))
    ]

capped_once : (g w d : ℕ) → (w ≤ g) ⊎ (g ≤ w) → min (min w g + d) g ≡ min (w + d) g
capped_once g w d (inl under) = ap (λ (x : ℕ). min (x + d) g) (low w g under)
capped_once g w d (inr over) = ap (λ (x : ℕ). min (x + d) g) (high w g over) ∙ high (g + d) g (omega arith) ∙ sym (high (w + d) g (omega arith))

capped_from : (g v d : ℕ) → (v ≤ g) ⊎ (g ≤ v) → min (min (min v g * 10) g + d) g ≡ min (v * 10 + d) g
capped_from g v d (inl under) = ap (λ (x : ℕ). min (min (x * 10) g + d) g) (low v g under) ∙ capped_once g (v * 10) d (order (v * 10) g)
capped_from g v d (inr over) =
    ap (λ (x : ℕ). min (min (x * 10) g + d) g) (high v g over)
    ∙ ap (λ (x : ℕ). min (x + d) g) (high (g * 10) g (omega arith))
    ∙ high (g + d) g (omega arith)
    ∙ sym (high (v * 10 + d) g (omega arith))

capped : (g v d : ℕ) → min (min (min v g * 10) g + d) g ≡ min (v * 10 + d) g
capped g v d = capped_from g v d (order v g)

pub digit-below : (c : ℕ) → is_ascii_digit c ≡ true → c - 48 ≤ 9
digit-below c h = grind (arith, nat_tests)

first_value : (c : ℕ) → is_ascii_digit c ≡ true → digits_value 10 (c ∷ []) ≡ c - 48
first_value c h = omega (arith, digit_value-digit c h)

second_value : (c : ℕ) → is_ascii_digit c ≡ true → digits_value 10 (48 ∷ c ∷ []) ≡ c - 48
second_value c h = omega (arith, digit_value-digit c h)

-- one digit
pub writes-first : (c : ℕ) → is_ascii_digit c ≡ true → Writes (c - 48) (c ∷ [])
writes-first c h = record {
  all = rw h refl;
  some = omega arith;
  value = sym (low (digits_value 10 (c ∷ [])) greatest (omega (arith, digit-below c h, first_value c h)) ∙ first_value c h);
}

-- a 0 and one more
pub writes-padded : (c : ℕ) → is_ascii_digit c ≡ true → Writes (c - 48) (48 ∷ c ∷ [])
writes-padded c h = record {
  all = rw h refl;
  some = omega arith;
  value = sym (low (digits_value 10 (48 ∷ c ∷ [])) greatest (omega (arith, digit-below c h, second_value c h)) ∙ second_value c h);
}

-- one more
pub writes-more : (n : ℕ) (digits : List ℕ) (c : ℕ) → Writes n digits → is_ascii_digit c ≡ true → Writes (more n (c - 48)) (digits ++ c ∷ [])
writes-more n digits c w h = record {
  all = all-push digits c w.all h;
  some = omega (arith, length-append digits (c ∷ []));
  value =
      ap (λ (m : ℕ). more m (c - 48)) w.value
      ∙ capped greatest (digits_value 10 digits) (c - 48)
      ∙ ap (λ (v : ℕ). min (digits_value 10 digits * 10 + v) greatest) (sym (digit_value-digit c h))
      ∙ ap (λ (v : ℕ). min v greatest) (sym (digits_value_push 10 digits c));
}

-- ---- the number that a word writes

in_range-above : (least most n : ℕ) → most < n → in_range least most n ≡ None
in_range-above least most n above = rw (and_right (leb least n) (leb n most) (lt-leb n most above)) refl

in_range-capped : (least most v : ℕ) → most < greatest → (v ≤ greatest) ⊎ (greatest ≤ v) → in_range least most v ≡ in_range least most (min v greatest)
in_range-capped least most v below (inl under) = sym (ap (in_range least most) (low v greatest under))
in_range-capped least most v below (inr over) =
    in_range-above least most v (omega arith) ∙ sym (ap (in_range least most) (high v greatest over) ∙ in_range-above least most greatest below)

pub number-written : (least most n : ℕ) (digits : List ℕ) → most < greatest → Writes n digits → number_from least most digits ≡ in_range least most n
unfolding number_from
number-written least most n [] below w = absurd (omega (arith, w.some))
number-written least most n (c ∷ cs) below w =
    rw (w.all, w.value) (in_range-capped least most (digits_value 10 (c ∷ cs)) below (order (digits_value 10 (c ∷ cs)) greatest))

pub number-none : (least most : ℕ) (word : List ℕ) → all_ascii_digits word ≡ false → number_from least most word ≡ None
unfolding number_from
number-none least most [] h = absurd (cc)
number-none least most (c ∷ cs) h = rw h refl

-- the first of digits
pub digit-not : (c b : ℕ) → is_ascii_digit c ≡ true → is_ascii_digit b ≡ false → eqb c b ≡ false
digit-not c b h k =
    elim (cases_Bool (eqb c b)) [
      | inl e ↦ absurd (let same : c ≡ b = eqb-true c b e in let t : is_ascii_digit b ≡ true = ap is_ascii_digit (sym same) ∙ h in cc)
      | inr e ↦ e
    ]

pub first-digit : (n c : ℕ) (cs : List ℕ) → Writes n (c ∷ cs) → is_ascii_digit c ≡ true
first-digit n c cs w =
    elim (cases_Bool (is_ascii_digit c)) [
      | inl h ↦ h
      | inr h ↦ absurd (let f : all_ascii_digits (c ∷ cs) ≡ false = rw h refl in let t = w.all in cc)
    ]
