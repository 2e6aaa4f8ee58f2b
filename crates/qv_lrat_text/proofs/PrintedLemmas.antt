-- What is printed reads as what was printed.
use Rattle.std.proofs.Common.{inl, inr, ◌≡◌, ℕ, zero, suc, ◌-◌, ◌^◌, ◌<◌, ◌≤◌, Bool, true, false, cond, eqb, List, [], ◌∷◌, ◌++◌, length, get_or, Option, Some, None, refl, sym, ap, ◌∙◌, append_assoc, ℤ, pos, negsuc, neg_ℤ, arith}
use Rattle.std.specs.Prelude.{◌&&◌, not, decimal, unsigned_abs}
use Rattle.std.specs.Fmt.{signed_decimal}
use Rattle.std.specs.Char.{is_ascii_digit}
use Rattle.std.specs.Str.{all_ascii_digits}
use Rattle.std.specs.Str.Parse.{digits_value}
use Rattle.std.proofs.lemmas.Bool.{cases_eq, and_parts, ne_eqb}
use Rattle.std.proofs.lemmas.Bool.Decides.{nat_tests}
use Rattle.std.proofs.lemmas.Fmt.{decimal_is_IsNumeral_wide}
use Rattle.std.proofs.lemmas.Str.Parse.{IsNumeralModel, numerals_by_value, tells_all_ascii_digits}
use Rattle.std.proofs.lemmas.List.{append-nil}
use Rattle.qv_lrat_text.specs.Words.{is_blank, is_ended, lengthened, words, is_byte_word, spaced}
use Rattle.qv_lrat_text.specs.Decimal.{number_from, signed_number}
use Rattle.qv_cnf.specs.Literal.{Literal, IsLiteral, literal_of, number_of}
use Rattle.qv_lrat_text.specs.Grammar.{id_of, hint_of, literal_in, IsId, IsHint}
use Rattle.qv_lrat_text.proofs.WordLemmas.{words-blank, words-last, words-longer}
use Rattle.qv_lrat_text.proofs.DecimalLemmas.{in_range-inside}

-- ---- words

-- the bytes of a word
abbrev pub no_blank : List ℕ → Bool
no_blank [] = true
no_blank (byte ∷ word) = not (is_blank byte) && no_blank word

not_blank : (b : Bool) → not b ≡ true → b ≡ false
not_blank true e = absurd cc
not_blank false e = refl

-- a word that stands at the front is the first of the words
pub words-word : (first : ℕ) (others rest : List ℕ) → no_blank (first ∷ others) ≡ true → is_ended rest ≡ true
    → words ((first ∷ others) ++ rest) ≡ (first ∷ others) ∷ words rest
words-word first [] rest word ends = words-last first rest (not_blank (is_blank first) (and_parts (not (is_blank first)) true word).0) ends
words-word first (second ∷ others) rest word ends =
    let p = and_parts (not (is_blank first)) (no_blank (second ∷ others)) word in
    let q = and_parts (not (is_blank second)) (no_blank others) p.1 in
    words-longer first ((second ∷ others) ++ rest) (not_blank (is_blank first) p.0) (not_blank (is_blank second) q.0)
    ∙ ap (lengthened first) (words-word second others rest p.1 ends)

blank_space : is_blank 32 ≡ true
unfolding is_blank
blank_space = refl

pub words-spaced : (word rest : List ℕ) → 0 < length word → no_blank word ≡ true → words (spaced word ++ rest) ≡ word ∷ words rest
words-spaced [] rest some word = absurd (omega arith)
words-spaced (first ∷ others) rest some word =
    ap words (append_assoc (first ∷ others) (32 ∷ []) rest)
    ∙ words-word first others (32 ∷ rest) word blank_space
    ∙ ap (λ (ws : List (List ℕ)). (first ∷ others) ∷ ws) (words-blank 32 rest blank_space)

words-nil : words [] ≡ []
unfolding words
words-nil = refl

pub words-one : (word : List ℕ) → 0 < length word → no_blank word ≡ true → words word ≡ word ∷ []
words-one [] some whole = absurd (omega arith)
words-one (first ∷ others) some whole =
    ap words (sym (append-nil (first ∷ others)))
    ∙ words-word first others [] whole refl
    ∙ ap (λ (ws : List (List ℕ)). (first ∷ others) ∷ ws) words-nil

-- ---- decimal numbers

own : IsNumeralModel (λ ds. all_ascii_digits ds ≡ true) (digits_value 10)
own = numerals_by_value _ tells_all_ascii_digits

digit-no_blank : (c : ℕ) → is_ascii_digit c ≡ true → is_blank c ≡ false
unfolding is_blank
digit-no_blank c h = grind (arith, nat_tests)

pub digits-no_blank : (ds : List ℕ) → all_ascii_digits ds ≡ true → no_blank ds ≡ true
digits-no_blank [] h = refl
digits-no_blank (d ∷ ds) h =
    let p = and_parts (is_ascii_digit d) (all_ascii_digits ds) h in
    rw (digit-no_blank d p.0, digits-no_blank ds p.1) refl

pub decimal-digits : (n : ℕ) → n < 10 ^ 64 → all_ascii_digits (decimal n) ≡ true
decimal-digits n small = own.from (decimal n) (decimal_is_IsNumeral_wide n small).0.1

pub decimal-some : (n : ℕ) → n < 10 ^ 64 → 0 < length (decimal n)
decimal-some n small = (decimal_is_IsNumeral_wide n small).0.0

number_from-digits : (least most n : ℕ) (word : List ℕ) → 0 < length word → all_ascii_digits word ≡ true → digits_value 10 word ≡ n → least ≤ n → n ≤ most
    → number_from least most word ≡ Some n
unfolding number_from
number_from-digits least most n [] some digits value low high = absurd (omega arith)
number_from-digits least most n (c ∷ cs) some digits value low high =
    rw (digits, value) (in_range-inside least most n low high)

pub number_from-decimal : (least most n : ℕ) → n < 10 ^ 64 → least ≤ n → n ≤ most → number_from least most (decimal n) ≡ Some n
number_from-decimal least most n small low high =
    number_from-digits least most n (decimal n) (decimal-some n small) (decimal-digits n small) (decimal_is_IsNumeral_wide n small).1 low high

no_minus : (word : List ℕ) → all_ascii_digits word ≡ true → eqb (get_or word 0 0) 45 ≡ false
no_minus [] h = refl
no_minus (c ∷ cs) h = let p = (and_parts (is_ascii_digit c) (all_ascii_digits cs) h).0 in grind (arith, nat_tests)

pub signed_number-decimal : (most : ℕ) (z : ℤ) → most < 10 ^ 64 → 1 ≤ unsigned_abs z → unsigned_abs z ≤ most → signed_number most (signed_decimal z) ≡ Some z
unfolding signed_number
signed_number-decimal most (pos n) small low high =
    rw (no_minus (decimal n) (decimal-digits n (omega arith)), number_from-decimal 1 most n (omega arith) low high) refl
signed_number-decimal most (negsuc n) small low high =
    rw (number_from-decimal 1 most (suc n) (omega arith) low high) refl

pub signed_decimal-some : (z : ℤ) → unsigned_abs z < 10 ^ 64 → 0 < length (signed_decimal z)
signed_decimal-some (pos n) small = decimal-some n small
signed_decimal-some (negsuc n) small = omega arith

minus-no_blank : is_blank 45 ≡ false
unfolding is_blank
minus-no_blank = refl

pub signed_decimal-word : (z : ℤ) → unsigned_abs z < 10 ^ 64 → no_blank (signed_decimal z) ≡ true
signed_decimal-word (pos n) small = digits-no_blank (decimal n) (decimal-digits n small)
signed_decimal-word (negsuc n) small = rw (minus-no_blank, digits-no_blank (decimal (suc n)) (decimal-digits (suc n) small)) refl

-- ---- words of a line

-- the word is read as x, and it is neither the word `0` nor the word `d`
pub record Spells {A : Type 0} (read : List ℕ → Option A) (word : List ℕ) (x : A) : Type 0 where
  pub some : 0 < length word
  pub whole : no_blank word ≡ true
  pub reads : read word ≡ Some x
  pub not_zero : is_byte_word 48 word ≡ false
  pub not_d : is_byte_word 100 word ≡ false

pub not_byte : {A : Type 0} (byte : ℕ) (read : List ℕ → Option A) (word : List ℕ) (x : A) → read (byte ∷ []) ≡ None → read word ≡ Some x → is_byte_word byte word ≡ false
not_byte byte read [] x none some = refl
not_byte {A} byte read (c ∷ []) x none some =
    elim (cases_eq c byte) [
      | inl e ↦ let same : read (c ∷ []) ≡ read (byte ∷ []) = ap (λ k. read (k ∷ [])) e in absurd cc
      | inr ne ↦ ne_eqb c byte ne
    ]
not_byte byte read (c ∷ d ∷ cs) x none some = refl

pub id_of-zero : id_of (48 ∷ []) ≡ None
unfolding number_from
id_of-zero = refl

pub id_of-d : id_of (100 ∷ []) ≡ None
unfolding number_from
id_of-d = refl

pub hint_of-zero : hint_of (48 ∷ []) ≡ None
unfolding number_from signed_number
hint_of-zero = refl

pub hint_of-d : hint_of (100 ∷ []) ≡ None
unfolding number_from signed_number
hint_of-d = refl

pub literal_in-zero : literal_in (48 ∷ []) ≡ None
unfolding number_from signed_number literal_in
literal_in-zero = refl

pub literal_in-d : literal_in (100 ∷ []) ≡ None
unfolding number_from signed_number literal_in
literal_in-d = refl

pub id-spells : (id : ℕ) → IsId id → Spells id_of (decimal id) id
id-spells id range =
    let reads = number_from-decimal 1 (2 ^ 62 - 1) id (omega arith) range.0 (omega arith) in
    record {
      some = decimal-some id (omega arith);
      whole = digits-no_blank (decimal id) (decimal-digits id (omega arith));
      reads = reads;
      not_zero = not_byte 48 id_of (decimal id) id id_of-zero reads;
      not_d = not_byte 100 id_of (decimal id) id id_of-d reads;
    }

pub hint-spells : (hint : ℤ) → IsHint hint → Spells hint_of (signed_decimal hint) hint
hint-spells hint range =
    let reads = signed_number-decimal (2 ^ 62 - 1) hint (omega arith) range.0 (omega arith) in
    record {
      some = signed_decimal-some hint (omega arith);
      whole = signed_decimal-word hint (omega arith);
      reads = reads;
      not_zero = not_byte 48 hint_of (signed_decimal hint) hint hint_of-zero reads;
      not_d = not_byte 100 hint_of (signed_decimal hint) hint hint_of-d reads;
    }

-- the number of a literal names it
literal_of-number_of : (variable : ℕ) (positive : Bool) → 1 ≤ variable
    → literal_of (cond positive (pos variable) (neg_ℤ (pos variable))) ≡ record { variable = variable; positive = positive }
literal_of-number_of variable true low = refl
literal_of-number_of zero false low = absurd (omega arith)
literal_of-number_of (suc variable) false low = ap (λ v. record { variable = v; positive = false }) (omega arith)

magnitude-number_of : (variable : ℕ) (positive : Bool) → unsigned_abs (cond positive (pos variable) (neg_ℤ (pos variable))) ≡ variable
magnitude-number_of variable true = refl
magnitude-number_of zero false = refl
magnitude-number_of (suc variable) false = refl

literal_in-reads : (lit : Literal) → IsLiteral lit → literal_in (signed_decimal (number_of lit)) ≡ Some lit
unfolding literal_in
literal_in-reads lit range =
    let size = magnitude-number_of lit.variable lit.positive in
    rw (signed_number-decimal (2 ^ 30) (number_of lit) (omega arith) (omega arith) (omega arith))
    (ap (λ (l : Literal). Some l) (literal_of-number_of lit.variable lit.positive range.0))

pub literal-spells : (lit : Literal) → IsLiteral lit → Spells literal_in (signed_decimal (number_of lit)) lit
literal-spells lit range =
    let size = magnitude-number_of lit.variable lit.positive in
    let reads = literal_in-reads lit range in
    record {
      some = signed_decimal-some (number_of lit) (omega arith);
      whole = signed_decimal-word (number_of lit) (omega arith);
      reads = reads;
      not_zero = not_byte 48 literal_in (signed_decimal (number_of lit)) lit literal_in-zero reads;
      not_d = not_byte 100 literal_in (signed_decimal (number_of lit)) lit literal_in-d reads;
    }
