-- What a reader keeps of a word.
use Rattle.std.specs.Prelude.{ℕ, ◌≡◌, ◌<◌, ◌+◌, ◌*◌, ◌-◌, ◌^◌, ◌==◌, nat_le, min, pos, neg_ℤ, cond, Bool, true, false, ◌&&◌, if◌then◌else◌, List, [], ◌∷◌, ◌++◌, length, slice_index, Option, Some, None}
use Rattle.std.specs.Char.{is_ascii_digit}
use Rattle.std.specs.Str.{all_ascii_digits}
use Rattle.std.specs.Str.Parse.{digits_value}
use Rattle.qv_cnf.specs.Literal.{Literal, literal_of}
use Rattle.qv_lrat_text.specs.Words.{is_byte_word}
use Rattle.qv_lrat_text.specs.Grammar.{literal_in}
use Rattle.qv_dimacs.specs.declared.words.Seen.{Seen}
use Rattle.qv_dimacs.specs.declared.words.Seen.TheVariants.{P, C, Cn, Cnf, Percent, Minus, Zero, Natural, Padded, Negative, Other}
use Rattle.qv_dimacs.specs.Clauses.{is_cnf, is_numeral}

-- the greatest number that is kept
abbrev pub greatest : ℕ
greatest = 2 ^ 64 - 1

-- one more digit
abbrev pub more : ℕ → ℕ → ℕ
more number digit = min (min (number * 10) greatest + digit) greatest

-- what the first byte shows
abbrev pub first_seen : ℕ → Seen
first_seen byte =
    if byte == 48 then Zero
    else (if is_ascii_digit byte then Natural (byte - 48)
    else (if byte == 45 then Minus
    else (if byte == 37 then Percent
    else (if byte == 112 then P
    else (if byte == 99 then C
    else Other)))))

abbrev pub behind_digit : Seen → ℕ → Seen
behind_digit Minus digit = Negative digit
behind_digit Zero digit = Padded digit
behind_digit (Natural n) digit = Natural (more n digit)
behind_digit (Padded n) digit = Padded (more n digit)
behind_digit (Negative n) digit = Negative (more n digit)
behind_digit seen digit = Other

abbrev pub behind_letter : Seen → ℕ → Seen
behind_letter C byte = if byte == 110 then Cn else Other
behind_letter Cn byte = if byte == 102 then Cnf else Other
behind_letter seen byte = Other

-- what one more byte shows
abbrev pub next_seen : Seen → ℕ → Seen
next_seen seen byte = if is_ascii_digit byte then behind_digit seen (byte - 48) else behind_letter seen byte

-- the literal of a variable
abbrev pub literal_below : Bool → ℕ → Option Literal
literal_below negative n = if nat_le 1 n && nat_le n (2 ^ 30) then Some (literal_of (cond negative (neg_ℤ (pos n)) (pos n))) else None

-- the literal that a word is
abbrev pub seen_literal : Seen → Option Literal
seen_literal (Natural n) = literal_below false n
seen_literal (Padded n) = literal_below false n
seen_literal (Negative n) = literal_below true n
seen_literal seen = None

-- whether it is a numeral of a problem line
abbrev pub seen_numeral : Seen → Bool
seen_numeral Zero = true
seen_numeral (Natural n) = nat_le n (2 ^ 62 - 1)
seen_numeral seen = false

-- which of the words it is
abbrev pub seen_p : Seen → Bool
seen_p P = true
seen_p seen = false

abbrev pub seen_cnf : Seen → Bool
seen_cnf Cnf = true
seen_cnf seen = false

abbrev pub seen_zero : Seen → Bool
seen_zero Zero = true
seen_zero seen = false

abbrev pub seen_percent : Seen → Bool
seen_percent Percent = true
seen_percent seen = false

-- ---- what is kept, and the word

-- the word is what is kept of it
pub record Shows (seen : Seen) (word : List ℕ) : Type 0 where
  pub literal : literal_in word ≡ seen_literal seen
  pub numeral : is_numeral word ≡ seen_numeral seen
  pub p : is_byte_word 112 word ≡ seen_p seen
  pub cnf : is_cnf word ≡ seen_cnf seen
  pub zero : is_byte_word 48 word ≡ seen_zero seen
  pub percent : is_byte_word 37 word ≡ seen_percent seen

-- digits of this number, or of a greater one
pub record Writes (n : ℕ) (digits : List ℕ) : Type 0 where
  pub all : all_ascii_digits digits ≡ true
  pub some : 0 < length digits
  pub value : n ≡ min (digits_value 10 digits) greatest

-- the bytes so far
abbrev pub Describes : Seen → List ℕ → Type 0
Describes P word = word ≡ 112 ∷ []
Describes C word = word ≡ 99 ∷ []
Describes Cn word = word ≡ 99 ∷ 110 ∷ []
Describes Cnf word = word ≡ 99 ∷ 110 ∷ 102 ∷ []
Describes Percent word = word ≡ 37 ∷ []
Describes Minus word = word ≡ 45 ∷ []
Describes Zero word = word ≡ 48 ∷ []
Describes (Natural n) word = Writes n word × ((slice_index word 0 == 48) ≡ false)
Describes (Padded n) word = Writes n word × ((slice_index word 0 == 48) ≡ true) × (1 < length word)
Describes (Negative n) word = (digits : List ℕ) × (word ≡ 45 ∷ digits) × Writes n digits
Describes Other word = (rest : List ℕ) → Shows Other (word ++ rest)
