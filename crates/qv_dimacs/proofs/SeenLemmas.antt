-- What is kept of a word is enough.
use Rattle.std.proofs.Common.{◌≡◌, ℕ, ◌-◌, ◌^◌, ◌<◌, Bool, true, false, cond, eqb, leb, ◌&&◌, List, [], ◌∷◌, ◌++◌, length, get_or, Some, None, refl, ap, subst, inl, inr, arith}
use Rattle.std.specs.Prelude.{pos, neg_ℤ, is_some}
use Rattle.std.specs.Option.{option_map}
use Rattle.std.specs.Char.{is_ascii_digit}
use Rattle.std.specs.Str.{all_ascii_digits}
use Rattle.std.proofs.lemmas.Bool.{cases_Bool, eqb-true, le-leb}
use Rattle.std.proofs.lemmas.List.{append-nil, append_assoc}
use Rattle.qv_cnf.specs.Literal.{literal_of}
use Rattle.qv_lrat_text.specs.Words.{is_byte_word}
use Rattle.qv_lrat_text.specs.Decimal.{number_from, signed_number}
use Rattle.qv_lrat_text.specs.Grammar.{literal_in}
use Rattle.qv_dimacs.specs.declared.words.Seen.{Seen}
use Rattle.qv_dimacs.specs.declared.words.Seen.TheVariants.{P, C, Cn, Cnf, Percent, Minus, Zero, Natural, Padded, Negative, Other}
use Rattle.qv_dimacs.specs.Clauses.{is_cnf, is_numeral}
use Rattle.qv_dimacs.specs.Seen.{first_seen, next_seen, behind_digit, behind_letter, literal_below, Shows, Writes, Describes}
use Rattle.qv_dimacs.proofs.DigitLemmas.{all-other, writes-first, writes-padded, writes-more, number-written, number-none, digit-not, first-digit}

-- ---- words that are nothing

not_cnf : (a : ℕ) (rest : List ℕ) → eqb a 99 ≡ false → is_cnf (a ∷ rest) ≡ false
not_cnf a [] h = refl
not_cnf a (b ∷ []) h = refl
not_cnf a (b ∷ c ∷ []) h = rw h refl
not_cnf a (b ∷ c ∷ d ∷ rest) h = refl

not_cnf_second : (b : ℕ) (rest : List ℕ) → eqb b 110 ≡ false → is_cnf (99 ∷ b ∷ rest) ≡ false
not_cnf_second b [] h = refl
not_cnf_second b (c ∷ []) h = rw h refl
not_cnf_second b (c ∷ d ∷ rest) h = refl

not_cnf_third : (c : ℕ) (rest : List ℕ) → eqb c 102 ≡ false → is_cnf (99 ∷ 110 ∷ c ∷ rest) ≡ false
not_cnf_third c [] h = rw h refl
not_cnf_third c (d ∷ rest) h = refl

not_byte : (b a : ℕ) (rest : List ℕ) → eqb a b ≡ false → is_byte_word b (a ∷ rest) ≡ false
not_byte b a [] h = h
not_byte b a (c ∷ rest) h = refl

numeral-none : (word : List ℕ) → all_ascii_digits word ≡ false → is_numeral word ≡ false
unfolding is_numeral
numeral-none word h = rw (number-none 0 (2 ^ 62 - 1) word h) (and_false _)
  where
    and_false : (b : Bool) → (b && false) ≡ false
    and_false true = refl
    and_false false = refl

literal-none : (a : ℕ) (rest : List ℕ) → eqb a 45 ≡ false → all_ascii_digits (a ∷ rest) ≡ false → literal_in (a ∷ rest) ≡ None
unfolding literal_in signed_number
literal-none a rest plain h = rw (plain, number-none 1 (2 ^ 30) (a ∷ rest) h) refl

literal-minus : (rest : List ℕ) → all_ascii_digits rest ≡ false → literal_in (45 ∷ rest) ≡ None
unfolding literal_in signed_number
literal-minus rest h = rw (number-none 1 (2 ^ 30) rest h) refl

-- a first byte that begins no word
other-first : (a : ℕ) (rest : List ℕ) → is_ascii_digit a ≡ false → eqb a 48 ≡ false → eqb a 45 ≡ false → eqb a 37 ≡ false → eqb a 112 ≡ false → eqb a 99 ≡ false → Shows Other (a ∷ rest)
other-first a rest digit zero minus percent p c =
    let none : all_ascii_digits (a ∷ rest) ≡ false = rw digit refl in
    record {
      literal = literal-none a rest minus none;
      numeral = numeral-none (a ∷ rest) none;
      p = not_byte 112 a rest p;
      cnf = not_cnf a rest c;
      zero = not_byte 48 a rest zero;
      percent = not_byte 37 a rest percent;
    }

-- two bytes and more
other-longer : (a b : ℕ) (rest : List ℕ) → eqb a 45 ≡ false → all_ascii_digits (a ∷ b ∷ rest) ≡ false → is_cnf (a ∷ b ∷ rest) ≡ false → Shows Other (a ∷ b ∷ rest)
other-longer a b rest minus none c = record {
  literal = literal-none a (b ∷ rest) minus none;
  numeral = numeral-none (a ∷ b ∷ rest) none;
  p = refl;
  cnf = c;
  zero = refl;
  percent = refl;
}

other-minus : (b : ℕ) (rest : List ℕ) → all_ascii_digits (b ∷ rest) ≡ false → Shows Other (45 ∷ b ∷ rest)
other-minus b rest none = record {
  literal = literal-minus (b ∷ rest) none;
  numeral = numeral-none (45 ∷ b ∷ rest) refl;
  p = refl;
  cnf = not_cnf 45 (b ∷ rest) refl;
  zero = refl;
  percent = refl;
}

-- ---- what is kept tells what the word is

chosen-natural : (b : Bool) (n : ℕ) → option_map literal_of (option_map pos (cond b (Some n) None)) ≡ cond b (Some (literal_of (pos n))) None
chosen-natural true n = refl
chosen-natural false n = refl

chosen-negative : (b : Bool) (n : ℕ) → option_map literal_of (option_map (λ m. neg_ℤ (pos m)) (cond b (Some n) None)) ≡ cond b (Some (literal_of (neg_ℤ (pos n)))) None
chosen-negative true n = refl
chosen-negative false n = refl

chosen-some : (b : Bool) (n : ℕ) → is_some (cond b (Some n) None) ≡ b
chosen-some true n = refl
chosen-some false n = refl

literal-natural : (n c : ℕ) (cs : List ℕ) → Writes n (c ∷ cs) → literal_in (c ∷ cs) ≡ literal_below false n
unfolding literal_in signed_number
literal-natural n c cs w =
    rw (digit-not c 45 (first-digit n c cs w) refl, number-written 1 (2 ^ 30) n (c ∷ cs) (omega arith) w) (chosen-natural (leb 1 n && leb n (2 ^ 30)) n)

literal-negative : (n : ℕ) (digits : List ℕ) → Writes n digits → literal_in (45 ∷ digits) ≡ literal_below true n
unfolding literal_in signed_number
literal-negative n digits w = rw (number-written 1 (2 ^ 30) n digits (omega arith) w) (chosen-negative (leb 1 n && leb n (2 ^ 30)) n)

numeral-natural : (n c : ℕ) (cs : List ℕ) → Writes n (c ∷ cs) → eqb c 48 ≡ false → is_numeral (c ∷ cs) ≡ leb n (2 ^ 62 - 1)
unfolding is_numeral
numeral-natural n c cs w first =
    rw (not_byte 48 c cs first, first, number-written 0 (2 ^ 62 - 1) n (c ∷ cs) (omega arith) w, le-leb 0 n (omega arith)) (chosen-some (leb n (2 ^ 62 - 1)) n)

natural : (n : ℕ) (word : List ℕ) → Writes n word → eqb (get_or word 0 0) 48 ≡ false → Shows (Natural n) word
natural n [] w first = absurd (omega (arith, w.some))
natural n (c ∷ cs) w first =
    let digit = first-digit n c cs w in
    record {
      literal = literal-natural n c cs w;
      numeral = numeral-natural n c cs w first;
      p = not_byte 112 c cs (digit-not c 112 digit refl);
      cnf = not_cnf c cs (digit-not c 99 digit refl);
      zero = not_byte 48 c cs first;
      percent = not_byte 37 c cs (digit-not c 37 digit refl);
    }

padded : (n : ℕ) (word : List ℕ) → Writes n word → eqb (get_or word 0 0) 48 ≡ true → 1 < length word → Shows (Padded n) word
unfolding is_numeral
padded n [] w first long = absurd (omega arith)
padded n (c ∷ []) w first long = absurd (omega arith)
padded n (c ∷ d ∷ cs) w first long =
    let digit = first-digit n c (d ∷ cs) w in
    record {
      literal = literal-natural n c (d ∷ cs) w;
      numeral = rw first refl;
      p = refl;
      cnf = not_cnf c (d ∷ cs) (digit-not c 99 digit refl);
      zero = refl;
      percent = refl;
    }

negative : (n : ℕ) (digits : List ℕ) → Writes n digits → Shows (Negative n) (45 ∷ digits)
negative n [] w = absurd (omega (arith, w.some))
negative n (d ∷ ds) w = record {
  literal = literal-negative n (d ∷ ds) w;
  numeral = numeral-none (45 ∷ d ∷ ds) refl;
  p = refl;
  cnf = not_cnf 45 (d ∷ ds) refl;
  zero = refl;
  percent = refl;
}

-- one byte, or three, and no number
word-p : Shows P (112 ∷ [])
unfolding literal_in signed_number number_from is_numeral
word-p = record { literal = refl; numeral = refl; p = refl; cnf = refl; zero = refl; percent = refl }

word-c : Shows C (99 ∷ [])
unfolding literal_in signed_number number_from is_numeral
word-c = record { literal = refl; numeral = refl; p = refl; cnf = refl; zero = refl; percent = refl }

word-cn : Shows Cn (99 ∷ 110 ∷ [])
unfolding literal_in signed_number number_from is_numeral
word-cn = record { literal = refl; numeral = refl; p = refl; cnf = refl; zero = refl; percent = refl }

word-cnf : Shows Cnf (99 ∷ 110 ∷ 102 ∷ [])
unfolding literal_in signed_number number_from is_numeral
word-cnf = record { literal = refl; numeral = refl; p = refl; cnf = refl; zero = refl; percent = refl }

word-percent : Shows Percent (37 ∷ [])
unfolding literal_in signed_number number_from is_numeral
word-percent = record { literal = refl; numeral = refl; p = refl; cnf = refl; zero = refl; percent = refl }

word-minus : Shows Minus (45 ∷ [])
unfolding literal_in signed_number number_from is_numeral
word-minus = record { literal = refl; numeral = refl; p = refl; cnf = refl; zero = refl; percent = refl }

word-zero : Shows Zero (48 ∷ [])
unfolding literal_in signed_number number_from is_numeral
word-zero = record { literal = refl; numeral = refl; p = refl; cnf = refl; zero = refl; percent = refl }

pub shows : (seen : Seen) (word : List ℕ) → Describes seen word → Shows seen word
shows P word d = rw d word-p
shows C word d = rw d word-c
shows Cn word d = rw d word-cn
shows Cnf word d = rw d word-cnf
shows Percent word d = rw d word-percent
shows Minus word d = rw d word-minus
shows Zero word d = rw d word-zero
shows (Natural n) word d = natural n word d.0 d.1
shows (Padded n) word d = padded n word d.0 d.1 d.2
shows (Negative n) word d = rw d.1 (negative n d.0 d.2)
shows Other word d = subst (λ (w : List ℕ). Shows Other w) (append-nil word) (d [])

-- ---- the first byte

pub describes-first : (a : ℕ) → Describes (first_seen a) (a ∷ [])
describes-first a =
    elim (cases_Bool (eqb a 48)) [
      | inl h ↦ rw h (ap (λ (x : ℕ). x ∷ []) (eqb-true a 48 h))
      | inr zero ↦ rw zero (elim (cases_Bool (is_ascii_digit a)) [
        | inl h ↦ rw h (writes-first a h, zero)
        | inr digit ↦ rw digit (elim (cases_Bool (eqb a 45)) [
          | inl h ↦ rw h (ap (λ (x : ℕ). x ∷ []) (eqb-true a 45 h))
          | inr minus ↦ rw minus (elim (cases_Bool (eqb a 37)) [
            | inl h ↦ rw h (ap (λ (x : ℕ). x ∷ []) (eqb-true a 37 h))
            | inr percent ↦ rw percent (elim (cases_Bool (eqb a 112)) [
              | inl h ↦ rw h (ap (λ (x : ℕ). x ∷ []) (eqb-true a 112 h))
              | inr p ↦ rw p (elim (cases_Bool (eqb a 99)) [
                | inl h ↦ rw h (ap (λ (x : ℕ). x ∷ []) (eqb-true a 99 h))
                | inr c ↦ rw c (λ rest. other-first a rest digit zero minus percent p c)
              ])
            ])
          ])
        ])
      ])
    ]

-- ---- one more byte

same-first : (word : List ℕ) (a : ℕ) (b : Bool) → 0 < length word → eqb (get_or word 0 0) 48 ≡ b → eqb (get_or (word ++ a ∷ []) 0 0) 48 ≡ b
same-first [] a b some h = absurd (omega arith)
same-first (c ∷ cs) a b some h = h

longer : (word : List ℕ) (a : ℕ) → 1 < length word → 1 < length (word ++ a ∷ [])
longer [] a h = absurd (omega arith)
longer (b ∷ []) a h = absurd (omega arith)
longer (b ∷ c ∷ cs) a h = omega arith

digit-behind : (seen : Seen) (word : List ℕ) (a : ℕ) → Describes seen word → is_ascii_digit a ≡ true → Describes (behind_digit seen (a - 48)) (word ++ a ∷ [])
digit-behind P word a d h = rw d (λ rest. other-longer 112 a rest refl refl (not_cnf 112 (a ∷ rest) refl))
digit-behind C word a d h = rw d (λ rest. other-longer 99 a rest refl refl (not_cnf_second a rest (digit-not a 110 h refl)))
digit-behind Cn word a d h = rw d (λ rest. other-longer 99 110 (a ∷ rest) refl refl (not_cnf_third a rest (digit-not a 102 h refl)))
digit-behind Cnf word a d h = rw d (λ rest. other-longer 99 110 (102 ∷ a ∷ rest) refl refl refl)
digit-behind Percent word a d h = rw d (λ rest. other-longer 37 a rest refl refl (not_cnf 37 (a ∷ rest) refl))
digit-behind Minus word a d h = rw d (a ∷ [], refl, writes-first a h)
digit-behind Zero word a d h = rw d (writes-padded a h, refl, omega arith)
digit-behind (Natural n) word a d h = (writes-more n word a d.0 h, same-first word a false d.0.some d.1)
digit-behind (Padded n) word a d h = (writes-more n word a d.0 h, same-first word a true d.0.some d.1, longer word a d.2)
digit-behind (Negative n) word a d h = rw d.1 (d.0 ++ a ∷ [], refl, writes-more n d.0 a d.2 h)
digit-behind Other word a d h = λ rest. rw (append_assoc word (a ∷ []) rest) (d (a ∷ rest))

-- digits and then another byte
broken : (n : ℕ) (word : List ℕ) (a : ℕ) (rest : List ℕ) → Writes n word → is_ascii_digit a ≡ false → Shows Other ((word ++ a ∷ []) ++ rest)
broken n [] a rest w h = absurd (omega (arith, w.some))
broken n (c ∷ []) a rest w h =
    other-longer c a rest (digit-not c 45 (first-digit n c [] w) refl) (all-other (c ∷ []) a rest w.all h) (not_cnf c (a ∷ rest) (digit-not c 99 (first-digit n c [] w) refl))
broken n (c ∷ e ∷ cs) a rest w h =
    rw (append_assoc cs (a ∷ []) rest)
    (other-longer c e (cs ++ a ∷ rest) (digit-not c 45 (first-digit n c (e ∷ cs) w) refl) (all-other (c ∷ e ∷ cs) a rest w.all h) (not_cnf c (e ∷ (cs ++ a ∷ rest)) (digit-not c 99 (first-digit n c (e ∷ cs) w) refl)))

broken-minus : (n : ℕ) (digits : List ℕ) (a : ℕ) (rest : List ℕ) → Writes n digits → is_ascii_digit a ≡ false → Shows Other (45 ∷ ((digits ++ a ∷ []) ++ rest))
broken-minus n [] a rest w h = absurd (omega (arith, w.some))
broken-minus n (c ∷ cs) a rest w h = rw (append_assoc cs (a ∷ []) rest) (other-minus c (cs ++ a ∷ rest) (all-other (c ∷ cs) a rest w.all h))

letter-c : (a : ℕ) → is_ascii_digit a ≡ false → Describes (behind_letter C a) (99 ∷ a ∷ [])
letter-c a h =
    elim (cases_Bool (eqb a 110)) [
      | inl n ↦ rw n (ap (λ (x : ℕ). 99 ∷ x ∷ []) (eqb-true a 110 n))
      | inr n ↦ rw n (λ rest. other-longer 99 a rest refl refl (not_cnf_second a rest n))
    ]

letter-cn : (a : ℕ) → is_ascii_digit a ≡ false → Describes (behind_letter Cn a) (99 ∷ 110 ∷ a ∷ [])
letter-cn a h =
    elim (cases_Bool (eqb a 102)) [
      | inl f ↦ rw f (ap (λ (x : ℕ). 99 ∷ 110 ∷ x ∷ []) (eqb-true a 102 f))
      | inr f ↦ rw f (λ rest. other-longer 99 110 (a ∷ rest) refl refl (not_cnf_third a rest f))
    ]

letter-behind : (seen : Seen) (word : List ℕ) (a : ℕ) → Describes seen word → is_ascii_digit a ≡ false → Describes (behind_letter seen a) (word ++ a ∷ [])
letter-behind P word a d h = rw d (λ rest. other-longer 112 a rest refl refl (not_cnf 112 (a ∷ rest) refl))
letter-behind C word a d h = rw d (letter-c a h)
letter-behind Cn word a d h = rw d (letter-cn a h)
letter-behind Cnf word a d h = rw d (λ rest. other-longer 99 110 (102 ∷ a ∷ rest) refl refl refl)
letter-behind Percent word a d h = rw d (λ rest. other-longer 37 a rest refl refl (not_cnf 37 (a ∷ rest) refl))
letter-behind Minus word a d h = rw d (λ rest. other-minus a rest (rw h refl))
letter-behind Zero word a d h = rw d (λ rest. other-longer 48 a rest refl (rw h refl) (not_cnf 48 (a ∷ rest) refl))
letter-behind (Natural n) word a d h = λ rest. broken n word a rest d.0 h
letter-behind (Padded n) word a d h = λ rest. broken n word a rest d.0 h
letter-behind (Negative n) word a d h = rw d.1 (λ rest. broken-minus n d.0 a rest d.2 h)
letter-behind Other word a d h = λ rest. rw (append_assoc word (a ∷ []) rest) (d (a ∷ rest))

pub describes-next : (seen : Seen) (word : List ℕ) (a : ℕ) → Describes seen word → Describes (next_seen seen a) (word ++ a ∷ [])
describes-next seen word a d =
    elim (cases_Bool (is_ascii_digit a)) [
      | inl h ↦ rw h (digit-behind seen word a d h)
      | inr h ↦ rw h (letter-behind seen word a d h)
    ]
