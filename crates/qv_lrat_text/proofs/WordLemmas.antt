-- The words of a text, one after the other.
use Rattle.std.proofs.Common.{◌≡◌, ℕ, suc, ◌+◌, ◌<◌, true, false, List, [], ◌∷◌, length, take, drop, refl, sym, ap, ◌∙◌, inl, inr, arith}
use Rattle.std.specs.List.{prefix_len, position_or_len}
use Rattle.std.proofs.lemmas.Bool.{cases_Bool}
use Rattle.std.proofs.lemmas.List.{nil_from_length, length-drop}
use Rattle.qv_lrat_text.specs.Words.{is_blank, is_ended, lengthened, words}

pub words-blank : (byte : ℕ) (text : List ℕ) → is_blank byte ≡ true → words (byte ∷ text) ≡ words text
unfolding words
words-blank byte text h = rw h refl

pub words-last : (byte : ℕ) (text : List ℕ) → is_blank byte ≡ false → is_ended text ≡ true → words (byte ∷ text) ≡ (byte ∷ []) ∷ words text
unfolding words
words-last byte text h e = rw (h, e) refl

pub words-longer : (byte : ℕ) (text : List ℕ) → is_blank byte ≡ false → is_ended text ≡ false → words (byte ∷ text) ≡ lengthened byte (words text)
unfolding words
words-longer byte text h e = rw (h, e) refl

pub one_more : (n : ℕ) → 1 + n ≡ suc n
one_more n = omega arith

-- blanks at the front belong to no word
pub words-skip : (text : List ℕ) → words (drop (prefix_len is_blank text) text) ≡ words text
words-skip [] = refl
words-skip (byte ∷ text) =
    elim (cases_Bool (is_blank byte)) [
      | inl h ↦ rw (h, one_more) (words-skip text ∙ sym (words-blank byte text h))
      | inr h ↦ rw h refl
    ]

-- behind them the text is at its end, or a word begins
pub word_begins : (text : List ℕ) → 0 < length (drop (prefix_len is_blank text) text) → is_ended (drop (prefix_len is_blank text) text) ≡ false
word_begins [] some = absurd (omega arith)
word_begins (byte ∷ text) some =
    elim (cases_Bool (is_blank byte)) [
      | inl h ↦ rw (h, one_more) (word_begins text (rw (h, one_more) at some))
      | inr h ↦ rw h h
    ]

-- a word goes up to the next blank
word_stops : (text : List ℕ) → is_ended text ≡ true → position_or_len is_blank text ≡ 0
word_stops [] h = refl
word_stops (byte ∷ text) h = rw h refl

pub words-first : (text : List ℕ) → is_ended text ≡ false → words text ≡ take (position_or_len is_blank text) text ∷ words (drop (position_or_len is_blank text) text)
words-first [] h = absurd (cc)
words-first (byte ∷ text) h =
    elim (cases_Bool (is_ended text)) [
      | inl e ↦ rw (h, word_stops text e) (words-last byte text h e)
      | inr e ↦ rw (h, one_more) (words-longer byte text h e ∙ rw (words-first text e) refl)
    ]

pub word_some : (text : List ℕ) → is_ended text ≡ false → 0 < position_or_len is_blank text
word_some [] h = absurd (cc)
word_some (byte ∷ text) h = rw h (omega arith)

-- after the blanks at the front nothing is left
pub split_none : (text after : List ℕ) (n : ℕ) → n ≡ prefix_len is_blank text → after ≡ drop n text → length after ≡ 0 → words text ≡ []
unfolding words
split_none text after n n-is after-is none =
    let e : after ≡ drop (prefix_len is_blank text) text = after-is ∙ ap (λ k. drop k text) n-is in
    sym (words-skip text) ∙ ap words (sym e) ∙ ap words (nil_from_length after none)

-- or a word begins
pub split_begins : (text after : List ℕ) (n : ℕ) → n ≡ prefix_len is_blank text → after ≡ drop n text → (length after ≡ 0 → ⊥) → is_ended after ≡ false
split_begins text after n n-is after-is some =
    let e : after ≡ drop (prefix_len is_blank text) text = after-is ∙ ap (λ k. drop k text) n-is in
    rw e (word_begins text (omega (arith, some, ap length e)))

pub split_some : (text after word rest : List ℕ) (n m : ℕ) → n ≡ prefix_len is_blank text → after ≡ drop n text → (length after ≡ 0 → ⊥)
    → m ≡ position_or_len is_blank after → word ≡ take m after → rest ≡ drop m after → words text ≡ word ∷ words rest
split_some text after word rest n m n-is after-is some m-is word-is rest-is =
    let e : after ≡ drop (prefix_len is_blank text) text = after-is ∙ ap (λ k. drop k text) n-is in
    let first = words-first after (split_begins text after n n-is after-is some) in
    sym (words-skip text) ∙ ap words (sym e) ∙ first ∙ rw (word-is, rest-is, m-is) refl

pub split_shorter : (text after rest : List ℕ) (n m : ℕ) → n ≡ prefix_len is_blank text → after ≡ drop n text → (length after ≡ 0 → ⊥)
    → m ≡ position_or_len is_blank after → rest ≡ drop m after → length rest < length text
split_shorter text after rest n m n-is after-is some m-is rest-is =
    let positive = word_some after (split_begins text after n n-is after-is some) in
    omega (arith, some, positive, ap length after-is ∙ length-drop n text, ap length rest-is ∙ length-drop m after)
