-- The words of a text are those of the grammar.
use Rattle.std.proofs.Common.{◌≡◌, ℕ, true, false, List, [], ◌∷◌, ◌++◌, length, take, drop, refl, sym, ap, subst, ◌∙◌, inl, inr, arith}
use Rattle.std.specs.Prelude.{◌↔◌}
use Rattle.std.specs.List.{AllByRecursion, prefix_len, position_or_len}
use Rattle.std.proofs.lemmas.Bool.{cases_Bool, cases_eq}
use Rattle.std.proofs.lemmas.List.{append-nil, take-append-drop, nil_from_length, length-take}
use Rattle.qv_lrat_text.specs.Words.{is_blank, is_ended, words, AllBlank, IsWord, IsSpaced}
use Rattle.qv_lrat_text.proofs.WordLemmas.{one_more, words-blank, words-skip, words-first, word_begins, word_some}
use Rattle.qv_lrat_text.proofs.PrintedLemmas.{no_blank, words-word}

front_blank : (text : List ℕ) → AllBlank (take (prefix_len is_blank text) text)
front_blank [] = tt
front_blank (byte ∷ text) =
    elim (cases_Bool (is_blank byte)) [
      | inl h ↦ rw (h, one_more) (h, front_blank text)
      | inr h ↦ rw h tt
    ]

front_word : (text : List ℕ) → AllByRecursion (λ byte. is_blank byte ≡ false) (take (position_or_len is_blank text) text)
front_word [] = tt
front_word (byte ∷ text) =
    elim (cases_Bool (is_blank byte)) [
      | inl h ↦ rw h tt
      | inr h ↦ rw (h, one_more) (h, front_word text)
    ]

rest_ended : (text : List ℕ) → is_ended (drop (position_or_len is_blank text) text) ≡ true
rest_ended [] = refl
rest_ended (byte ∷ text) =
    elim (cases_Bool (is_blank byte)) [
      | inl h ↦ rw h h
      | inr h ↦ rw (h, one_more) (rest_ended text)
    ]

all_blank : (text : List ℕ) → length (drop (prefix_len is_blank text) text) ≡ 0 → AllBlank text
all_blank text none =
    let e : take (prefix_len is_blank text) text ≡ text =
    sym (append-nil (take (prefix_len is_blank text) text))
    ∙ ap (λ (rest : List ℕ). take (prefix_len is_blank text) text ++ rest) (sym (nil_from_length (drop (prefix_len is_blank text) text) none))
    ∙ take-append-drop (prefix_len is_blank text) text in
    subst AllBlank e (front_blank text)

heads : {A : Type 0} (x y : A) (xs ys : List A) → x ∷ xs ≡ y ∷ ys → (x ≡ y) × (xs ≡ ys)
heads x y xs ys e = (cc, cc)

first_words : (text : List ℕ) → (length (drop (prefix_len is_blank text) text) ≡ 0 → ⊥)
    → words text ≡ take (position_or_len is_blank (drop (prefix_len is_blank text) text)) (drop (prefix_len is_blank text) text)
    ∷ words (drop (position_or_len is_blank (drop (prefix_len is_blank text) text)) (drop (prefix_len is_blank text) text))
first_words text some = sym (words-skip text) ∙ words-first (drop (prefix_len is_blank text) text) (word_begins text (omega (arith, some)))

no_words : (text : List ℕ) → length (drop (prefix_len is_blank text) text) ≡ 0 → words text ≡ []
unfolding words
no_words text none = sym (words-skip text) ∙ ap words (nil_from_length (drop (prefix_len is_blank text) text) none)

to_spaced : (found : List (List ℕ)) (text : List ℕ) → words text ≡ found → IsSpaced text found
to_spaced [] text e =
    elim (cases_eq (length (drop (prefix_len is_blank text) text)) 0) [
      | inl none ↦ all_blank text none
      | inr some ↦ let f = first_words text some in absurd cc
    ]
to_spaced (word ∷ others) text e =
    elim (cases_eq (length (drop (prefix_len is_blank text) text)) 0) [
      | inl none ↦ let f = no_words text none in absurd cc
      | inr some ↦
          let after = drop (prefix_len is_blank text) text in
          let m = position_or_len is_blank after in
          let h = heads word (take m after) others (words (drop m after)) (sym e ∙ first_words text some) in
          let parts : text ≡ take (prefix_len is_blank text) text ++ (take m after ++ drop m after) =
          sym (take-append-drop (prefix_len is_blank text) text)
          ∙ ap (λ (rest : List ℕ). take (prefix_len is_blank text) text ++ rest) (sym (take-append-drop m after)) in
          let begins = word_some after (word_begins text (omega (arith, some))) in
          subst (λ (w : List ℕ). IsSpaced text (w ∷ others)) (sym h.0) (
            take (prefix_len is_blank text) text,
            drop m after,
            parts,
            front_blank text,
            (omega (arith, some, begins, length-take m after), front_word after),
            rest_ended after,
            to_spaced others (drop m after) (sym h.1),
          )
    ]

skips : (blanks rest : List ℕ) → AllBlank blanks → words (blanks ++ rest) ≡ words rest
skips [] rest h = refl
skips (byte ∷ blanks) rest h = words-blank byte (blanks ++ rest) h.0 ∙ skips blanks rest h.1

blank_words : (text : List ℕ) → AllBlank text → words text ≡ []
unfolding words
blank_words text h = ap words (sym (append-nil text)) ∙ skips text [] h

whole_word : (word : List ℕ) → AllByRecursion (λ byte. is_blank byte ≡ false) word → no_blank word ≡ true
whole_word [] h = refl
whole_word (byte ∷ word) h = rw (h.0, whole_word word h.1) refl

one_word : (word rest : List ℕ) → IsWord word → is_ended rest ≡ true → words (word ++ rest) ≡ word ∷ words rest
one_word [] rest h ends = absurd (omega (arith, h.0))
one_word (first ∷ others) rest h ends = words-word first others rest (whole_word (first ∷ others) h.1) ends

from_spaced : (found : List (List ℕ)) (text : List ℕ) → IsSpaced text found → words text ≡ found
from_spaced [] text h = blank_words text h
from_spaced (word ∷ others) text h =
    ap words h.2 ∙ skips h.0 (word ++ h.1) h.3 ∙ one_word word h.1 h.4 h.5 ∙ ap (λ (ws : List (List ℕ)). word ∷ ws) (from_spaced others h.1 h.6)

pub words_are_spaced : (text : List ℕ) (found : List (List ℕ)) → (words text ≡ found) ↔ IsSpaced text found
words_are_spaced text found = (to_spaced found text, from_spaced found text)
