-- The lines of a text, byte by byte from the front.
use Rattle.std.proofs.Common.{◌≡◌, ℕ, ◌+◌, ◌<◌, Bool, true, false, eqb, List, [], ◌∷◌, ◌++◌, length, refl, sym, ap, subst, ◌∙◌, inl, inr, arith}
use Rattle.std.proofs.lemmas.Bool.{cases_Bool, eqb-true}
use Rattle.qv_dimacs.specs.Text.{is_white, is_ended, Word, with_word, lengthened, lines_from}
use Rattle.qv_dimacs.specs.Clauses.{is_comment, first_place, no_comments}

abbrev pub first_line : List (List Word) → List Word
first_line [] = []
first_line (line ∷ lines) = line

abbrev pub other_lines : List (List Word) → List (List Word)
other_lines [] = []
other_lines (line ∷ lines) = lines

pub white_lf : (b : ℕ) → eqb b 10 ≡ true → is_white b ≡ true
unfolding is_white
white_lf b h = rw h refl

pub no_lf : (b : ℕ) → is_white b ≡ false → eqb b 10 ≡ false
no_lf b h =
    elim (cases_Bool (eqb b 10)) [
      | inl e ↦ absurd (let t = white_lf b e in cc)
      | inr e ↦ e
    ]

pub black_c : (b : ℕ) → eqb b 99 ≡ true → is_white b ≡ false
unfolding is_white
black_c b h = rw (eqb-true b 99 h) refl

-- ---- one byte

pub lines-lf : (place b : ℕ) (text : List ℕ) → eqb b 10 ≡ true → lines_from place (b ∷ text) ≡ [] ∷ lines_from (place + 1) text
unfolding lines_from
lines-lf place b text h = rw h refl

pub lines-white : (place b : ℕ) (text : List ℕ) → eqb b 10 ≡ false → is_white b ≡ true → lines_from place (b ∷ text) ≡ lines_from (place + 1) text
unfolding lines_from
lines-white place b text h w = rw (h, w) refl

lines-last : (place b : ℕ) (text : List ℕ) → is_white b ≡ false → is_ended text ≡ true
    → lines_from place (b ∷ text) ≡ with_word (record { place = place; text = b ∷ [] }) (lines_from (place + 1) text)
unfolding lines_from
lines-last place b text w e = rw (no_lf b w, w, e) refl

lines-longer : (place b : ℕ) (text : List ℕ) → is_white b ≡ false → is_ended text ≡ false → lines_from place (b ∷ text) ≡ lengthened place b (lines_from (place + 1) text)
unfolding lines_from
lines-longer place b text w e = rw (no_lf b w, w, e) refl

-- ---- a word that goes on begins the lines

abbrev begins_word : List (List Word) → Bool
begins_word [] = false
begins_word ([] ∷ lines) = false
begins_word ((word ∷ line) ∷ lines) = true

with-begins : (word : Word) (lines : List (List Word)) → begins_word (with_word word lines) ≡ true
with-begins word [] = refl
with-begins word (line ∷ lines) = refl

lengthened-begins : (place b : ℕ) (lines : List (List Word)) → begins_word lines ≡ true → begins_word (lengthened place b lines) ≡ true
lengthened-begins place b [] h = absurd (cc)
lengthened-begins place b ([] ∷ lines) h = absurd (cc)
lengthened-begins place b ((word ∷ line) ∷ lines) h = refl

begins : (place : ℕ) (text : List ℕ) → is_ended text ≡ false → begins_word (lines_from place text) ≡ true
begins place [] h = absurd (cc)
begins place (b ∷ text) h =
    elim (cases_Bool (is_ended text)) [
      | inl e ↦ rw (lines-last place b text h e) (with-begins (record { place = place; text = b ∷ [] }) (lines_from (place + 1) text))
      | inr e ↦ rw (lines-longer place b text h e) (lengthened-begins place b (lines_from (place + 1) text) (begins (place + 1) text e))
    ]

-- ---- the first line, and whether it is a comment

-- what a byte of a word says of the lines
pub record Begun (place b : ℕ) (lines behind : List (List Word)) : Type 0 where
  pub comment : is_comment (first_line lines) ≡ eqb b 99
  pub place_is : first_place (first_line lines) ≡ place
  pub others : other_lines lines ≡ other_lines behind
  pub some : lines ≡ first_line lines ∷ other_lines lines

with-begun : (place b : ℕ) (behind : List (List Word)) → Begun place b (with_word (record { place = place; text = b ∷ [] }) behind) behind
with-begun place b [] = record { comment = refl; place_is = refl; others = refl; some = refl }
with-begun place b (line ∷ lines) = record { comment = refl; place_is = refl; others = refl; some = refl }

lengthened-begun : (place b : ℕ) (behind : List (List Word)) → begins_word behind ≡ true → Begun place b (lengthened place b behind) behind
lengthened-begun place b [] h = absurd (cc)
lengthened-begun place b ([] ∷ lines) h = absurd (cc)
lengthened-begun place b ((word ∷ line) ∷ lines) h = record { comment = refl; place_is = refl; others = refl; some = refl }

pub begun : (place b : ℕ) (text : List ℕ) → is_white b ≡ false → Begun place b (lines_from place (b ∷ text)) (lines_from (place + 1) text)
begun place b text w =
    elim (cases_Bool (is_ended text)) [
      | inl e ↦ rw (lines-last place b text w e) (with-begun place b (lines_from (place + 1) text))
      | inr e ↦ rw (lines-longer place b text w e) (lengthened-begun place b (lines_from (place + 1) text) (begins (place + 1) text e))
    ]

-- within a line
pub others-on : (place b : ℕ) (text : List ℕ) → eqb b 10 ≡ false → other_lines (lines_from place (b ∷ text)) ≡ other_lines (lines_from (place + 1) text)
others-on place b text h =
    elim (cases_Bool (is_white b)) [
      | inl w ↦ ap other_lines (lines-white place b text h w)
      | inr w ↦ (begun place b text w).others
    ]

-- ---- a whole word

-- no white space
abbrev pub IsBlack : List ℕ → Type 0
IsBlack [] = Unit {0}
IsBlack (b ∷ word) = (is_white b ≡ false) × IsBlack word

pub black-push : (word : List ℕ) (b : ℕ) → IsBlack word → is_white b ≡ false → IsBlack (word ++ b ∷ [])
black-push [] b h w = (w, tt)
black-push (a ∷ word) b h w = (h.0, black-push word b h.1 w)

lengthened-with : (place b : ℕ) (word : Word) (lines : List (List Word)) → lengthened place b (with_word word lines) ≡ with_word (record { place = place; text = b ∷ word.text }) lines
lengthened-with place b word [] = refl
lengthened-with place b word (line ∷ lines) = refl

pub lines-word : (word : List ℕ) (place : ℕ) (text : List ℕ) → IsBlack word → 0 < length word → is_ended text ≡ true
    → lines_from place (word ++ text) ≡ with_word (record { place = place; text = word }) (lines_from (place + length word) text)
lines-word [] place text black some e = absurd (omega arith)
lines-word (b ∷ []) place text black some e = lines-last place b text black.0 e
lines-word (b ∷ c ∷ word) place text black some e =
    let on : is_ended ((c ∷ word) ++ text) ≡ false = black.1.0 in
    let sum : place + 1 + length (c ∷ word) ≡ place + length (b ∷ c ∷ word) = omega arith in
    lines-longer place b ((c ∷ word) ++ text) black.0 on
    ∙ ap (lengthened place b) (lines-word (c ∷ word) (place + 1) text black.1 (omega arith) e)
    ∙ lengthened-with place b (record { place = place + 1; text = c ∷ word }) (lines_from (place + 1 + length (c ∷ word)) text)
    ∙ ap (λ (n : ℕ). with_word (record { place = place; text = b ∷ c ∷ word }) (lines_from n text)) sum

-- the lines are never none
abbrev pub IsSome : List (List Word) → Type 0
IsSome lines = lines ≡ first_line lines ∷ other_lines lines

lines-some_of : (text : List ℕ) (place : ℕ) → IsSome (lines_from place text)
unfolding lines_from
lines-some_of [] place = refl
lines-some_of (b ∷ text) place =
    elim (cases_Bool (is_white b)) [
      | inr w ↦ (begun place b text w).some
      | inl w ↦ elim (cases_Bool (eqb b 10)) [
        | inl h ↦ subst (λ (lines : List (List Word)). IsSome lines) (sym (lines-lf place b text h)) refl
        | inr h ↦ subst (λ (lines : List (List Word)). IsSome lines) (sym (lines-white place b text h w)) (lines-some_of text (place + 1))
      ]
    ]

pub lines-some : (place : ℕ) (text : List ℕ) → IsSome (lines_from place text)
lines-some place text = lines-some_of text place

-- a word in front of them
pub with-some : (word : Word) (lines : List (List Word)) → IsSome lines → with_word word lines ≡ (word ∷ first_line lines) ∷ other_lines lines
with-some word [] h = refl
with-some word (line ∷ lines) h = refl

-- ---- comments

pub comments-drop : (line : List Word) (lines : List (List Word)) → is_comment line ≡ true → no_comments (line ∷ lines) ≡ no_comments lines
comments-drop line lines h = rw h refl

pub comments-keep : (line : List Word) (lines : List (List Word)) → is_comment line ≡ false → no_comments (line ∷ lines) ≡ line ∷ no_comments lines
comments-keep line lines h = rw h refl
