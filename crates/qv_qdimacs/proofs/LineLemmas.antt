-- The lines of a text from a place on.
use Rattle.std.proofs.Common.{◌≡◌, ℕ, suc, ◌+◌, ◌-◌, ◌<◌, ◌≤◌, Bool, true, false, eqb, not, ◌&&◌, List, [], ◌∷◌, length, take, drop, refl, sym, ap, ◌∙◌, inl, inr, arith}
use Rattle.std.specs.List.{prefix_len, position_or_len}
use Rattle.std.specs.Prelude.{slice_range}
use Rattle.std.proofs.lemmas.Bool.{cases_Bool}
use Rattle.std.proofs.lemmas.List.{drop-drop, length-drop, length-take-le, take-append-drop}
use Rattle.std.proofs.lemmas.List.Sums.{prefix_len-le-length}
use Rattle.qv_dimacs.specs.Text.{is_white, is_ended, Word, with_word, lines_from}
use Rattle.qv_dimacs.proofs.LineLemmas.{IsBlack, lines-lf, lines-white, lines-word, lines-some, with-some, others-on}
use Rattle.qv_qdimacs.specs.Ahead.{is_gap, is_lf, first_line, other_lines, lines_at, line_at, lines_behind, IsNextInLine, IsNextLine}

one_more : (n : ℕ) → 1 + n ≡ suc n
one_more n = omega arith

no-more : (n : ℕ) → n + 0 ≡ n
no-more n = omega arith

step : (n m : ℕ) → n + suc m ≡ n + 1 + m
step n m = omega arith

-- ---- white space

gap-white : (b : ℕ) → is_gap b ≡ true → (is_white b ≡ true) × (eqb b 10 ≡ false)
gap-white b h = both (is_white b) (eqb b 10) h
  where
    both : (x y : Bool) → (x && not y) ≡ true → (x ≡ true) × (y ≡ false)
    both true false h = (refl, refl)
    both true true h = absurd (cc)
    both false y h = absurd (cc)

lines-skip : (place : ℕ) (text : List ℕ) → lines_from (place + prefix_len is_gap text) (drop (prefix_len is_gap text) text) ≡ lines_from place text
lines-skip place [] = ap (λ (n : ℕ). lines_from n []) (no-more place)
lines-skip place (b ∷ text) =
    elim (cases_Bool (is_gap b)) [
      | inl h ↦
          let w = gap-white b h in
          rw (h, one_more, step) (lines-skip (place + 1) text ∙ sym (lines-white place b text w.1 w.0))
      | inr h ↦ rw h (ap (λ (n : ℕ). lines_from n (b ∷ text)) (no-more place))
    ]

-- behind it the line is at its end, or a word begins
not-gap : (text : List ℕ) → prefix_len is_gap (drop (prefix_len is_gap text) text) ≡ 0
not-gap [] = refl
not-gap (b ∷ text) =
    elim (cases_Bool (is_gap b)) [
      | inl h ↦ rw (h, one_more) (not-gap text)
      | inr h ↦ rw h (rw h refl)
    ]

-- no word stands here
no-word : (place : ℕ) (text : List ℕ) → prefix_len is_gap text ≡ 0 → position_or_len is_white text ≡ 0 → first_line (lines_from place text) ≡ []
unfolding lines_from
no-word place [] gap none = refl
no-word place (b ∷ text) gap none =
    elim (cases_Bool (is_white b)) [
      | inr w ↦ absurd (let some : 1 + position_or_len is_white text ≡ 0 = rw w at none in omega (arith, some))
      | inl w ↦ elim (cases_Bool (eqb b 10)) [
        | inl lf ↦ ap first_line (lines-lf place b text lf)
        | inr on ↦ absurd (let some : 1 + prefix_len is_gap text ≡ 0 = rw (w, on) at gap in omega (arith, some))
      ]
    ]

-- ---- a word

black-front : (text : List ℕ) → IsBlack (take (position_or_len is_white text) text)
black-front [] = tt
black-front (b ∷ text) =
    elim (cases_Bool (is_white b)) [
      | inl w ↦ rw w tt
      | inr w ↦ rw (w, one_more) (w, black-front text)
    ]

ended-behind : (text : List ℕ) → is_ended (drop (position_or_len is_white text) text) ≡ true
ended-behind [] = refl
ended-behind (b ∷ text) =
    elim (cases_Bool (is_white b)) [
      | inl w ↦ rw w w
      | inr w ↦ rw (w, one_more) (ended-behind text)
    ]

lines-first : (place : ℕ) (text : List ℕ) → 0 < position_or_len is_white text
    → lines_from place text ≡ with_word (record { place = place; text = take (position_or_len is_white text) text })
    (lines_from (place + position_or_len is_white text) (drop (position_or_len is_white text) text))
lines-first place text some =
    let n = position_or_len is_white text in
    let long : length (take n text) ≡ n = length-take-le n text (prefix_len-le-length (λ b. not (is_white b)) text) in
    ap (lines_from place) (sym (take-append-drop n text))
    ∙ lines-word (take n text) place (drop n text) (black-front text) (omega (arith, some, long)) (ended-behind text)
    ∙ ap (λ (m : ℕ). with_word (record { place = place; text = take n text }) (lines_from (place + m) (drop n text))) long

-- the next word of a line, where one begins behind its white space
module _ (text : List ℕ) (at begin end : ℕ) (within : at ≤ length text) (begin-is : begin ≡ at + prefix_len is_gap (drop at text))
    (end-is : end ≡ begin + position_or_len is_white (drop begin text)) (low : begin ≤ length text) (high : end ≤ length text) where
  skipped : drop begin text ≡ drop (prefix_len is_gap (drop at text)) (drop at text)
  skipped = ap (λ (n : ℕ). drop n text) begin-is ∙ sym (drop-drop (prefix_len is_gap (drop at text)) at text)

  lines-same : lines_at text at ≡ lines_at text begin
  lines-same =
      sym (lines-skip at (drop at text))
      ∙ ap (λ (n : ℕ). lines_from n (drop (prefix_len is_gap (drop at text)) (drop at text))) (sym begin-is)
      ∙ ap (lines_from begin) (sym skipped)

  pub in_line-none : begin ≡ end → line_at text at ≡ []
  in_line-none none =
      ap first_line lines-same
      ∙ no-word begin (drop begin text) (ap (prefix_len is_gap) skipped ∙ not-gap (drop at text)) (omega (arith, end-is, none))

  pub in_line-some : (begin ≡ end → ⊥) → IsNextInLine text at (record { begin = begin; end = end })
  in_line-some some =
      let n = position_or_len is_white (drop begin text) in
      let behind : drop n (drop begin text) ≡ drop end text = drop-drop n begin text ∙ ap (λ (m : ℕ). drop m text) (sym end-is) in
      let word : Word = record { place = begin; text = slice_range text begin end } in
      let count : n ≡ end - begin = omega (arith, end-is) in
      let split : lines_at text at ≡ with_word word (lines_at text end) =
      lines-same
      ∙ lines-first begin (drop begin text) (omega (arith, end-is, some))
      ∙ ap (λ (m : ℕ). with_word (record { place = begin; text = take m (drop begin text) }) (lines_from (begin + n) (drop n (drop begin text)))) count
      ∙ ap (λ (rest : List ℕ). with_word word (lines_from (begin + n) rest)) behind
      ∙ ap (λ (m : ℕ). with_word word (lines_from m (drop end text))) (sym end-is) in
      let whole = split ∙ with-some word (lines_at text end) (lines-some end (drop end text)) in
      record {
        behind = record { begins = omega (arith, begin-is); some = omega (arith, end-is, some); within = high };
        line = ap first_line whole;
        lines = ap other_lines whole;
      }

-- ---- the next line

no-line : (place : ℕ) (text : List ℕ) → position_or_len is_lf text ≡ length text → other_lines (lines_from place text) ≡ []
unfolding lines_from
no-line place [] h = refl
no-line place (b ∷ text) h =
    elim (cases_Bool (eqb b 10)) [
      | inl lf ↦ absurd (let none : 0 ≡ length (b ∷ text) = rw lf at h in omega (arith, none))
      | inr on ↦
          let more : 1 + position_or_len is_lf text ≡ length (b ∷ text) = rw on at h in
          others-on place b text on ∙ no-line (place + 1) text (omega (arith, more))
    ]

behind-more : (place n m b : ℕ) (text : List ℕ) → n ≡ 1 + m → lines_from (place + 1 + m + 1) (drop (m + 1) text) ≡ lines_from (place + n + 1) (drop (n + 1) (b ∷ text))
behind-more place n m b text is =
    let same : place + 1 + m + 1 ≡ place + n + 1 = omega (arith, is) in
    let next : n + 1 ≡ suc (m + 1) = omega (arith, is) in
    ap (λ (k : ℕ). lines_from k (drop (m + 1) text)) same ∙ ap (λ (k : ℕ). lines_from (place + n + 1) (drop k (b ∷ text))) (sym next)

line-behind : (place : ℕ) (text : List ℕ) → position_or_len is_lf text < length text
    → other_lines (lines_from place text) ≡ lines_from (place + position_or_len is_lf text + 1) (drop (position_or_len is_lf text + 1) text)
unfolding lines_from
line-behind place [] h = absurd (omega (arith, h))
line-behind place (b ∷ text) h =
    elim (cases_Bool (eqb b 10)) [
      | inl lf ↦ ap other_lines (lines-lf place b text lf) ∙ rw lf (ap (λ (n : ℕ). lines_from (n + 1) text) (sym (no-more place)))
      | inr on ↦
          let more : 1 + position_or_len is_lf text < length (b ∷ text) = rw on at h in
          let count : position_or_len is_lf (b ∷ text) ≡ 1 + position_or_len is_lf text = rw on refl in
          others-on place b text on ∙ line-behind (place + 1) text (omega (arith, more))
          ∙ behind-more place (position_or_len is_lf (b ∷ text)) (position_or_len is_lf text) b text count
    ]

module _ (text : List ℕ) (at end : ℕ) (within : at ≤ length text) (end-is : end ≡ at + position_or_len is_lf (drop at text)) (high : end ≤ length text) where
  pub line-none : end ≡ length text → lines_behind text at ≡ []
  line-none last = no-line at (drop at text) (omega (arith, end-is, last, length-drop at text, within))

  pub line-some : (end ≡ length text → ⊥) → IsNextLine text at (end + 1)
  line-some other =
      let n = position_or_len is_lf (drop at text) in
      let more : at + (n + 1) ≡ end + 1 = omega (arith, end-is) in
      let place : at + n + 1 ≡ end + 1 = omega (arith, end-is) in
      record {
        further = omega (arith, end-is);
        within = omega (arith, high, other);
        lines = line-behind at (drop at text) (omega (arith, end-is, high, other, length-drop at text, within))
            ∙ ap (λ (rest : List ℕ). lines_from (at + n + 1) rest) (drop-drop (n + 1) at text ∙ ap (λ (m : ℕ). drop m text) more)
            ∙ ap (λ (m : ℕ). lines_from m (drop (end + 1) text)) place;
      }
