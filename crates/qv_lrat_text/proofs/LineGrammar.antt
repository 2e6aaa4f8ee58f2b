-- The lines of the grammar's patterns are those that are read.
use Rattle.std.proofs.Common.{◌≡◌, ℕ, Bool, true, false, cond, List, [], ◌∷◌, ◌++◌, map, Option, Some, None, refl, ap, subst, ◌∙◌}
use Rattle.std.specs.Prelude.{◌↔◌}
use Rattle.std.proofs.lemmas.Bool.{eqb-true}
use Rattle.qv_cnf.specs.Literal.{Literal}
use Rattle.qv_cnf.specs.LratLine.{LratLine, Addition, Deletion}
use Rattle.qv_lrat_text.specs.Words.{words, is_byte_word}
use Rattle.qv_lrat_text.specs.Grammar.{◌>>=◌, id_of, hint_of, literal_in, numbers_to_zero, ended, addition, deletion, behind_id, line_of_words, without_lf, lrat_line, AreWordsOf, IsTextOf}
use Rattle.qv_lrat_text.proofs.Ranges.{bind_some, some_is, ended-is}
use Rattle.qv_lrat_text.proofs.PrintedLemmas.{not_byte, id_of-zero, hint_of-zero, literal_in-zero, literal_in-d}
use Rattle.qv_lrat_text.proofs.WordGrammar.{words_are_spaced}

-- the numbers before the word `0`, as words
pub record IsSplit {A : Type 0} (read : List ℕ → Option A) (text : List (List ℕ)) (xs : List A) (after : List (List ℕ)) : Type 0 where
  pub front : List (List ℕ)
  pub words_are : text ≡ front ++ (48 ∷ []) ∷ after
  pub read_as : map read front ≡ map (λ x. Some x) xs

is_byte : (byte : ℕ) (word : List ℕ) → is_byte_word byte word ≡ true → word ≡ byte ∷ []
is_byte byte [] e = absurd cc
is_byte byte (c ∷ []) e = ap (λ k. k ∷ []) (eqb-true c byte e)
is_byte byte (c ∷ d ∷ cs) e = absurd cc

same_cons : {A : Type 0} (x y : A) (xs ys : List A) → x ≡ y → xs ≡ ys → x ∷ xs ≡ y ∷ ys
same_cons x y xs ys e f = cc

split_after : {A : Type 0} (read : List ℕ → Option A) (zero : Bool) (word : List ℕ) (others : List (List ℕ)) (x : List A × List (List ℕ))
    → (zero ≡ true → word ≡ 48 ∷ []) → ((y : List A × List (List ℕ)) → numbers_to_zero read others ≡ Some y → IsSplit read others y.0 y.1)
    → cond zero (Some ([], others)) (read word >>= λ n. numbers_to_zero read others >>= λ after. Some (n ∷ after.0, after.1)) ≡ Some x
    → IsSplit read (word ∷ others) x.0 x.1
split_after {A} read true word others x zero rest e =
    let nothing : List A × List (List ℕ) = ([], others) in
    subst (λ (y : List A × List (List ℕ)). IsSplit read (word ∷ others) y.0 y.1) (some_is (Some nothing) nothing x refl e)
    (record { front = []; words_are = ap (λ w. w ∷ others) (zero refl); read_as = refl })
split_after {A} read false word others x zero rest e =
    let b = bind_some (read word) (λ n. numbers_to_zero read others >>= λ after. Some (n ∷ after.0, after.1)) x e in
    let c = bind_some (numbers_to_zero read others) (λ after. Some (b.0 ∷ after.0, after.1)) x b.2 in
    let made : List A × List (List ℕ) = (b.0 ∷ c.0.0, c.0.1) in
    let s = rest c.0 c.1 in
    subst (λ (y : List A × List (List ℕ)). IsSplit read (word ∷ others) y.0 y.1) (some_is (Some made) made x refl c.2)
    (record { front = word ∷ s.front; words_are = ap (λ (ws : List (List ℕ)). word ∷ ws) s.words_are; read_as = same_cons (read word) (Some b.0) (map read s.front) (map (λ x. Some x) c.0.0) b.1 s.read_as })

to_split : {A : Type 0} (read : List ℕ → Option A) (text : List (List ℕ)) (x : List A × List (List ℕ)) → numbers_to_zero read text ≡ Some x → IsSplit read text x.0 x.1
unfolding numbers_to_zero
to_split read [] x e = absurd cc
to_split read (word ∷ others) x e = split_after read (is_byte_word 48 word) word others x (is_byte 48 word) (to_split read others) e

from_split : {A : Type 0} (read : List ℕ → Option A) → read (48 ∷ []) ≡ None → (front : List (List ℕ)) (xs : List A) (after : List (List ℕ))
    → map read front ≡ map (λ x. Some x) xs → numbers_to_zero read (front ++ (48 ∷ []) ∷ after) ≡ Some (xs, after)
unfolding numbers_to_zero
from_split read zero [] [] after e = refl
from_split read zero [] (x ∷ xs) after e = absurd cc
from_split read zero (w ∷ ws) [] after e = absurd cc
from_split read zero (w ∷ ws) (x ∷ xs) after e =
    let first : read w ≡ Some x = cc in
    let others : map read ws ≡ map (λ x. Some x) xs = cc in
    rw (not_byte 48 read w x zero first, first, from_split read zero ws xs after others) refl

ended_nil : (words : List (List ℕ)) (line other : LratLine) → ended words line ≡ Some other → words ≡ []
ended_nil [] line other e = refl
ended_nil (word ∷ words) line other e = absurd cc

to_addition : (first : List ℕ) (id : ℕ) (text : List (List ℕ)) (line : LratLine) → id_of first ≡ Some id → addition id text ≡ Some line → AreWordsOf line (first ∷ text)
to_addition first id text line id_is e =
    let a = bind_some (numbers_to_zero literal_in text) (λ lits. numbers_to_zero hint_of lits.1 >>= λ hints. ended hints.1 (Addition id lits.0 hints.0)) line e in
    let b = bind_some (numbers_to_zero hint_of a.0.1) (λ hints. ended hints.1 (Addition id a.0.0 hints.0)) line a.2 in
    let s = to_split literal_in text a.0 a.1 in
    let t = to_split hint_of a.0.1 b.0 b.1 in
    let nothing = ended_nil b.0.1 (Addition id a.0.0 b.0.0) line b.2 in
    let hints-are : a.0.1 ≡ t.front ++ (48 ∷ []) ∷ [] = t.words_are ∙ ap (λ (ws : List (List ℕ)). t.front ++ (48 ∷ []) ∷ ws) nothing in
    let lits-are : text ≡ s.front ++ (48 ∷ []) ∷ (t.front ++ (48 ∷ []) ∷ []) = s.words_are ∙ ap (λ (ws : List (List ℕ)). s.front ++ (48 ∷ []) ∷ ws) hints-are in
    subst (λ (l : LratLine). AreWordsOf l (first ∷ text)) (ended-is b.0.1 (Addition id a.0.0 b.0.0) line b.2)
    (record {
      first = first;
      lit_words = s.front;
      hint_words = t.front;
      words_are = ap (λ (ws : List (List ℕ)). first ∷ ws) lits-are;
      id_is = id_is;
      lits_are = s.read_as;
      hints_are = t.read_as;
    })

to_deletion : (first second : List ℕ) (id : ℕ) (text : List (List ℕ)) (line : LratLine) → id_of first ≡ Some id → second ≡ 100 ∷ [] → deletion id text ≡ Some line
    → AreWordsOf line (first ∷ second ∷ text)
to_deletion first second id text line id_is d e =
    let a = bind_some (numbers_to_zero id_of text) (λ ids. ended ids.1 (Deletion id ids.0)) line e in
    let s = to_split id_of text a.0 a.1 in
    let nothing = ended_nil a.0.1 (Deletion id a.0.0) line a.2 in
    let ids-are : text ≡ s.front ++ (48 ∷ []) ∷ [] = s.words_are ∙ ap (λ (ws : List (List ℕ)). s.front ++ (48 ∷ []) ∷ ws) nothing in
    subst (λ (l : LratLine). AreWordsOf l (first ∷ second ∷ text)) (ended-is a.0.1 (Deletion id a.0.0) line a.2)
    (record {
      first = first;
      id_words = s.front;
      words_are = ap (λ (ws : List (List ℕ)). first ∷ ws) (same_cons second (100 ∷ []) text (s.front ++ (48 ∷ []) ∷ []) d ids-are);
      id_is = id_is;
      ids_are = s.read_as;
    })

behind_id_words : (deletes : Bool) (first second : List ℕ) (id : ℕ) (others : List (List ℕ)) (line : LratLine) → id_of first ≡ Some id → (deletes ≡ true → second ≡ 100 ∷ [])
    → cond deletes (deletion id others) (addition id (second ∷ others)) ≡ Some line → AreWordsOf line (first ∷ second ∷ others)
behind_id_words true first second id others line id_is d e = to_deletion first second id others line id_is (d refl) e
behind_id_words false first second id others line id_is d e = to_addition first id (second ∷ others) line id_is e

to_words : (text : List (List ℕ)) (line : LratLine) → line_of_words text ≡ Some line → AreWordsOf line text
to_words [] line e = absurd cc
to_words (first ∷ []) line e = let a = bind_some (id_of first) (λ id. behind_id id []) line e in absurd cc
to_words (first ∷ second ∷ others) line e =
    let a = bind_some (id_of first) (λ id. behind_id id (second ∷ others)) line e in
    behind_id_words (is_byte_word 100 second) first second a.0 others line a.1 (is_byte 100 second) a.2

behind_id_front : (id : ℕ) (lit_words : List (List ℕ)) (lits : List Literal) (after : List (List ℕ)) → map literal_in lit_words ≡ map (λ lit. Some lit) lits
    → behind_id id (lit_words ++ (48 ∷ []) ∷ after) ≡ addition id (lit_words ++ (48 ∷ []) ∷ after)
behind_id_front id [] lits after e = refl
behind_id_front id (w ∷ ws) [] after e = absurd cc
behind_id_front id (w ∷ ws) (lit ∷ lits) after e =
    let first : literal_in w ≡ Some lit = cc in
    rw (not_byte 100 literal_in w lit literal_in-d first) refl

from_words : (text : List (List ℕ)) (line : LratLine) → AreWordsOf line text → line_of_words text ≡ Some line
from_words text (Addition id lits hints) h =
    let after = h.hint_words ++ (48 ∷ []) ∷ [] in
    ap line_of_words h.words_are
    ∙ rw (
      h.id_is,
      behind_id_front id h.lit_words lits after h.lits_are,
      from_split literal_in literal_in-zero h.lit_words lits after h.lits_are,
      from_split hint_of hint_of-zero h.hint_words hints [] h.hints_are,
    ) refl
from_words text (Deletion id ids) h =
    ap line_of_words h.words_are ∙ rw (h.id_is, from_split id_of id_of-zero h.id_words ids [] h.ids_are) refl

pub line_is_text : (text : List ℕ) (line : LratLine) → (lrat_line text ≡ Some line) ↔ IsTextOf line text
unfolding lrat_line
line_is_text text line = (
  λ e. (words (without_lf text), (words_are_spaced (without_lf text) (words (without_lf text))).0 refl, to_words (words (without_lf text)) line e),
  λ h. ap line_of_words ((words_are_spaced (without_lf text) h.0).1 h.1) ∙ from_words h.0 line h.2,
)
