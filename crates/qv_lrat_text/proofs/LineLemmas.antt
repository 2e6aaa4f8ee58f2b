-- A line's spelling is the line again.
use Rattle.std.proofs.Common.{◌≡◌, ℕ, ℤ, ◌-◌, true, List, [], ◌∷◌, ◌++◌, length, map, Option, Some, refl, ap, ◌∙◌, append_assoc, arith}
use Rattle.std.specs.Prelude.{decimal}
use Rattle.std.specs.Fmt.{signed_decimal}
use Rattle.std.specs.List.{AllByRecursion, flat_map}
use Rattle.std.proofs.lemmas.List.{take_at, get_or_at, length-append}
use Rattle.std.proofs.lemmas.List.Elements.{recursion_from_All}
use Rattle.qv_cnf.specs.Literal.{Literal, IsLiteral, number_of}
use Rattle.qv_cnf.specs.LratLine.{LratLine, Addition, Deletion}
use Rattle.qv_lrat_text.specs.Words.{is_blank, words, spaced}
use Rattle.qv_lrat_text.specs.Grammar.{id_of, hint_of, literal_in, numbers_to_zero, addition, behind_id, line_of_words, without_lf, lrat_line, IsId, IsHint, IsLine}
use Rattle.qv_lrat_text.specs.Spelling.{literal_text, spelling}
use Rattle.qv_lrat_text.proofs.PrintedLemmas.{no_blank, words-one, words-spaced, Spells, id-spells, hint-spells, literal-spells}

-- the words of numbers with a space behind each
words-numbers : {A : Type 0} (read : List ℕ → Option A) (text : A → List ℕ) (xs : List A) (rest : List ℕ)
    → AllByRecursion (λ x. Spells read (text x) x) xs → words (flat_map (λ x. spaced (text x)) xs ++ rest) ≡ map text xs ++ words rest
words-numbers read text [] rest each = refl
words-numbers read text (x ∷ xs) rest each =
    ap words (append_assoc (spaced (text x)) (flat_map (λ x. spaced (text x)) xs) rest)
    ∙ words-spaced (text x) (flat_map (λ x. spaced (text x)) xs ++ rest) each.0.some each.0.whole
    ∙ ap (λ (ws : List (List ℕ)). text x ∷ ws) (words-numbers read text xs rest each.1)

-- they are read again, up to the word `0`
numbers_to_zero-again : {A : Type 0} (read : List ℕ → Option A) (text : A → List ℕ) (xs : List A) (after : List (List ℕ))
    → AllByRecursion (λ x. Spells read (text x) x) xs → numbers_to_zero read (map text xs ++ (48 ∷ []) ∷ after) ≡ Some (xs, after)
unfolding numbers_to_zero
numbers_to_zero-again read text [] after each = refl
numbers_to_zero-again read text (x ∷ xs) after each = rw (each.0.not_zero, each.0.reads, numbers_to_zero-again read text xs after each.1) refl

each_spells : {A : Type 0} (P : A → Type 0) (read : List ℕ → Option A) (text : A → List ℕ) → ((x : A) → P x → Spells read (text x) x)
    → (xs : List A) → AllByRecursion P xs → AllByRecursion (λ x. Spells read (text x) x) xs
each_spells P read text spells [] all = tt
each_spells P read text spells (x ∷ xs) all = (spells x all.0, each_spells P read text spells xs all.1)

zero_whole : no_blank (48 ∷ []) ≡ true
unfolding is_blank
zero_whole = refl

d_whole : no_blank (100 ∷ []) ≡ true
unfolding is_blank
d_whole = refl

words-zero : words (48 ∷ []) ≡ (48 ∷ []) ∷ []
words-zero = words-one (48 ∷ []) (omega arith) zero_whole

pub without_lf-line : (text : List ℕ) → without_lf (text ++ 10 ∷ []) ≡ text
without_lf-line text =
    let len : length (text ++ 10 ∷ []) - 1 ≡ length text = omega (arith, length-append text (10 ∷ [])) in
    rw (len, get_or_at text 10 [] 0 (length text) refl, take_at text (10 ∷ []) (length text) refl) refl

-- the word of a literal
abbrev literal_word : Literal → List ℕ
literal_word lit = signed_decimal (number_of lit)

behind_id-addition : (id : ℕ) (lits : List Literal) (after : List (List ℕ)) → AllByRecursion (λ lit. Spells literal_in (literal_word lit) lit) lits
    → behind_id id (map literal_word lits ++ (48 ∷ []) ∷ after) ≡ addition id (map literal_word lits ++ (48 ∷ []) ∷ after)
behind_id-addition id [] after each = refl
behind_id-addition id (lit ∷ lits) after each = rw each.0.not_d refl

line_of_words-addition : (id : ℕ) (lits : List Literal) (hints : List ℤ) → Spells id_of (decimal id) id
    → AllByRecursion (λ lit. Spells literal_in (literal_word lit) lit) lits → AllByRecursion (λ hint. Spells hint_of (signed_decimal hint) hint) hints
    → line_of_words (decimal id ∷ (map literal_word lits ++ (48 ∷ []) ∷ (map signed_decimal hints ++ (48 ∷ []) ∷ []))) ≡ Some (Addition id lits hints)
line_of_words-addition id lits hints first each_lit each_hint =
    rw (
      first.reads,
      behind_id-addition id lits (map signed_decimal hints ++ (48 ∷ []) ∷ []) each_lit,
      numbers_to_zero-again literal_in literal_word lits (map signed_decimal hints ++ (48 ∷ []) ∷ []) each_lit,
      numbers_to_zero-again hint_of signed_decimal hints [] each_hint,
    ) refl

line_of_words-deletion : (id : ℕ) (ids : List ℕ) → Spells id_of (decimal id) id → AllByRecursion (λ deleted. Spells id_of (decimal deleted) deleted) ids
    → line_of_words (decimal id ∷ (100 ∷ []) ∷ (map decimal ids ++ (48 ∷ []) ∷ [])) ≡ Some (Deletion id ids)
line_of_words-deletion id ids first each = rw (first.reads, numbers_to_zero-again id_of decimal ids [] each) refl

-- the spelling without its LF
addition_text : ℕ → List Literal → List ℤ → List ℕ
addition_text id lits hints =
    spaced (decimal id) ++ (flat_map literal_text lits ++ (spaced (48 ∷ []) ++ (flat_map (λ hint. spaced (signed_decimal hint)) hints ++ (48 ∷ []))))

deletion_text : ℕ → List ℕ → List ℕ
deletion_text id ids = spaced (decimal id) ++ (spaced (100 ∷ []) ++ (flat_map (λ deleted. spaced (decimal deleted)) ids ++ (48 ∷ [])))

spelling-addition : (id : ℕ) (lits : List Literal) (hints : List ℤ) → spelling (Addition id lits hints) ≡ addition_text id lits hints ++ 10 ∷ []
unfolding spelling addition_text
spelling-addition id lits hints = simp append_assoc

spelling-deletion : (id : ℕ) (ids : List ℕ) → spelling (Deletion id ids) ≡ deletion_text id ids ++ 10 ∷ []
unfolding spelling deletion_text
spelling-deletion id ids = simp append_assoc

words-addition : (id : ℕ) (lits : List Literal) (hints : List ℤ) → Spells id_of (decimal id) id
    → AllByRecursion (λ lit. Spells literal_in (literal_word lit) lit) lits → AllByRecursion (λ hint. Spells hint_of (signed_decimal hint) hint) hints
    → words (addition_text id lits hints) ≡ decimal id ∷ (map literal_word lits ++ (48 ∷ []) ∷ (map signed_decimal hints ++ (48 ∷ []) ∷ []))
unfolding addition_text
words-addition id lits hints first each_lit each_hint =
    let ends = flat_map (λ hint. spaced (signed_decimal hint)) hints ++ (48 ∷ []) in
    let tail = spaced (48 ∷ []) ++ ends in
    let hints-are : words ends ≡ map signed_decimal hints ++ (48 ∷ []) ∷ [] =
    words-numbers hint_of signed_decimal hints (48 ∷ []) each_hint ∙ ap (λ (ws : List (List ℕ)). map signed_decimal hints ++ ws) words-zero in
    let tail-are : words tail ≡ (48 ∷ []) ∷ (map signed_decimal hints ++ (48 ∷ []) ∷ []) =
    words-spaced (48 ∷ []) ends (omega arith) zero_whole ∙ ap (λ (ws : List (List ℕ)). (48 ∷ []) ∷ ws) hints-are in
    let lits-are : words (flat_map literal_text lits ++ tail) ≡ map literal_word lits ++ (48 ∷ []) ∷ (map signed_decimal hints ++ (48 ∷ []) ∷ []) =
    words-numbers literal_in literal_word lits tail each_lit ∙ ap (λ (ws : List (List ℕ)). map literal_word lits ++ ws) tail-are in
    words-spaced (decimal id) (flat_map literal_text lits ++ tail) first.some first.whole ∙ ap (λ (ws : List (List ℕ)). decimal id ∷ ws) lits-are

words-deletion : (id : ℕ) (ids : List ℕ) → Spells id_of (decimal id) id → AllByRecursion (λ deleted. Spells id_of (decimal deleted) deleted) ids
    → words (deletion_text id ids) ≡ decimal id ∷ (100 ∷ []) ∷ (map decimal ids ++ (48 ∷ []) ∷ [])
unfolding deletion_text
words-deletion id ids first each =
    let ends = flat_map (λ deleted. spaced (decimal deleted)) ids ++ (48 ∷ []) in
    let ids-are : words ends ≡ map decimal ids ++ (48 ∷ []) ∷ [] =
    words-numbers id_of decimal ids (48 ∷ []) each ∙ ap (λ (ws : List (List ℕ)). map decimal ids ++ ws) words-zero in
    let tail-are : words (spaced (100 ∷ []) ++ ends) ≡ (100 ∷ []) ∷ (map decimal ids ++ (48 ∷ []) ∷ []) =
    words-spaced (100 ∷ []) ends (omega arith) d_whole ∙ ap (λ (ws : List (List ℕ)). (100 ∷ []) ∷ ws) ids-are in
    words-spaced (decimal id) (spaced (100 ∷ []) ++ ends) first.some first.whole ∙ ap (λ (ws : List (List ℕ)). decimal id ∷ ws) tail-are

-- a line that is printed is the line again
pub lrat_line-spelling : (line : LratLine) → IsLine line → lrat_line (spelling line) ≡ Some line
unfolding lrat_line
lrat_line-spelling (Addition id lits hints) range =
    let first = id-spells id range.0.0 in
    let each_lit = each_spells IsLiteral literal_in literal_word literal-spells lits (recursion_from_All IsLiteral lits range.1) in
    let each_hint = each_spells IsHint hint_of signed_decimal hint-spells hints (recursion_from_All IsHint hints range.0.1) in
    ap (λ (text : List ℕ). line_of_words (words (without_lf text))) (spelling-addition id lits hints)
    ∙ ap (λ (text : List ℕ). line_of_words (words text)) (without_lf-line (addition_text id lits hints))
    ∙ ap line_of_words (words-addition id lits hints first each_lit each_hint)
    ∙ line_of_words-addition id lits hints first each_lit each_hint
lrat_line-spelling (Deletion id ids) range =
    let first = id-spells id range.0.0 in
    let each = each_spells IsId id_of decimal id-spells ids (recursion_from_All IsId ids range.0.1) in
    ap (λ (text : List ℕ). line_of_words (words (without_lf text))) (spelling-deletion id ids)
    ∙ ap (λ (text : List ℕ). line_of_words (words text)) (without_lf-line (deletion_text id ids))
    ∙ ap line_of_words (words-deletion id ids first each)
    ∙ line_of_words-deletion id ids first each
