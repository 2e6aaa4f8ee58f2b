-- The grammar of the lines of LRAT proofs: `ID LITERALS 0 HINTS 0` and `ID d IDS 0`.
use Rattle.std.specs.Prelude.{◌≡◌, ℕ, ℤ, ◌-◌, ◌^◌, ◌≤◌, ◌<◌, ◌==◌, if◌then◌else◌, unsigned_abs, List, [], ◌∷◌, length, take, map, ◌++◌, slice_index, Option, Some, None, All}
use Rattle.std.specs.Option.{option_map, option_and_then}
use Rattle.qv_cnf.specs.Literal.{Literal, IsLiteral, literal_of}
use Rattle.qv_cnf.specs.LratLine.{LratLine, Addition, Deletion}
use Rattle.qv_lrat_text.specs.Words.{words, is_byte_word, IsSpaced}
use Rattle.qv_lrat_text.specs.Decimal.{number_from, signed_number}

infixl 10 ◌>>=◌
abbrev pub ◌>>=◌ : {A B : Type 0} → Option A → (A → Option B) → Option B
o >>= f = option_and_then f o

-- the id, the literal or the hint that a word is
abbrev pub id_of : List ℕ → Option ℕ
id_of word = number_from 1 (2 ^ 62 - 1) word

abbrev pub hint_of : List ℕ → Option ℤ
hint_of word = signed_number (2 ^ 62 - 1) word

unfoldable pub literal_in : List ℕ → Option Literal
literal_in word = option_map literal_of (signed_number (2 ^ 30) word)

-- the numbers up to the word `0`, and the words behind it
unfoldable pub numbers_to_zero : {A : Type 0} → (List ℕ → Option A) → List (List ℕ) → Option (List A × List (List ℕ))
numbers_to_zero read [] = None
numbers_to_zero read (word ∷ others) =
    if is_byte_word 48 word then Some ([], others)
    else do
      number ← read word
      after ← numbers_to_zero read others
      Some (number ∷ after.0, after.1)

-- the line, where no word is left
abbrev pub ended : List (List ℕ) → LratLine → Option LratLine
ended [] line = Some line
ended (word ∷ others) line = None

-- `LITERALS 0 HINTS 0`
abbrev pub addition : ℕ → List (List ℕ) → Option LratLine
addition id text = do
  lits ← numbers_to_zero literal_in text
  hints ← numbers_to_zero hint_of lits.1
  ended hints.1 (Addition id lits.0 hints.0)

-- `IDS 0`
abbrev pub deletion : ℕ → List (List ℕ) → Option LratLine
deletion id text = do
  ids ← numbers_to_zero id_of text
  ended ids.1 (Deletion id ids.0)

-- what stands behind the id
abbrev pub behind_id : ℕ → List (List ℕ) → Option LratLine
behind_id id [] = None
behind_id id (word ∷ others) = if is_byte_word 100 word then deletion id others else addition id (word ∷ others)

-- the line of these words
abbrev pub line_of_words : List (List ℕ) → Option LratLine
line_of_words [] = None
line_of_words (word ∷ others) = do
  id ← id_of word
  behind_id id others

-- a line's text without the LF at its end, where one stands there
abbrev pub without_lf : List ℕ → List ℕ
without_lf text = if slice_index text (length text - 1) == 10 then take (length text - 1) text else text

-- the line that a text is, with or without its LF
unfoldable pub lrat_line : List ℕ → Option LratLine
lrat_line text = line_of_words (words (without_lf text))

-- ---- the same as patterns

-- `ID LITERALS 0 HINTS 0`
pub record IsAddition (text : List (List ℕ)) (id : ℕ) (lits : List Literal) (hints : List ℤ) : Type 0 where
  pub first : List ℕ
  pub lit_words : List (List ℕ)
  pub hint_words : List (List ℕ)
  pub words_are : text ≡ first ∷ (lit_words ++ (48 ∷ []) ∷ (hint_words ++ (48 ∷ []) ∷ []))
  pub id_is : id_of first ≡ Some id
  pub lits_are : map literal_in lit_words ≡ map (λ lit. Some lit) lits
  pub hints_are : map hint_of hint_words ≡ map (λ hint. Some hint) hints

-- `ID d IDS 0`
pub record IsDeletion (text : List (List ℕ)) (id : ℕ) (ids : List ℕ) : Type 0 where
  pub first : List ℕ
  pub id_words : List (List ℕ)
  pub words_are : text ≡ first ∷ (100 ∷ []) ∷ (id_words ++ (48 ∷ []) ∷ [])
  pub id_is : id_of first ≡ Some id
  pub ids_are : map id_of id_words ≡ map (λ deleted. Some deleted) ids

-- the words are those of the line
abbrev pub AreWordsOf : LratLine → List (List ℕ) → Type 0
AreWordsOf (Addition id lits hints) text = IsAddition text id lits hints
AreWordsOf (Deletion id ids) text = IsDeletion text id ids

-- the text is the line, with or without its LF
abbrev pub IsTextOf : LratLine → List ℕ → Type 0
IsTextOf line text = (found : List (List ℕ)) × IsSpaced (without_lf text) found × AreWordsOf line found

-- ---- the ranges

abbrev pub IsId : ℕ → Type 0
IsId id = (1 ≤ id) × (id < 2 ^ 62)

abbrev pub IsHint : ℤ → Type 0
IsHint hint = IsId (unsigned_abs hint)

-- the ids and hints of a line are in their ranges
abbrev pub HasIds : LratLine → Type 0
HasIds (Addition id lits hints) = IsId id × All IsHint hints
HasIds (Deletion id ids) = IsId id × All IsId ids

-- its literals are
abbrev pub HasLiterals : LratLine → Type 0
HasLiterals (Addition id lits hints) = All IsLiteral lits
HasLiterals (Deletion id ids) = Unit {0}

-- its ids, hints and literals are
abbrev pub IsLine : LratLine → Type 0
IsLine line = HasIds line × HasLiterals line
