-- The words of a line: runs of bytes with blanks between them.
use Rattle.std.specs.Prelude.{◌≡◌, ℕ, ◌<◌, Bool, true, false, ◌||◌, ◌==◌, if◌then◌else◌, List, [], ◌∷◌, ◌++◌, length, take}
use Rattle.std.specs.List.{AllByRecursion}

-- a space, a tab or a CR
unfoldable pub is_blank : ℕ → Bool
is_blank byte = byte == 32 || byte == 9 || byte == 13

-- no word goes on into the text: it is empty, or begins with a blank
abbrev pub is_ended : List ℕ → Bool
is_ended [] = true
is_ended (byte ∷ text) = is_blank byte

-- the words of the text that a byte stands right before, where that text goes on with a word
abbrev pub lengthened : ℕ → List (List ℕ) → List (List ℕ)
lengthened byte [] = (byte ∷ []) ∷ []
lengthened byte (word ∷ words) = (byte ∷ word) ∷ words

-- The words of a text. A blank belongs to none; another byte is a word by itself where a blank or
-- nothing comes next, and else the first byte of the word that comes next.
unfoldable pub words : List ℕ → List (List ℕ)
words [] = []
words (byte ∷ text) =
    if is_blank byte then words text
    else (if is_ended text then (byte ∷ []) ∷ words text else lengthened byte (words text))

-- the word of one byte, which is this one
abbrev pub is_byte_word : ℕ → List ℕ → Bool
is_byte_word byte [] = false
is_byte_word byte (first ∷ []) = first == byte
is_byte_word byte (first ∷ second ∷ others) = false

-- a word and the space behind it
abbrev pub spaced : List ℕ → List ℕ
spaced word = word ++ 32 ∷ []

-- what stood in a text still stands at its front
abbrev pub Keeps : List ℕ → List ℕ → Type 0
Keeps old new = take (length old) new ≡ old

-- ---- the same as a grammar

abbrev pub AllBlank : List ℕ → Type 0
AllBlank text = AllByRecursion (λ byte. is_blank byte ≡ true) text

abbrev pub IsWord : List ℕ → Type 0
IsWord word = (0 < length word) × AllByRecursion (λ byte. is_blank byte ≡ false) word

-- The text is these words: blanks may stand before each and at the end, and behind each comes a
-- blank or the end.
abbrev pub IsSpaced : List ℕ → List (List ℕ) → Type 0
IsSpaced text [] = AllBlank text
IsSpaced text (word ∷ others) =
    (blanks : List ℕ) × (rest : List ℕ) × (text ≡ blanks ++ (word ++ rest))
    × AllBlank blanks × IsWord word × (is_ended rest ≡ true) × IsSpaced rest others
