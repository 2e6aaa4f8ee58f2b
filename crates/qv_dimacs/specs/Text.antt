-- The lines of a text and their words.
use Rattle.std.specs.Prelude.{ℕ, ◌+◌, ◌==◌, Bool, true, ◌||◌, if◌then◌else◌, List, [], ◌∷◌}

-- an LF, a space, a tab or a CR
unfoldable pub is_white : ℕ → Bool
is_white byte = byte == 10 || (byte == 32 || (byte == 9 || byte == 13))

-- no word goes on into the text: it is empty, or begins with white space
abbrev pub is_ended : List ℕ → Bool
is_ended [] = true
is_ended (byte ∷ text) = is_white byte

-- a word, and the place where it begins
pub record Word : Type 0 where
  pub place : ℕ
  pub text : List ℕ

-- the lines with one more word at the front of the first
abbrev pub with_word : Word → List (List Word) → List (List Word)
with_word word [] = (word ∷ []) ∷ []
with_word word (line ∷ lines) = (word ∷ line) ∷ lines

-- the lines of a text that a byte stands right before, where that text goes on with a word
abbrev pub lengthened : ℕ → ℕ → List (List Word) → List (List Word)
lengthened place byte [] = []
lengthened place byte ([] ∷ lines) = [] ∷ lines
lengthened place byte ((word ∷ line) ∷ lines) = (record { place = place; text = byte ∷ word.text } ∷ line) ∷ lines

-- The lines of a text that begins at a place, each as the list of its words. An LF ends a line.
-- Other white space belongs to no word; another byte is a word by itself where white space or
-- nothing comes next, and else the first byte of the word that comes next.
unfoldable pub lines_from : ℕ → List ℕ → List (List Word)
lines_from place [] = [] ∷ []
lines_from place (byte ∷ text) =
    if byte == 10 then [] ∷ lines_from (place + 1) text
    else (if is_white byte then lines_from (place + 1) text
    else (if is_ended text then with_word (record { place = place; text = byte ∷ [] }) (lines_from (place + 1) text)
    else lengthened place byte (lines_from (place + 1) text)))
