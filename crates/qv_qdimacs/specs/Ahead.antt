-- What stands in a text from a place on. No public contract cites this.
use Rattle.std.specs.Prelude.{◌≡◌, ℕ, ◌<◌, ◌≤◌, ◌==◌, Bool, not, ◌&&◌, List, [], ◌∷◌, ◌++◌, length, drop, slice_range}
use Rattle.qv_dimacs.specs.Text.{is_white, Word, lines_from}
use Rattle.qv_dimacs.specs.Clauses.{no_comments}
use Rattle.qv_qdimacs.specs.declared.lexing.Span.{Span}
use Rattle.qv_qdimacs.specs.Text.{words_of}

-- white space within a line, and its end
abbrev pub is_gap : ℕ → Bool
is_gap byte = is_white byte && not (byte == 10)

abbrev pub is_lf : ℕ → Bool
is_lf byte = byte == 10

abbrev pub first_line : List (List Word) → List Word
first_line [] = []
first_line (line ∷ lines) = line

abbrev pub other_lines : List (List Word) → List (List Word)
other_lines [] = []
other_lines (line ∷ lines) = lines

-- the lines from a place on
abbrev pub lines_at : List ℕ → ℕ → List (List Word)
lines_at text at = lines_from at (drop at text)

-- the words that the line of a place has from there on, and all of the lines behind it
abbrev pub line_at : List ℕ → ℕ → List Word
line_at text at = first_line (lines_at text at)

abbrev pub lines_behind : List ℕ → ℕ → List (List Word)
lines_behind text at = other_lines (lines_at text at)

-- those that are no comments, and the words from the place on but for those in comments
abbrev pub told_behind : List ℕ → ℕ → List (List Word)
told_behind text at = no_comments (lines_behind text at)

abbrev pub words_at : List ℕ → ℕ → List Word
words_at text at = line_at text at ++ words_of (told_behind text at)

-- the word of a span
abbrev pub word_at : List ℕ → Span → Word
word_at text span = record { place = span.begin; text = slice_range text span.begin span.end }

-- a word comes behind a place
pub record IsBehind (text : List ℕ) (at : ℕ) (span : Span) : Type 0 where
  pub begins : at ≤ span.begin
  pub some : span.begin < span.end
  pub within : span.end ≤ length text

-- the next word of a place's line
pub record IsNextInLine (text : List ℕ) (at : ℕ) (span : Span) : Type 0 where
  pub behind : IsBehind text at span
  pub line : line_at text at ≡ word_at text span ∷ line_at text span.end
  pub lines : lines_behind text at ≡ lines_behind text span.end

-- the first word of the first line that is no comment, in the lines from a place on
pub record IsFirst (text : List ℕ) (at : ℕ) (span : Span) : Type 0 where
  pub behind : IsBehind text at span
  pub lines : no_comments (lines_at text at) ≡ (word_at text span ∷ line_at text span.end) ∷ told_behind text span.end

-- the next word from a place on
pub record IsNext (text : List ℕ) (at : ℕ) (span : Span) : Type 0 where
  pub behind : IsBehind text at span
  pub words : words_at text at ≡ word_at text span ∷ words_at text span.end

-- where the line behind a place's begins
pub record IsNextLine (text : List ℕ) (at next : ℕ) : Type 0 where
  pub further : at < next
  pub within : next ≤ length text
  pub lines : lines_behind text at ≡ lines_at text next
