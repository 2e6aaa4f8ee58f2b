-- What pins the lines of a text down, and what a reader of pieces needs.
use Rattle.std.specs.Prelude.{◌≡◌, ◌≢◌, ℕ, List, [], ◌∷◌, ◌++◌, All}
use Rattle.std.specs.List.{flat_map}
use Rattle.qv_cert.specs.Text.{Text, text_of}

-- the bytes of lines, each with its LF
abbrev pub bytes_of_lines : List (List ℕ) → List ℕ
bytes_of_lines lines = flat_map (λ line. line ++ 10 ∷ []) lines

abbrev pub HasNoLf : List ℕ → Type 0
HasNoLf line = All (λ byte. byte ≢ 10) line

-- the lines and what is behind them are the text, and no LF is in any of them
pub record IsText (bytes : List ℕ) (t : Text) : Type 0 where
  pub bytes_are : bytes ≡ bytes_of_lines t.lines ++ t.rest
  pub lines_end : All HasNoLf t.lines
  pub rest_is_open : HasNoLf t.rest

abbrev pub TextsAreTheirLines : Type 0
TextsAreTheirLines = (bytes : List ℕ) → IsText bytes (text_of bytes)

-- more bytes add lines behind those so far, and only the bytes behind the last LF are still needed
pub record GoesOnAs (t u whole : Text) : Type 0 where
  pub lines : whole.lines ≡ t.lines ++ u.lines
  pub rest : whole.rest ≡ u.rest

abbrev pub TextsGoOn : Type 0
TextsGoOn = (bytes more : List ℕ) → GoesOnAs (text_of bytes) (text_of ((text_of bytes).rest ++ more)) (text_of (bytes ++ more))
