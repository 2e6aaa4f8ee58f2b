-- How the tokens of a text stand in it.
use Rattle.std.specs.Prelude.{ℕ, ◌≡◌, ◌+◌, ◌<◌, Bool, true, false, not, ◌⊎◌, List, [], ◌∷◌, ◌++◌, length, Ok, Err}
use Rattle.qv_text.specs.declared.kinds.TokenKind.{TokenKind}
use Rattle.qv_text.specs.declared.kinds.LexFault.{LexFault}
use Rattle.qv_text.specs.Bytes.{is_white, is_line_end}
use Rattle.qv_text.specs.Reading.{Lexeme, Tokens, ends, stops_at, gives, tokens, token_at, kind_of}

-- These bytes are white space and comments. The first say whether a comment is open before them and
-- behind them.
abbrev pub IsBlank : Bool → Bool → List ℕ → Type 0
IsBlank before after [] = before ≡ after
IsBlank true after (b ∷ bs) = IsBlank (not (is_line_end b)) after bs
IsBlank false after (b ∷ bs) = ((is_white b ≡ true) × IsBlank false after bs) ⊎ ((b ≡ 59) × IsBlank true after bs)

-- the token stands behind white space and comments, is the longest there, and more are the tokens
-- of the rest
pub record StandsFirst (comment : Bool) (place : ℕ) (bytes : List ℕ) (l : Lexeme) (more : Tokens) : Type 0 where
  pub blank : List ℕ
  pub rest : List ℕ
  pub kind : TokenKind
  pub spelt : bytes ≡ blank ++ (l.text ++ rest)
  pub passed : IsBlank comment false blank
  pub place_is : l.place ≡ place + length blank
  pub some : 0 < length l.text
  pub longest : token_at (l.text ++ rest) ≡ Ok (kind, length l.text)
  pub kind_is : l.kind ≡ kind_of kind l.text
  pub others : more ≡ tokens (l.place + length l.text) rest

-- behind white space and comments there is no token, for this cause
pub record StandsFaulty (comment : Bool) (place : ℕ) (bytes : List ℕ) (fault : LexFault) : Type 0 where
  pub blank : List ℕ
  pub rest : List ℕ
  pub spelt : bytes ≡ blank ++ rest
  pub passed : IsBlank comment false blank
  pub place_is : fault.place ≡ place + length blank
  pub cause : token_at rest ≡ Err fault.kind

-- the bytes that begin at this place, in a comment or not, have these tokens
abbrev pub Stand : Bool → ℕ → List ℕ → Tokens → Type 0
Stand comment place bytes ends = (after : Bool) × IsBlank comment after bytes
Stand comment place bytes (stops_at fault) = StandsFaulty comment place bytes fault
Stand comment place bytes (gives l more) = StandsFirst comment place bytes l more
