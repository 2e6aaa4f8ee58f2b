-- How the lexer looks at a token byte by byte. No public contract cites this.
use Rattle.std.specs.Prelude.{ℕ, ◌≡◌, ◌+◌, ◌-◌, ◌==◌, ◌≤◌, ◌<◌, Bool, true, false, not, if◌then◌else◌, List, [], ◌++◌, length, drop, slice_index, Ok, Err, IsTrue}
use Rattle.qv_text.specs.declared.kinds.TokenKind.TheVariants.{LeftParen, RightParen, Symbol, Keyword, Numeral, Decimal, Hex, Binary, Text}
use Rattle.qv_text.specs.declared.kinds.LexKind.TheVariants.{Character, Text as OpenText, QuotedSymbol, Numeral as LeadingZero, Literal}
use Rattle.qv_text.specs.declared.scan.Mode.{Mode}
use Rattle.qv_text.specs.declared.scan.Mode.TheVariants.{Start, InQuoted, InText, AtQuote, AtHash, AtBinary, InBinary, AtHex, InHex, AtColon, InKeyword, AtZero, InDigits, AtDot, InFraction, InSymbol}
use Rattle.qv_text.specs.declared.scan.Move.{Move}
use Rattle.qv_text.specs.declared.scan.Move.TheVariants.{Go, Last, Before, BeforeDot, Wrong}
use Rattle.qv_text.specs.declared.scan.Scanned.{Scanned}
use Rattle.qv_text.specs.declared.scan.Scanned.TheVariants.{Open, Token as GotToken, Fault as GotFault}
use Rattle.qv_text.specs.Bytes.{is_blank, is_line_end, is_digit, is_binary, is_hex, is_symbol, begins_symbol}
use Rattle.qv_text.specs.Reading.{Found, Tokens, tokens, tokens_behind, run, quoted_len, text_len, closed, literal, behind_hash, behind_colon, behind_dot, behind_zero, number, token_at}

-- what the first byte of a token shows
unfoldable pub opening : ℕ → Move
opening b =
    if b == 40 then Last LeftParen
    else (if b == 41 then Last RightParen
    else (if b == 124 then Go InQuoted
    else (if b == 34 then Go InText
    else (if b == 35 then Go AtHash
    else (if b == 58 then Go AtColon
    else (if b == 48 then Go AtZero
    else (if is_digit b then Go InDigits
    else (if is_symbol b then Go InSymbol
    else Wrong Character))))))))

-- what one more byte shows
unfoldable pub step : Mode → ℕ → Move
step Start b = opening b
step InQuoted b = if b == 124 then Last Symbol else (if b == 92 then Wrong QuotedSymbol else Go InQuoted)
step InText b = if b == 34 then Go AtQuote else Go InText
step AtQuote b = if b == 34 then Go InText else Before Text
step AtHash b = if b == 98 then Go AtBinary else (if b == 120 then Go AtHex else Wrong Character)
step AtBinary b = if is_binary b then Go InBinary else Wrong Literal
step InBinary b = if is_binary b then Go InBinary else Before Binary
step AtHex b = if is_hex b then Go InHex else Wrong Literal
step InHex b = if is_hex b then Go InHex else Before Hex
step AtColon b = if begins_symbol b then Go InKeyword else Wrong Character
step InKeyword b = if is_symbol b then Go InKeyword else Before Keyword
step AtZero b = if is_digit b then Wrong LeadingZero else (if b == 46 then Go AtDot else Before Numeral)
step InDigits b = if is_digit b then Go InDigits else (if b == 46 then Go AtDot else Before Numeral)
step AtDot b = if is_digit b then Go InFraction else BeforeDot
step InFraction b = if is_digit b then Go InFraction else Before Decimal
step InSymbol b = if is_symbol b then Go InSymbol else Before Symbol

-- what the end of the bytes shows, n of them being the token's
abbrev pub ending : Mode → ℕ → Scanned
ending Start n = GotFault Character
ending InQuoted n = GotFault QuotedSymbol
ending InText n = GotFault OpenText
ending AtQuote n = GotToken Text n
ending AtHash n = GotFault Character
ending AtBinary n = GotFault Literal
ending InBinary n = GotToken Binary n
ending AtHex n = GotFault Literal
ending InHex n = GotToken Hex n
ending AtColon n = GotFault Character
ending InKeyword n = GotToken Keyword n
ending AtZero n = GotToken Numeral n
ending InDigits n = GotToken Numeral n
ending AtDot n = GotToken Numeral (n - 1)
ending InFraction n = GotToken Decimal n
ending InSymbol n = GotToken Symbol n

-- the token, where its first n bytes led to this mode and these follow
unfoldable pub onward : Mode → ℕ → List ℕ → Found
onward Start n bs = token_at bs
onward InQuoted n bs = closed Symbol QuotedSymbol n (quoted_len bs)
onward InText n bs = closed Text OpenText n (text_len false bs)
onward AtQuote n bs = closed Text OpenText n (text_len true bs)
onward AtHash n bs = behind_hash n bs
onward AtBinary n bs = literal Binary is_binary n bs
onward InBinary n bs = Ok (Binary, n + run is_binary bs)
onward AtHex n bs = literal Hex is_hex n bs
onward InHex n bs = Ok (Hex, n + run is_hex bs)
onward AtColon n bs = behind_colon n bs
onward InKeyword n bs = Ok (Keyword, n + run is_symbol bs)
onward AtZero n bs = behind_zero n bs
onward InDigits n bs = number n bs
onward AtDot n bs = behind_dot (n - 1) bs
onward InFraction n bs = Ok (Decimal, n + run is_digit bs)
onward InSymbol n bs = Ok (Symbol, n + run is_symbol bs)

unfoldable pub is_start : Mode → Bool
is_start Start = true
is_start InQuoted = false
is_start InText = false
is_start AtQuote = false
is_start AtHash = false
is_start AtBinary = false
is_start InBinary = false
is_start AtHex = false
is_start InHex = false
is_start AtColon = false
is_start InKeyword = false
is_start AtZero = false
is_start InDigits = false
is_start AtDot = false
is_start InFraction = false
is_start InSymbol = false

-- whether a move leads back to the start
abbrev pub restarts : Move → Bool
restarts (Go mode) = is_start mode
restarts (Last kind) = false
restarts (Before kind) = false
restarts BeforeDot = false
restarts (Wrong kind) = false

-- what was found is this
abbrev pub Finds : Scanned → Found → Type 0
Finds (Open mode) found = ⊥
Finds (GotToken kind len) found = found ≡ Ok (kind, len)
Finds (GotFault kind) found = found ≡ Err kind

-- Of some bytes n were looked at and led to this mode. What was found holds whatever follows them;
-- where the scan is open, all bytes were looked at.
abbrev pub Scans : List ℕ → Mode → ℕ → Scanned → Type 0
Scans bytes mode n (Open new) =
    (is_start new ≡ length bytes == 0) × ((more : List ℕ) → onward mode n (drop n bytes ++ more) ≡ onward new (length bytes) more)
Scans bytes mode n (GotToken kind len) = (more : List ℕ) → onward mode n (drop n bytes ++ more) ≡ Ok (kind, len)
Scans bytes mode n (GotFault kind) = (more : List ℕ) → onward mode n (drop n bytes ++ more) ≡ Err kind

-- The same where the text may be finished: then what is found is that of the bytes alone.
abbrev pub Looks : List ℕ → Mode → ℕ → Bool → Scanned → Type 0
Looks bytes mode n finished (Open new) = (finished ≡ false) × Scans bytes mode n (Open new)
Looks bytes mode n finished (GotToken kind len) = (more : List ℕ) → (IsTrue finished → more ≡ []) → onward mode n (drop n bytes ++ more) ≡ Ok (kind, len)
Looks bytes mode n finished (GotFault kind) = (more : List ℕ) → (IsTrue finished → more ≡ []) → onward mode n (drop n bytes ++ more) ≡ Err kind

-- the tokens of bytes, of which the first stand in a comment where `comment` holds
abbrev pub tokens_in : Bool → ℕ → List ℕ → Tokens
tokens_in true place bytes = tokens_behind (run (λ c. not (is_line_end c)) bytes) place bytes
tokens_in false place bytes = tokens place bytes

-- So many bytes are white space and comments, after which a comment may still be open.
pub record IsBlankFront (comment : Bool) (bytes : List ℕ) (n : ℕ) (still : Bool) : Type 0 where
  pub within : n ≤ length bytes
  pub reads : (place : ℕ) (more : List ℕ) → tokens_in still (place + n) (drop n bytes ++ more) ≡ tokens_in comment place (bytes ++ more)
  pub stops : n < length bytes → (still ≡ false) × (is_blank (slice_index bytes n) ≡ false)
  pub opened : still ≡ true → n ≡ 0 → comment ≡ true
