-- The tokens of a whole text.
use Rattle.std.specs.Prelude.{ℕ, zero, suc, ◌+◌, ◌-◌, ◌==◌, Bool, false, not, if◌then◌else◌, List, [], ◌∷◌, length, take, drop, Option, Some, None, option_map, Result, Ok, Err, codes}
use Rattle.std.specs.List.{list_any}
use Rattle.std.specs.Str.{bytes_eq}
use Rattle.qv_text.specs.declared.kinds.TokenKind.{TokenKind}
use Rattle.qv_text.specs.declared.kinds.TokenKind.TheVariants.{LeftParen, RightParen, Symbol, Reserved, Keyword, Numeral, Decimal, Hex, Binary, Text}
use Rattle.qv_text.specs.declared.kinds.LexKind.{LexKind}
use Rattle.qv_text.specs.declared.kinds.LexKind.TheVariants.{Character, Text as OpenText, QuotedSymbol, Numeral as LeadingZero, Literal}
use Rattle.qv_text.specs.declared.kinds.LexFault.{LexFault}
use Rattle.qv_text.specs.declared.kinds.Token.{Token}
use Rattle.qv_text.specs.declared.kinds.Lexed.{Lexed}
use Rattle.qv_text.specs.declared.kinds.Lexed.TheVariants.{Token as GotToken, End, Fault}
use Rattle.qv_text.specs.Bytes.{is_white, is_line_end, is_digit, is_binary, is_hex, is_symbol, begins_symbol}

-- what stands at the front of some bytes: a token of a kind and a length, or a fault
abbrev pub Found : Type 0
Found = Result (TokenKind × ℕ) LexKind

-- how many bytes at the front pass the test
unfoldable pub run : (ℕ → Bool) → List ℕ → ℕ
run p [] = 0
run p (b ∷ bs) = if p b then suc (run p bs) else 0

-- the length of a quoted symbol behind its first bar, its last bar included, unless a backslash or
-- the end comes first
unfoldable pub quoted_len : List ℕ → Option ℕ
quoted_len [] = None
quoted_len (b ∷ bs) = if b == 124 then Some 1 else (if b == 92 then None else option_map suc (quoted_len bs))

-- the length of a string behind its first quote, its last quote included, unless the end comes
-- first. Where `paired` holds, a quote came just before, which closes the string unless another one
-- follows.
unfoldable pub text_len : Bool → List ℕ → Option ℕ
text_len paired [] = if paired then Some 0 else None
text_len paired (b ∷ bs) =
    if b == 34 then option_map suc (text_len (not paired) bs)
    else (if paired then Some 0 else option_map suc (text_len false bs))

-- In what follows n is the number of the token's bytes that came before.

-- a token that is closed after so many bytes, or the fault of one that isn't
abbrev pub closed : TokenKind → LexKind → ℕ → Option ℕ → Found
closed kind fault n None = Err fault
closed kind fault n (Some more) = Ok (kind, n + more)

-- the digits of a literal, at least one
abbrev pub with_digits : TokenKind → ℕ → ℕ → Found
with_digits kind n zero = Err Literal
with_digits kind n (suc more) = Ok (kind, n + suc more)

unfoldable pub literal : TokenKind → (ℕ → Bool) → ℕ → List ℕ → Found
literal kind p n bs = with_digits kind n (run p bs)

-- what follows `#`
unfoldable pub behind_hash : ℕ → List ℕ → Found
behind_hash n [] = Err Character
behind_hash n (b ∷ bs) =
    if b == 98 then literal Binary is_binary (n + 1) bs
    else (if b == 120 then literal Hex is_hex (n + 1) bs else Err Character)

-- what follows `:`, a simple symbol
unfoldable pub behind_colon : ℕ → List ℕ → Found
behind_colon n [] = Err Character
behind_colon n (b ∷ bs) = if begins_symbol b then Ok (Keyword, (n + 1) + run is_symbol bs) else Err Character

-- what follows a numeral and a dot: digits make it a decimal, and otherwise the dot is no part of
-- it
abbrev pub with_fraction : ℕ → ℕ → Found
with_fraction n zero = Ok (Numeral, n)
with_fraction n (suc more) = Ok (Decimal, (n + 1) + suc more)

unfoldable pub behind_dot : ℕ → List ℕ → Found
behind_dot n bs = with_fraction n (run is_digit bs)

-- what follows all digits of a numeral
unfoldable pub behind_digits : ℕ → List ℕ → Found
behind_digits n [] = Ok (Numeral, n)
behind_digits n (b ∷ bs) = if b == 46 then behind_dot n bs else Ok (Numeral, n)

-- the further digits of a numeral that begins with no 0
unfoldable pub number : ℕ → List ℕ → Found
number n bs = behind_digits (n + run is_digit bs) (drop (run is_digit bs) bs)

-- what follows a 0 that begins a numeral: no further digit
unfoldable pub behind_zero : ℕ → List ℕ → Found
behind_zero n [] = Ok (Numeral, n)
behind_zero n (b ∷ bs) = if is_digit b then Err LeadingZero else behind_digits n (b ∷ bs)

-- the longest token at the front of the bytes, which begin with no white space and no comment
unfoldable pub token_at : List ℕ → Found
token_at [] = Err Character
token_at (b ∷ bs) =
    if b == 40 then Ok (LeftParen, 1)
    else (if b == 41 then Ok (RightParen, 1)
    else (if b == 124 then closed Symbol QuotedSymbol 1 (quoted_len bs)
    else (if b == 34 then closed Text OpenText 1 (text_len false bs)
    else (if b == 35 then behind_hash 1 bs
    else (if b == 58 then behind_colon 1 bs
    else (if b == 48 then behind_zero 1 bs
    else (if is_digit b then number 1 bs
    else (if is_symbol b then Ok (Symbol, 1 + run is_symbol bs)
    else Err Character))))))))

-- the words that are no simple symbols
abbrev pub reserved_words : List (List ℕ)
reserved_words =
    codes "!" ∷ codes "_" ∷ codes "as" ∷ codes "exists" ∷ codes "forall" ∷ codes "lambda" ∷ codes "let" ∷ codes "match" ∷ codes "par" ∷ []

unfoldable pub is_reserved : List ℕ → Bool
is_reserved text = list_any (λ word. bytes_eq text word) reserved_words

-- a symbol that is a reserved word has a kind of its own
unfoldable pub kind_of : TokenKind → List ℕ → TokenKind
kind_of Symbol text = if is_reserved text then Reserved else Symbol
kind_of LeftParen text = LeftParen
kind_of RightParen text = RightParen
kind_of Reserved text = Reserved
kind_of Keyword text = Keyword
kind_of Numeral text = Numeral
kind_of Decimal text = Decimal
kind_of Hex text = Hex
kind_of Binary text = Binary
kind_of Text text = Text

-- a token with its bytes
pub record Lexeme : Type 0 where
  pub kind : TokenKind
  pub place : ℕ
  pub text : List ℕ

abbrev pub token_of : Lexeme → Token
token_of l = record { kind = l.kind; place = l.place; end = l.place + length l.text }

-- the tokens of a text, in order, up to its end or its first fault
pub data Tokens : Type 0 where
  ends : Tokens
  stops_at : LexFault → Tokens
  gives : Lexeme → Tokens → Tokens

-- what was found at this place, where bytes stand; further says what comes after some more of them
abbrev pub reads_on : ℕ → List ℕ → Found → (ℕ → Tokens) → Tokens
reads_on place bytes (Ok found) further =
    let text = take found.1 bytes in
    gives (record { kind = kind_of found.0 text; place = place; text = text }) (further (found.1 - 1))
reads_on place bytes (Err kind) further = stops_at (record { place = place; kind = kind })

-- the tokens of the bytes that begin at this place, of which the first n belong to what was read
-- before
unfoldable pub tokens_behind : ℕ → ℕ → List ℕ → Tokens
tokens_behind n place [] = ends
tokens_behind (suc n) place (b ∷ bs) = tokens_behind n (place + 1) bs
tokens_behind zero place (b ∷ bs) =
    if is_white b then tokens_behind 0 (place + 1) bs
    else (if b == 59 then tokens_behind (run (λ c. not (is_line_end c)) bs) (place + 1) bs
    else reads_on place (b ∷ bs) (token_at (b ∷ bs)) (λ n. tokens_behind n (place + 1) bs))

-- the tokens of the bytes that begin at this place
abbrev pub tokens : ℕ → List ℕ → Tokens
tokens place bytes = tokens_behind 0 place bytes

-- what comes first
abbrev pub first : Tokens → Lexed
first ends = End
first (stops_at fault) = Fault fault
first (gives l rest) = GotToken (token_of l)
