-- What a token is, kind by kind, by its bytes alone; and that a lexer's tokens are the longest.
use Rattle.std.specs.Prelude.{ℕ, ◌≡◌, ◌≢◌, ◌<◌, ◌≤◌, ◌==◌, ◌&&◌, ◌⊎◌, not, Bool, true, false, List, [], ◌∷◌, ◌++◌, length, take, Ok, Err, codes}
use Rattle.qv_text.specs.declared.kinds.TokenKind.{TokenKind}
use Rattle.qv_text.specs.declared.kinds.TokenKind.TheVariants.{LeftParen, RightParen, Symbol, Reserved, Keyword, Numeral, Decimal, Hex, Binary, Text}
use Rattle.qv_text.specs.declared.kinds.LexKind.TheVariants.{Character, Text as OpenText, QuotedSymbol, Numeral as LeadingZero, Literal}
use Rattle.qv_text.specs.Bytes.{is_digit, is_binary, is_hex, is_symbol, begins_symbol}
use Rattle.qv_text.specs.Reading.{Found, is_reserved, kind_of}

-- each of the bytes passes the test
abbrev pub Each : (ℕ → Bool) → List ℕ → Type 0
Each p [] = Unit {0}
Each p (b ∷ bs) = (p b ≡ true) × Each p bs

-- the same, and there is one
abbrev pub SomeOf : (ℕ → Bool) → List ℕ → Type 0
SomeOf p bytes = (0 < length bytes) × Each p bytes

-- the words that may be symbols or reserved: they begin with no digit
abbrev pub IsWord : List ℕ → Type 0
IsWord [] = ⊥
IsWord (b ∷ bs) = (begins_symbol b ≡ true) × Each is_symbol bs

-- 0 alone, or digits that begin with another one
abbrev pub IsNumeral : List ℕ → Type 0
IsNumeral [] = ⊥
IsNumeral (b ∷ bs) = ((b ≡ 48) × (bs ≡ [])) ⊎ ((b ≢ 48) × (is_digit b ≡ true) × Each is_digit bs)

-- what may stand between bars: neither a bar nor a backslash
abbrev pub is_barred : ℕ → Bool
is_barred b = not (b == 124) && not (b == 92)

-- what may stand between the quotes of a string: a quote comes twice
pub data Quotable : List ℕ → Type 0 where
  empty : Quotable []
  other : (b : ℕ) (bs : List ℕ) → b ≢ 34 → Quotable bs → Quotable (b ∷ bs)
  quotes : (bs : List ℕ) → Quotable bs → Quotable (34 ∷ 34 ∷ bs)

-- these bytes are one token of this kind
abbrev pub IsWhole : TokenKind → List ℕ → Type 0
IsWhole LeftParen bytes = bytes ≡ codes "("
IsWhole RightParen bytes = bytes ≡ codes ")"
IsWhole Symbol bytes = (IsWord bytes × (is_reserved bytes ≡ false)) ⊎ ((inside : List ℕ) × (bytes ≡ 124 ∷ (inside ++ 124 ∷ [])) × Each is_barred inside)
IsWhole Reserved bytes = IsWord bytes × (is_reserved bytes ≡ true)
IsWhole Keyword bytes = (word : List ℕ) × (bytes ≡ 58 ∷ word) × IsWord word
IsWhole Numeral bytes = IsNumeral bytes
IsWhole Decimal bytes = (whole : List ℕ) × (fraction : List ℕ) × (bytes ≡ whole ++ 46 ∷ fraction) × IsNumeral whole × SomeOf is_digit fraction
IsWhole Hex bytes = (digits : List ℕ) × (bytes ≡ 35 ∷ 120 ∷ digits) × SomeOf is_hex digits
IsWhole Binary bytes = (digits : List ℕ) × (bytes ≡ 35 ∷ 98 ∷ digits) × SomeOf is_binary digits
IsWhole Text bytes = (inside : List ℕ) × (bytes ≡ 34 ∷ (inside ++ 34 ∷ [])) × Quotable inside

-- no front of the bytes that has more than n of them is a token
abbrev pub NoneBehind : ℕ → List ℕ → Type 0
NoneBehind n bytes = (m : ℕ) (kind : TokenKind) → n < m → m ≤ length bytes → IsWhole kind (take m bytes) → ⊥

-- no front of the bytes is a token
abbrev pub NoFront : List ℕ → Type 0
NoFront bytes = (m : ℕ) (kind : TokenKind) → m ≤ length bytes → IsWhole kind (take m bytes) → ⊥

-- What was found at the front of the bytes is a token, and no longer front is one. A fault is found
-- where no front is one, but for digits behind a 0, and for a string that isn't closed.
abbrev pub IsLongest : List ℕ → Found → Type 0
IsLongest bytes (Ok x) = IsWhole (kind_of x.0 (take x.1 bytes)) (take x.1 bytes) × NoneBehind x.1 bytes
IsLongest bytes (Err Character) = NoFront bytes
IsLongest bytes (Err QuotedSymbol) = NoFront bytes
IsLongest bytes (Err Literal) = NoFront bytes
IsLongest bytes (Err LeadingZero) = Unit {0}
IsLongest bytes (Err OpenText) = Unit {0}
