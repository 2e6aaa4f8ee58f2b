-- A token has a byte at least, and is no longer than the text.
use Rattle.std.proofs.Common.{ℕ, zero, suc, ◌==◌, ◌+◌, ◌<◌, ◌≤◌, Bool, true, false, not, cond, List, [], ◌∷◌, length, drop, Option, None, Some, option_map, Ok, Err, arith, length-drop}
use Rattle.qv_text.specs.declared.kinds.TokenKind.{TokenKind}
use Rattle.qv_text.specs.declared.kinds.TokenKind.TheVariants.{LeftParen, RightParen, Symbol, Keyword, Numeral, Hex, Binary, Text}
use Rattle.qv_text.specs.declared.kinds.LexKind.{LexKind}
use Rattle.qv_text.specs.declared.kinds.LexKind.TheVariants.{Character, Text as OpenText, QuotedSymbol, Numeral as LeadingZero}
use Rattle.qv_text.specs.Bytes.{is_digit, is_binary, is_hex, is_symbol, begins_symbol}
use Rattle.qv_text.specs.Reading.{Found, run, quoted_len, text_len, closed, with_digits, literal, behind_hash, behind_colon, with_fraction, behind_dot, behind_digits, behind_zero, number, token_at}

-- a token of at most so many bytes
abbrev pub Fits : ℕ → Found → Type 0
Fits len (Ok x) = (0 < x.1) × (x.1 ≤ len)
Fits len (Err f) = Unit {0}

fits_cond : (len : ℕ) (t : Bool) (x y : Found) → Fits len x → Fits len y → Fits len (cond t x y)
fits_cond len true x y p q = p
fits_cond len false x y p q = q

one_more : (t : Bool) (r len : ℕ) → r ≤ len → cond t (suc r) 0 ≤ suc len
one_more true r len h = omega arith
one_more false r len h = omega arith

pub run_fits : (p : ℕ → Bool) (bs : List ℕ) → run p bs ≤ length bs
unfolding run
run_fits p [] = omega arith
run_fits p (b ∷ bs) = one_more (p b) _ _ (run_fits p bs)

abbrev AtMost : ℕ → Option ℕ → Type 0
AtMost len None = Unit {0}
AtMost len (Some m) = m ≤ len

at_most_cond : (len : ℕ) (t : Bool) (x y : Option ℕ) → AtMost len x → AtMost len y → AtMost len (cond t x y)
at_most_cond len true x y p q = p
at_most_cond len false x y p q = q

at_most_suc : (len : ℕ) (r : Option ℕ) → AtMost len r → AtMost (suc len) (option_map suc r)
at_most_suc len None h = tt
at_most_suc len (Some m) h = omega arith

quoted_fits : (bs : List ℕ) → AtMost (length bs) (quoted_len bs)
unfolding quoted_len
quoted_fits [] = tt
quoted_fits (b ∷ bs) =
    at_most_cond (suc (length bs)) (b == 124) (Some 1) (cond (b == 92) None (option_map suc (quoted_len bs))) (omega arith)
    (at_most_cond (suc (length bs)) (b == 92) None (option_map suc (quoted_len bs)) tt (at_most_suc _ (quoted_len bs) (quoted_fits bs)))

text_fits : (paired : Bool) (bs : List ℕ) → AtMost (length bs) (text_len paired bs)
unfolding text_len
text_fits true [] = omega arith
text_fits false [] = tt
text_fits paired (b ∷ bs) =
    at_most_cond (suc (length bs)) (b == 34) (option_map suc (text_len (not paired) bs)) (cond paired (Some 0) (option_map suc (text_len false bs)))
    (at_most_suc _ (text_len (not paired) bs) (text_fits (not paired) bs))
    (at_most_cond (suc (length bs)) paired (Some 0) (option_map suc (text_len false bs)) (omega arith) (at_most_suc _ (text_len false bs) (text_fits false bs)))

closed_fits : (k : TokenKind) (f : LexKind) (len : ℕ) (r : Option ℕ) → AtMost len r → Fits (suc len) (closed k f 1 r)
closed_fits k f len None h = tt
closed_fits k f len (Some m) h = (omega arith, omega arith)

digits_fit : (k : TokenKind) (n r len : ℕ) → n + r ≤ len → Fits len (with_digits k n r)
digits_fit k n zero len h = tt
digits_fit k n (suc m) len h = (omega arith, omega arith)

fraction_fits : (n r len : ℕ) → 0 < n → n + 1 + r ≤ len → Fits len (with_fraction n r)
fraction_fits n zero len p h = (omega arith, omega arith)
fraction_fits n (suc m) len p h = (omega arith, omega arith)

hash_fits : (bs : List ℕ) → Fits (suc (length bs)) (behind_hash 1 bs)
unfolding behind_hash literal
hash_fits [] = tt
hash_fits (b ∷ bs) =
    fits_cond (suc (suc (length bs))) (b == 98) (with_digits Binary 2 (run is_binary bs)) (cond (b == 120) (with_digits Hex 2 (run is_hex bs)) (Err Character))
    (digits_fit Binary 2 _ _ (omega (arith, run_fits is_binary bs)))
    (fits_cond (suc (suc (length bs))) (b == 120) (with_digits Hex 2 (run is_hex bs)) (Err Character) (digits_fit Hex 2 _ _ (omega (arith, run_fits is_hex bs))) tt)

colon_fits : (bs : List ℕ) → Fits (suc (length bs)) (behind_colon 1 bs)
unfolding behind_colon
colon_fits [] = tt
colon_fits (b ∷ bs) = fits_cond (suc (suc (length bs))) (begins_symbol b) (Ok (Keyword, 2 + run is_symbol bs)) (Err Character) (omega arith, omega (arith, run_fits is_symbol bs)) tt

behind_fits : (n len : ℕ) (bs : List ℕ) → 0 < n → n + length bs ≤ len → Fits len (behind_digits n bs)
unfolding behind_digits behind_dot
behind_fits n len [] p h = (p, omega arith)
behind_fits n len (b ∷ bs) p h =
    fits_cond len (b == 46) (with_fraction n (run is_digit bs)) (Ok (Numeral, n)) (fraction_fits n _ len p (omega (arith, run_fits is_digit bs))) (p, omega arith)

number_fits : (bs : List ℕ) → Fits (suc (length bs)) (number 1 bs)
unfolding number
number_fits bs = behind_fits _ _ (drop (run is_digit bs) bs) (omega arith) (omega (arith, length-drop (run is_digit bs) bs, run_fits is_digit bs))

zero_fits : (bs : List ℕ) → Fits (suc (length bs)) (behind_zero 1 bs)
unfolding behind_zero
zero_fits [] = (omega arith, omega arith)
zero_fits (b ∷ bs) = fits_cond (suc (suc (length bs))) (is_digit b) (Err LeadingZero) (behind_digits 1 (b ∷ bs)) tt (behind_fits 1 _ (b ∷ bs) (omega arith) (omega arith))

pub token_fits : (bs : List ℕ) → Fits (length bs) (token_at bs)
unfolding token_at
token_fits [] = tt
token_fits (b ∷ bs) =
    let len = suc (length bs) in
    fits_cond len (b == 40) (Ok (LeftParen, 1)) _ (omega arith, omega arith)
    (fits_cond len (b == 41) (Ok (RightParen, 1)) _ (omega arith, omega arith)
    (fits_cond len (b == 124) (closed Symbol QuotedSymbol 1 (quoted_len bs)) _ (closed_fits Symbol QuotedSymbol _ (quoted_len bs) (quoted_fits bs))
    (fits_cond len (b == 34) (closed Text OpenText 1 (text_len false bs)) _ (closed_fits Text OpenText _ (text_len false bs) (text_fits false bs))
    (fits_cond len (b == 35) (behind_hash 1 bs) _ (hash_fits bs)
    (fits_cond len (b == 58) (behind_colon 1 bs) _ (colon_fits bs)
    (fits_cond len (b == 48) (behind_zero 1 bs) _ (zero_fits bs)
    (fits_cond len (is_digit b) (number 1 bs) _ (number_fits bs)
    (fits_cond len (is_symbol b) (Ok (Symbol, 1 + run is_symbol bs)) (Err Character) (omega arith, omega (arith, run_fits is_symbol bs)) tt))))))))
