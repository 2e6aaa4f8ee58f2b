-- A token's own bytes, with nothing behind them, are the same token.
use Rattle.std.proofs.Common.{ℕ, zero, suc, ◌==◌, ◌≡◌, ◌+◌, ◌≤◌, Bool, true, false, not, cond, List, [], ◌∷◌, length, take, drop, Option, None, Some, option_map, Ok, Err, refl, sym, ap, ◌∙◌, arith}
use Rattle.std.proofs.lemmas.List.{drop-take, length-take-le}
use Rattle.qv_text.specs.declared.kinds.TokenKind.{TokenKind}
use Rattle.qv_text.specs.declared.kinds.TokenKind.TheVariants.{LeftParen, RightParen, Symbol, Keyword, Numeral, Hex, Binary, Text}
use Rattle.qv_text.specs.declared.kinds.LexKind.{LexKind}
use Rattle.qv_text.specs.declared.kinds.LexKind.TheVariants.{Character, Text as OpenText, QuotedSymbol, Numeral as LeadingZero}
use Rattle.qv_text.specs.Bytes.{is_white, is_line_end, is_digit, is_binary, is_hex, is_symbol, begins_symbol}
use Rattle.qv_text.specs.Reading.{Found, Tokens, ends, stops_at, gives, run, quoted_len, text_len, closed, with_digits, literal, behind_hash, behind_colon, with_fraction, behind_dot, behind_digits, behind_zero, number, token_at, reads_on, tokens_behind}
use Rattle.qv_text.proofs.Lengths.{Fits, token_fits}
use Rattle.qv_sexpr.specs.Items.{IsToken}

-- What f finds behind m bytes of a token it also finds where the token's end is the end of the bytes.
abbrev Alone : ℕ → (List ℕ → Found) → List ℕ → Found → Type 0
Alone m f bs (Ok x) = (k : ℕ) × (x.1 ≡ m + k) × (f (take k bs) ≡ Ok x)
Alone m f bs (Err e) = Unit {0}

alone_cond : (t : Bool) (m : ℕ) (f g : List ℕ → Found) (bs : List ℕ) → Alone m f bs (f bs) → Alone m g bs (g bs) → Alone m (λ xs. cond t (f xs) (g xs)) bs (cond t (f bs) (g bs))
alone_cond true m f g bs h k = h
alone_cond false m f g bs h k = k

-- one byte more
alone_cons : (m : ℕ) (f : List ℕ → Found) (b : ℕ) (bs : List ℕ) (v : Found) → Alone (m + 1) (λ xs. f (b ∷ xs)) bs v → Alone m f (b ∷ bs) v
alone_cons m f b bs (Ok x) h = (suc h.0, omega (arith, h.1), h.2)
alone_cons m f b bs (Err e) h = tt

run_step : (t : Bool) (r s j : ℕ) → cond t (suc r) 0 ≤ suc j → (r ≤ j → s ≡ r) → cond t (suc s) 0 ≡ cond t (suc r) 0
run_step true r s j h same = ap suc (same (omega arith))
run_step false r s j h same = refl

-- at least the run's bytes
run_longer : (p : ℕ → Bool) (bs : List ℕ) (j : ℕ) → run p bs ≤ j → run p (take j bs) ≡ run p bs
unfolding run
run_longer p [] zero h = refl
run_longer p [] (suc j) h = refl
run_longer p (b ∷ bs) zero h = at_none (p b) (run p bs) h
  where
    at_none : (t : Bool) (r : ℕ) → cond t (suc r) 0 ≤ 0 → 0 ≡ cond t (suc r) 0
    at_none true r h = absurd (omega arith)
    at_none false r h = refl
run_longer p (b ∷ bs) (suc j) h = run_step (p b) (run p bs) (run p (take j bs)) j h (λ le. run_longer p bs j le)

run_alone : (p : ℕ → Bool) (bs : List ℕ) → run p (take (run p bs) bs) ≡ run p bs
run_alone p bs = run_longer p bs (run p bs) (omega arith)

-- the same of lengths
abbrev AloneLen : ℕ → (List ℕ → Option ℕ) → List ℕ → Option ℕ → Type 0
AloneLen m f bs (Some j) = (k : ℕ) × (j ≡ m + k) × (f (take k bs) ≡ Some j)
AloneLen m f bs None = Unit {0}

len_cond : (t : Bool) (m : ℕ) (f g : List ℕ → Option ℕ) (bs : List ℕ) → AloneLen m f bs (f bs) → AloneLen m g bs (g bs) → AloneLen m (λ xs. cond t (f xs) (g xs)) bs (cond t (f bs) (g bs))
len_cond true m f g bs h k = h
len_cond false m f g bs h k = k

len_cons : (m : ℕ) (f : List ℕ → Option ℕ) (b : ℕ) (bs : List ℕ) (v : Option ℕ) → AloneLen (m + 1) (λ xs. f (b ∷ xs)) bs v → AloneLen m f (b ∷ bs) v
len_cons m f b bs (Some j) h = (suc h.0, omega (arith, h.1), h.2)
len_cons m f b bs None h = tt

len_suc : (f : List ℕ → Option ℕ) (bs : List ℕ) (v : Option ℕ) → AloneLen 0 f bs v → AloneLen 1 (λ xs. option_map suc (f xs)) bs (option_map suc v)
len_suc f bs (Some j) h = (h.0, omega (arith, h.1), ap (option_map suc) h.2)
len_suc f bs None h = tt

quoted_alone : (bs : List ℕ) → AloneLen 0 quoted_len bs (quoted_len bs)
unfolding quoted_len
quoted_alone [] = tt
quoted_alone (b ∷ bs) =
    len_cons 0 quoted_len b bs (quoted_len (b ∷ bs))
    (len_cond (b == 124) 1 (λ xs. Some 1) (λ xs. cond (b == 92) None (option_map suc (quoted_len xs))) bs (0, refl, refl)
    (len_cond (b == 92) 1 (λ xs. None) (λ xs. option_map suc (quoted_len xs)) bs tt (len_suc quoted_len bs (quoted_len bs) (quoted_alone bs))))

text_alone : (paired : Bool) (bs : List ℕ) → AloneLen 0 (text_len paired) bs (text_len paired bs)
unfolding text_len
text_alone true [] = (0, refl, refl)
text_alone false [] = tt
text_alone false (b ∷ bs) =
    len_cons 0 (text_len false) b bs (text_len false (b ∷ bs))
    (len_cond (b == 34) 1 (λ xs. option_map suc (text_len true xs)) (λ xs. option_map suc (text_len false xs)) bs
    (len_suc (text_len true) bs (text_len true bs) (text_alone true bs)) (len_suc (text_len false) bs (text_len false bs) (text_alone false bs)))
text_alone true (b ∷ bs) = at_quote (b == 34) (text_alone false bs) refl
  where
    paired_suc : (v : Option ℕ) → AloneLen 0 (text_len false) bs v → (b == 34) ≡ true → AloneLen 1 (λ xs. text_len true (b ∷ xs)) bs (option_map suc v)
    paired_suc (Some j) h e = (h.0, omega (arith, h.1), ap (λ t. cond t (option_map suc (text_len false (take h.0 bs))) (Some 0)) e ∙ ap (option_map suc) h.2)
    paired_suc None h e = tt

    at_quote : (t : Bool) → AloneLen 0 (text_len false) bs (text_len false bs) → (b == 34) ≡ t → AloneLen 0 (text_len true) (b ∷ bs) (cond t (option_map suc (text_len false bs)) (Some 0))
    at_quote true alone e =
        len_cons 0 (text_len true) b bs (option_map suc (text_len false bs))
        (paired_suc (text_len false bs) alone e)
    at_quote false alone e = (0, refl, refl)

closed_alone : (k : TokenKind) (f : LexKind) (g : List ℕ → Option ℕ) (bs : List ℕ) (v : Option ℕ) → AloneLen 0 g bs v → Alone 1 (λ xs. closed k f 1 (g xs)) bs (closed k f 1 v)
closed_alone k f g bs None h = tt
closed_alone k f g bs (Some j) h = (h.0, omega (arith, h.1), ap (closed k f 1) h.2)

digits_alone : (kind : TokenKind) (p : ℕ → Bool) (n : ℕ) (bs : List ℕ) → Alone n (literal kind p n) bs (literal kind p n bs)
unfolding literal
digits_alone kind p n bs = counted (run p bs) (run_alone p bs)
  where
    counted : (r : ℕ) → run p (take r bs) ≡ r → Alone n (literal kind p n) bs (with_digits kind n r)
    counted zero h = tt
    counted (suc more) h = (suc more, refl, ap (with_digits kind n) h)

hash_alone : (bs : List ℕ) → Alone 1 (behind_hash 1) bs (behind_hash 1 bs)
unfolding behind_hash
hash_alone [] = tt
hash_alone (b ∷ bs) =
    alone_cons 1 (behind_hash 1) b bs (behind_hash 1 (b ∷ bs))
    (alone_cond (b == 98) 2 (literal Binary is_binary 2) (λ xs. cond (b == 120) (literal Hex is_hex 2 xs) (Err Character)) bs (digits_alone Binary is_binary 2 bs)
    (alone_cond (b == 120) 2 (literal Hex is_hex 2) (λ xs. Err Character) bs (digits_alone Hex is_hex 2 bs) tt))

colon_alone : (bs : List ℕ) → Alone 1 (behind_colon 1) bs (behind_colon 1 bs)
unfolding behind_colon
colon_alone [] = tt
colon_alone (b ∷ bs) =
    alone_cons 1 (behind_colon 1) b bs (behind_colon 1 (b ∷ bs))
    (alone_cond (begins_symbol b) 2 (λ xs. Ok (Keyword, 2 + run is_symbol xs)) (λ xs. Err Character) bs
    (run is_symbol bs, refl, ap (λ j. Ok (Keyword, 2 + j)) (run_alone is_symbol bs)) tt)

-- what follows the digits of a numeral
fraction_alone : (n : ℕ) (bs : List ℕ) → (b : ℕ) → (b == 46) ≡ true → Alone n (behind_digits n) (b ∷ bs) (behind_dot n bs)
unfolding behind_digits behind_dot
fraction_alone n bs b e = counted (run is_digit bs) (run_alone is_digit bs)
  where
    counted : (r : ℕ) → run is_digit (take r bs) ≡ r → Alone n (behind_digits n) (b ∷ bs) (with_fraction n r)
    counted zero h = (0, omega arith, refl)
    counted (suc more) h = (suc (suc more), omega arith, ap (λ t. cond t (with_fraction n (run is_digit (take (suc more) bs))) (Ok (Numeral, n))) e ∙ ap (with_fraction n) h)

behind_alone : (n : ℕ) (bs : List ℕ) → Alone n (behind_digits n) bs (behind_digits n bs)
unfolding behind_digits
behind_alone n [] = (0, omega arith, refl)
behind_alone n (b ∷ bs) = at_dot (b == 46) refl
  where
    at_dot : (t : Bool) → (b == 46) ≡ t → Alone n (behind_digits n) (b ∷ bs) (cond t (behind_dot n bs) (Ok (Numeral, n)))
    at_dot true e = fraction_alone n bs b e
    at_dot false e = (0, omega arith, refl)

number_alone : (bs : List ℕ) → Alone 1 (number 1) bs (number 1 bs)
unfolding number
number_alone bs = moved (number 1 bs) (behind_alone (1 + run is_digit bs) (drop (run is_digit bs) bs))
  where
    r : ℕ
    r = run is_digit bs

    moved : (v : Found) → Alone (1 + r) (behind_digits (1 + r)) (drop r bs) v → Alone 1 (number 1) bs v
    moved (Ok x) h = (
      r + h.0,
      omega (arith, h.1),
      ap (λ i. behind_digits (1 + i) (drop i (take (r + h.0) bs))) (run_longer is_digit bs (r + h.0) (omega arith))
          ∙ ap (behind_digits (1 + r)) (drop-take r h.0 bs)
          ∙ h.2,
    )
    moved (Err e) h = tt

zero_alone : (bs : List ℕ) → Alone 1 (behind_zero 1) bs (behind_zero 1 bs)
unfolding behind_zero behind_digits
zero_alone [] = (0, refl, refl)
zero_alone (b ∷ bs) = at_digit (is_digit b) refl
  where
    at_nothing : (x : TokenKind × ℕ) → behind_digits 1 [] ≡ Ok x → behind_zero 1 [] ≡ Ok x
    at_nothing x h = h

    shorter : (k : ℕ) (x : TokenKind × ℕ) → is_digit b ≡ false → behind_digits 1 (take k (b ∷ bs)) ≡ Ok x → behind_zero 1 (take k (b ∷ bs)) ≡ Ok x
    shorter zero x e h = at_nothing x h
    shorter (suc k) x e h = ap (λ t. cond t (Err LeadingZero) (behind_digits 1 (b ∷ take k bs))) e ∙ h

    moved : (v : Found) → is_digit b ≡ false → Alone 1 (behind_digits 1) (b ∷ bs) v → Alone 1 (behind_zero 1) (b ∷ bs) v
    moved (Ok x) e h = (h.0, h.1, shorter h.0 x e h.2)
    moved (Err f) e h = tt

    at_digit : (t : Bool) → is_digit b ≡ t → Alone 1 (behind_zero 1) (b ∷ bs) (cond t (Err LeadingZero) (behind_digits 1 (b ∷ bs)))
    at_digit true e = tt
    at_digit false e = moved (behind_digits 1 (b ∷ bs)) e (behind_alone 1 (b ∷ bs))

token_alone : (bs : List ℕ) → Alone 0 token_at bs (token_at bs)
unfolding token_at
token_alone [] = tt
token_alone (b ∷ bs) =
    let symbols : List ℕ → Found = λ xs. cond (is_symbol b) (Ok (Symbol, 1 + run is_symbol xs)) (Err Character) in
    let numbers : List ℕ → Found = λ xs. cond (is_digit b) (number 1 xs) (symbols xs) in
    let zeros : List ℕ → Found = λ xs. cond (b == 48) (behind_zero 1 xs) (numbers xs) in
    let keywords : List ℕ → Found = λ xs. cond (b == 58) (behind_colon 1 xs) (zeros xs) in
    let literals : List ℕ → Found = λ xs. cond (b == 35) (behind_hash 1 xs) (keywords xs) in
    let texts : List ℕ → Found = λ xs. cond (b == 34) (closed Text OpenText 1 (text_len false xs)) (literals xs) in
    let quoted : List ℕ → Found = λ xs. cond (b == 124) (closed Symbol QuotedSymbol 1 (quoted_len xs)) (texts xs) in
    let closing : List ℕ → Found = λ xs. cond (b == 41) (Ok (RightParen, 1)) (quoted xs) in
    alone_cons 0 token_at b bs (token_at (b ∷ bs))
    (alone_cond (b == 40) 1 (λ xs. Ok (LeftParen, 1)) closing bs (0, refl, refl)
    (alone_cond (b == 41) 1 (λ xs. Ok (RightParen, 1)) quoted bs (0, refl, refl)
    (alone_cond (b == 124) 1 (λ xs. closed Symbol QuotedSymbol 1 (quoted_len xs)) texts bs (closed_alone Symbol QuotedSymbol quoted_len bs (quoted_len bs) (quoted_alone bs))
    (alone_cond (b == 34) 1 (λ xs. closed Text OpenText 1 (text_len false xs)) literals bs (closed_alone Text OpenText (text_len false) bs (text_len false bs) (text_alone false bs))
    (alone_cond (b == 35) 1 (behind_hash 1) keywords bs (hash_alone bs)
    (alone_cond (b == 58) 1 (behind_colon 1) zeros bs (colon_alone bs)
    (alone_cond (b == 48) 1 (behind_zero 1) numbers bs (zero_alone bs)
    (alone_cond (is_digit b) 1 (number 1) symbols bs (number_alone bs)
    (alone_cond (is_symbol b) 1 (λ xs. Ok (Symbol, 1 + run is_symbol xs)) (λ xs. Err Character) bs
    (run is_symbol bs, refl, ap (λ j. Ok (Symbol, 1 + j)) (run_alone is_symbol bs)) tt)))))))))

-- the first token is one of its kind, and stands here or later
abbrev pub BeginsWell : ℕ → Tokens → Type 0
BeginsWell place ends = Unit {0}
BeginsWell place (stops_at fault) = Unit {0}
BeginsWell place (gives l rest) = IsToken l.kind l.text × (place ≤ l.place)

well_cond : (place : ℕ) (t : Bool) (x y : Tokens) → BeginsWell place x → BeginsWell place y → BeginsWell place (cond t x y)
well_cond place true x y h k = h
well_cond place false x y h k = k

well_later : (place : ℕ) (ts : Tokens) → BeginsWell (place + 1) ts → BeginsWell place ts
well_later place ends h = tt
well_later place (stops_at fault) h = tt
well_later place (gives l rest) h = (h.0, omega (arith, h.1))

reads_well : (place : ℕ) (bs : List ℕ) (found : Found) (further : ℕ → Tokens) → Alone 0 token_at bs found → Fits (length bs) found → BeginsWell place (reads_on place bs found further)
reads_well place bs (Err e) further h f = tt
reads_well place bs (Ok x) further h f =
    let size : length (take x.1 bs) ≡ x.1 = length-take-le x.1 bs f.1 in
    let is : token_at (take x.1 bs) ≡ Ok x = ap (λ j. token_at (take j bs)) (omega (arith, h.1)) ∙ h.2 in
    ((x.0, is ∙ ap (λ j. Ok (x.0, j)) (sym size), refl), omega arith)

pub begins_well : (n place : ℕ) (bs : List ℕ) → BeginsWell place (tokens_behind n place bs)
unfolding tokens_behind
begins_well n place [] = tt
begins_well (suc n) place (b ∷ bs) = well_later place _ (begins_well n (place + 1) bs)
begins_well zero place (b ∷ bs) =
    well_cond place (is_white b) _ _ (well_later place _ (begins_well 0 (place + 1) bs))
    (well_cond place (b == 59) _ _ (well_later place _ (begins_well (run (λ c. not (is_line_end c)) bs) (place + 1) bs))
    (reads_well place (b ∷ bs) (token_at (b ∷ bs)) _ (token_alone (b ∷ bs)) (token_fits (b ∷ bs))))
