-- Where a lexer wants bytes, no close parenthesis stands in those that it has.
use Rattle.std.proofs.Common.{ℕ, zero, suc, ◌==◌, ◌≡◌, ◌≢◌, ◌+◌, ◌-◌, ◌<◌, ◌≤◌, ◌⊎◌, inl, inr, Bool, true, false, not, cond, List, [], ◌∷◌, ◌++◌, length, drop, Option, None, Some, option_map, Ok, Err, refl, sym, ap, subst, ◌∙◌, arith, length-drop, drop-drop}
use Rattle.std.proofs.lemmas.Bool.{eqb-true}
use Rattle.std.proofs.lemmas.List.{drop-append-le, take-append-le, nil_from_length}
use Rattle.qv_text.specs.declared.kinds.TokenKind.{TokenKind}
use Rattle.qv_text.specs.declared.kinds.TokenKind.TheVariants.{LeftParen, RightParen, Symbol, Reserved, Keyword, Numeral, Decimal, Hex, Binary, Text}
use Rattle.qv_text.specs.declared.kinds.LexKind.{LexKind}
use Rattle.qv_text.specs.declared.kinds.LexKind.TheVariants.{Character, Text as OpenText, QuotedSymbol, Numeral as LeadingZero}
use Rattle.qv_text.specs.Bytes.{is_white, is_line_end, is_digit, is_binary, is_hex, is_letter, is_symbol, begins_symbol}
use Rattle.qv_text.specs.Reading.{Found, Tokens, ends, stops_at, gives, first, run, quoted_len, text_len, closed, with_digits, literal, behind_hash, behind_colon, with_fraction, behind_dot, behind_digits, behind_zero, number, token_at, kind_of, is_reserved, reads_on, tokens, tokens_behind}
use Rattle.qv_text.specs.Progress.{Progress, fed, still_reads, IsOpen}
use Rattle.qv_text.proofs.Lengths.{Fits, token_fits, run_fits}
use Rattle.qv_sexpr.specs.Input.{ClosesFrom}

pub closes_later : (p q : ℕ) (ts : Tokens) → p ≤ q → ClosesFrom q ts → ClosesFrom p ts
closes_later p q ends le h = tt
closes_later p q (stops_at fault) le h = tt
closes_later p q (gives l rest) le h = (λ e. let there : q ≤ l.place = h.0 e in omega arith, closes_later p q rest le h.1)

closes_cond : (p : ℕ) (t : Bool) (x y : Tokens) → ClosesFrom p x → ClosesFrom p y → ClosesFrom p (cond t x y)
closes_cond p true x y h k = h
closes_cond p false x y h k = k

reads_close : (p place : ℕ) (bs : List ℕ) (found : Found) (further : ℕ → Tokens) → p ≤ place → ((n : ℕ) → ClosesFrom p (further n)) → ClosesFrom p (reads_on place bs found further)
reads_close p place bs (Ok x) further le h = ((λ e. le), h (x.1 - 1))
reads_close p place bs (Err e) further le h = tt

-- all tokens behind n bytes stand there or later
pub all_close : (n place : ℕ) (bs : List ℕ) → ClosesFrom (place + n) (tokens_behind n place bs)
unfolding tokens_behind
all_close n place [] = tt
all_close (suc n) place (b ∷ bs) = closes_later (place + suc n) ((place + 1) + n) (tokens_behind n (place + 1) bs) (omega arith) (all_close n (place + 1) bs)
all_close zero place (b ∷ bs) =
    let further : (n : ℕ) → ClosesFrom (place + 0) (tokens_behind n (place + 1) bs) = λ n. closes_later (place + 0) ((place + 1) + n) (tokens_behind n (place + 1) bs) (omega arith) (all_close n (place + 1) bs) in
    closes_cond (place + 0) (is_white b) _ _ (further 0)
    (closes_cond (place + 0) (b == 59) _ _ (further (run (λ c. not (is_line_end c)) bs))
    (reads_close (place + 0) place (b ∷ bs) (token_at (b ∷ bs)) (λ n. tokens_behind n (place + 1) bs) (omega arith) further))

-- What f finds behind m bytes is the same whatever comes, or else it is no close parenthesis and ends with the bytes
-- or behind them, or before a last dot.
abbrev Dot : ℕ → List ℕ → ℕ → Type 0
Dot m bs n = (k : ℕ) × (n ≡ m + k) × (drop k bs ≡ 46 ∷ [])

abbrev Far : ℕ → List ℕ → Found → Type 0
Far m bs (Ok x) = (x.0 ≢ RightParen) × ((m + length bs ≤ x.1) ⊎ Dot m bs x.1)
Far m bs (Err e) = Unit {0}

abbrev Parts : ℕ → (List ℕ → Found) → List ℕ → Type 0
Parts m f bs = ((more : List ℕ) → f (bs ++ more) ≡ f bs) ⊎ ((more : List ℕ) → Far m bs (f (bs ++ more)))

part_cond : (t : Bool) (m : ℕ) (f g : List ℕ → Found) (bs : List ℕ) → Parts m f bs → Parts m g bs → Parts m (λ xs. cond t (f xs) (g xs)) bs
part_cond true m f g bs h k = h
part_cond false m f g bs h k = k

far_cons : (m b : ℕ) (bs : List ℕ) (v : Found) → Far (m + 1) bs v → Far m (b ∷ bs) v
far_cons m b bs (Ok x) (ne, inl le) = (ne, inl (omega arith))
far_cons m b bs (Ok x) (ne, inr d) = (ne, inr (suc d.0, omega (arith, d.1), d.2))
far_cons m b bs (Err e) h = tt

part_cons : (m : ℕ) (f : List ℕ → Found) (b : ℕ) (bs : List ℕ) → Parts (m + 1) (λ xs. f (b ∷ xs)) bs → Parts m f (b ∷ bs)
part_cons m f b bs (inl h) = inl h
part_cons m f b bs (inr h) = inr (λ more. far_cons m b bs (f (b ∷ (bs ++ more))) (h more))

abbrev PartsRun : (ℕ → Bool) → List ℕ → Type 0
PartsRun p bs = ((more : List ℕ) → run p (bs ++ more) ≡ run p bs) ⊎ ((more : List ℕ) → length bs ≤ run p (bs ++ more))

run_part : (p : ℕ → Bool) (bs : List ℕ) → PartsRun p bs
unfolding run
run_part p [] = inr (λ more. omega arith)
run_part p (b ∷ bs) = at_byte (p b) (run_part p bs)
  where
    at_byte : (t : Bool) → PartsRun p bs → ((more : List ℕ) → cond t (suc (run p (bs ++ more))) 0 ≡ cond t (suc (run p bs)) 0) ⊎ ((more : List ℕ) → suc (length bs) ≤ cond t (suc (run p (bs ++ more))) 0)
    at_byte true (inl h) = inl (λ more. ap suc (h more))
    at_byte true (inr h) = inr (λ more. let le : length bs ≤ run p (bs ++ more) = h more in omega arith)
    at_byte false h = inl (λ more. refl)

run_token : (kind : TokenKind) (m : ℕ) (p : ℕ → Bool) (bs : List ℕ) → kind ≢ RightParen → Parts m (λ xs. Ok (kind, m + run p xs)) bs
run_token kind m p bs ne = of_run (run_part p bs)
  where
    of_run : PartsRun p bs → Parts m (λ xs. Ok (kind, m + run p xs)) bs
    of_run (inl h) = inl (λ more. ap (λ r. Ok (kind, m + r)) (h more))
    of_run (inr h) = inr (λ more. let le : length bs ≤ run p (bs ++ more) = h more in (ne, inl (omega arith)))

far_digits : (kind : TokenKind) (m r : ℕ) (bs : List ℕ) → kind ≢ RightParen → length bs ≤ r → Far m bs (with_digits kind m r)
far_digits kind m zero bs ne le = tt
far_digits kind m (suc r) bs ne le = (ne, inl (omega arith))

digits_part : (kind : TokenKind) (p : ℕ → Bool) (m : ℕ) (bs : List ℕ) → kind ≢ RightParen → Parts m (literal kind p m) bs
unfolding literal
digits_part kind p m bs ne = of_run (run_part p bs)
  where
    of_run : PartsRun p bs → Parts m (literal kind p m) bs
    of_run (inl h) = inl (λ more. ap (with_digits kind m) (h more))
    of_run (inr h) = inr (λ more. far_digits kind m (run p (bs ++ more)) bs ne (h more))

far_cond : (t : Bool) (m : ℕ) (bs : List ℕ) (x y : Found) → Far m bs x → Far m bs y → Far m bs (cond t x y)
far_cond true m bs x y h k = h
far_cond false m bs x y h k = k

-- a token that is at least so long, where nothing is known of its bytes
far_more : (kind : TokenKind) (m n r : ℕ) → kind ≢ RightParen → m ≤ n → Far m [] (with_digits kind n r)
far_more kind m n zero ne le = tt
far_more kind m n (suc r) ne le = (ne, inl (omega arith))

hash_part : (bs : List ℕ) → Parts 1 (behind_hash 1) bs
unfolding behind_hash literal
hash_part [] = inr far
  where
    far : (more : List ℕ) → Far 1 [] (behind_hash 1 more)
    far [] = tt
    far (c ∷ cs) =
        far_cond (c == 98) 1 [] (with_digits Binary 2 (run is_binary cs)) (cond (c == 120) (with_digits Hex 2 (run is_hex cs)) (Err Character)) (far_more Binary 1 2 (run is_binary cs) (λ e. cc) (omega arith))
        (far_cond (c == 120) 1 [] (with_digits Hex 2 (run is_hex cs)) (Err Character) (far_more Hex 1 2 (run is_hex cs) (λ e. cc) (omega arith)) tt)
hash_part (b ∷ bs) =
    part_cons 1 (behind_hash 1) b bs
    (part_cond (b == 98) 2 (literal Binary is_binary 2) (λ xs. cond (b == 120) (literal Hex is_hex 2 xs) (Err Character)) bs (digits_part Binary is_binary 2 bs (λ e. cc))
    (part_cond (b == 120) 2 (literal Hex is_hex 2) (λ xs. Err Character) bs (digits_part Hex is_hex 2 bs (λ e. cc)) (inl (λ more. refl))))

colon_part : (bs : List ℕ) → Parts 1 (behind_colon 1) bs
unfolding behind_colon
colon_part [] = inr far
  where
    far : (more : List ℕ) → Far 1 [] (behind_colon 1 more)
    far [] = tt
    far (c ∷ cs) = far_cond (begins_symbol c) 1 [] (Ok (Keyword, 2 + run is_symbol cs)) (Err Character) ((λ e. cc), inl (omega arith)) tt
colon_part (b ∷ bs) =
    part_cons 1 (behind_colon 1) b bs
    (part_cond (begins_symbol b) 2 (λ xs. Ok (Keyword, 2 + run is_symbol xs)) (λ xs. Err Character) bs (run_token Keyword 2 is_symbol bs (λ e. cc)) (inl (λ more. refl)))

-- lengths that are the same whatever comes, or reach to the end of the bytes
abbrev AtLeast : ℕ → Option ℕ → Type 0
AtLeast len None = Unit {0}
AtLeast len (Some j) = len ≤ j

abbrev PartsLen : ℕ → (List ℕ → Option ℕ) → List ℕ → Type 0
PartsLen m f bs = ((more : List ℕ) → f (bs ++ more) ≡ f bs) ⊎ ((more : List ℕ) → AtLeast (m + length bs) (f (bs ++ more)))

len_cond : (t : Bool) (m : ℕ) (f g : List ℕ → Option ℕ) (bs : List ℕ) → PartsLen m f bs → PartsLen m g bs → PartsLen m (λ xs. cond t (f xs) (g xs)) bs
len_cond true m f g bs h k = h
len_cond false m f g bs h k = k

least_suc : (len : ℕ) (v : Option ℕ) → AtLeast len v → AtLeast (suc len) (option_map suc v)
least_suc len None h = tt
least_suc len (Some j) h = omega arith

least_as : (len len' : ℕ) (v : Option ℕ) → len' ≤ len → AtLeast len v → AtLeast len' v
least_as len len' None le h = tt
least_as len len' (Some j) le h = omega arith

len_suc : (f : List ℕ → Option ℕ) (bs : List ℕ) → PartsLen 0 f bs → PartsLen 1 (λ xs. option_map suc (f xs)) bs
len_suc f bs (inl h) = inl (λ more. ap (option_map suc) (h more))
len_suc f bs (inr h) = inr (λ more. least_as (suc (0 + length bs)) (1 + length bs) _ (omega arith) (least_suc (0 + length bs) (f (bs ++ more)) (h more)))

len_cons : (f : List ℕ → Option ℕ) (b : ℕ) (bs : List ℕ) → PartsLen 1 (λ xs. f (b ∷ xs)) bs → PartsLen 0 f (b ∷ bs)
len_cons f b bs (inl h) = inl h
len_cons f b bs (inr h) = inr (λ more. least_as (1 + length bs) (0 + suc (length bs)) _ (omega arith) (h more))

least_none : (v : Option ℕ) → AtLeast (0 + 0) v
least_none None = tt
least_none (Some j) = omega arith

quoted_part : (bs : List ℕ) → PartsLen 0 quoted_len bs
unfolding quoted_len
quoted_part [] = inr (λ more. least_none (quoted_len more))
quoted_part (b ∷ bs) =
    len_cons quoted_len b bs
    (len_cond (b == 124) 1 (λ xs. Some 1) (λ xs. cond (b == 92) None (option_map suc (quoted_len xs))) bs (inl (λ more. refl))
    (len_cond (b == 92) 1 (λ xs. None) (λ xs. option_map suc (quoted_len xs)) bs (inl (λ more. refl)) (len_suc quoted_len bs (quoted_part bs))))

text_part : (paired : Bool) (bs : List ℕ) → PartsLen 0 (text_len paired) bs
unfolding text_len
text_part true [] = inr (λ more. least_none (text_len true more))
text_part false [] = inr (λ more. least_none (text_len false more))
text_part paired (b ∷ bs) =
    len_cons (text_len paired) b bs
    (len_cond (b == 34) 1 (λ xs. option_map suc (text_len (not paired) xs)) (λ xs. cond paired (Some 0) (option_map suc (text_len false xs))) bs (len_suc (text_len (not paired)) bs (text_part (not paired) bs))
    (len_cond paired 1 (λ xs. Some 0) (λ xs. option_map suc (text_len false xs)) bs (inl (λ more. refl)) (len_suc (text_len false) bs (text_part false bs))))

far_closed : (k : TokenKind) (f : LexKind) (bs : List ℕ) (v : Option ℕ) → k ≢ RightParen → AtLeast (0 + length bs) v → Far 1 bs (closed k f 1 v)
far_closed k f bs None ne h = tt
far_closed k f bs (Some j) ne h = (ne, inl (omega arith))

closed_part : (k : TokenKind) (f : LexKind) (g : List ℕ → Option ℕ) (bs : List ℕ) → k ≢ RightParen → PartsLen 0 g bs → Parts 1 (λ xs. closed k f 1 (g xs)) bs
closed_part k f g bs ne (inl h) = inl (λ more. ap (closed k f 1) (h more))
closed_part k f g bs ne (inr h) = inr (λ more. far_closed k f bs (g (bs ++ more)) ne (h more))

-- what follows the digits of a numeral
far_fraction : (n m r : ℕ) → m ≤ n → Far m [] (with_fraction n r)
far_fraction n m zero le = ((λ e. cc), inl (omega arith))
far_fraction n m (suc r) le = ((λ e. cc), inl (omega arith))

far_behind : (n m : ℕ) (more : List ℕ) → m ≤ n → Far m [] (behind_digits n more)
unfolding behind_digits behind_dot
far_behind n m [] le = ((λ e. cc), inl (omega arith))
far_behind n m (c ∷ cs) le = far_cond (c == 46) m [] (with_fraction n (run is_digit cs)) (Ok (Numeral, n)) (far_fraction n m (run is_digit cs) le) ((λ e. cc), inl (omega arith))

far_dot : (n r b : ℕ) (bs : List ℕ) → b ≡ 46 → length bs ≤ r → Far n (b ∷ bs) (with_fraction n r)
far_dot n zero b bs e le = ((λ e. cc), inr (0, omega arith, ap (λ x. x ∷ bs) e ∙ ap (λ (xs : List ℕ). 46 ∷ xs) (nil_from_length bs (omega arith))))
far_dot n (suc r) b bs e le = ((λ e. cc), inl (omega arith))

behind_part : (n : ℕ) (bs : List ℕ) → Parts n (behind_digits n) bs
unfolding behind_digits behind_dot
behind_part n [] = inr (λ more. far_behind n n more (omega arith))
behind_part n (b ∷ bs) = at_dot (b == 46) refl (run_part is_digit bs)
  where
    at_dot : (t : Bool) → (b == 46) ≡ t → PartsRun is_digit bs →
        ((more : List ℕ) → cond t (with_fraction n (run is_digit (bs ++ more))) (Ok (Numeral, n)) ≡ cond t (with_fraction n (run is_digit bs)) (Ok (Numeral, n)))
        ⊎ ((more : List ℕ) → Far n (b ∷ bs) (cond t (with_fraction n (run is_digit (bs ++ more))) (Ok (Numeral, n))))
    at_dot true e (inl h) = inl (λ more. ap (with_fraction n) (h more))
    at_dot true e (inr h) = inr (λ more. far_dot n (run is_digit (bs ++ more)) b bs (eqb-true b 46 e) (h more))
    at_dot false e h = inl (λ more. refl)

far_number : (r : ℕ) (bs : List ℕ) (v : Found) → r ≤ length bs → Far (1 + r) (drop r bs) v → Far 1 bs v
far_number r bs (Err e) le h = tt
far_number r bs (Ok x) le (ne, inl h) = (ne, inl (omega (arith, h, length-drop r bs)))
far_number r bs (Ok x) le (ne, inr d) = (ne, inr (r + d.0, omega (arith, d.1), sym (ap (λ (xs : List ℕ). xs) (drop-drop d.0 r bs)) ∙ d.2))

far_longer : (m : ℕ) (bs : List ℕ) (n : ℕ) (v : Found) → m + length bs ≤ n → Far n [] v → Far m bs v
far_longer m bs n (Err e) le h = tt
far_longer m bs n (Ok x) le (ne, inl h) = (ne, inl (omega (arith, h)))
far_longer m bs n (Ok x) le (ne, inr d) = absurd (omega (arith, ap length d.2, length-drop {A = ℕ} d.0 []))

number_part : (bs : List ℕ) → Parts 1 (number 1) bs
unfolding number
number_part bs = of_run (run_part is_digit bs)
  where
    r : ℕ
    r = run is_digit bs

    same : ((more : List ℕ) → run is_digit (bs ++ more) ≡ r) → r ≤ length bs → (more : List ℕ) → number 1 (bs ++ more) ≡ behind_digits (1 + r) (drop r bs ++ more)
    same h le more = ap (λ i. behind_digits (1 + i) (drop i (bs ++ more))) (h more) ∙ ap (behind_digits (1 + r)) (drop-append-le r bs more le)

    of_digits : ((more : List ℕ) → run is_digit (bs ++ more) ≡ r) → r ≤ length bs → Parts (1 + r) (behind_digits (1 + r)) (drop r bs) → Parts 1 (number 1) bs
    of_digits h le (inl k) = inl (λ more. same h le more ∙ k more)
    of_digits h le (inr k) = inr (λ more. subst (Far 1 bs) (sym (same h le more)) (far_number r bs _ le (k more)))

    of_run : PartsRun is_digit bs → Parts 1 (number 1) bs
    of_run (inl h) = of_digits h (run_fits is_digit bs) (behind_part (1 + r) (drop r bs))
    of_run (inr h) = inr (λ more. far_longer 1 bs (1 + run is_digit (bs ++ more)) _ (let le : length bs ≤ run is_digit (bs ++ more) = h more in omega arith)
        (far_behind (1 + run is_digit (bs ++ more)) (1 + run is_digit (bs ++ more)) (drop (run is_digit (bs ++ more)) (bs ++ more)) (omega arith)))

zero_part : (bs : List ℕ) → Parts 1 (behind_zero 1) bs
unfolding behind_zero
zero_part [] = inr far
  where
    far : (more : List ℕ) → Far 1 [] (behind_zero 1 more)
    far [] = ((λ e. cc), inl (omega arith))
    far (c ∷ cs) = far_cond (is_digit c) 1 [] (Err LeadingZero) (behind_digits 1 (c ∷ cs)) tt (far_behind 1 1 (c ∷ cs) (omega arith))
zero_part (b ∷ bs) = part_cond (is_digit b) 1 (λ xs. Err LeadingZero) (behind_digits 1) (b ∷ bs) (inl (λ more. refl)) (behind_part 1 (b ∷ bs))

token_part : (b : ℕ) (bs : List ℕ) → Parts 0 token_at (b ∷ bs)
unfolding token_at
token_part b bs =
    let symbols : List ℕ → Found = λ xs. cond (is_symbol b) (Ok (Symbol, 1 + run is_symbol xs)) (Err Character) in
    let numbers : List ℕ → Found = λ xs. cond (is_digit b) (number 1 xs) (symbols xs) in
    let zeros : List ℕ → Found = λ xs. cond (b == 48) (behind_zero 1 xs) (numbers xs) in
    let keywords : List ℕ → Found = λ xs. cond (b == 58) (behind_colon 1 xs) (zeros xs) in
    let literals : List ℕ → Found = λ xs. cond (b == 35) (behind_hash 1 xs) (keywords xs) in
    let texts : List ℕ → Found = λ xs. cond (b == 34) (closed Text OpenText 1 (text_len false xs)) (literals xs) in
    let quoted : List ℕ → Found = λ xs. cond (b == 124) (closed Symbol QuotedSymbol 1 (quoted_len xs)) (texts xs) in
    let closing : List ℕ → Found = λ xs. cond (b == 41) (Ok (RightParen, 1)) (quoted xs) in
    part_cons 0 token_at b bs
    (part_cond (b == 40) 1 (λ xs. Ok (LeftParen, 1)) closing bs (inl (λ more. refl))
    (part_cond (b == 41) 1 (λ xs. Ok (RightParen, 1)) quoted bs (inl (λ more. refl))
    (part_cond (b == 124) 1 (λ xs. closed Symbol QuotedSymbol 1 (quoted_len xs)) texts bs (closed_part Symbol QuotedSymbol quoted_len bs (λ e. cc) (quoted_part bs))
    (part_cond (b == 34) 1 (λ xs. closed Text OpenText 1 (text_len false xs)) literals bs (closed_part Text OpenText (text_len false) bs (λ e. cc) (text_part false bs))
    (part_cond (b == 35) 1 (behind_hash 1) keywords bs (hash_part bs)
    (part_cond (b == 58) 1 (behind_colon 1) zeros bs (colon_part bs)
    (part_cond (b == 48) 1 (behind_zero 1) numbers bs (zero_part bs)
    (part_cond (is_digit b) 1 (number 1) symbols bs (number_part bs)
    (part_cond (is_symbol b) 1 (λ xs. Ok (Symbol, 1 + run is_symbol xs)) (λ xs. Err Character) bs (run_token Symbol 1 is_symbol bs (λ e. cc)) (inl (λ more. refl)))))))))))

-- What is read with more bytes has the same first token whatever they are, or no close parenthesis before this place.
abbrev PartsAt : ℕ → (List ℕ → Tokens) → Type 0
PartsAt place f = ((more : List ℕ) → first (f more) ≡ first (f [])) ⊎ ((more : List ℕ) → ClosesFrom place (f more))

at_cond : (place : ℕ) (t : Bool) (f g : List ℕ → Tokens) → PartsAt place f → PartsAt place g → PartsAt place (λ more. cond t (f more) (g more))
at_cond place true f g h k = h
at_cond place false f g h k = k

-- only a close parenthesis has that kind
kind_close : (kind : TokenKind) (text : List ℕ) → kind_of kind text ≡ RightParen → kind ≡ RightParen
unfolding kind_of
kind_close Symbol text h = absurd (not_close (is_reserved text) h)
  where
    not_close : (t : Bool) → cond t Reserved Symbol ≡ RightParen → ⊥
    not_close true h = cc
    not_close false h = cc
kind_close LeftParen text h = h
kind_close RightParen text h = h
kind_close Reserved text h = h
kind_close Keyword text h = h
kind_close Numeral text h = h
kind_close Decimal text h = h
kind_close Hex text h = h
kind_close Binary text h = h
kind_close Text text h = h

-- the first token, where bytes are found to begin with one
first_found : (place : ℕ) (xs more : List ℕ) (v : Found) (f g : ℕ → Tokens) → Fits (length xs) v → first (reads_on place (xs ++ more) v f) ≡ first (reads_on place xs v g)
first_found place xs more (Err e) f g h = refl
first_found place xs more (Ok x) f g h = ap (λ (ys : List ℕ). first (gives (record { kind = kind_of x.0 ys; place = place; text = ys }) ends)) (take-append-le x.1 xs more h.1)

-- the tokens behind some bytes
pass : (n place : ℕ) (bs : List ℕ) → tokens_behind n place bs ≡ tokens (place + n) (drop n bs)
unfolding tokens_behind
pass zero place bs = ap (λ x. tokens x bs) (omega arith)
pass (suc n) place [] = refl
pass (suc n) place (b ∷ bs) = pass n (place + 1) bs ∙ ap (λ x. tokens x (drop n bs)) (omega arith)

-- a dot begins a symbol
dot_close : (place : ℕ) (more : List ℕ) → ClosesFrom (place + 1) (tokens place (46 ∷ more))
unfolding tokens_behind token_at is_white is_symbol is_letter is_digit
dot_close place more = (
  λ e. let no : Symbol ≡ RightParen = kind_close Symbol _ e in cc,
  closes_later (place + 1) ((place + 1) + ((1 + run is_symbol more) - 1)) _ (omega arith) (all_close ((1 + run is_symbol more) - 1) (place + 1) more),
)

-- the tokens behind one that ends before a last dot
dot_behind : (place b : ℕ) (bs more : List ℕ) (n k : ℕ) → 0 < n → n ≡ 0 + k → drop k (b ∷ bs) ≡ 46 ∷ [] → ClosesFrom (place + suc (length bs)) (tokens_behind (n - 1) (place + 1) (bs ++ more))
dot_behind place b bs more n zero some e d = absurd (omega arith)
dot_behind place b bs more n (suc k) some e d =
    let size : length bs ≡ k + 1 = omega (arith, ap length d, length-drop k bs) in
    subst (ClosesFrom (place + suc (length bs)))
    (sym (pass (n - 1) (place + 1) (bs ++ more)
    ∙ ap (λ i. tokens ((place + 1) + i) (drop i (bs ++ more))) (omega arith)
    ∙ ap (λ (xs : List ℕ). tokens ((place + 1) + k) xs) (drop-append-le k bs more (omega arith) ∙ ap (λ (xs : List ℕ). xs ++ more) d)))
    (closes_later (place + suc (length bs)) (((place + 1) + k) + 1) _ (omega arith) (dot_close ((place + 1) + k) more))

far_close : (place b : ℕ) (bs more : List ℕ) (v : Found) → Far 0 (b ∷ bs) v → Fits (length (b ∷ (bs ++ more))) v → ClosesFrom (place + suc (length bs)) (reads_on place (b ∷ (bs ++ more)) v (λ n. tokens_behind n (place + 1) (bs ++ more)))
far_close place b bs more (Err e) h f = tt
far_close place b bs more (Ok x) (ne, inl le) f = (
  λ e. absurd (ne (kind_close x.0 _ e)),
  closes_later (place + suc (length bs)) ((place + 1) + (x.1 - 1)) _ (omega arith) (all_close (x.1 - 1) (place + 1) (bs ++ more)),
)
far_close place b bs more (Ok x) (ne, inr d) f = (λ e. absurd (ne (kind_close x.0 _ e)), dot_behind place b bs more x.1 d.0 f.0 d.1 d.2)

token_at_place : (place b : ℕ) (bs : List ℕ) → Parts 0 token_at (b ∷ bs) → PartsAt (place + suc (length bs)) (λ more. reads_on place (b ∷ (bs ++ more)) (token_at (b ∷ (bs ++ more))) (λ n. tokens_behind n (place + 1) (bs ++ more)))
token_at_place place b bs (inl h) = inl (λ more. canonical more ∙ sym (canonical []))
  where
    canonical : (more : List ℕ) → first (reads_on place (b ∷ (bs ++ more)) (token_at (b ∷ (bs ++ more))) (λ n. tokens_behind n (place + 1) (bs ++ more))) ≡ first (reads_on place (b ∷ bs) (token_at (b ∷ bs)) (λ n. ends))
    canonical more =
        ap (λ v. first (reads_on place (b ∷ (bs ++ more)) v (λ n. tokens_behind n (place + 1) (bs ++ more)))) (h more)
        ∙ first_found place (b ∷ bs) more (token_at (b ∷ bs)) (λ n. tokens_behind n (place + 1) (bs ++ more)) (λ n. ends) (token_fits (b ∷ bs))
token_at_place place b bs (inr h) = inr (λ more. far_close place b bs more (token_at (b ∷ (bs ++ more))) (h more) (token_fits (b ∷ (bs ++ more))))

-- the bytes of a comment
abbrev inside : List ℕ → ℕ
inside bs = run (λ c. not (is_line_end c)) bs

at_byte : (place b : ℕ) (bs : List ℕ) → PartsAt (place + suc (length bs)) (λ more. tokens_behind 0 (place + 1) (bs ++ more)) →
    PartsAt (place + suc (length bs)) (λ more. tokens_behind (inside (bs ++ more)) (place + 1) (bs ++ more)) → PartsAt (place + suc (length bs)) (λ more. tokens_behind 0 place (b ∷ (bs ++ more)))
unfolding tokens_behind
at_byte place b bs white comment =
    at_cond (place + suc (length bs)) (is_white b) (λ more. tokens_behind 0 (place + 1) (bs ++ more)) _ white
    (at_cond (place + suc (length bs)) (b == 59) (λ more. tokens_behind (inside (bs ++ more)) (place + 1) (bs ++ more)) _ comment (token_at_place place b bs (token_part b bs)))

at_as : (p q : ℕ) (f : List ℕ → Tokens) → p ≡ q → PartsAt p f → PartsAt q f
at_as p q f e h = subst (λ x. PartsAt x f) e h

-- The same of all bytes, behind some of them and in a comment.
both : (bs : List ℕ) → ((n place : ℕ) → PartsAt (place + length bs) (λ more. tokens_behind n place (bs ++ more))) × ((place : ℕ) → PartsAt (place + length bs) (λ more. tokens_behind (inside (bs ++ more)) place (bs ++ more)))
unfolding tokens_behind run
both [] = (
  λ n place. inr (λ more. closes_later (place + 0) (place + n) _ (omega arith) (all_close n place more)),
  λ place. inr (λ more. closes_later (place + 0) (place + inside more) _ (omega arith) (all_close (inside more) place more)),
)
both (b ∷ bs) = (λ n place. behind n place (both bs), λ place. in_comment (not (is_line_end b)) place (both bs))
  where
    here : (place : ℕ) → ((n place : ℕ) → PartsAt (place + length bs) (λ more. tokens_behind n place (bs ++ more))) × ((place : ℕ) → PartsAt (place + length bs) (λ more. tokens_behind (inside (bs ++ more)) place (bs ++ more))) → PartsAt (place + suc (length bs)) (λ more. tokens_behind 0 place (b ∷ (bs ++ more)))
    here place h =
        at_byte place b bs (at_as ((place + 1) + length bs) (place + suc (length bs)) (λ more. tokens_behind 0 (place + 1) (bs ++ more)) (omega arith) (h.0 0 (place + 1)))
        (at_as ((place + 1) + length bs) (place + suc (length bs)) (λ more. tokens_behind (inside (bs ++ more)) (place + 1) (bs ++ more)) (omega arith) (h.1 (place + 1)))

    behind : (n place : ℕ) → ((n place : ℕ) → PartsAt (place + length bs) (λ more. tokens_behind n place (bs ++ more))) × ((place : ℕ) → PartsAt (place + length bs) (λ more. tokens_behind (inside (bs ++ more)) place (bs ++ more))) → PartsAt (place + suc (length bs)) (λ more. tokens_behind n place (b ∷ (bs ++ more)))
    behind zero place h = here place h
    behind (suc n) place h = at_as ((place + 1) + length bs) (place + suc (length bs)) (λ more. tokens_behind n (place + 1) (bs ++ more)) (omega arith) (h.0 n (place + 1))

    in_comment : (t : Bool) (place : ℕ) → ((n place : ℕ) → PartsAt (place + length bs) (λ more. tokens_behind n place (bs ++ more))) × ((place : ℕ) → PartsAt (place + length bs) (λ more. tokens_behind (inside (bs ++ more)) place (bs ++ more))) → PartsAt (place + suc (length bs)) (λ more. tokens_behind (cond t (suc (inside (bs ++ more))) 0) place (b ∷ (bs ++ more)))
    in_comment true place h = at_as ((place + 1) + length bs) (place + suc (length bs)) (λ more. tokens_behind (inside (bs ++ more)) (place + 1) (bs ++ more)) (omega arith) (h.1 (place + 1))
    in_comment false place h = here place h

-- where a lexer wants bytes, each close parenthesis stands behind those that it has
pub open_closes : (lexer : Progress) → IsOpen lexer → (more : List ℕ) → ClosesFrom (fed lexer) (still_reads lexer more)
open_closes lexer h = of_parts ((both lexer.rest).0 0 lexer.place)
  where
    of_parts : PartsAt (lexer.place + length lexer.rest) (λ more. tokens_behind 0 lexer.place (lexer.rest ++ more)) → (more : List ℕ) → ClosesFrom (fed lexer) (still_reads lexer more)
    of_parts (inl same) more = absurd (h.1 (same h.0))
    of_parts (inr k) more = k more
