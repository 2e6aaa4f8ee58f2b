-- What is found at the front of some bytes is a token.
use Rattle.std.proofs.Common.{ℕ, zero, suc, ◌≡◌, ◌≢◌, ◌+◌, ◌==◌, inl, inr, not, Bool, true, false, cond, List, [], ◌∷◌, ◌++◌, length, take, drop, Option, Some, None, option_map, Ok, Err, refl, sym, ap, subst, ◌∙◌, take-append-drop, arith}
use Rattle.std.specs.Prelude.{◌&&◌}
use Rattle.std.proofs.Math.Seq.{take-append_seam, take-append-add}
use Rattle.std.proofs.lemmas.List.{length-take-le}
use Rattle.std.proofs.lemmas.Bool.{false≢true, eqb-true, eq-eqb}
use Rattle.qv_text.specs.declared.kinds.TokenKind.{TokenKind}
use Rattle.qv_text.specs.declared.kinds.TokenKind.TheVariants.{LeftParen, RightParen, Symbol, Reserved, Keyword, Numeral, Decimal, Hex, Binary, Text}
use Rattle.qv_text.specs.declared.kinds.LexKind.TheVariants.{Text as OpenText, QuotedSymbol}
use Rattle.qv_text.specs.Bytes.{is_digit, is_binary, is_hex, is_symbol, begins_symbol}
use Rattle.qv_text.specs.Reading.{Found, run, quoted_len, text_len, closed, with_digits, with_fraction, literal, behind_hash, behind_colon, behind_dot, behind_digits, behind_zero, number, token_at, kind_of, is_reserved}
use Rattle.qv_text.specs.Grammar.{Each, SomeOf, IsWord, IsNumeral, is_barred, Quotable, empty, other, quotes, IsWhole}
use Rattle.qv_text.proofs.Lengths.{run_fits}

-- so many of these bytes are a token of this kind
abbrev IsTaken : TokenKind → ℕ → List ℕ → Type 0
IsTaken kind n bytes = IsWhole (kind_of kind (take n bytes)) (take n bytes)

-- what was found is a token at the front
abbrev pub IsFront : List ℕ → Found → Type 0
IsFront bytes (Ok x) = IsTaken x.0 x.1 bytes
IsFront bytes (Err fault) = Unit {0}

front_cond : (bytes : List ℕ) (t : Bool) (x y : Found) → (t ≡ true → IsFront bytes x) → (t ≡ false → IsFront bytes y) → IsFront bytes (cond t x y)
front_cond bytes true x y h k = h refl
front_cond bytes false x y h k = k refl

-- a front that is spelt so
as_front : (kind : TokenKind) (n m : ℕ) (bytes text : List ℕ) → n ≡ m → take m bytes ≡ text → IsWhole (kind_of kind text) text → IsFront bytes (Ok (kind, n))
as_front kind n m bytes text e t h =
    subst (λ (i : ℕ). IsTaken kind i bytes) (sym e) (subst (λ (xs : List ℕ). IsWhole (kind_of kind xs) xs) (sym t) h)

not_equal : (a b : ℕ) → (a == b) ≡ false → a ≢ b
not_equal a b h e = false≢true (sym h ∙ eq-eqb a b e)

each_cons : (p : ℕ → Bool) (b : ℕ) (bs : List ℕ) (n : ℕ) (t : Bool) → p b ≡ t → Each p (take n bs) → Each p (take (cond t (suc n) 0) (b ∷ bs))
each_cons p b bs n true e h = (e, h)
each_cons p b bs n false e h = tt

-- a run passes the test
each_run : (p : ℕ → Bool) (bs : List ℕ) → Each p (take (run p bs) bs)
unfolding run
each_run p [] = tt
each_run p (b ∷ bs) = each_cons p b bs (run p bs) (p b) refl (each_run p bs)

some_run : (p : ℕ → Bool) (bs : List ℕ) (n : ℕ) → run p bs ≡ suc n → SomeOf p (take (suc n) bs)
some_run p bs n e =
    let size : length (take (suc n) bs) ≡ suc n = length-take-le (suc n) bs (omega (arith, e, run_fits p bs)) in
    (omega (arith, size), subst (λ (i : ℕ). Each p (take i bs)) e (each_run p bs))

-- words
word_kind : (text : List ℕ) (t : Bool) → is_reserved text ≡ t → IsWord text → IsWhole (cond t Reserved Symbol) text
word_kind text true e h = (h, e)
word_kind text false e h = inl (h, e)

is_word : (text : List ℕ) → IsWord text → IsWhole (kind_of Symbol text) text
unfolding kind_of
is_word text h = word_kind text (is_reserved text) refl h

begins : (b : ℕ) → is_symbol b ≡ true → is_digit b ≡ false → begins_symbol b ≡ true
unfolding begins_symbol
begins b h k = ap (λ t. t && not (is_digit b)) h ∙ ap (λ t. true && not t) k

word_front : (b : ℕ) (bs : List ℕ) → is_symbol b ≡ true → is_digit b ≡ false → IsFront (b ∷ bs) (Ok (Symbol, 1 + run is_symbol bs))
word_front b bs h k =
    let word : IsWord (b ∷ take (run is_symbol bs) bs) = (begins b h k, each_run is_symbol bs) in
    as_front Symbol (1 + run is_symbol bs) (suc (run is_symbol bs)) (b ∷ bs) (b ∷ take (run is_symbol bs) bs) (omega arith) refl (is_word (b ∷ take (run is_symbol bs) bs) word)

keyword_front : (bs : List ℕ) → IsFront (58 ∷ bs) (behind_colon 1 bs)
unfolding behind_colon kind_of
keyword_front [] = tt
keyword_front (b ∷ bs) = front_cond (58 ∷ b ∷ bs) (begins_symbol b) _ _
    (λ e. as_front Keyword ((1 + 1) + run is_symbol bs) (suc (suc (run is_symbol bs))) (58 ∷ b ∷ bs) (58 ∷ b ∷ take (run is_symbol bs) bs) (omega arith) refl (b ∷ take (run is_symbol bs) bs, refl, (e, each_run is_symbol bs)))
    (λ e. tt)

-- literals
binary_front : (bs : List ℕ) (r : ℕ) → run is_binary bs ≡ r → IsFront (35 ∷ 98 ∷ bs) (with_digits Binary (1 + 1) r)
unfolding kind_of
binary_front bs zero e = tt
binary_front bs (suc r) e = as_front Binary ((1 + 1) + suc r) (suc (suc (suc r))) (35 ∷ 98 ∷ bs) (35 ∷ 98 ∷ take (suc r) bs) (omega arith) refl (take (suc r) bs, refl, some_run is_binary bs r e)

hex_front : (bs : List ℕ) (r : ℕ) → run is_hex bs ≡ r → IsFront (35 ∷ 120 ∷ bs) (with_digits Hex (1 + 1) r)
unfolding kind_of
hex_front bs zero e = tt
hex_front bs (suc r) e = as_front Hex ((1 + 1) + suc r) (suc (suc (suc r))) (35 ∷ 120 ∷ bs) (35 ∷ 120 ∷ take (suc r) bs) (omega arith) refl (take (suc r) bs, refl, some_run is_hex bs r e)

hash_front : (bs : List ℕ) → IsFront (35 ∷ bs) (behind_hash 1 bs)
unfolding behind_hash literal
hash_front [] = tt
hash_front (b ∷ bs) = front_cond (35 ∷ b ∷ bs) (b == 98) _ _
    (λ e. subst (λ (x : ℕ). IsFront (35 ∷ x ∷ bs) (with_digits Binary (1 + 1) (run is_binary bs))) (sym (eqb-true b 98 e)) (binary_front bs (run is_binary bs) refl))
    (λ _. front_cond (35 ∷ b ∷ bs) (b == 120) _ _
    (λ e. subst (λ (x : ℕ). IsFront (35 ∷ x ∷ bs) (with_digits Hex (1 + 1) (run is_hex bs))) (sym (eqb-true b 120 e)) (hex_front bs (run is_hex bs) refl))
    (λ _. tt))

-- numbers
fraction_front : (whole bs : List ℕ) (r : ℕ) → IsNumeral whole → run is_digit bs ≡ r → IsFront (whole ++ 46 ∷ bs) (with_fraction (length whole) r)
unfolding kind_of
fraction_front whole bs zero h e = as_front Numeral (length whole) (length whole) (whole ++ 46 ∷ bs) whole refl (take-append_seam whole (46 ∷ bs)) h
fraction_front whole bs (suc r) h e =
    as_front Decimal ((length whole + 1) + suc r) (length whole + suc (suc r)) (whole ++ 46 ∷ bs) (whole ++ 46 ∷ take (suc r) bs) (omega arith) (take-append-add whole (46 ∷ bs) (suc (suc r)))
    (whole, take (suc r) bs, refl, h, some_run is_digit bs r e)

digits_front : (whole bs : List ℕ) → IsNumeral whole → IsFront (whole ++ bs) (behind_digits (length whole) bs)
unfolding behind_digits behind_dot kind_of
digits_front whole [] h = as_front Numeral (length whole) (length whole) (whole ++ []) whole refl (take-append_seam whole []) h
digits_front whole (b ∷ bs) h = front_cond (whole ++ b ∷ bs) (b == 46) _ _
    (λ e. subst (λ (x : ℕ). IsFront (whole ++ x ∷ bs) (with_fraction (length whole) (run is_digit bs))) (sym (eqb-true b 46 e)) (fraction_front whole bs (run is_digit bs) h refl))
    (λ e. as_front Numeral (length whole) (length whole) (whole ++ b ∷ bs) whole refl (take-append_seam whole (b ∷ bs)) h)

zero_front : (bs : List ℕ) → IsFront (48 ∷ bs) (behind_zero 1 bs)
unfolding behind_zero kind_of
zero_front [] = as_front Numeral 1 1 (48 ∷ []) (48 ∷ []) refl refl (inl (refl, refl))
zero_front (b ∷ bs) = front_cond (48 ∷ b ∷ bs) (is_digit b) _ _ (λ e. tt) (λ e. digits_front (48 ∷ []) (b ∷ bs) (inl (refl, refl)))

number_front : (b : ℕ) (bs : List ℕ) → is_digit b ≡ true → b ≢ 48 → IsFront (b ∷ bs) (number 1 bs)
unfolding number
number_front b bs h n =
    let r = run is_digit bs in
    let size : length (take r bs) ≡ r = length-take-le r bs (run_fits is_digit bs) in
    let at : IsFront (b ∷ (take r bs ++ drop r bs)) (behind_digits (suc (length (take r bs))) (drop r bs)) = digits_front (b ∷ take r bs) (drop r bs) (inr (n, h, each_run is_digit bs)) in
    subst (λ (xs : List ℕ). IsFront (b ∷ xs) (behind_digits (1 + r) (drop r bs))) (take-append-drop r bs)
    (subst (λ (i : ℕ). IsFront (b ∷ (take r bs ++ drop r bs)) (behind_digits i (drop r bs))) (omega (arith, size)) at)

-- what stands between bars
abbrev EndsBarred : List ℕ → Option ℕ → Type 0
EndsBarred bs None = Unit {0}
EndsBarred bs (Some m) = (inside : List ℕ) × (take m bs ≡ inside ++ 124 ∷ []) × Each is_barred inside

barred_more : (b : ℕ) (bs : List ℕ) (r : Option ℕ) → is_barred b ≡ true → EndsBarred bs r → EndsBarred (b ∷ bs) (option_map suc r)
barred_more b bs None e h = tt
barred_more b bs (Some m) e h = (b ∷ h.0, ap (λ (xs : List ℕ). b ∷ xs) h.1, (e, h.2))

barred_case : (b : ℕ) (bs : List ℕ) (t u : Bool) (r : Option ℕ) → (b == 124) ≡ t → (b == 92) ≡ u → EndsBarred bs r → EndsBarred (b ∷ bs) (cond t (Some 1) (cond u None (option_map suc r)))
barred_case b bs true u r e f h = ([], ap (λ (x : ℕ). x ∷ []) (eqb-true b 124 e), tt)
barred_case b bs false true r e f h = tt
barred_case b bs false false r e f h = barred_more b bs r (ap (λ t. not t && not (b == 92)) e ∙ ap (λ t. true && not t) f) h

ends_barred : (bs : List ℕ) → EndsBarred bs (quoted_len bs)
unfolding quoted_len
ends_barred [] = tt
ends_barred (b ∷ bs) = barred_case b bs (b == 124) (b == 92) (quoted_len bs) refl refl (ends_barred bs)

no_reserved : (xs : List ℕ) → is_reserved (124 ∷ xs) ≡ false
unfolding is_reserved
no_reserved xs = refl

barred_kind : (xs : List ℕ) → kind_of Symbol (124 ∷ xs) ≡ Symbol
unfolding kind_of
barred_kind xs = ap (λ t. cond t Reserved Symbol) (no_reserved xs)

barred_front : (bs : List ℕ) (r : Option ℕ) → EndsBarred bs r → IsFront (124 ∷ bs) (closed Symbol QuotedSymbol 1 r)
barred_front bs None h = tt
barred_front bs (Some m) h =
    let text : List ℕ = 124 ∷ (h.0 ++ 124 ∷ []) in
    as_front Symbol (1 + m) (suc m) (124 ∷ bs) (124 ∷ (h.0 ++ 124 ∷ [])) (omega arith) (ap (λ (xs : List ℕ). 124 ∷ xs) h.1)
    (subst (λ k. IsWhole k (124 ∷ (h.0 ++ 124 ∷ []))) (sym (barred_kind (h.0 ++ 124 ∷ []))) (inr (h.0, refl, h.2)))

-- what stands between quotes; where a quote came just before, it is the last, or the first of two
abbrev EndsQuoted : Bool → List ℕ → Option ℕ → Type 0
EndsQuoted paired bs None = Unit {0}
EndsQuoted true bs (Some m) = (inside : List ℕ) × (34 ∷ take m bs ≡ inside ++ 34 ∷ []) × Quotable inside
EndsQuoted false bs (Some m) = (inside : List ℕ) × (take m bs ≡ inside ++ 34 ∷ []) × Quotable inside

quote_more : (paired : Bool) (bs : List ℕ) (r : Option ℕ) → EndsQuoted (not paired) bs r → EndsQuoted paired (34 ∷ bs) (option_map suc r)
quote_more true bs None h = tt
quote_more false bs None h = tt
quote_more true bs (Some m) h = (34 ∷ 34 ∷ h.0, ap (λ (xs : List ℕ). 34 ∷ 34 ∷ xs) h.1, quotes h.0 h.2)
quote_more false bs (Some m) h = h

byte_more : (paired : Bool) (b : ℕ) (bs : List ℕ) (r : Option ℕ) → b ≢ 34 → EndsQuoted false bs r → EndsQuoted paired (b ∷ bs) (cond paired (Some 0) (option_map suc r))
byte_more true b bs r n h = ([], refl, empty)
byte_more false b bs None n h = tt
byte_more false b bs (Some m) n h = (b ∷ h.0, ap (λ (xs : List ℕ). b ∷ xs) h.1, other b h.0 n h.2)

quoted_case : (paired : Bool) (b : ℕ) (bs : List ℕ) (t : Bool) (r s : Option ℕ) → (b == 34) ≡ t → EndsQuoted (not paired) bs r → EndsQuoted false bs s → EndsQuoted paired (b ∷ bs) (cond t (option_map suc r) (cond paired (Some 0) (option_map suc s)))
quoted_case paired b bs true r s e h k = subst (λ (x : ℕ). EndsQuoted paired (x ∷ bs) (option_map suc r)) (sym (eqb-true b 34 e)) (quote_more paired bs r h)
quoted_case paired b bs false r s e h k = byte_more paired b bs s (not_equal b 34 e) k

ends_quoted : (paired : Bool) (bs : List ℕ) → EndsQuoted paired bs (text_len paired bs)
unfolding text_len
ends_quoted true [] = ([], refl, empty)
ends_quoted false [] = tt
ends_quoted paired (b ∷ bs) = quoted_case paired b bs (b == 34) (text_len (not paired) bs) (text_len false bs) refl (ends_quoted (not paired) bs) (ends_quoted false bs)

string_front : (bs : List ℕ) (r : Option ℕ) → EndsQuoted false bs r → IsFront (34 ∷ bs) (closed Text OpenText 1 r)
unfolding kind_of
string_front bs None h = tt
string_front bs (Some m) h =
    as_front Text (1 + m) (suc m) (34 ∷ bs) (34 ∷ (h.0 ++ 34 ∷ [])) (omega arith) (ap (λ (xs : List ℕ). 34 ∷ xs) h.1) (h.0, refl, h.2)

paren_front : (bs : List ℕ) → IsFront (40 ∷ bs) (Ok (LeftParen, 1)) × IsFront (41 ∷ bs) (Ok (RightParen, 1))
unfolding kind_of
paren_front bs = (refl, refl)

-- where the first byte is this one
at_byte : (b c : ℕ) (bs : List ℕ) (what : Found) → (b == c) ≡ true → IsFront (c ∷ bs) what → IsFront (b ∷ bs) what
at_byte b c bs what e h = subst (λ (x : ℕ). IsFront (x ∷ bs) what) (sym (eqb-true b c e)) h

-- what is found at the front of the bytes is a token
pub front : (bytes : List ℕ) → IsFront bytes (token_at bytes)
unfolding token_at
front [] = tt
front (b ∷ bs) =
    front_cond (b ∷ bs) (b == 40) _ _ (λ e. at_byte b 40 bs (Ok (LeftParen, 1)) e (paren_front bs).0) (λ _.
    front_cond (b ∷ bs) (b == 41) _ _ (λ e. at_byte b 41 bs (Ok (RightParen, 1)) e (paren_front bs).1) (λ _.
    front_cond (b ∷ bs) (b == 124) _ _ (λ e. at_byte b 124 bs _ e (barred_front bs (quoted_len bs) (ends_barred bs))) (λ _.
    front_cond (b ∷ bs) (b == 34) _ _ (λ e. at_byte b 34 bs _ e (string_front bs (text_len false bs) (ends_quoted false bs))) (λ _.
    front_cond (b ∷ bs) (b == 35) _ _ (λ e. at_byte b 35 bs _ e (hash_front bs)) (λ _.
    front_cond (b ∷ bs) (b == 58) _ _ (λ e. at_byte b 58 bs _ e (keyword_front bs)) (λ _.
    front_cond (b ∷ bs) (b == 48) _ _ (λ e. at_byte b 48 bs _ e (zero_front bs)) (λ z.
    front_cond (b ∷ bs) (is_digit b) _ _ (λ e. number_front b bs e (not_equal b 48 z)) (λ d.
    front_cond (b ∷ bs) (is_symbol b) _ _ (λ e. word_front b bs e d) (λ _. tt)))))))))
