-- A token at the front of some bytes is no longer than what is found there.
use Rattle.std.proofs.Common.{ℕ, zero, suc, ◌≡◌, ◌≢◌, ◌+◌, ◌<◌, ◌≤◌, ◌==◌, inl, inr, not, Bool, true, false, cond, List, [], ◌∷◌, ◌++◌, length, take, drop, Option, Some, None, option_map, Ok, Err, refl, sym, ap, subst, ◌∙◌, append_assoc, take-append-drop, length-append, arith}
use Rattle.std.specs.Prelude.{◌&&◌}
use Rattle.std.proofs.Math.Seq.{drop-append_seam}
use Rattle.std.proofs.lemmas.List.{length-take-le}
use Rattle.std.proofs.lemmas.Bool.{false≢true, ne_eqb}
use Rattle.qv_text.specs.declared.kinds.TokenKind.{TokenKind}
use Rattle.qv_text.specs.declared.kinds.TokenKind.TheVariants.{LeftParen, RightParen, Symbol, Reserved, Keyword, Numeral, Decimal, Hex, Binary, Text}
use Rattle.qv_text.specs.declared.kinds.LexKind.TheVariants.{Character, Text as OpenText, QuotedSymbol, Numeral as LeadingZero, Literal}
use Rattle.qv_text.specs.Bytes.{is_digit, is_binary, is_hex, is_letter, is_symbol, begins_symbol}
use Rattle.qv_text.specs.Reading.{Found, run, quoted_len, text_len, closed, with_digits, with_fraction, literal, behind_hash, behind_colon, behind_dot, behind_digits, behind_zero, number, token_at}
use Rattle.qv_text.proofs.Fronts.{IsFront, front}
use Rattle.qv_text.specs.Grammar.{Each, SomeOf, IsWord, IsNumeral, is_barred, Quotable, empty, other, quotes, IsWhole, IsLongest}

-- what was found has n bytes at least, or is a fault of a numeral or a string
abbrev Reaches : ℕ → Found → Type 0
Reaches n (Ok x) = n ≤ x.1
Reaches n (Err Character) = ⊥
Reaches n (Err QuotedSymbol) = ⊥
Reaches n (Err Literal) = ⊥
Reaches n (Err LeadingZero) = Unit {0}
Reaches n (Err OpenText) = Unit {0}

reaches_cond : (n : ℕ) (t : Bool) (x y : Found) → (t ≡ true → Reaches n x) → (t ≡ false → Reaches n y) → Reaches n (cond t x y)
reaches_cond n true x y h k = h refl
reaches_cond n false x y h k = k refl

reaches_less : (m n : ℕ) (x : Found) → n ≤ m → Reaches m x → Reaches n x
reaches_less m n (Ok x) h k = omega arith
reaches_less m n (Err Character) h k = k
reaches_less m n (Err QuotedSymbol) h k = k
reaches_less m n (Err Literal) h k = k
reaches_less m n (Err LeadingZero) h k = k
reaches_less m n (Err OpenText) h k = k

-- a byte of a class is none that isn't in it
outside : (p : ℕ → Bool) (b c : ℕ) → p b ≡ true → p c ≡ false → (b == c) ≡ false
outside p b c h k = ne_eqb b c (λ e. false≢true (sym k ∙ ap p (sym e) ∙ h))

no_digit : (t u : Bool) → (t && not u) ≡ true → u ≡ false
no_digit true true h = absurd (false≢true h)
no_digit true false h = refl
no_digit false u h = absurd (false≢true h)

is_both : (t u : Bool) → (t && not u) ≡ true → t ≡ true
is_both true u h = refl
is_both false u h = absurd (false≢true h)

more_than : (t : Bool) (n r : ℕ) → t ≡ true → n ≤ r → suc n ≤ cond t (suc r) 0
more_than true n r h k = omega arith
more_than false n r h k = absurd (false≢true h)

-- bytes that pass the test are in the run
run_each : (p : ℕ → Bool) (xs ys : List ℕ) → Each p xs → length xs ≤ run p (xs ++ ys)
unfolding run
run_each p [] ys h = omega arith
run_each p (x ∷ xs) ys h = more_than (p x) _ _ h.0 (run_each p xs ys h.1)

one_of : (t : Bool) (n r : ℕ) → t ≡ true → r ≡ n → cond t (suc r) 0 ≡ suc n
one_of true n r h e = ap suc e
one_of false n r h e = absurd (false≢true h)

run_until : (p : ℕ → Bool) (xs : List ℕ) (c : ℕ) (ys : List ℕ) → Each p xs → p c ≡ false → run p (xs ++ c ∷ ys) ≡ length xs
unfolding run
run_until p [] c ys h k = ap (λ t. cond t (suc (run p ys)) 0) k
run_until p (x ∷ xs) c ys h k = one_of (p x) _ _ h.0 (run_until p xs c ys h.1 k)

skip : (t : Bool) (x y : Found) → t ≡ false → cond t x y ≡ y
skip t x y e = ap (λ s. cond s x y) e

stay : (t : Bool) (x y : Found) → t ≡ true → cond t x y ≡ x
stay t x y e = ap (λ s. cond s x y) e

-- none of the bytes that begin another token
abbrev Plain : ℕ → Type 0
Plain b = ((b == 40) ≡ false) × ((b == 41) ≡ false) × ((b == 124) ≡ false) × ((b == 34) ≡ false) × ((b == 35) ≡ false) × ((b == 58) ≡ false)

word_plain : (b : ℕ) → begins_symbol b ≡ true → Plain b
unfolding begins_symbol is_symbol is_letter is_digit
word_plain b h = (
  outside begins_symbol b 40 h refl,
  outside begins_symbol b 41 h refl,
  outside begins_symbol b 124 h refl,
  outside begins_symbol b 34 h refl,
  outside begins_symbol b 35 h refl,
  outside begins_symbol b 58 h refl,
)

word_zero : (b : ℕ) → begins_symbol b ≡ true → (b == 48) ≡ false
unfolding begins_symbol is_symbol is_letter is_digit
word_zero b h = outside begins_symbol b 48 h refl

digit_plain : (b : ℕ) → is_digit b ≡ true → Plain b
unfolding is_digit
digit_plain b h = (
  outside is_digit b 40 h refl,
  outside is_digit b 41 h refl,
  outside is_digit b 124 h refl,
  outside is_digit b 34 h refl,
  outside is_digit b 35 h refl,
  outside is_digit b 58 h refl,
)

-- words
word_digit : (b : ℕ) → begins_symbol b ≡ true → is_digit b ≡ false
unfolding begins_symbol
word_digit b h = no_digit (is_symbol b) (is_digit b) h

word_symbol : (b : ℕ) → begins_symbol b ≡ true → is_symbol b ≡ true
unfolding begins_symbol
word_symbol b h = is_both (is_symbol b) (is_digit b) h

at_word : (b : ℕ) (bs : List ℕ) → begins_symbol b ≡ true → token_at (b ∷ bs) ≡ Ok (Symbol, 1 + run is_symbol bs)
unfolding token_at
at_word b bs h =
    let p = word_plain b h in
    skip _ _ _ p.0 ∙ skip _ _ _ p.1 ∙ skip _ _ _ p.2 ∙ skip _ _ _ p.3 ∙ skip _ _ _ p.4 ∙ skip _ _ _ p.5
    ∙ skip _ _ _ (word_zero b h) ∙ skip _ _ _ (word_digit b h) ∙ stay _ _ _ (word_symbol b h)

word_reach : (bytes more : List ℕ) → IsWord bytes → Reaches (length bytes) (token_at (bytes ++ more))
word_reach [] more h = absurd h
word_reach (b ∷ bs) more h =
    subst (Reaches (suc (length bs))) (sym (at_word b (bs ++ more) h.0)) (omega (arith, run_each is_symbol bs more h.1))

keyword_reach : (word more : List ℕ) → IsWord word → Reaches (suc (length word)) (token_at (58 ∷ (word ++ more)))
unfolding token_at behind_colon
keyword_reach [] more h = absurd h
keyword_reach (b ∷ bs) more h =
    reaches_cond (suc (suc (length bs))) (begins_symbol b) _ _ (λ e. omega (arith, run_each is_symbol bs more h.1)) (λ e. absurd (false≢true (sym e ∙ h.0)))

-- strings
abbrev AtLeast : ℕ → Option ℕ → Type 0
AtLeast n None = Unit {0}
AtLeast n (Some m) = n ≤ m

at_least_suc : (n : ℕ) (r : Option ℕ) → AtLeast n r → AtLeast (suc n) (option_map suc r)
at_least_suc n None h = tt
at_least_suc n (Some m) h = omega arith

at_least_none : (r : Option ℕ) → AtLeast 0 r
at_least_none None = tt
at_least_none (Some m) = omega arith

unquoted : (t : Bool) (n : ℕ) (r s : Option ℕ) → t ≡ false → AtLeast n s → AtLeast (suc n) (cond t r (option_map suc s))
unquoted true n r s e h = absurd (false≢true (sym e))
unquoted false n r s e h = at_least_suc n s h

text_reach : (inside rest : List ℕ) → Quotable inside → AtLeast (suc (length inside)) (text_len false (inside ++ 34 ∷ rest))
unfolding text_len
text_reach [] rest empty = at_least_suc 0 (text_len true rest) (at_least_none (text_len true rest))
text_reach (b ∷ bs) rest (other _ _ n q) = unquoted (b == 34) _ _ (text_len false (bs ++ 34 ∷ rest)) (ne_eqb b 34 n) (text_reach bs rest q)
text_reach (_ ∷ _ ∷ bs) rest (quotes _ q) = at_least_suc _ (option_map suc (text_len false (bs ++ 34 ∷ rest))) (at_least_suc _ (text_len false (bs ++ 34 ∷ rest)) (text_reach bs rest q))

closed_text : (n : ℕ) (r : Option ℕ) → AtLeast n r → Reaches (1 + n) (closed Text OpenText 1 r)
closed_text n None h = tt
closed_text n (Some m) h = omega arith

-- symbols between bars
some_more : (t u : Bool) (n : ℕ) (r : Option ℕ) → (not t && not u) ≡ true → r ≡ Some n → cond t (Some 1) (cond u None (option_map suc r)) ≡ Some (suc n)
some_more true u n r h e = absurd (false≢true h)
some_more false true n r h e = absurd (false≢true h)
some_more false false n r h e = ap (option_map suc) e

quoted_at : (inside rest : List ℕ) → Each is_barred inside → quoted_len (inside ++ 124 ∷ rest) ≡ Some (suc (length inside))
unfolding quoted_len
quoted_at [] rest h = refl
quoted_at (b ∷ bs) rest h = some_more (b == 124) (b == 92) _ (quoted_len (bs ++ 124 ∷ rest)) h.0 (quoted_at bs rest h.1)

-- numbers
fraction_reach : (n r : ℕ) → Reaches n (with_fraction n r)
fraction_reach n zero = omega arith
fraction_reach n (suc r) = omega arith

fraction_all : (n k r : ℕ) → 0 < k → k ≤ r → Reaches ((n + 1) + k) (with_fraction n r)
fraction_all n k zero h l = absurd (omega arith)
fraction_all n k (suc r) h l = omega arith

digits_reach : (n m : ℕ) (ys : List ℕ) → n ≤ m → Reaches n (behind_digits m ys)
unfolding behind_digits behind_dot
digits_reach n m [] h = h
digits_reach n m (b ∷ ys) h = reaches_cond n (b == 46) _ _ (λ e. reaches_less m n (with_fraction m (run is_digit ys)) h (fraction_reach m (run is_digit ys))) (λ e. h)

zero_reach : (ys : List ℕ) → Reaches 1 (behind_zero 1 ys)
unfolding behind_zero
zero_reach [] = omega arith
zero_reach (b ∷ ys) = reaches_cond 1 (is_digit b) _ _ (λ e. tt) (λ e. digits_reach 1 1 (b ∷ ys) (omega arith))

at_digit : (b : ℕ) (bs : List ℕ) → is_digit b ≡ true → b ≢ 48 → token_at (b ∷ bs) ≡ number 1 bs
unfolding token_at
at_digit b bs h n =
    let p = digit_plain b h in
    skip _ _ _ p.0 ∙ skip _ _ _ p.1 ∙ skip _ _ _ p.2 ∙ skip _ _ _ p.3 ∙ skip _ _ _ p.4 ∙ skip _ _ _ p.5
    ∙ skip _ _ _ (ne_eqb b 48 n) ∙ stay _ _ _ h

at_zero : (bs : List ℕ) → token_at (48 ∷ bs) ≡ behind_zero 1 bs
unfolding token_at
at_zero bs = refl

number_reach : (bs more : List ℕ) → Each is_digit bs → Reaches (suc (length bs)) (number 1 (bs ++ more))
unfolding number
number_reach bs more h = digits_reach (suc (length bs)) _ _ (omega (arith, run_each is_digit bs more h))

numeral_reach : (bytes more : List ℕ) → IsNumeral bytes → Reaches (length bytes) (token_at (bytes ++ more))
numeral_reach [] more h = absurd h
numeral_reach (b ∷ bs) more (inl h) =
    subst (λ (x : ℕ). Reaches (suc (length bs)) (token_at (x ∷ (bs ++ more)))) (sym h.0)
    (subst (λ (xs : List ℕ). Reaches (suc (length xs)) (token_at (48 ∷ (xs ++ more)))) (sym h.1) (subst (Reaches 1) (sym (at_zero more)) (zero_reach more)))
numeral_reach (b ∷ bs) more (inr h) = subst (Reaches (suc (length bs))) (sym (at_digit b (bs ++ more) h.1 h.0)) (number_reach bs more h.2)

-- a dot and digits behind a numeral
dot_reach : (n : ℕ) (fraction more : List ℕ) → SomeOf is_digit fraction → Reaches (n + suc (length fraction)) (behind_digits n (46 ∷ (fraction ++ more)))
unfolding behind_digits behind_dot
dot_reach n fraction more h =
    reaches_less ((n + 1) + length fraction) (n + suc (length fraction)) _ (omega arith) (fraction_all n (length fraction) (run is_digit (fraction ++ more)) h.0 (run_each is_digit fraction more h.1))

zero_dot : (ys : List ℕ) → behind_zero 1 (46 ∷ ys) ≡ behind_digits 1 (46 ∷ ys)
unfolding behind_zero is_digit
zero_dot ys = refl

dot_no_digit : is_digit 46 ≡ false
unfolding is_digit
dot_no_digit = refl

number_dot : (bs ys : List ℕ) → Each is_digit bs → number 1 (bs ++ 46 ∷ ys) ≡ behind_digits (1 + length bs) (46 ∷ ys)
unfolding number
number_dot bs ys h =
    ap (λ n. behind_digits (1 + n) (drop n (bs ++ 46 ∷ ys))) (run_until is_digit bs 46 ys h dot_no_digit)
    ∙ ap (λ (xs : List ℕ). behind_digits (1 + length bs) xs) (drop-append_seam bs (46 ∷ ys))

decimal_reach : (whole fraction more : List ℕ) → IsNumeral whole → SomeOf is_digit fraction → Reaches (length whole + suc (length fraction)) (token_at (whole ++ 46 ∷ (fraction ++ more)))
decimal_reach [] fraction more h k = absurd h
decimal_reach (b ∷ bs) fraction more (inl h) k =
    subst (λ (x : ℕ). Reaches (suc (length bs) + suc (length fraction)) (token_at (x ∷ (bs ++ 46 ∷ (fraction ++ more))))) (sym h.0)
    (subst (λ (xs : List ℕ). Reaches (suc (length xs) + suc (length fraction)) (token_at (48 ∷ (xs ++ 46 ∷ (fraction ++ more))))) (sym h.1)
    (subst (Reaches (1 + suc (length fraction))) (sym (at_zero (46 ∷ (fraction ++ more)) ∙ zero_dot (fraction ++ more))) (dot_reach 1 fraction more k)))
decimal_reach (b ∷ bs) fraction more (inr h) k =
    subst (Reaches (suc (length bs) + suc (length fraction))) (sym (at_digit b (bs ++ 46 ∷ (fraction ++ more)) h.1 h.0 ∙ number_dot bs (fraction ++ more) h.2))
    (reaches_less ((1 + length bs) + suc (length fraction)) (suc (length bs) + suc (length fraction)) _ (omega arith) (dot_reach (1 + length bs) fraction more k))

-- literals
digits_all : (kind : TokenKind) (n k r : ℕ) → 0 < k → k ≤ r → Reaches (n + k) (with_digits kind n r)
digits_all kind n k zero h l = absurd (omega arith)
digits_all kind n k (suc r) h l = omega arith

hex_reach : (digits more : List ℕ) → SomeOf is_hex digits → Reaches (2 + length digits) (token_at (35 ∷ 120 ∷ (digits ++ more)))
unfolding token_at behind_hash literal
hex_reach digits more h = digits_all Hex 2 (length digits) _ h.0 (run_each is_hex digits more h.1)

binary_reach : (digits more : List ℕ) → SomeOf is_binary digits → Reaches (2 + length digits) (token_at (35 ∷ 98 ∷ (digits ++ more)))
unfolding token_at behind_hash literal
binary_reach digits more h = digits_all Binary 2 (length digits) _ h.0 (run_each is_binary digits more h.1)

-- what stands between quotes or bars
string_reach : (inside more : List ℕ) → Quotable inside → Reaches (2 + length inside) (token_at (34 ∷ (inside ++ 34 ∷ more)))
unfolding token_at
string_reach inside more h =
    reaches_less (1 + suc (length inside)) (2 + length inside) _ (omega arith) (closed_text (suc (length inside)) (text_len false (inside ++ 34 ∷ more)) (text_reach inside more h))

barred_reach : (inside more : List ℕ) → Each is_barred inside → Reaches (2 + length inside) (token_at (124 ∷ (inside ++ 124 ∷ more)))
unfolding token_at
barred_reach inside more h =
    subst (λ r. Reaches (2 + length inside) (closed Symbol QuotedSymbol 1 r)) (sym (quoted_at inside more h)) (omega arith)

paren_reach : (more : List ℕ) → Reaches 1 (token_at (40 ∷ more)) × Reaches 1 (token_at (41 ∷ more))
unfolding token_at
paren_reach more = (omega arith, omega arith)

-- the same of bytes that are spelt so
spelt : (bytes whole : List ℕ) (n : ℕ) (more : List ℕ) → bytes ≡ whole → length whole ≤ n → Reaches n (token_at (whole ++ more)) → Reaches (length bytes) (token_at (bytes ++ more))
spelt bytes whole n more e l h =
    subst (λ (xs : List ℕ). Reaches (length xs) (token_at (xs ++ more))) (sym e) (reaches_less n (length whole) (token_at (whole ++ more)) l h)

within : (c : ℕ) (n : ℕ) (inside more : List ℕ) → Reaches n (token_at (c ∷ (inside ++ c ∷ more))) → Reaches n (token_at ((c ∷ (inside ++ c ∷ [])) ++ more))
within c n inside more h = subst (λ (xs : List ℕ). Reaches n (token_at (c ∷ xs))) (sym (append_assoc inside (c ∷ []) more)) h

-- a token of a kind at the front is no longer than what is found
reaches : (kind : TokenKind) (bytes more : List ℕ) → IsWhole kind bytes → Reaches (length bytes) (token_at (bytes ++ more))
reaches LeftParen bytes more h = spelt bytes (40 ∷ []) 1 more h (omega arith) (paren_reach more).0
reaches RightParen bytes more h = spelt bytes (41 ∷ []) 1 more h (omega arith) (paren_reach more).1
reaches Symbol bytes more (inl h) = word_reach bytes more h.0
reaches Symbol bytes more (inr h) = spelt bytes _ (2 + length h.0) more h.1 (omega (arith, length-append h.0 (124 ∷ []))) (within 124 _ h.0 more (barred_reach h.0 more h.2))
reaches Reserved bytes more h = word_reach bytes more h.0
reaches Keyword bytes more h = spelt bytes (58 ∷ h.0) (suc (length h.0)) more h.1 (omega arith) (keyword_reach h.0 more h.2)
reaches Numeral bytes more h = numeral_reach bytes more h
reaches Decimal bytes more h =
    spelt bytes (h.0 ++ 46 ∷ h.1) (length h.0 + suc (length h.1)) more h.2 (omega (arith, length-append h.0 (46 ∷ h.1)))
    (subst (λ (xs : List ℕ). Reaches (length h.0 + suc (length h.1)) (token_at xs)) (sym (append_assoc h.0 (46 ∷ h.1) more)) (decimal_reach h.0 h.1 more h.3 h.4))
reaches Hex bytes more h = spelt bytes (35 ∷ 120 ∷ h.0) (2 + length h.0) more h.1 (omega arith) (hex_reach h.0 more h.2)
reaches Binary bytes more h = spelt bytes (35 ∷ 98 ∷ h.0) (2 + length h.0) more h.1 (omega arith) (binary_reach h.0 more h.2)
reaches Text bytes more h = spelt bytes _ (2 + length h.0) more h.1 (omega (arith, length-append h.0 (34 ∷ []))) (within 34 _ h.0 more (string_reach h.0 more h.2))

none_behind : (bytes : List ℕ) (what : Found) → IsFront bytes what → ((m : ℕ) (kind : TokenKind) → m ≤ length bytes → IsWhole kind (take m bytes) → Reaches m what) → IsLongest bytes what
none_behind bytes (Ok x) f h = (f, λ m kind lt le whole. let k : m ≤ x.1 = h m kind le whole in absurd (omega arith))
none_behind bytes (Err Character) f h = h
none_behind bytes (Err QuotedSymbol) f h = h
none_behind bytes (Err Literal) f h = h
none_behind bytes (Err LeadingZero) f h = tt
none_behind bytes (Err OpenText) f h = tt

pub longest : (bytes : List ℕ) → IsLongest bytes (token_at bytes)
longest bytes = none_behind bytes (token_at bytes) (front bytes) (λ m kind le whole.
    let size : length (take m bytes) ≡ m = length-take-le m bytes le in
    let at : Reaches (length (take m bytes)) (token_at (take m bytes ++ drop m bytes)) = reaches kind (take m bytes) (drop m bytes) whole in
    subst (λ (xs : List ℕ). Reaches m (token_at xs)) (take-append-drop m bytes) (subst (λ n. Reaches n (token_at (take m bytes ++ drop m bytes))) size at))
