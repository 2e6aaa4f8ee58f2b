-- A parenthesis is known as soon as it was fed.
use Rattle.std.proofs.Common.{ℕ, zero, suc, ◌==◌, ◌≡◌, ◌+◌, ◌<◌, ◌≤◌, ◌||◌, ◌⊎◌, Bool, true, false, not, cond, eqb, List, [], ◌∷◌, ◌++◌, length, take, drop, Option, None, Some, IsTrue, Ok, Err, refl, sym, ap, subst, ◌∙◌, inl, inr, arith}
use Rattle.std.proofs.lemmas.List.{length-take-le}
use Rattle.std.proofs.lemmas.Bool.{false≢true, cases_lt}
use Rattle.std.proofs.lemmas.Bool.Decides.{eqb_tells}
use Rattle.qv_text.specs.declared.kinds.TokenKind.{TokenKind}
use Rattle.qv_text.specs.declared.kinds.TokenKind.TheVariants.{LeftParen, RightParen, Symbol, Reserved, Keyword, Numeral, Decimal, Hex, Binary, Text}
use Rattle.qv_text.specs.declared.kinds.LexKind.{LexKind}
use Rattle.qv_text.specs.declared.kinds.LexKind.TheVariants.{Character, Text as OpenText, QuotedSymbol, Numeral as LeadingZero}
use Rattle.qv_text.specs.declared.kinds.Token.{Token}
use Rattle.qv_text.specs.declared.kinds.LexFault.{LexFault}
use Rattle.qv_text.specs.declared.kinds.Lexed.{Lexed}
use Rattle.qv_text.specs.declared.kinds.Lexed.TheVariants.{Token as GotToken, More, End, Fault}
use Rattle.qv_text.specs.Bytes.{is_white, is_line_end, is_blank, is_digit, is_binary, is_hex, is_symbol, begins_symbol}
use Rattle.qv_text.specs.Reading.{Found, Tokens, ends, first, tokens, tokens_behind, reads_on, kind_of, is_reserved, run, quoted_len, text_len, closed, with_digits, literal, behind_hash, behind_colon, with_fraction, behind_dot, behind_digits, behind_zero, number, token_at}
use Rattle.qv_text.specs.Progress.{Progress, fed, still_reads, IsOpen, is_parenthesis}
use Rattle.qv_text.specs.Scanning.{tokens_in}
use Rattle.qv_text.proofs.Blanks.{at_white, at_semicolon, in_comment, not_blank}
use Rattle.qv_text.proofs.Lengths.{Fits, token_fits}

-- nothing is left
pub nothing_left : (comment : Bool) (place : ℕ) → tokens_in comment place [] ≡ ends
unfolding tokens_behind
nothing_left true place = refl
nothing_left false place = refl

neither : (s t : Bool) (x y z : Tokens) → (s || t) ≡ false → cond s x (cond t y z) ≡ z
neither true t x y z h = absurd (false≢true (sym h))
neither false true x y z h = absurd (false≢true (sym h))
neither false false x y z h = refl

-- a byte that is no white space and opens no comment begins a token
pub at_token : (place b : ℕ) (bs : List ℕ) → is_blank b ≡ false → tokens place (b ∷ bs) ≡ reads_on place (b ∷ bs) (token_at (b ∷ bs)) (λ n. tokens_behind n (place + 1) bs)
unfolding tokens_behind is_blank
at_token place b bs h = neither (is_white b) (b == 59) _ _ _ h

no_token : (f : LexFault) (t : Token) → Fault f ≡ GotToken t → ⊥
no_token f t e = cc

no_end : (t : Token) → End ≡ GotToken t → ⊥
no_end t e = cc

-- where the answer is a token, its end
abbrev pub end_of : Lexed → Option ℕ
end_of (GotToken t) = Some t.end
end_of More = None
end_of End = None
end_of (Fault f) = None

pub same_some : (m n : ℕ) → Some m ≡ Some n → m ≡ n
same_some m n h = cc

abbrev parenthesis_in : Lexed → Bool
parenthesis_in (GotToken t) = is_parenthesis t.kind
parenthesis_in More = false
parenthesis_in End = false
parenthesis_in (Fault f) = false

abbrev parenthesis_of : Found → Bool
parenthesis_of (Ok x) = is_parenthesis x.0
parenthesis_of (Err f) = false

-- no token but a parenthesis is one

word_kind : (t : Bool) → is_parenthesis (cond t Reserved Symbol) ≡ false
word_kind true = refl
word_kind false = refl

kind_stays : (k : TokenKind) (text : List ℕ) → is_parenthesis (kind_of k text) ≡ is_parenthesis k
unfolding kind_of
kind_stays LeftParen text = refl
kind_stays RightParen text = refl
kind_stays Symbol text = word_kind (is_reserved text)
kind_stays Reserved text = refl
kind_stays Keyword text = refl
kind_stays Numeral text = refl
kind_stays Decimal text = refl
kind_stays Hex text = refl
kind_stays Binary text = refl
kind_stays Text text = refl

none_if : (t : Bool) (x y : Found) → parenthesis_of x ≡ false → parenthesis_of y ≡ false → parenthesis_of (cond t x y) ≡ false
none_if true x y p q = p
none_if false x y p q = q

none_closed : (k : TokenKind) (f : LexKind) (n : ℕ) (r : Option ℕ) → is_parenthesis k ≡ false → parenthesis_of (closed k f n r) ≡ false
none_closed k f n None h = refl
none_closed k f n (Some m) h = h

none_digits : (k : TokenKind) (n r : ℕ) → is_parenthesis k ≡ false → parenthesis_of (with_digits k n r) ≡ false
none_digits k n zero h = refl
none_digits k n (suc r) h = h

none_fraction : (n r : ℕ) → parenthesis_of (with_fraction n r) ≡ false
none_fraction n zero = refl
none_fraction n (suc r) = refl

none_hash : (n : ℕ) (bs : List ℕ) → parenthesis_of (behind_hash n bs) ≡ false
unfolding behind_hash literal
none_hash n [] = refl
none_hash n (b ∷ bs) =
    none_if (b == 98) (with_digits Binary (n + 1) (run is_binary bs)) (cond (b == 120) (with_digits Hex (n + 1) (run is_hex bs)) (Err Character)) (none_digits Binary _ _ refl)
    (none_if (b == 120) (with_digits Hex (n + 1) (run is_hex bs)) (Err Character) (none_digits Hex _ _ refl) refl)

none_colon : (n : ℕ) (bs : List ℕ) → parenthesis_of (behind_colon n bs) ≡ false
unfolding behind_colon
none_colon n [] = refl
none_colon n (b ∷ bs) = none_if (begins_symbol b) (Ok (Keyword, (n + 1) + run is_symbol bs)) (Err Character) refl refl

none_behind : (n : ℕ) (bs : List ℕ) → parenthesis_of (behind_digits n bs) ≡ false
unfolding behind_digits behind_dot
none_behind n [] = refl
none_behind n (b ∷ bs) = none_if (b == 46) (with_fraction n (run is_digit bs)) (Ok (Numeral, n)) (none_fraction n _) refl

none_number : (n : ℕ) (bs : List ℕ) → parenthesis_of (number n bs) ≡ false
unfolding number
none_number n bs = none_behind _ (drop (run is_digit bs) bs)

none_zero : (n : ℕ) (bs : List ℕ) → parenthesis_of (behind_zero n bs) ≡ false
unfolding behind_zero
none_zero n [] = refl
none_zero n (b ∷ bs) = none_if (is_digit b) (Err LeadingZero) (behind_digits n (b ∷ bs)) refl (none_behind n (b ∷ bs))

one_of : (s t : Bool) (x : Found) → parenthesis_of x ≡ false → parenthesis_of (cond s (Ok (LeftParen, 1)) (cond t (Ok (RightParen, 1)) x)) ≡ (s || t)
one_of true t x h = refl
one_of false true x h = refl
one_of false false x h = h

-- the byte of a parenthesis
parenthesis_byte : (b : ℕ) (bs : List ℕ) → parenthesis_of (token_at (b ∷ bs)) ≡ (b == 40 || b == 41)
unfolding token_at
parenthesis_byte b bs =
    one_of (b == 40) (b == 41) _
    (none_if (b == 124) (closed Symbol QuotedSymbol 1 (quoted_len bs)) _ (none_closed Symbol QuotedSymbol 1 (quoted_len bs) refl)
    (none_if (b == 34) (closed Text OpenText 1 (text_len false bs)) _ (none_closed Text OpenText 1 (text_len false bs) refl)
    (none_if (b == 35) (behind_hash 1 bs) _ (none_hash 1 bs)
    (none_if (b == 58) (behind_colon 1 bs) _ (none_colon 1 bs)
    (none_if (b == 48) (behind_zero 1 bs) _ (none_zero 1 bs)
    (none_if (is_digit b) (number 1 bs) _ (none_number 1 bs)
    (none_if (is_symbol b) (Ok (Symbol, 1 + run is_symbol bs)) (Err Character) refl refl)))))))

found_parenthesis : (place : ℕ) (xs : List ℕ) (found : Found) (f : ℕ → Tokens) → parenthesis_in (first (reads_on place xs found f)) ≡ parenthesis_of found
found_parenthesis place xs (Ok x) f = kind_stays x.0 (take x.1 xs)
found_parenthesis place xs (Err k) f = refl

-- a token ends behind the place where it is sought
later_found : (place : ℕ) (xs : List ℕ) (found : Found) (f : ℕ → Tokens) (t : Token) → Fits (length xs) found → first (reads_on place xs found f) ≡ GotToken t → place < t.end
later_found place xs (Ok x) f t p e =
    let same = same_some (place + length (take x.1 xs)) t.end (ap end_of e) in
    omega (arith, same, length-take-le x.1 xs p.1, p.0)
later_found place xs (Err k) f t p e = absurd (no_token (record { place = place; kind = k }) t e)

-- a byte is white space, a semicolon, or a token's first
pub by_white : (b : ℕ) (w : Bool) → is_white b ≡ w → (is_white b ≡ true) ⊎ ((b ≡ 59) ⊎ (is_blank b ≡ false))
by_white b true h = inl h
by_white b false h = inr (elim (eqb_tells b 59) [ inl e ↦ inl e.1 | inr e ↦ inr (not_blank b h e.0) ])

later : (comment : Bool) (place : ℕ) (bs : List ℕ) (t : Token) → first (tokens_in comment place bs) ≡ GotToken t → place < t.end
later comment place [] t e = absurd (no_end t (sym (ap first (nothing_left comment place)) ∙ e))
later true place (b ∷ bs) t e =
    let h = later (not (is_line_end b)) (place + 1) bs t (sym (ap first (in_comment place b bs)) ∙ e) in
    omega (arith, h)
later false place (b ∷ bs) t e =
    elim (by_white b (is_white b) refl) [
      | inl w ↦ (let h = later false (place + 1) bs t (sym (ap first (at_white place b bs w)) ∙ e) in omega (arith, h))
      | inr r ↦ elim r [
        | inl s ↦ (let h = later true (place + 1) bs t (sym (ap first (at_semicolon place b bs s)) ∙ e) in omega (arith, h))
        | inr n ↦ later_found place (b ∷ bs) (token_at (b ∷ bs)) (λ n. tokens_behind n (place + 1) bs) t (token_fits (b ∷ bs)) (sym (ap first (at_token place b bs n)) ∙ e)
      ]
    ]

abbrev a_parenthesis : TokenKind → ℕ → Token
a_parenthesis kind place = record { kind = kind; place = place; end = place + 1 }

left_is : (place : ℕ) (bs : List ℕ) (f : ℕ → Tokens) → first (reads_on place (40 ∷ bs) (token_at (40 ∷ bs)) f) ≡ GotToken (a_parenthesis LeftParen place)
unfolding token_at kind_of
left_is place bs f = refl

right_is : (place : ℕ) (bs : List ℕ) (f : ℕ → Tokens) → first (reads_on place (41 ∷ bs) (token_at (41 ∷ bs)) f) ≡ GotToken (a_parenthesis RightParen place)
unfolding token_at kind_of
right_is place bs f = refl

either_byte : (b : ℕ) → (b == 40 || b == 41) ≡ true → (b ≡ 40) ⊎ (b ≡ 41)
either_byte b h =
    elim (eqb_tells b 40) [
      | inl e ↦ inl e.1
      | inr e ↦ elim (eqb_tells b 41) [
        | inl f ↦ inr f.1
        | inr f ↦ absurd (false≢true (sym (ap (λ x. x || eqb b 41) e.0 ∙ f.0) ∙ h))
      ]
    ]

same_byte : (place b : ℕ) (bs cs : List ℕ) (f g : ℕ → Tokens) → (b ≡ 40) ⊎ (b ≡ 41) → first (reads_on place (b ∷ bs) (token_at (b ∷ bs)) f) ≡ first (reads_on place (b ∷ cs) (token_at (b ∷ cs)) g)
same_byte place b bs cs f g (inl e) =
    subst (λ x. first (reads_on place (x ∷ bs) (token_at (x ∷ bs)) f) ≡ first (reads_on place (x ∷ cs) (token_at (x ∷ cs)) g)) (sym e) (left_is place bs f ∙ sym (left_is place cs g))
same_byte place b bs cs f g (inr e) =
    subst (λ x. first (reads_on place (x ∷ bs) (token_at (x ∷ bs)) f) ≡ first (reads_on place (x ∷ cs) (token_at (x ∷ cs)) g)) (sym e) (right_is place bs f ∙ sym (right_is place cs g))

settled : (comment : Bool) (place : ℕ) (xs more others : List ℕ) (t : Token) → first (tokens_in comment place (xs ++ more)) ≡ GotToken t → is_parenthesis t.kind ≡ true → t.end ≤ place + length xs →
    first (tokens_in comment place (xs ++ others)) ≡ GotToken t
settled comment place [] more others t e p h = absurd (omega (arith, later comment place more t e))
settled true place (b ∷ xs) more others t e p h =
    ap first (in_comment place b (xs ++ others))
    ∙ settled (not (is_line_end b)) (place + 1) xs more others t (sym (ap first (in_comment place b (xs ++ more))) ∙ e) p (omega arith)
settled false place (b ∷ xs) more others t e p h =
    elim (by_white b (is_white b) refl) [
      | inl w ↦ ap first (at_white place b (xs ++ others) w)
          ∙ settled false (place + 1) xs more others t (sym (ap first (at_white place b (xs ++ more) w)) ∙ e) p (omega arith)
      | inr r ↦ elim r [
        | inl s ↦ ap first (at_semicolon place b (xs ++ others) s)
            ∙ settled true (place + 1) xs more others t (sym (ap first (at_semicolon place b (xs ++ more) s)) ∙ e) p (omega arith)
        | inr n ↦
            (let e' = sym (ap first (at_token place b (xs ++ more) n)) ∙ e in
            let byte = either_byte b (sym (parenthesis_byte b (xs ++ more)) ∙ sym (found_parenthesis place (b ∷ (xs ++ more)) (token_at (b ∷ (xs ++ more))) (λ n. tokens_behind n (place + 1) (xs ++ more))) ∙ ap parenthesis_in e' ∙ p) in
            ap first (at_token place b (xs ++ others) n) ∙ same_byte place b (xs ++ others) (xs ++ more) _ _ byte ∙ e')
      ]
    ]

-- where bytes that come decide what is next, it is no parenthesis among those that were fed
pub no_parenthesis : (l : Progress) → IsOpen l → (more : List ℕ) (t : Token) → first (still_reads l more) ≡ GotToken t → IsTrue (is_parenthesis t.kind) → fed l < t.end
no_parenthesis l o more t e p =
    elim (cases_lt (fed l) t.end) [
      | inl h ↦ h
      | inr h ↦ absurd (o.1 (settled false l.place l.rest more o.0 t e p h ∙ sym (settled false l.place l.rest more [] t e p h)))
    ]
