-- The tokens of a text stand in it.
use Rattle.std.proofs.Common.{ℕ, zero, suc, ◌≡◌, ◌+◌, ◌-◌, ◌<◌, Bool, true, false, not, List, [], ◌∷◌, length, take, drop, Ok, Err, refl, sym, ap, subst, ◌∙◌, inl, inr, take-append-drop, arith}
use Rattle.std.proofs.lemmas.List.{length-take-le}
use Rattle.qv_text.specs.declared.kinds.TokenKind.{TokenKind}
use Rattle.qv_text.specs.Bytes.{is_white, is_line_end}
use Rattle.qv_text.specs.Reading.{Found, Tokens, ends, stops_at, gives, tokens, tokens_behind, reads_on, token_at}
use Rattle.qv_text.specs.Scanning.{tokens_in}
use Rattle.qv_text.specs.Spelling.{IsBlank, Stand}
use Rattle.qv_text.proofs.Blanks.{at_white, at_semicolon, in_comment}
use Rattle.qv_text.proofs.Lengths.{Fits, token_fits}
use Rattle.qv_text.proofs.Parens.{nothing_left, at_token, by_white}
use Rattle.qv_text.proofs.Ahead.{behind}

-- one more byte of white space or of a comment
wider : (before now : Bool) (b place : ℕ) (bs : List ℕ) (ts : Tokens) → ((after : Bool) (blank : List ℕ) → IsBlank now after blank → IsBlank before after (b ∷ blank)) →
    Stand now (place + 1) bs ts → Stand before place (b ∷ bs) ts
wider before now b place bs ends h s = (s.0, h s.0 bs s.1)
wider before now b place bs (stops_at fault) h s = record {
  blank = b ∷ s.blank;
  rest = s.rest;
  spelt = ap (λ (xs : List ℕ). b ∷ xs) s.spelt;
  passed = h false s.blank s.passed;
  place_is = omega (arith, s.place_is);
  cause = s.cause;
}
wider before now b place bs (gives l more) h s = record {
  blank = b ∷ s.blank;
  rest = s.rest;
  kind = s.kind;
  spelt = ap (λ (xs : List ℕ). b ∷ xs) s.spelt;
  passed = h false s.blank s.passed;
  place_is = omega (arith, s.place_is);
  some = s.some;
  longest = s.longest;
  kind_is = s.kind_is;
  others = s.others;
}

one_on : (place n : ℕ) (b : ℕ) (bs : List ℕ) → 0 < n → tokens_behind (n - 1) (place + 1) bs ≡ tokens (place + n) (drop n (b ∷ bs))
one_on place zero b bs h = absurd (omega arith)
one_on place (suc n) b bs h =
    ap (λ i. tokens_behind i (place + 1) bs) (omega arith) ∙ behind n (place + 1) bs ∙ ap (λ x. tokens x (drop n bs)) (omega arith)

abbrev a_token : TokenKind → ℕ → Found
a_token kind n = Ok (kind, n)

-- where a token begins
found : (place b : ℕ) (bs : List ℕ) (what : Found) → Fits (suc (length bs)) what → token_at (b ∷ bs) ≡ what → Stand false place (b ∷ bs) (reads_on place (b ∷ bs) what (λ n. tokens_behind n (place + 1) bs))
found place b bs (Err kind) p e = record {
  blank = [];
  rest = b ∷ bs;
  spelt = refl;
  passed = refl;
  place_is = omega arith;
  cause = e;
}
found place b bs (Ok x) p e =
    let size : length (take x.1 (b ∷ bs)) ≡ x.1 = length-take-le x.1 (b ∷ bs) p.1 in
    record {
      blank = [];
      rest = drop x.1 (b ∷ bs);
      kind = x.0;
      spelt = sym (take-append-drop x.1 (b ∷ bs));
      passed = refl;
      place_is = omega arith;
      some = omega (arith, size, p.0);
      longest = ap token_at (take-append-drop x.1 (b ∷ bs)) ∙ e ∙ ap (λ n. a_token x.0 n) (sym size);
      kind_is = refl;
      others = one_on place x.1 b bs p.0 ∙ ap (λ n. tokens (place + n) (drop x.1 (b ∷ bs))) (sym size);
    }

pub stands : (comment : Bool) (place : ℕ) (bytes : List ℕ) → Stand comment place bytes (tokens_in comment place bytes)
stands comment place [] = subst (λ ts. Stand comment place [] ts) (sym (nothing_left comment place)) (comment, refl)
stands true place (b ∷ bs) =
    subst (λ ts. Stand true place (b ∷ bs) ts) (sym (in_comment place b bs))
    (wider true (not (is_line_end b)) b place bs (tokens_in (not (is_line_end b)) (place + 1) bs) (λ after blank h. h) (stands (not (is_line_end b)) (place + 1) bs))
stands false place (b ∷ bs) =
    elim (by_white b (is_white b) refl) [
      | inl w ↦ subst (λ ts. Stand false place (b ∷ bs) ts) (sym (at_white place b bs w))
          (wider false false b place bs (tokens_in false (place + 1) bs) (λ after blank h. inl (w, h)) (stands false (place + 1) bs))
      | inr r ↦ elim r [
        | inl s ↦ subst (λ ts. Stand false place (b ∷ bs) ts) (sym (at_semicolon place b bs s))
            (wider false true b place bs (tokens_in true (place + 1) bs) (λ after blank h. inr (s, h)) (stands true (place + 1) bs))
        | inr n ↦ subst (λ ts. Stand false place (b ∷ bs) ts) (sym (at_token place b bs n)) (found place b bs (token_at (b ∷ bs)) (token_fits (b ∷ bs)) refl)
      ]
    ]
