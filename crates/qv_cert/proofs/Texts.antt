-- The lines of texts.
use Rattle.std.proofs.Common.{◌≡◌, ◌≢◌, ℕ, Bool, true, false, cond, ◌==◌, List, [], ◌∷◌, ◌++◌, refl, ap, sym, ◌∙◌, All, arith}
use Rattle.std.proofs.lemmas.Bool.{eqb-true}
use Rattle.std.proofs.lemmas.List.Elements.{All-nil, All-cons, All-head, All-tail}
use Rattle.std.proofs.lemmas.Bool.Decides.{nat_tests}
use Rattle.qv_cert.specs.Text.{Text, text_of, with_front, with_byte}
use Rattle.qv_cert.specs.TextLaws.{TextsGoOn, HasNoLf, IsText, TextsAreTheirLines}

-- lines behind others, with what stands behind them
behind : List (List ℕ) → Text → Text
behind lines t = record { lines = lines ++ t.lines; rest = t.rest }

-- the whole is the lines of t, and behind them the text of its rest with more
whole : Text → List ℕ → Text
whole t more = record { lines = t.lines ++ (text_of (t.rest ++ more)).lines; rest = (text_of (t.rest ++ more)).rest }

front-byte : (byte : ℕ) (lines : List (List ℕ)) (rest more : List ℕ) → (byte == 10) ≡ false
    → with_byte byte (whole (record { lines = lines; rest = rest }) more).lines (whole (record { lines = lines; rest = rest }) more).rest
    ≡ whole (with_byte byte lines rest) more
unfolding whole text_of
front-byte byte [] rest more e = sym (ap (λ b. cond b (record { lines = [] ∷ u.lines; rest = u.rest }) (with_byte byte u.lines u.rest)) e)
  where
    u : Text
    u = text_of (rest ++ more)
front-byte byte (line ∷ lines) rest more e = refl

-- a byte at the front, by whether it is an LF
front-by : (byte : ℕ) (lines : List (List ℕ)) (rest more : List ℕ) (b : Bool) → (byte == 10) ≡ b
    → cond b (record { lines = [] ∷ (whole (record { lines = lines; rest = rest }) more).lines; rest = (whole (record { lines = lines; rest = rest }) more).rest })
    (with_byte byte (whole (record { lines = lines; rest = rest }) more).lines (whole (record { lines = lines; rest = rest }) more).rest)
    ≡ whole (cond b (record { lines = [] ∷ lines; rest = rest }) (with_byte byte lines rest)) more
unfolding whole
front-by byte lines rest more true e = refl
front-by byte lines rest more false e = front-byte byte lines rest more e

front : (byte : ℕ) (t : Text) (more : List ℕ) → with_front byte (whole t more) ≡ whole (with_front byte t) more
front byte t more = front-by byte t.lines t.rest more (byte == 10) refl

go-on : (bytes more : List ℕ) → text_of (bytes ++ more) ≡ whole (text_of bytes) more
unfolding whole text_of
go-on [] more = refl
go-on (byte ∷ bytes) more = ap (with_front byte) (go-on bytes more) ∙ front byte (text_of bytes) more

pub texts-go-on : TextsGoOn
unfolding whole
texts-go-on bytes more = record { lines = ap (λ (t : Text). t.lines) (go-on bytes more); rest = ap (λ (t : Text). t.rest) (go-on bytes more) }

more-all : (byte : ℕ) (line : List ℕ) → byte ≢ 10 → HasNoLf line → HasNoLf (byte ∷ line)
more-all byte line other h = All-cons (λ b. b ≢ 10) byte line other h

changed-first : (byte : ℕ) (line : List ℕ) (lines : List (List ℕ)) → byte ≢ 10 → All HasNoLf (line ∷ lines) → All HasNoLf ((byte ∷ line) ∷ lines)
changed-first byte line lines other h =
    All-cons HasNoLf (byte ∷ line) lines (more-all byte line other (All-head HasNoLf line lines h)) (All-tail HasNoLf line lines h)

empty-first : (lines : List (List ℕ)) → All HasNoLf lines → All HasNoLf ([] ∷ lines)
empty-first lines h = All-cons HasNoLf [] lines (All-nil (λ b. b ≢ 10)) h

not-ten : (byte : ℕ) → (byte == 10) ≡ false → byte ≢ 10
not-ten byte e is = grind (arith, nat_tests)

-- a byte at the front of lines that are a text
restored-byte : (byte : ℕ) (bytes : List ℕ) (lines : List (List ℕ)) (rest : List ℕ) → byte ≢ 10 → IsText bytes (record { lines = lines; rest = rest }) → IsText (byte ∷ bytes) (with_byte byte lines rest)
restored-byte byte bytes [] rest other h = record {
  bytes_are = ap (λ (xs : List ℕ). byte ∷ xs) h.bytes_are;
  lines_end = h.lines_end;
  rest_is_open = more-all byte rest other h.rest_is_open;
}
restored-byte byte bytes (line ∷ lines) rest other h = record {
  bytes_are = ap (λ (xs : List ℕ). byte ∷ xs) h.bytes_are;
  lines_end = changed-first byte line lines other h.lines_end;
  rest_is_open = h.rest_is_open;
}

restored-by : (byte : ℕ) (bytes : List ℕ) (lines : List (List ℕ)) (rest : List ℕ) (b : Bool) → (byte == 10) ≡ b → IsText bytes (record { lines = lines; rest = rest })
    → IsText (byte ∷ bytes) (cond b (record { lines = [] ∷ lines; rest = rest }) (with_byte byte lines rest))
restored-by byte bytes lines rest true e h = record {
  bytes_are = ap (λ (x : ℕ). x ∷ bytes) (eqb-true byte 10 e) ∙ ap (λ (xs : List ℕ). 10 ∷ xs) h.bytes_are;
  lines_end = empty-first lines h.lines_end;
  rest_is_open = h.rest_is_open;
}
restored-by byte bytes lines rest false e h = restored-byte byte bytes lines rest (not-ten byte e) h

restored : (bytes : List ℕ) → IsText bytes (text_of bytes)
unfolding text_of
restored [] = record { bytes_are = refl; lines_end = All-nil HasNoLf; rest_is_open = All-nil (λ b. b ≢ 10) }
restored (byte ∷ bytes) = restored-by byte bytes (text_of bytes).lines (text_of bytes).rest (byte == 10) refl (restored bytes)

pub texts-are-their-lines : TextsAreTheirLines
texts-are-their-lines bytes = restored bytes
