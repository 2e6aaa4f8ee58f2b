-- The lines of a certificate's text, and what a reader of them answers.
use Rattle.std.specs.Prelude.{ℕ, zero, suc, ◌==◌, Bool, false, if◌then◌else◌, Ok, Err, List, [], ◌∷◌}
use Rattle.qv_cert.specs.declared.kind.RefusalKind.{RefusalKind}
use Rattle.qv_cert.specs.declared.kind.RefusalKind.TheVariants as kind
use Rattle.qv_cert.specs.Line.{CertLine, Header}
use Rattle.qv_cert.specs.Grammar.{Reading, cert_line}

-- the lines of a text, each without the LF that ends it, and the bytes behind the last LF
pub record Text : Type 0 where
  pub lines : List (List ℕ)
  pub rest : List ℕ

-- one more byte, not an LF, at the front of the first line
abbrev pub with_byte : ℕ → List (List ℕ) → List ℕ → Text
with_byte byte [] rest = record { lines = []; rest = byte ∷ rest }
with_byte byte (line ∷ lines) rest = record { lines = (byte ∷ line) ∷ lines; rest = rest }

abbrev pub with_front : ℕ → Text → Text
with_front byte t = if byte == 10 then record { lines = [] ∷ t.lines; rest = t.rest } else with_byte byte t.lines t.rest

unfoldable pub text_of : List ℕ → Text
text_of [] = record { lines = []; rest = [] }
text_of (byte ∷ bytes) = with_front byte (text_of bytes)

-- the first line has to be a header
abbrev pub only_header : Reading → Reading
only_header (Ok (Header version)) = Ok (Header version)
only_header _ = Err kind.Header

abbrev pub first_line : List ℕ → Reading
first_line line = only_header (cert_line false line)

-- what a reader answers: a line, the end, or a fault
pub data Next : Type 0 where
  Line : (line : CertLine) → Next
  AtEnd : Next
  Faulty : (k : RefusalKind) → Next

abbrev pub next_of_reading : Reading → Next
next_of_reading (Ok line) = Line line
next_of_reading (Err k) = Faulty k

-- a line's text, behind so many lines, in the refutation or outside
abbrev pub line_behind : ℕ → Bool → List ℕ → Reading
line_behind zero inner line = first_line line
line_behind (suc given) inner line = cert_line inner line

-- the answer behind so many lines, where these lines and bytes are left
abbrev pub next_of : ℕ → Bool → List (List ℕ) → List ℕ → Next
next_of given inner (line ∷ lines) rest = next_of_reading (line_behind given inner line)
next_of given inner [] (byte ∷ rest) = Faulty kind.Truncated
next_of given inner [] [] = AtEnd
