-- What a reader of certificates has still to give, and what it answers.
use Rattle.std.specs.Prelude.{◌≡◌, ◌≢◌, ℕ, zero, suc, ◌-◌, ◌+◌, ◌^◌, ◌<◌, ◌≤◌, ◌⊎◌, Bool, Option, Some, None, option_map, IfSome, Ok, Err, List, [], ◌∷◌, ◌++◌, length}
use Rattle.qv_cert.specs.declared.kind.RefusalKind.TheVariants as kind
use Rattle.qv_cert.specs.declared.answers.Stop.{Stop}
use Rattle.qv_cert.specs.declared.answers.Stop.TheVariants as stop
use Rattle.qv_cert.specs.declared.answers.CertNext.{CertNext}
use Rattle.qv_cert.specs.declared.answers.CertNext.TheVariants as next
use Rattle.qv_cert.specs.Line.{CertLine, Header, IsCertLine}
use Rattle.qv_cert.specs.LineView.{cert_line_of}
use Rattle.qv_cert.specs.Grammar.{Reading}
use Rattle.qv_cert.specs.Text.{Text, text_of, AtEnd, Faulty, line_behind, next_of}
use Rattle.qv_cert.specs.TextLaws.{HasNoLf}

-- how many bytes a reader asks a source for at a time
abbrev pub piece_size : ℕ
piece_size = 4096

-- a reader that has taken so many bytes of a source takes no more of it
abbrev pub read_limit : ℕ
read_limit = 2 ^ 62 - piece_size

-- what the user of a reader sees of it
pub record Position : Type 0 where
  -- the bytes that it took behind the lines that it went over
  pub rest : List ℕ
  -- how many bytes it took in all
  pub taken : ℕ
  -- how many lines it gave
  pub given : ℕ
  -- the version that line 1 named, or 0
  pub version : ℕ
  -- why it stopped, if it did
  pub stopped : Option Stop

-- ---- where the source tells its bytes

-- the text that is still to be given, line by line
abbrev pub to_give : List ℕ → Option (List ℕ) → Option Text
to_give rest left = option_map (λ bytes. text_of (rest ++ bytes)) left

-- a text with one more line in front
abbrev pub with_line : List ℕ → Text → Text
with_line line t = record { lines = line ∷ t.lines; rest = t.rest }

-- the answer of a text, behind so many lines, in the refutation or outside
abbrev pub next_in : ℕ → Bool → Text → Rattle.qv_cert.specs.Text.Next
next_in given inner t = next_of given inner t.lines t.rest

-- The answer is what comes next in the text, and behind a line the rest of it is still to be given.
abbrev pub GivesNext : ℕ → Bool → Option Text → CertNext → Option Text → Type 0
GivesNext given inner old (next.Line number line) new =
    (text : List ℕ) × (old ≡ option_map (with_line text) new) × (line_behind given inner text ≡ Ok (cert_line_of line))
GivesNext given inner old (next.End number) new = IfSome old (λ t. next_in given inner t ≡ AtEnd)
GivesNext given inner old (next.Fault number k) new = IfSome old (λ t. next_in given inner t ≡ Faulty k)
-- the bytes say nothing of these
GivesNext given inner old next.ReadFault new = Unit {0}
GivesNext given inner old next.ReadLimit new = Unit {0}
GivesNext given inner old next.NoMemory new = Unit {0}

-- ---- where the source is called

-- Calls filled a buffer, each made where no whole line stood in it and fewer bytes than the limit
-- were taken. `call` says what one call makes of a source; each call asks for `piece_size` bytes.
pub data Filled {S : Type 0} (call : S → ℕ → Option (List ℕ) → S → Type 0) (rest : List ℕ) (taken : ℕ) (source : S) : List ℕ → ℕ → S → Type 0 where
  no_call : Filled call rest taken source rest taken source
  one_more : (buffer : List ℕ) (so_far : ℕ) (now : S) (bytes : List ℕ) (later : S) →
      Filled call rest taken source buffer so_far now → HasNoLf buffer → so_far < read_limit → call now piece_size (Some bytes) later →
      Filled call rest taken source (buffer ++ bytes) (so_far + length bytes) later

-- a buffer was filled in which a line stands, and the reader went over it
pub record GoesOver {S : Type 0} (call : S → ℕ → Option (List ℕ) → S → Type 0) (rest : List ℕ) (taken : ℕ) (source : S) (text rest' : List ℕ) (taken' : ℕ) (later : S) : Type 0 where
  pub filled : Filled call rest taken source (text ++ 10 ∷ rest') taken' later
  pub is_line : HasNoLf text

-- a buffer was filled in which no line stands, with these bytes, and then the source was called
-- once more
pub record AsksAgain {S : Type 0} (call : S → ℕ → Option (List ℕ) → S → Type 0) (rest : List ℕ) (taken : ℕ) (source : S) (buffer : List ℕ) (gave : Option (List ℕ)) (later : S) : Type 0 where
  pub now : S
  pub so_far : ℕ
  pub filled : Filled call rest taken source buffer so_far now
  pub no_line : HasNoLf buffer
  pub below : so_far < read_limit
  pub called : call now piece_size gave later

-- a buffer was filled in which no line stands, up to the limit
pub record MeetsLimit {S : Type 0} (call : S → ℕ → Option (List ℕ) → S → Type 0) (rest : List ℕ) (taken : ℕ) (source : S) (taken' : ℕ) (later : S) : Type 0 where
  pub buffer : List ℕ
  pub filled : Filled call rest taken source buffer taken' later
  pub no_line : HasNoLf buffer
  pub limit : read_limit ≤ taken'

-- the source gave nothing more inside a line
abbrev pub EndsInside : {S : Type 0} → (S → ℕ → Option (List ℕ) → S → Type 0) → List ℕ → ℕ → S → S → Type 0
EndsInside call rest taken source later = (first : ℕ) × (others : List ℕ) × AsksAgain call rest taken source (first ∷ others) (Some []) later

-- a buffer was filled, and what the source gave next, if it was called, found no room
abbrev pub RunsOut : {S : Type 0} → (S → ℕ → Option (List ℕ) → S → Type 0) → List ℕ → ℕ → S → S → Type 0
RunsOut call rest taken source later =
    ((buffer : List ℕ) × (taken' : ℕ) × Filled call rest taken source buffer taken' later)
    ⊎ ((buffer : List ℕ) × (bytes : List ℕ) × AsksAgain call rest taken source buffer (Some bytes) later)

-- a line was read so
abbrev pub Goes : {S : Type 0} → (S → ℕ → Option (List ℕ) → S → Type 0) → Bool → Position → S → Reading → Position → S → Type 0
Goes call inner old source reading new later =
    (text : List ℕ) × GoesOver call old.rest old.taken source text new.rest new.taken later × (line_behind old.given inner text ≡ reading)

-- what happened before an answer
abbrev pub ReadsOnDemand : {S : Type 0} → (S → ℕ → Option (List ℕ) → S → Type 0) → Bool → Position → S → CertNext → Position → S → Type 0
ReadsOnDemand call inner old source (next.Line number line) new later = Goes call inner old source (Ok (cert_line_of line)) new later
-- nothing is left in the buffer, and the source gave nothing
ReadsOnDemand call inner old source (next.End number) new later = AsksAgain call old.rest old.taken source [] (Some []) later
-- a line has this fault, or the source gave nothing inside a line
ReadsOnDemand call inner old source (next.Fault number k) new later =
    Goes call inner old source (Err k) new later ⊎ ((k ≡ kind.Truncated) × EndsInside call old.rest old.taken source later)
ReadsOnDemand call inner old source next.ReadFault new later = (buffer : List ℕ) × AsksAgain call old.rest old.taken source buffer None later
ReadsOnDemand call inner old source next.ReadLimit new later = MeetsLimit call old.rest old.taken source new.taken later
ReadsOnDemand call inner old source next.NoMemory new later = RunsOut call old.rest old.taken source later

-- ---- the rest

-- why reading stopped, if this answer says so
abbrev pub stop_of : CertNext → Option Stop
stop_of (next.Line number line) = None
stop_of (next.End number) = Some stop.End
stop_of (next.Fault number k) = Some (stop.Fault k)
stop_of next.ReadFault = Some stop.ReadFault
stop_of next.ReadLimit = Some stop.ReadLimit
stop_of next.NoMemory = Some stop.NoMemory

-- the answer has the number of the line behind so many
abbrev pub IsNumbered : ℕ → CertNext → Type 0
IsNumbered given (next.Line number line) = number ≡ suc given
IsNumbered given (next.End number) = number ≡ suc given
IsNumbered given (next.Fault number k) = number ≡ suc given
IsNumbered given next.ReadFault = Unit {0}
IsNumbered given next.ReadLimit = Unit {0}
IsNumbered given next.NoMemory = Unit {0}

-- the numbers of a line are in their ranges
abbrev pub IsInRange : CertNext → Type 0
IsInRange (next.Line number line) = IsCertLine (cert_line_of line)
IsInRange (next.End number) = Unit {0}
IsInRange (next.Fault number k) = Unit {0}
IsInRange next.ReadFault = Unit {0}
IsInRange next.ReadLimit = Unit {0}
IsInRange next.NoMemory = Unit {0}

-- behind a line, or one with a fault of its own, less than a piece was taken
abbrev pub TookShort : CertNext → List ℕ → Type 0
TookShort (next.Line number line) rest = length rest < piece_size
TookShort (next.End number) rest = Unit {0}
TookShort (next.Fault number k) rest = k ≢ kind.Truncated → length rest < piece_size
TookShort next.ReadFault rest = Unit {0}
TookShort next.ReadLimit rest = Unit {0}
TookShort next.NoMemory rest = Unit {0}

-- how many lines were given behind an answer
abbrev pub given_behind : ℕ → CertNext → ℕ
given_behind given (next.Line number line) = suc given
given_behind given (next.End number) = given
given_behind given (next.Fault number k) = given
given_behind given next.ReadFault = given
given_behind given next.ReadLimit = given
given_behind given next.NoMemory = given

-- the version that a line names, or 0
abbrev pub version_in : CertLine → ℕ
version_in (Header version) = version
version_in _ = 0

-- the version behind an answer: line 1 names it
abbrev pub version_behind : ℕ → ℕ → CertNext → ℕ
version_behind zero version (next.Line number line) = version_in (cert_line_of line)
version_behind (suc given) version (next.Line number line) = version
version_behind given version (next.End number) = version
version_behind given version (next.Fault number k) = version
version_behind given version next.ReadFault = version
version_behind given version next.ReadLimit = version
version_behind given version next.NoMemory = version
