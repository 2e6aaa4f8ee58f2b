-- How a reader takes the lines of a source.
use Rattle.std.specs.Prelude.{◌≡◌, ℕ, ◌+◌, ◌<◌, ◌≤◌, ◌⊎◌, Result, Ok, Err, Bool, true, false, Option, Some, None, option_map, IfSome, List, [], ◌∷◌, ◌++◌, length}
use Rattle.qv_io.specs.Source.{IsAtEnd}
use Rattle.qv_cert.specs.declared.kind.RefusalKind.TheVariants as kind
use Rattle.qv_cert.specs.declared.answers.Stop.{Stop}
use Rattle.qv_cert.specs.declared.answers.Stop.TheVariants as stop
use Rattle.qv_cert.specs.declared.answers.CertNext.{CertNext}
use Rattle.qv_cert.specs.declared.answers.CertNext.TheVariants as next
use Rattle.qv_cert.specs.Grammar.{Reading}
use Rattle.qv_cert.specs.Text.{line_behind}
use Rattle.qv_cert.specs.TextLaws.{HasNoLf}
use Rattle.qv_cert.specs.CertReader.{piece_size, read_limit, GoesOver, AsksAgain, EndsInside, MeetsLimit, RunsOut}
use Rattle.qv_cert.specs.Took.{Took}
use Rattle.qv_cert.specs.Lines.{LinesState}

-- the bytes before the first LF went behind a line, and it was passed; or all did, where none
-- stands among them
abbrev pub TakesToLf : Bool → List ℕ → List ℕ → List ℕ → List ℕ → Type 0
TakesToLf true line buffer line' buffer' = (part : List ℕ) × (line' ≡ line ++ part) × (buffer ≡ part ++ 10 ∷ buffer') × HasNoLf part
TakesToLf false line buffer line' buffer' = (line' ≡ line ++ buffer) × (buffer' ≡ []) × HasNoLf buffer

-- the source was called below the limit, and what it gave is in the buffer; at its end that is
-- nothing
pub record TakesPiece {S : Type 0} (call : S → ℕ → Option (List ℕ) → S → Type 0) (left : S → Option (List ℕ)) (more : Bool) (taken : ℕ) (source : S) (buffer : List ℕ) (taken' : ℕ) (later : S) : Type 0 where
  pub called : call source piece_size (Some buffer) later
  pub below : taken < read_limit
  pub counted : taken' ≡ taken + length buffer
  pub told : left source ≡ option_map (λ bytes. buffer ++ bytes) (left later)
  pub some : more ≡ true → 0 < length buffer
  pub none : more ≡ false → (buffer ≡ []) × IsAtEnd (left source)

-- why no piece was taken; `rose` says that the source's count rose
abbrev pub NoPiece : {S : Type 0} → (S → ℕ → Option (List ℕ) → S → Type 0) → Type 0 → ℕ → S → Stop → ℕ → S → Type 0
NoPiece call rose taken source stop.ReadFault taken' later = rose × (taken < read_limit) × call source piece_size None later × (taken' ≡ taken)
NoPiece call rose taken source stop.ReadLimit taken' later = (read_limit ≤ taken) × (taken' ≡ taken) × (later ≡ source)
NoPiece call rose taken source stop.NoMemory taken' later = (taken < read_limit) × ((bytes : List ℕ) × call source piece_size (Some bytes) later)
NoPiece call rose taken source stop.End taken' later = ⊥
NoPiece call rose taken source (stop.Fault k) taken' later = ⊥

-- why the bytes end, where these stand behind the last line
abbrev pub end_stop : List ℕ → Stop
end_stop [] = stop.End
end_stop (byte ∷ bytes) = stop.Fault kind.Truncated

-- where bytes are told, they are these
abbrev pub AreLast : Option (List ℕ) → List ℕ → List ℕ → Type 0
AreLast left rest buffer = IfSome left (λ bytes. rest ++ bytes ≡ buffer)

-- where bytes are told, a line without an LF is all of them
abbrev pub AreOpen : Option (List ℕ) → List ℕ → Type 0
AreOpen left rest = IfSome left (λ bytes. HasNoLf (rest ++ bytes) × (0 < length (rest ++ bytes)))

-- calls gave bytes, whichever they are
abbrev pub TookAny : {S : Type 0} → (S → ℕ → Option (List ℕ) → S → Type 0) → (S → Option (List ℕ)) → List ℕ → ℕ → S → ℕ → S → Type 0
TookAny call left rest taken source taken' later = (whole : List ℕ) × Took call left rest taken source whole taken' later

-- and then a call failed
abbrev pub TookToFault : {S : Type 0} → (S → ℕ → Option (List ℕ) → S → Type 0) → (S → Option (List ℕ)) → List ℕ → ℕ → S → ℕ → S → Type 0
TookToFault {S} call left rest taken source taken' later = (now : S) × TookAny call left rest taken source taken' now × call now piece_size None later

-- why no line was taken
abbrev pub NoLine : {S : Type 0} → (S → ℕ → Option (List ℕ) → S → Type 0) → (S → Option (List ℕ)) → Type 0 → List ℕ → ℕ → S → Stop → ℕ → S → Type 0
NoLine call left rose rest taken source stop.End taken' later =
    AsksAgain call rest taken source [] (Some []) later × AreLast (left source) rest [] × TookAny call left rest taken source taken' later
NoLine call left rose rest taken source (stop.Fault k) taken' later =
    (k ≡ kind.Truncated) × EndsInside call rest taken source later × AreOpen (left source) rest × TookAny call left rest taken source taken' later
NoLine call left rose rest taken source stop.ReadFault taken' later =
    rose × ((buffer : List ℕ) × AsksAgain call rest taken source buffer None later) × TookToFault call left rest taken source taken' later
NoLine call left rose rest taken source stop.ReadLimit taken' later = MeetsLimit call rest taken source taken' later × TookAny call left rest taken source taken' later
NoLine call left rose rest taken source stop.NoMemory taken' later = RunsOut call rest taken source later

-- where bytes are told, they are a line, its LF and what is still to be given
abbrev pub TellsLine : Option (List ℕ) → List ℕ → List ℕ → Option (List ℕ) → List ℕ → Type 0
TellsLine left rest line left' rest' = option_map (λ bytes. rest ++ bytes) left ≡ option_map (λ bytes. line ++ 10 ∷ (rest' ++ bytes)) left'

-- a line was taken, and read so
pub record TakenLine {S : Type 0} (call : S → ℕ → Option (List ℕ) → S → Type 0) (left : S → Option (List ℕ)) (given : ℕ) (inner : Bool) (rest : List ℕ) (taken : ℕ) (source : S) (reading : Reading) (rest' : List ℕ) (taken' : ℕ) (later : S) : Type 0 where
  pub text : List ℕ
  pub goes : GoesOver call rest taken source text rest' taken' later
  pub told : TellsLine (left source) rest text (left later) rest'
  pub took : Took call left rest taken source (text ++ 10 ∷ rest') taken' later
  pub reads : line_behind given inner text ≡ reading
  pub ahead : length rest' < piece_size

-- why there is no line
abbrev pub NoNext : {S : Type 0} → (S → ℕ → Option (List ℕ) → S → Type 0) → (S → Option (List ℕ)) → Type 0 → ℕ → Bool → List ℕ → ℕ → S → Stop → List ℕ → ℕ → S → Type 0
NoNext call left rose given inner rest taken source stop.End rest' taken' later = NoLine call left rose rest taken source stop.End taken' later
NoNext call left rose given inner rest taken source (stop.Fault k) rest' taken' later =
    TakenLine call left given inner rest taken source (Err k) rest' taken' later ⊎ NoLine call left rose rest taken source (stop.Fault k) taken' later
NoNext call left rose given inner rest taken source stop.ReadFault rest' taken' later = NoLine call left rose rest taken source stop.ReadFault taken' later
NoNext call left rose given inner rest taken source stop.ReadLimit rest' taken' later = NoLine call left rose rest taken source stop.ReadLimit taken' later
NoNext call left rose given inner rest taken source stop.NoMemory rest' taken' later = NoLine call left rose rest taken source stop.NoMemory taken' later

-- the answer where there is no line
abbrev pub answer_of : ℕ → Stop → CertNext
answer_of number stop.End = next.End number
answer_of number (stop.Fault k) = next.Fault number k
answer_of number stop.ReadFault = next.ReadFault
answer_of number stop.ReadLimit = next.ReadLimit
answer_of number stop.NoMemory = next.NoMemory

-- ---- the end of the bytes

-- where no line was taken because the bytes end
abbrev pub OnEnd : Stop → Type 0 → Type 0
OnEnd stop.End P = P
OnEnd (stop.Fault k) P = P
OnEnd stop.ReadFault P = Unit {0}
OnEnd stop.ReadLimit P = Unit {0}
OnEnd stop.NoMemory P = Unit {0}

-- the bytes ended for this reason, and this line is all that was left of them
pub record TakesLast {S : Type 0} (call : S → ℕ → Option (List ℕ) → S → Type 0) (left : S → Option (List ℕ)) (rest : List ℕ) (taken : ℕ) (source : S) (why : Stop) (line buffer : List ℕ) (taken' : ℕ) (later : S) : Type 0 where
  pub why_is : why ≡ end_stop line
  pub empty : buffer ≡ []
  pub took : Took call left rest taken source line taken' later
  pub last : AreLast (left source) rest line
  pub none_left : IsAtEnd (left later)

-- ---- lines of which the last may lack its LF

-- whether there is one, where a line that has its LF was taken or not
abbrev pub has_line : Result (Unit {0}) Stop → Result Bool Stop
has_line (Ok done) = Ok true
has_line (Err stop.End) = Ok false
has_line (Err (stop.Fault k)) = Ok true
has_line (Err stop.ReadFault) = Err stop.ReadFault
has_line (Err stop.ReadLimit) = Err stop.ReadLimit
has_line (Err stop.NoMemory) = Err stop.NoMemory

-- what is seen of a reader that has these
abbrev pub lines_state : (line rest : List ℕ) → (taken : ℕ) → LinesState
lines_state line rest taken = record { line = line; rest = rest; taken = taken }
