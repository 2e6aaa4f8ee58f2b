-- All lines of a text, of which the last one may lack its LF, and what a reader of them answers.
use Rattle.std.specs.Prelude.{◌≡◌, ◌⊎◌, ℕ, ◌++◌, Bool, true, false, Option, Some, None, option_map, IfSome, Result, Ok, Err, List, [], ◌∷◌}
use Rattle.qv_cert.specs.declared.answers.Stop.{Stop}
use Rattle.qv_cert.specs.declared.answers.Stop.TheVariants as stop
use Rattle.qv_cert.specs.Text.{text_of}
use Rattle.qv_cert.specs.CertReader.{piece_size, GoesOver, AsksAgain, EndsInside, MeetsLimit, RunsOut}
use Rattle.qv_cert.specs.Took.{Took}

-- what stands behind the last LF is a line, unless it is nothing
abbrev pub last_line : List ℕ → List (List ℕ)
last_line [] = []
last_line (byte ∷ bytes) = (byte ∷ bytes) ∷ []

-- the lines of a text, each without its LF
abbrev pub all_lines : List ℕ → List (List ℕ)
all_lines bytes = (text_of bytes).lines ++ last_line (text_of bytes).rest

-- what the user of a reader of lines sees of it
pub record LinesState : Type 0 where
  -- the line that it took last
  pub line : List ℕ
  -- the bytes that it took behind it
  pub rest : List ℕ
  -- how many bytes it took in all
  pub taken : ℕ

-- ---- where the source tells its bytes

-- the lines that are still to be given
abbrev pub lines_left : List ℕ → Option (List ℕ) → Option (List (List ℕ))
lines_left rest left = option_map (λ bytes. all_lines (rest ++ bytes)) left

-- the answer is whether there is a line, and where there is one it was in front of the others
abbrev pub GivesLine : Option (List (List ℕ)) → Result Bool Stop → List ℕ → Option (List (List ℕ)) → Type 0
GivesLine old (Ok true) line new = old ≡ option_map (λ texts. line ∷ texts) new
GivesLine old (Ok false) line new = IfSome old (λ texts. texts ≡ [])
-- the bytes say nothing of these
GivesLine old (Err why) line new = Unit {0}

-- ---- told or not

-- In what follows `call` says what one call makes of a source, and `left` the bytes that it has
-- left, where it tells them. Each call asks for `piece_size` bytes.

-- what happened before an answer: the source was called only where no whole line was left
abbrev pub ReadsLine : {S : Type 0} → (S → ℕ → Option (List ℕ) → S → Type 0) → LinesState → S → Result Bool Stop → LinesState → S → Type 0
-- a line was there, or the source gave nothing more inside one
ReadsLine call old source (Ok true) new later = GoesOver call old.rest old.taken source new.line new.rest new.taken later ⊎ EndsInside call old.rest old.taken source later
-- nothing was left, and the source gave nothing
ReadsLine call old source (Ok false) new later = AsksAgain call old.rest old.taken source [] (Some []) later
ReadsLine call old source (Err stop.ReadFault) new later = (buffer : List ℕ) × AsksAgain call old.rest old.taken source buffer None later
ReadsLine call old source (Err stop.ReadLimit) new later = MeetsLimit call old.rest old.taken source new.taken later
ReadsLine call old source (Err stop.NoMemory) new later = RunsOut call old.rest old.taken source later
-- nothing else keeps a line from being given
ReadsLine call old source (Err stop.End) new later = ⊥
ReadsLine call old source (Err (stop.Fault k)) new later = ⊥

-- calls gave bytes, whichever they are, and then one failed
abbrev pub TookToFailure : {S : Type 0} → (S → ℕ → Option (List ℕ) → S → Type 0) → (S → Option (List ℕ)) → LinesState → S → ℕ → S → Type 0
TookToFailure {S} call left old source taken' later =
    (now : S) × ((whole : List ℕ) × Took call left old.rest old.taken source whole taken' now) × call now piece_size None later

-- Which bytes were taken: behind those that were there before they are the line, its LF and the
-- rest, or a line without an LF. Of want of memory that says nothing.
abbrev pub TookLine : {S : Type 0} → (S → ℕ → Option (List ℕ) → S → Type 0) → (S → Option (List ℕ)) → LinesState → S → Result Bool Stop → LinesState → S → Type 0
TookLine call left old source (Ok true) new later =
    Took call left old.rest old.taken source (new.line ++ 10 ∷ new.rest) new.taken later
    ⊎ ((new.rest ≡ []) × Took call left old.rest old.taken source new.line new.taken later)
TookLine call left old source (Ok false) new later = Took call left old.rest old.taken source [] new.taken later
TookLine call left old source (Err stop.ReadFault) new later = TookToFailure call left old source new.taken later
TookLine call left old source (Err stop.ReadLimit) new later = (whole : List ℕ) × Took call left old.rest old.taken source whole new.taken later
TookLine call left old source (Err stop.NoMemory) new later = Unit {0}
TookLine call left old source (Err stop.End) new later = ⊥
TookLine call left old source (Err (stop.Fault k)) new later = ⊥
