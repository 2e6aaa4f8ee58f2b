-- What reading a file from a source answers, whether the source tells its bytes or not.
use Rattle.std.specs.Prelude.{◌≡◌, ℕ, ◌<◌, ◌≤◌, Bool, true, false, Option, Some, None, IfSome, Result, Ok, Err, List, [], ◌++◌, length}
use Rattle.qv_io.specs.Source.{Gives, IsAtEnd}
use Rattle.qv_dimacs.specs.Reading.{piece_size, read_limit, GaveAll, FailsBehind, MeetsLimit}
use Rattle.qv_qdimacs.specs.declared.faults.QdimacsFault.{QdimacsFault}
use Rattle.qv_qdimacs.specs.declared.faults.QdimacsFault.TheVariants.{At, ReadFault, ReadLimit, NoMemory}
use Rattle.qv_qdimacs.specs.Text.{Said, Faulty, qdimacs_of}

-- In what follows `call` says what one call makes of a source, and `left` the bytes that it has
-- left, where it tells them. Each call asks for `piece_size` bytes.

-- calls gave these bytes, and then one gave none; they are all, where the source told its bytes
pub record GivesText {S : Type 0} (call : S → ℕ → Option (List ℕ) → S → Type 0) (left : S → Option (List ℕ)) (source : S) (text : List ℕ) (later : S) : Type 0 where
  pub gave : GaveAll call source text later
  pub told : IfSome (left source) (λ bytes. bytes ≡ text)

-- the text of a source says this
abbrev pub TextSays : {S : Type 0} → (S → ℕ → Option (List ℕ) → S → Type 0) → (S → Option (List ℕ)) → S → Said → S → Type 0
TextSays call left source said later = (text : List ℕ) × GivesText call left source text later × (qdimacs_of text ≡ said)

-- why a text couldn't be read to its end; `rose` says that the source's count of faults rose
abbrev pub IsUnread : {S : Type 0} → (S → ℕ → Option (List ℕ) → S → Type 0) → (S → Option (List ℕ)) → Type 0 → S → QdimacsFault → S → Type 0
IsUnread call left rose source (At place kind) later = ⊥
IsUnread call left rose source ReadFault later = rose × FailsBehind call source later
IsUnread call left rose source ReadLimit later = MeetsLimit call (left source) source later
-- the bytes say nothing of it
IsUnread call left rose source NoMemory later = Unit {0}

-- why there is no file
abbrev pub HasFault : {S : Type 0} → (S → ℕ → Option (List ℕ) → S → Type 0) → (S → Option (List ℕ)) → Type 0 → S → QdimacsFault → S → Type 0
HasFault call left rose source (At place kind) later = TextSays call left source (Faulty place kind) later
HasFault call left rose source ReadFault later = IsUnread call left rose source ReadFault later
HasFault call left rose source ReadLimit later = IsUnread call left rose source ReadLimit later
HasFault call left rose source NoMemory later = IsUnread call left rose source NoMemory later

-- ---- one piece. No public contract cites this.

-- the source gave these bytes, in one call
pub record GivesPiece {S : Type 0} (call : S → ℕ → Option (List ℕ) → S → Type 0) (left : S → Option (List ℕ)) (source : S) (bytes : List ℕ) (later : S) : Type 0 where
  pub called : call source piece_size (Some bytes) later
  pub told : Gives (left source) (left later) bytes

-- a piece came behind what was read, below the limit
pub record IsLonger {S : Type 0} (call : S → ℕ → Option (List ℕ) → S → Type 0) (left : S → Option (List ℕ)) (old : List ℕ) (source : S) (new : List ℕ) (later : S) : Type 0 where
  pub bytes : List ℕ
  pub gives : GivesPiece call left source bytes later
  pub some : 0 < length bytes
  pub below : length old < read_limit
  pub text : new ≡ old ++ bytes

-- none came
pub record IsWhole {S : Type 0} (call : S → ℕ → Option (List ℕ) → S → Type 0) (left : S → Option (List ℕ)) (old : List ℕ) (source : S) (new : List ℕ) (later : S) : Type 0 where
  pub gives : GivesPiece call left source [] later
  pub end : IsAtEnd (left source)
  pub text : new ≡ old

-- what one turn makes of a text and a source
abbrev pub TakesPiece : {S : Type 0} → (S → ℕ → Option (List ℕ) → S → Type 0) → (S → Option (List ℕ)) → Type 0 → List ℕ → S → Result Bool QdimacsFault → List ℕ → S → Type 0
TakesPiece call left rose old source (Ok true) new later = IsLonger call left old source new later
TakesPiece call left rose old source (Ok false) new later = IsWhole call left old source new later
TakesPiece call left rose old source (Err ReadFault) new later = rose × (length old < read_limit) × call source piece_size None later
TakesPiece call left rose old source (Err ReadLimit) new later = (read_limit ≤ length old) × (later ≡ source)
TakesPiece call left rose old source (Err NoMemory) new later = Unit {0}
TakesPiece call left rose old source (Err (At place kind)) new later = ⊥
