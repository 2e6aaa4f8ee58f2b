-- What reading a text from a source answers, whether the source tells its bytes or not.
use Rattle.std.specs.Prelude.{◌≡◌, ◌⊎◌, ℕ, ◌-◌, ◌^◌, ◌<◌, ◌≤◌, Option, Some, None, IfSome, List, [], ◌++◌, length}
use Rattle.qv_dimacs.specs.declared.faults.DimacsFault.{DimacsFault}
use Rattle.qv_dimacs.specs.declared.faults.DimacsFault.TheVariants.{At, ReadFault, ReadLimit, NoMemory}
use Rattle.qv_dimacs.specs.Clauses.{Said, Faulty, dimacs_of}

-- how many bytes a source is asked for at a time
abbrev pub piece_size : ℕ
piece_size = 4096

-- once so many bytes were taken, no more are
abbrev pub read_limit : ℕ
read_limit = 2 ^ 62 - piece_size

-- In what follows `call` says what one call makes of a source, and `left` the bytes that it has
-- left, where it tells them. Each call asks for `piece_size` bytes.

-- calls, one after another, and the bytes that they gave in all
pub data Gave {S : Type 0} (call : S → ℕ → Option (List ℕ) → S → Type 0) (source : S) : List ℕ → S → Type 0 where
  gave_none : Gave call source [] source
  gave_more : (bytes : List ℕ) (now : S) (more : List ℕ) (later : S) → Gave call source bytes now → call now piece_size (Some more) later → Gave call source (bytes ++ more) later

-- calls gave these bytes, and then one gave none
abbrev pub GaveAll : {S : Type 0} → (S → ℕ → Option (List ℕ) → S → Type 0) → S → List ℕ → S → Type 0
GaveAll {S} call source bytes later = (now : S) × Gave call source bytes now × call now piece_size (Some []) later

-- What calls gave says this: it is the whole text, or says it whatever comes behind.
abbrev pub GaveSaying : {S : Type 0} → (S → ℕ → Option (List ℕ) → S → Type 0) → S → Said → S → Type 0
GaveSaying call source said later =
    (bytes : List ℕ) × ((GaveAll call source bytes later × (dimacs_of bytes ≡ said)) ⊎ (Gave call source bytes later × ((more : List ℕ) → dimacs_of (bytes ++ more) ≡ said)))

-- the text says this, where the source tells it; told or not, so does what calls gave
pub record TextSays {S : Type 0} (call : S → ℕ → Option (List ℕ) → S → Type 0) (left : S → Option (List ℕ)) (source : S) (said : Said) (later : S) : Type 0 where
  pub told : IfSome (left source) (λ text. dimacs_of text ≡ said)
  pub gave : GaveSaying call source said later

-- a call failed behind those that gave bytes, fewer than the limit
pub record FailsBehind {S : Type 0} (call : S → ℕ → Option (List ℕ) → S → Type 0) (source later : S) : Type 0 where
  pub bytes : List ℕ
  pub now : S
  pub gave : Gave call source bytes now
  pub below : length bytes < read_limit
  pub called : call now piece_size None later

-- calls gave as many bytes as the limit, which the source had, where it tells its bytes, and no
-- further one was made
pub record MeetsLimit {S : Type 0} (call : S → ℕ → Option (List ℕ) → S → Type 0) (left : Option (List ℕ)) (source later : S) : Type 0 where
  pub bytes : List ℕ
  pub gave : Gave call source bytes later
  pub limit : read_limit ≤ length bytes
  pub told : IfSome left (λ text. read_limit ≤ length text)

-- why there are no clauses; `rose` says that the source's count of faults rose
abbrev pub HasFault : {S : Type 0} → (S → ℕ → Option (List ℕ) → S → Type 0) → (S → Option (List ℕ)) → Type 0 → S → DimacsFault → S → Type 0
HasFault call left rose source (At place kind) later = TextSays call left source (Faulty place kind) later
HasFault call left rose source ReadFault later = rose × FailsBehind call source later
HasFault call left rose source ReadLimit later = MeetsLimit call (left source) source later
-- the bytes say nothing of it
HasFault call left rose source NoMemory later = Unit {0}
