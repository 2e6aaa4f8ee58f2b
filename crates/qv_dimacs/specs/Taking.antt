-- What one piece of a text says to a reader. No public contract cites this.
use Rattle.std.specs.Prelude.{◌≡◌, ◌⊎◌, ℕ, ◌+◌, ◌<◌, ◌≤◌, Option, Some, None, Result, Ok, Err, List, [], ◌++◌, length}
use Rattle.qv_io.specs.Source.{Gives, IsAtEnd}
use Rattle.qv_dimacs.specs.declared.faults.DimacsFault.TheVariants.{At, ReadFault, ReadLimit, NoMemory}
use Rattle.qv_dimacs.specs.declared.faults.Halt.{Halt}
use Rattle.qv_dimacs.specs.declared.faults.Halt.TheVariants.{Done, Fault}
use Rattle.qv_dimacs.specs.Clauses.{Said, Clauses, Faulty}
use Rattle.qv_dimacs.specs.Machine.{State, run}
use Rattle.qv_dimacs.specs.Reading.{piece_size, read_limit, TextSays, HasFault}

-- the source gave these bytes, in one call
pub record GivesPiece {S : Type 0} (call : S → ℕ → Option (List ℕ) → S → Type 0) (left : S → Option (List ℕ)) (source : S) (bytes : List ℕ) (later : S) : Type 0 where
  pub called : call source piece_size (Some bytes) later
  pub told : Gives (left source) (left later) bytes

-- a piece was read, and more is wanted
pub record GoesOn {S : Type 0} (call : S → ℕ → Option (List ℕ) → S → Type 0) (left : S → Option (List ℕ)) (old : State) (source : S) (new : State) (later : S) : Type 0 where
  pub bytes : List ℕ
  pub gives : GivesPiece call left source bytes later
  pub some : 0 < length bytes
  pub below : old.place < read_limit
  pub counted : new.place ≡ old.place + length bytes
  pub reads : (text : List ℕ) → run old (bytes ++ text) ≡ run new text

-- the text ended, and says this
pub record EndsSaying {S : Type 0} (call : S → ℕ → Option (List ℕ) → S → Type 0) (left : S → Option (List ℕ)) (old : State) (source : S) (said : Said) (later : S) : Type 0 where
  pub gives : GivesPiece call left source [] later
  pub end : IsAtEnd (left source)
  pub reads : run old [] ≡ said

-- a piece was read behind which whatever comes the text says this
pub record StopsSaying {S : Type 0} (call : S → ℕ → Option (List ℕ) → S → Type 0) (left : S → Option (List ℕ)) (old : State) (source : S) (said : Said) (later : S) : Type 0 where
  pub bytes : List ℕ
  pub gives : GivesPiece call left source bytes later
  pub reads : (text : List ℕ) → run old (bytes ++ text) ≡ said

abbrev pub Decides : {S : Type 0} → (S → ℕ → Option (List ℕ) → S → Type 0) → (S → Option (List ℕ)) → State → S → Said → S → Type 0
Decides call left old source said later = EndsSaying call left old source said later ⊎ StopsSaying call left old source said later

-- why no more is wanted, or had
abbrev pub HaltsPiece : {S : Type 0} → (S → ℕ → Option (List ℕ) → S → Type 0) → (S → Option (List ℕ)) → Type 0 → State → S → Halt → State → S → Type 0
HaltsPiece call left rose old source Done new later = Decides call left old source (Clauses new.done) later
HaltsPiece call left rose old source (Fault (At place kind)) new later = Decides call left old source (Faulty place kind) later
HaltsPiece call left rose old source (Fault ReadFault) new later = rose × (old.place < read_limit) × call source piece_size None later
HaltsPiece call left rose old source (Fault ReadLimit) new later = (read_limit ≤ old.place) × (later ≡ source)
HaltsPiece call left rose old source (Fault NoMemory) new later = Unit {0}

-- what one turn makes of a reader and a source
abbrev pub TakesPiece : {S : Type 0} → (S → ℕ → Option (List ℕ) → S → Type 0) → (S → Option (List ℕ)) → Type 0 → State → S → Result Unit Halt → State → S → Type 0
TakesPiece call left rose old source (Ok done) new later = GoesOn call left old source new later
TakesPiece call left rose old source (Err halt) new later = HaltsPiece call left rose old source halt new later

-- how a text comes to its end
abbrev pub HaltsText : {S : Type 0} → (S → ℕ → Option (List ℕ) → S → Type 0) → (S → Option (List ℕ)) → Type 0 → S → Halt → State → S → Type 0
HaltsText call left rose source Done new later = TextSays call left source (Clauses new.done) later
HaltsText call left rose source (Fault fault) new later = HasFault call left rose source fault later
