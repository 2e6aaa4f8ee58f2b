-- Which additions are marked. No public contract cites this.
use Rattle.std.specs.Prelude.{◌≡◌, ◌≤◌, ◌<◌, ◌⊎◌, ℕ, suc, ℤ, unsigned_abs, Bool, true, false, Some, List, length, slice_get, map, Contains}
use Rattle.qv_cnf.specs.Literal.{Literal}
use Rattle.qv_cnf.specs.Listing.{Rises}
use Rattle.qv_cnf.specs.LratLine.{LratLine, Addition, Deletion}
use Rattle.qv_trim.specs.declared.entries.Entry.{Entry}
use Rattle.qv_trim.specs.Needed.{IsNeeded}
use Rattle.qv_trim.specs.Texts.{StandsAt, ReadsStep}

abbrev pub IsMarked : List Bool → ℕ → Type 0
IsMarked marks k = slice_get marks k ≡ Some true

abbrev pub AreRising : List Entry → Type 0
AreRising entries = Rises 0 (map (λ e. e.id) entries)

-- the entry at a place has one of these ids
pub record HasId (entries : List Entry) (ids : List ℕ) (k : ℕ) : Type 0 where
  pub entry : Entry
  pub stands : slice_get entries k ≡ Some entry
  pub among : Contains ids entry.id

-- where entries rise, those before a place have lower ids than this one, and those from it on no lower
abbrev pub IsBelow : List Entry → ℕ → ℕ → Type 0
IsBelow entries id low = AreRising entries → (k : ℕ) (e : Entry) → k < low → slice_get entries k ≡ Some e → e.id < id

abbrev pub IsFrom : List Entry → ℕ → ℕ → Type 0
IsFrom entries id high = AreRising entries → (k : ℕ) (e : Entry) → high ≤ k → slice_get entries k ≡ Some e → id ≤ e.id

-- the line of the entry at a place names that of another in a hint
pub record Names (text : List ℕ) (entries : List Entry) (j k : ℕ) : Type 0 where
  pub entry : Entry
  pub stands : slice_get entries j ≡ Some entry
  pub id : ℕ
  pub lits : List Literal
  pub hints : List ℤ
  pub behind : ℕ
  pub line : StandsAt ReadsStep text entry.start (Addition id lits hints) behind
  pub hinted : HasId entries (map unsigned_abs hints) k

-- The entries that are named were marked, and no others; `again` says whether one was that stands at
-- this place or behind it.
pub record Marks (entries : List Entry) (named : ℕ → Type 0) (at : ℕ) (old new : List Bool) (again : Bool) : Type 0 where
  pub each : length new ≡ length old
  pub stay : (k : ℕ) → IsMarked old k → IsMarked new k
  pub only : (k : ℕ) → IsMarked new k → IsMarked old k ⊎ named k
  pub all : AreRising entries → (k : ℕ) → named k → IsMarked new k
  pub early : again ≡ false → (k : ℕ) → at ≤ k → IsMarked new k → IsMarked old k

-- so were those that a line names in hints
abbrev pub MarksNamedBy : List Entry → LratLine → (at : ℕ) → (old new : List Bool) → (again : Bool) → Type 0
MarksNamedBy entries (Addition id lits hints) at old new again = Marks entries (HasId entries (map unsigned_abs hints)) at old new again
MarksNamedBy entries (Deletion id ids) at old new again = (new ≡ old) × (again ≡ false)

-- what those marked ones name is marked that stand at a place or behind it
abbrev pub ClosedFrom : (text : List ℕ) (entries : List Entry) (at : ℕ) → List Bool → Type 0
ClosedFrom text entries at marks = AreRising entries → (j k : ℕ) → at ≤ j → IsMarked marks j → Names text entries j k → IsMarked marks k

-- an entry is marked, or the line of one that is reached names it
pub data Reaches (text : List ℕ) (entries : List Entry) (marks : List Bool) : ℕ → Type 0 where
  marked : (k : ℕ) → IsMarked marks k → Reaches text entries marks k
  further : (j k : ℕ) → Reaches text entries marks j → Names text entries j k → Reaches text entries marks k

-- marks were added, of nothing but what is reached from the marked ones
pub record MarksNamed (text : List ℕ) (entries : List Entry) (old new : List Bool) : Type 0 where
  pub each : length new ≡ length old
  pub stay : (k : ℕ) → IsMarked old k → IsMarked new k
  pub only : (k : ℕ) → IsMarked new k → Reaches text entries old k

-- of so many marks the last alone is set
abbrev pub MarksLast : ℕ → List Bool → Type 0
MarksLast n marks = (length marks ≡ n) × ((k : ℕ) → IsMarked marks k → suc k ≡ n) × ((k : ℕ) → suc k ≡ n → IsMarked marks k)

-- the marked entries are those of needed ids
pub record AreMarked (lines : List LratLine) (entries : List Entry) (marks : List Bool) : Type 0 where
  pub each : length marks ≡ length entries
  pub sound : (k : ℕ) (e : Entry) → IsMarked marks k → slice_get entries k ≡ Some e → IsNeeded lines e.id
  pub whole : (k : ℕ) (e : Entry) → slice_get entries k ≡ Some e → IsNeeded lines e.id → IsMarked marks k
