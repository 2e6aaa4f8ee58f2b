-- Where the additions of a refutation stand in its text. No public contract cites this.
use Rattle.std.specs.Prelude.{◌≡◌, ℕ, Bool, true, false, if◌then◌else◌, List, [], ◌∷◌, ◌++◌, drop}
use Rattle.qv_cnf.specs.LratLine.{LratLine, Addition, Deletion}
use Rattle.qv_cnf.specs.Refutation.{adds_none}
use Rattle.qv_trim.specs.Needed.{up_to_empty}
use Rattle.qv_trim.specs.declared.entries.Entry.{Entry}
use Rattle.qv_trim.specs.Texts.{Begins, StandsAt, ReadsStep}

-- an entry is of this line
abbrev pub IsEntryFor : List ℕ → Entry → LratLine → Type 0
IsEntryFor text e (Addition id lits hints) = (e.id ≡ id) × ((behind : ℕ) × StandsAt ReadsStep text e.start (Addition id lits hints) behind)
IsEntryFor text e (Deletion id ids) = ⊥

-- the entries are those of the additions among these lines, in their order
abbrev pub AreEntries : List ℕ → List LratLine → List Entry → Type 0
AreEntries text [] [] = Unit {0}
AreEntries text [] (e ∷ es) = ⊥
AreEntries text (Deletion id ids ∷ lines) es = AreEntries text lines es
AreEntries text (Addition id lits hints ∷ lines) [] = ⊥
AreEntries text (Addition id lits hints ∷ lines) (e ∷ es) = IsEntryFor text e (Addition id lits hints) × AreEntries text lines es

-- the entries behind a line that begins at this place
abbrev pub Notes : LratLine → (start : ℕ) → (old new : List Entry) → Type 0
Notes (Addition id lits hints) start old new = new ≡ old ++ (record { id = id; start = start }) ∷ []
Notes (Deletion id ids) start old new = new ≡ old

-- and whether a clause without literals was added by then, behind which no line is noted
abbrev pub NotesStep : LratLine → (start : ℕ) → (was now : Bool) → (old new : List Entry) → Type 0
NotesStep step start true now old new = (now ≡ true) × (new ≡ old)
NotesStep step start false now old new = (now ≡ adds_none step) × Notes step start old new

-- some lines were noted, and these entries are still to come
pub record Noted (text : List ℕ) (at : ℕ) (refuted : Bool) (entries : List Entry) (lines : List LratLine) (rest : List ℕ) : Type 0 where
  pub left : List LratLine
  pub begins : Begins ReadsStep (drop at text) left rest
  pub whole : (es : List Entry) → AreEntries text (if refuted then [] else up_to_empty left) es → AreEntries text (up_to_empty lines) (entries ++ es)
