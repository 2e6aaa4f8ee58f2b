-- What is written of a section. No public contract cites this.
use Rattle.std.specs.Prelude.{◌≡◌, ℕ, ◌+◌, Bool, true, if◌then◌else◌, Option, Some, None, List, [], ◌∷◌, ◌++◌, drop, flat_map}
use Rattle.qv_io.specs.Sink.{Appends}
use Rattle.qv_cnf.specs.LratLine.{LratLine, Addition, Deletion}
use Rattle.qv_lrat_text.specs.Spelling.{spelling}
use Rattle.qv_cert.specs.Line.{CertLine}
use Rattle.qv_cert.specs.Spelling.{cert_text}
use Rattle.qv_trim.specs.Sections.{last_of}
use Rattle.qv_trim.specs.Texts.{Begins, ReadsStep, ReadsOutside}

abbrev pub steps_text : List LratLine → List ℕ
steps_text lines = flat_map spelling lines

-- what is kept of lines by the marks of their additions, up to the last mark
abbrev pub kept_by : List Bool → List LratLine → List LratLine
kept_by [] lines = []
kept_by (mark ∷ marks) [] = []
kept_by (mark ∷ marks) (Addition id lits hints ∷ lines) = if mark then Addition id lits hints ∷ kept_by marks lines else kept_by marks lines
kept_by (mark ∷ marks) (Deletion id ids ∷ lines) = Deletion id ids ∷ kept_by (mark ∷ marks) lines

-- whether a line is kept, where this is the next mark; what is kept of it; and the place of the mark behind
abbrev pub is_kept : Bool → LratLine → Bool
is_kept mark (Addition id lits hints) = mark
is_kept mark (Deletion id ids) = true

abbrev pub kept_now : Bool → LratLine → List LratLine
kept_now mark line = if is_kept mark line then line ∷ [] else []

abbrev pub next_mark : ℕ → LratLine → ℕ
next_mark nth (Addition id lits hints) = nth + 1
next_mark nth (Deletion id ids) = nth

-- where this is what the first line of a front says
abbrev pub Follows : Option Bool → (more : Bool → Type 0) → (lines : List CertLine) → Bool → Type 0
Follows (Some last) more lines proves = (lines ≡ []) × (last ≡ proves)
Follows None more lines proves = more proves

-- lines of which the last alone ends a front: whether a refutation follows
abbrev pub IsFront : List CertLine → Bool → Type 0
IsFront [] proves = ⊥
IsFront (line ∷ lines) proves = Follows (last_of line) (IsFront lines) lines proves

-- lines of a refutation were written so far, and these are left
pub record StepsWritten (text : List ℕ) (marks : List Bool) (at nth : ℕ) (old now : Option (List ℕ)) (lines : List LratLine) (rest : List ℕ) : Type 0 where
  pub left : List LratLine
  pub begins : Begins ReadsStep (drop at text) left rest
  pub written : List ℕ
  pub appends : Appends old now written
  pub whole : steps_text (kept_by marks lines) ≡ written ++ steps_text (kept_by (drop nth marks) left)

-- lines of a front were written so far, and these are left
pub record FrontWritten (text : List ℕ) (at : ℕ) (old now : Option (List ℕ)) (lines : List CertLine) (rest : List ℕ) (proves : Bool) : Type 0 where
  pub left : List CertLine
  pub begins : Begins ReadsOutside (drop at text) left rest
  pub is_front : IsFront left proves
  pub written : List ℕ
  pub appends : Appends old now written
  pub whole : flat_map cert_text lines ≡ written ++ flat_map cert_text left
