-- A section of a certificate, trimmed.
use Rattle.std.specs.Prelude.{◌≡◌, ℕ, Bool, true, false, Option, Some, None, List, [], ◌∷◌, ◌++◌, map, All}
use Rattle.std.specs.List.{AllByRecursion}
use Rattle.qv_io.specs.Sink.{Appends}
use Rattle.qv_words.specs.declared.op.Answer.{Answer}
use Rattle.qv_words.specs.declared.op.Answer.TheVariants.{Sat, Unsat, Unknown}
use Rattle.qv_cnf.specs.LratLine.{LratLine}
use Rattle.qv_cert.specs.Line.{CertLine, Check, Lrat, Step, End}
use Rattle.qv_cert.specs.Shown.{AreRead, IsSection}
use Rattle.qv_cert.specs.Section.{Task}
use Rattle.qv_cert.specs.TextLaws.{HasNoLf, bytes_of_lines}
use Rattle.qv_trim.specs.Needed.{IsTrimmed}

-- whether a line ends the front of a section, and if so, whether a refutation follows
abbrev pub last_of : CertLine → Option Bool
last_of Lrat = Some true
last_of End = Some false
last_of _ = None

-- no line ends it
abbrev pub HaveNoLast : List CertLine → Type 0
HaveNoLast lines = AllByRecursion (λ line. last_of line ≡ None) lines

-- The texts of a section with a refutation, and the lines of the trimmed one: those up to `lrat`, what
-- is kept of the refutation, and `end`.
pub record IsTrimmedProof (texts : List (List ℕ)) (trimmed : List CertLine) : Type 0 where
  pub front : List CertLine
  pub steps : List LratLine
  pub kept : List LratLine
  pub outer : List (List ℕ)
  pub inner : List (List ℕ)
  pub texts_are : texts ≡ outer ++ inner
  pub no_last : HaveNoLast front
  pub outer_are : AreRead false outer (front ++ Lrat ∷ [])
  pub inner_are : AreRead true inner (map Step steps ++ End ∷ [])
  pub keeps : IsTrimmed steps kept
  pub trimmed_are : trimmed ≡ front ++ (Lrat ∷ (map Step kept ++ End ∷ []))

-- an unknown section stays
abbrev pub StaysUnknown : (texts : List (List ℕ)) (trimmed : List CertLine) → Type 0
StaysUnknown texts trimmed =
    (number : ℕ) × AreRead false texts (Check number Unknown ∷ End ∷ []) × (trimmed ≡ Check number Unknown ∷ End ∷ [])

-- the texts of an accepted section of this answer, and the lines of the trimmed one
abbrev pub IsTrimmedSection : Answer → (texts : List (List ℕ)) → (trimmed : List CertLine) → Type 0
IsTrimmedSection Sat texts trimmed = IsTrimmedProof texts trimmed
IsTrimmedSection Unsat texts trimmed = IsTrimmedProof texts trimmed
IsTrimmedSection Unknown texts trimmed = StaysUnknown texts trimmed

-- a text begins with the lines of an accepted section, each with its LF, and behind them comes the rest
pub record BeginsWithSection (task : Task) (answer : Answer) (text : List ℕ) (texts : List (List ℕ)) (rest : List ℕ) : Type 0 where
  pub text_is : text ≡ bytes_of_lines texts ++ rest
  pub each : All HasNoLf texts
  pub section : IsSection task answer texts

-- told bytes grew by the front of these
pub record AppendsFront (old new : Option (List ℕ)) (bytes : List ℕ) : Type 0 where
  pub front : List ℕ
  pub rest : List ℕ
  pub bytes_are : bytes ≡ front ++ rest
  pub appends : Appends old new front
