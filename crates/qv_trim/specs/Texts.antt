-- Lines of a text, each with its LF.
use Rattle.std.specs.Prelude.{◌≡◌, ℕ, ◌<◌, ◌≤◌, false, Ok, Some, List, [], ◌∷◌, ◌++◌, drop, length}
use Rattle.qv_cnf.specs.LratLine.{LratLine}
use Rattle.qv_lrat_text.specs.Grammar.{lrat_line}
use Rattle.qv_cert.specs.Line.{CertLine}
use Rattle.qv_cert.specs.Grammar.{cert_line}
use Rattle.qv_cert.specs.TextLaws.{HasNoLf}

-- a text begins with a line, behind whose LF comes the rest
pub record BeginsWith (text line rest : List ℕ) : Type 0 where
  pub is_line : HasNoLf line
  pub text_is : text ≡ line ++ 10 ∷ rest

-- In what follows `reads` says what a line's text is read as.

-- a text begins with lines that are read as these, and behind them comes the rest
abbrev pub Begins : {L : Type 0} → (List ℕ → L → Type 0) → (text : List ℕ) → List L → (rest : List ℕ) → Type 0
Begins reads text [] rest = text ≡ rest
Begins reads text (l ∷ ls) rest = (line : List ℕ) × (behind : List ℕ) × BeginsWith text line behind × reads line l × Begins reads behind ls rest

-- a line that is read as this one stands at a place of a text, and the next begins at another
pub record StandsAt {L : Type 0} (reads : List ℕ → L → Type 0) (text : List ℕ) (at : ℕ) (l : L) (behind : ℕ) : Type 0 where
  pub line : List ℕ
  pub begins : BeginsWith (drop at text) line (drop behind text)
  pub read : reads line l
  pub further : at < behind
  pub within : behind ≤ length text

-- the text begins with no such line
abbrev pub BeginsWithNone : {L : Type 0} → (List ℕ → L → Type 0) → (text : List ℕ) → Type 0
BeginsWithNone {L} reads text = (line rest : List ℕ) (l : L) → BeginsWith text line rest → reads line l → ⊥

-- a line of a refutation, and one outside
abbrev pub ReadsStep : List ℕ → LratLine → Type 0
ReadsStep line step = lrat_line line ≡ Some step

abbrev pub ReadsOutside : List ℕ → CertLine → Type 0
ReadsOutside line said = cert_line false line ≡ Ok said
