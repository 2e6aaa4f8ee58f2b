-- How the lines of certificates are printed.
use Rattle.std.specs.Prelude.{◌≡◌, ℕ, Bool, true, false, Ok, List, [], ◌∷◌, ◌++◌, map, codes, decimal}
use Rattle.std.specs.List.{flat_map}
use Rattle.qv_words.specs.declared.sort.Sort.{Sort}
use Rattle.qv_words.specs.declared.sort.Sort.TheVariants.{Bits}
use Rattle.qv_words.specs.declared.sort.Sort.TheVariants.{Bool as BoolSort}
use Rattle.qv_words.specs.declared.op.Answer.{Answer}
use Rattle.qv_words.specs.declared.op.Answer.TheVariants.{Sat, Unsat, Unknown}
use Rattle.qv_sorts.specs.Names.{name_of, indices_of}
use Rattle.qv_lrat_text.specs.Spelling.{spelling}
use Rattle.qv_rewrite_passes.specs.Names.{name_of_pass}
use Rattle.qv_cert.specs.Line.{CertLine, Header, Check, VariableNode, EigenNode, LiteralNode, OperatorNode, Skolem, Instance, Eigen, Rewrite, Lrat, Step, End, IsCertLine}
use Rattle.qv_cert.specs.Grammar.{cert_line}

abbrev pub answer_name : Answer → List ℕ
answer_name Sat = codes "sat"
answer_name Unsat = codes "unsat"
answer_name Unknown = codes "unknown"

-- the number that stands for a sort: its width, or 0 for Bool
abbrev pub width_number : Sort → ℕ
width_number BoolSort = 0
width_number (Bits w) = w

-- words with a space before each
abbrev pub behind_spaces : List (List ℕ) → List ℕ
behind_spaces ws = flat_map (λ word. 32 ∷ word) ws

-- a word, further words with one space before each, and an LF
abbrev pub joined : List ℕ → List (List ℕ) → List ℕ
joined first others = first ++ behind_spaces others ++ 10 ∷ []

-- the one text that is printed for a line
unfoldable pub cert_text : CertLine → List ℕ
cert_text (Header version) = joined (codes "qbv-cert") (decimal version ∷ [])
cert_text (Check number answer) = joined (codes "check") (decimal number ∷ answer_name answer ∷ [])
cert_text (VariableNode node place) = joined (codes "n") (decimal node ∷ codes "v" ∷ decimal place ∷ [])
cert_text (EigenNode node line) = joined (codes "n") (decimal node ∷ codes "g" ∷ decimal line ∷ [])
cert_text (LiteralNode node s value) = joined (codes "n") (decimal node ∷ codes "c" ∷ decimal (width_number s) ∷ decimal value ∷ [])
cert_text (OperatorNode node o children) =
    joined (codes "n") (decimal node ∷ codes "o" ∷ name_of o ∷ (map decimal (indices_of o) ++ codes ":" ∷ map decimal children))
cert_text (Skolem place node) = joined (codes "s") (decimal place ∷ decimal node ∷ [])
cert_text (Instance line parent node) = joined (codes "i") (decimal line ∷ decimal parent ∷ decimal node ∷ [])
cert_text (Eigen line parent) = joined (codes "e") (decimal line ∷ decimal parent ∷ [])
cert_text (Rewrite p) = joined (codes "w") (name_of_pass p ∷ [])
cert_text Lrat = joined (codes "lrat") []
cert_text (Step line) = spelling line
cert_text End = joined (codes "end") []

-- whether a line is one of a refutation
abbrev pub is_step : CertLine → Bool
is_step (Step line) = true
is_step _ = false

-- a line that is printed reads as the same line
abbrev pub PrintedLinesAreRead : Type 0
PrintedLinesAreRead =
    (line : CertLine) → IsCertLine line →
    (cert_line (is_step line) (cert_text line) ≡ Ok line) × (cert_line true (cert_text End) ≡ Ok End)

-- a line that is read is one of the grammar, with its numbers in their ranges
abbrev pub ReadLinesAreCertLines : Type 0
ReadLinesAreCertLines = (inner : Bool) (text : List ℕ) (line : CertLine) → cert_line inner text ≡ Ok line → IsCertLine line
