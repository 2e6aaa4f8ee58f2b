-- The lines of certificates.
use Rattle.std.specs.Prelude.{ℕ, ◌≡◌, ◌<◌, ◌^◌, ◌⊎◌, List, All}
use Rattle.qv_words.specs.declared.sort.Sort.{Sort}
use Rattle.qv_words.specs.declared.op.Op.{Op}
use Rattle.qv_words.specs.declared.op.Answer.{Answer}
use Rattle.qv_words.specs.Sort.{IsLawful, IsValueOf}
use Rattle.qv_rewrite_passes.specs.declared.pass.Pass.{Pass}
use Rattle.qv_sorts.specs.Names.{indices_of}
use Rattle.qv_cnf.specs.LratLine.{LratLine}
use Rattle.qv_lrat_text.specs.Grammar.{IsLine}

pub data CertLine : Type 0 where
  -- the first line, with the version
  Header : (version : ℕ) → CertLine
  -- a section begins, of the check-sat of this number
  Check : (number : ℕ) (answer : Answer) → CertLine
  -- a node is a universal variable, an eigenvariable, a literal, or an operator's application to
  -- earlier nodes
  VariableNode : (node place : ℕ) → CertLine
  EigenNode : (node line : ℕ) → CertLine
  LiteralNode : (node : ℕ) (s : Sort) (value : ℕ) → CertLine
  OperatorNode : (node : ℕ) (o : Op) (children : List ℕ) → CertLine
  -- a place has the term of a node
  Skolem : (place node : ℕ) → CertLine
  -- a line below its parent: the universal there is a node's term, or the existential there is its
  -- eigenvariable
  Instance : (line parent node : ℕ) → CertLine
  Eigen : (line parent : ℕ) → CertLine
  -- the list of formulas is rewritten
  Rewrite : (p : Pass) → CertLine
  -- the refutation follows, with its lines, and the section ends
  Lrat : CertLine
  Step : (line : LratLine) → CertLine
  End : CertLine

-- a number of a line
abbrev pub IsNumber : ℕ → Type 0
IsNumber n = n < 2 ^ 62

-- an operator's index
abbrev pub IsIndex : ℕ → Type 0
IsIndex n = n < 2 ^ 128

-- a line that the grammar has: its numbers are in their ranges
abbrev pub IsCertLine : CertLine → Type 0
IsCertLine (Header version) = (version ≡ 1) ⊎ (version ≡ 2)
IsCertLine (Check number answer) = IsNumber number
IsCertLine (VariableNode node place) = IsNumber node × IsNumber place
IsCertLine (EigenNode node line) = IsNumber node × IsNumber line
IsCertLine (LiteralNode node s value) = IsNumber node × IsLawful s × IsValueOf value s
IsCertLine (OperatorNode node o children) = IsNumber node × All IsIndex (indices_of o) × All IsNumber children
IsCertLine (Skolem place node) = IsNumber place × IsNumber node
IsCertLine (Instance line parent node) = IsNumber line × IsNumber parent × IsNumber node
IsCertLine (Eigen line parent) = IsNumber line × IsNumber parent
IsCertLine (Rewrite p) = Unit {0}
IsCertLine Lrat = Unit {0}
IsCertLine (Step line) = IsLine line
IsCertLine End = Unit {0}
