-- What is known of the lines that a section has listed so far.
use Rattle.std.specs.Prelude.{◌≡◌, ◌≢◌, ℕ, Some, None, IsSomeAnd, List, [], All, AllPairs, IsTrue, slice_get}
use Rattle.std.specs.List.{AllByRecursion}
use Rattle.qv_words.specs.declared.sort.Sort.{Sort}
use Rattle.qv_words.specs.declared.op.Answer.{Answer}
use Rattle.qv_words.specs.declared.op.Answer.TheVariants.{Sat, Unsat, Unknown}
use Rattle.qv_words.specs.Sort.{IsLawful}
use Rattle.qv_words.specs.Tree.{Tree, IsQuantifierFree}
use Rattle.qv_words.specs.Sorted.{IsSorted, constants_of, free_levels}
use Rattle.qv_words.specs.Problem.{Problem, Universal}
use Rattle.qv_words.specs.GameLaws.{IsProblem}
use Rattle.qv_words.specs.Skolem.{IsSkolemTerm}
use Rattle.qv_words.specs.Expansion.{Grown, IsEarlierEigen, IsExpansion}
use Rattle.qv_cert.specs.Line.{CertLine, IsCertLine}
use Rattle.qv_cert.specs.Listed.{Listed, nothing, grown_of, listing}
use Rattle.qv_cert.specs.Faults.{first_fit, faults_of, belongs}

-- a node's tree, whose free variables are such
pub record IsNodeTree (Free : ℕ × Sort → Type 0) (t : Tree) : Type 0 where
  pub sorted : IsSorted t
  pub quantifier_free : IsQuantifierFree t
  pub constant_free : constants_of t ≡ []
  pub free : AllByRecursion Free (free_levels t)

-- a variable of a sat section's nodes
abbrev pub IsUniversalLeaf : Problem → ℕ × Sort → Type 0
IsUniversalLeaf p leaf = IsSomeAnd (slice_get p.prefix leaf.0) (λ place. (place.quantifier ≡ Universal) × (place.sort ≡ leaf.1))

pub record IsSatSoFar (p : Problem) (l : Listed) : Type 0 where
  pub nodes : All (IsNodeTree (IsUniversalLeaf p)) l.nodes
  pub each : All (IsSkolemTerm p) l.terms
  pub once : AllPairs (λ s t. s.place ≢ t.place) l.terms

-- a line's eigenvariable
abbrev pub IsLawfulEigen : Grown → Type 0
IsLawfulEigen g = (s : Sort) → g.eigen ≡ Some s → IsLawful s

pub record IsUnsatSoFar (p : Problem) (l : Listed) (grown : List Grown) : Type 0 where
  pub grown_is : grown_of p l ≡ grown
  pub nodes : All (IsNodeTree (IsEarlierEigen grown)) l.nodes
  pub lines : IsExpansion p l.lines
  pub lawful : All IsLawfulEigen grown

-- what is known of what a section of an answer has listed
abbrev pub IsSoFar : Problem → Answer → Listed → Type 0
IsSoFar p Sat l = IsSatSoFar p l
IsSoFar p Unsat l = (grown : List Grown) × IsUnsatSoFar p l grown
IsSoFar p Unknown l = Unit {0}

-- it holds of nothing
abbrev pub SectionsBegin : Type 0
SectionsBegin = (p : Problem) (answer : Answer) → IsSoFar p answer nothing

-- and behind one more line whose numbers are in their ranges, that belongs there and has no fault
abbrev pub SectionsGoOn : Type 0
SectionsGoOn =
    (p : Problem) (answer : Answer) (l : Listed) (line : CertLine) → IsProblem p → IsSoFar p answer l → IsCertLine line → IsTrue (belongs answer line)
    → first_fit (faults_of p l line) ≡ None → IsSoFar p answer (listing p l line)
