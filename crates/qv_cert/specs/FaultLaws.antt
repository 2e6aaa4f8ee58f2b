-- What pins the faults of lines down: their order, and what a line without faults is.
use Rattle.std.specs.Prelude.{◌≡◌, ℕ, suc, ◌<◌, Some, None, IsSomeAnd, map, length, slice_get, All}
use Rattle.qv_words.specs.Tree.{Tree, tree_sort}
use Rattle.qv_words.specs.Sorted.{free_levels}
use Rattle.qv_words.specs.Problem.{Problem, Existential, Universal}
use Rattle.qv_words.specs.Skolem.{term_of}
use Rattle.qv_words.specs.Expansion.{Grown}
use Rattle.qv_cnf.specs.Listing.{Rises}
use Rattle.qv_cert.specs.declared.kind.RefusalKind.{RefusalKind}
use Rattle.qv_cert.specs.declared.kind.RefusalKind.TheVariants as kind
use Rattle.qv_cert.specs.Line.{CertLine, Skolem, Instance, Eigen}
use Rattle.qv_cert.specs.Listed.{Listed, node_numbered, grown_line}
use Rattle.qv_cert.specs.Faults.{first_fit, faults_of}

-- a kind's place in the table
abbrev pub kind_number : RefusalKind → ℕ
kind_number kind.Truncated = 0
kind_number kind.Header = 1
kind_number kind.Form = 2
kind_number kind.Operator = 3
kind_number kind.Rule = 4
kind_number kind.Literal = 5
kind_number kind.Section = 6
kind_number kind.Order = 7
kind_number kind.Node = 8
kind_number kind.Place = 9
kind_number kind.Repeated = 10
kind_number kind.Eigenvariable = 11
kind_number kind.Parent = 12
kind_number kind.Quantifier = 13
kind_number kind.Rank = 14
kind_number kind.Sort = 15
kind_number kind.Dependence = 16
kind_number kind.Missing = 17
kind_number kind.Variables = 18
kind_number kind.Id = 19
kind_number (kind.Rat hint) = 20
kind_number (kind.Hint hint) = 21
kind_number kind.Open = 22
kind_number kind.Refutation = 23

-- the faults of a line are tried in the order of the table, and all of them behind `form` and the
-- faults of a line's own
abbrev pub FaultsAreInOrder : Type 0
FaultsAreInOrder = (p : Problem) (l : Listed) (line : CertLine) → Rises 6 (map (λ f. kind_number f.0) (faults_of p l line))

-- a term's line without faults: its node was given, its place is existential and had no term, and
-- the term has the place's sort and only variables of smaller places
pub record IsTermLine (p : Problem) (l : Listed) (place node : ℕ) : Type 0 where
  pub term : Tree
  pub node_is : node_numbered l node ≡ Some term
  pub place_is : IsSomeAnd (slice_get p.prefix place) (λ q. (q.quantifier ≡ Existential) × (tree_sort term ≡ Some q.sort))
  pub first : term_of l.terms place ≡ None
  pub before : All (λ leaf. leaf.0 < place) (free_levels term)

abbrev pub TermLinesHaveNoFault : Type 0
TermLinesHaveNoFault =
    (p : Problem) (l : Listed) (place node : ℕ) →
    (first_fit (faults_of p l (Skolem place node)) ≡ None → IsTermLine p l place node)
    × (IsTermLine p l place node → first_fit (faults_of p l (Skolem place node)) ≡ None)

-- an instance's line without faults: it has the next number, its node was given, and below its
-- parent stands a universal of the term's sort
pub record IsInstanceLine (p : Problem) (l : Listed) (line parent node : ℕ) : Type 0 where
  pub term : Tree
  pub above : Grown
  pub next : line ≡ suc (length l.lines)
  pub node_is : node_numbered l node ≡ Some term
  pub parent_is : grown_line p l parent ≡ Some above
  pub place_is : IsSomeAnd (slice_get p.prefix (length above.path)) (λ q. (q.quantifier ≡ Universal) × (tree_sort term ≡ Some q.sort))

abbrev pub InstanceLinesHaveNoFault : Type 0
InstanceLinesHaveNoFault =
    (p : Problem) (l : Listed) (line parent node : ℕ) →
    (first_fit (faults_of p l (Instance line parent node)) ≡ None → IsInstanceLine p l line parent node)
    × (IsInstanceLine p l line parent node → first_fit (faults_of p l (Instance line parent node)) ≡ None)

-- an eigenvariable's line without faults: it has the next number, and below its parent stands an
-- existential
pub record IsEigenLine (p : Problem) (l : Listed) (line parent : ℕ) : Type 0 where
  pub above : Grown
  pub next : line ≡ suc (length l.lines)
  pub parent_is : grown_line p l parent ≡ Some above
  pub place_is : IsSomeAnd (slice_get p.prefix (length above.path)) (λ q. q.quantifier ≡ Existential)

abbrev pub EigenLinesHaveNoFault : Type 0
EigenLinesHaveNoFault =
    (p : Problem) (l : Listed) (line parent : ℕ) →
    (first_fit (faults_of p l (Eigen line parent)) ≡ None → IsEigenLine p l line parent)
    × (IsEigenLine p l line parent → first_fit (faults_of p l (Eigen line parent)) ≡ None)
