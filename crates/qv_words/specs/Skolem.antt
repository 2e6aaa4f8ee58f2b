-- Skolem sections: a term for each existential place of a prenex problem.
use Rattle.std.specs.Prelude.{◌≡◌, ℕ, ◌<◌, ◌==◌, if◌then◌else◌, Option, Some, None, IsSome, IsSomeAnd, List, [], ◌∷◌, slice_get, All, ◌≢◌, AllPairs}
use Rattle.qv_words.specs.declared.sort.Sort.{Sort}
use Rattle.qv_words.specs.Tree.{Tree, tree_sort, IsQuantifierFree}
use Rattle.qv_words.specs.Sorted.{IsSorted, constants_of, free_levels}
use Rattle.qv_words.specs.Replacement.{replaced}
use Rattle.qv_words.specs.Prenex.{negation}
use Rattle.qv_words.specs.Problem.{Problem, Existential, Universal}

-- the term of a place
pub record SkolemTerm : Type 0 where
  pub place : ℕ
  pub term : Tree

-- a sorted tree of this sort without quantifiers and constants
pub record IsTermOf (t : Tree) (s : Sort) : Type 0 where
  pub sorted : IsSorted t
  pub sort : tree_sort t ≡ Some s
  pub quantifier_free : IsQuantifierFree t
  pub constant_free : constants_of t ≡ []

-- a variable of a term: a universal place before this one, of its sort
abbrev pub IsEarlierUniversal : Problem → ℕ → ℕ × Sort → Type 0
IsEarlierUniversal p j leaf = (leaf.0 < j) × IsSomeAnd (slice_get p.prefix leaf.0) (λ place. (place.quantifier ≡ Universal) × (place.sort ≡ leaf.1))

-- a term for an existential place, whose variables are universal places before it
abbrev pub IsSkolemTerm : Problem → SkolemTerm → Type 0
IsSkolemTerm p s =
    IsSomeAnd (slice_get p.prefix s.place) (λ place. (place.quantifier ≡ Existential) × IsTermOf s.term place.sort)
    × All (IsEarlierUniversal p s.place) (free_levels s.term)

-- the term of a place, if it has one
abbrev pub term_of : List SkolemTerm → ℕ → Option Tree
term_of [] j = None
term_of (s ∷ rest) j = if s.place == j then Some s.term else term_of rest j

-- each existential place has one term
pub record SkolemOk (p : Problem) (terms : List SkolemTerm) : Type 0 where
  pub each : All (IsSkolemTerm p) terms
  pub once : AllPairs (λ s t. s.place ≢ t.place) terms
  pub all : (j : ℕ) → IsSomeAnd (slice_get p.prefix j) (λ place. place.quantifier ≡ Existential) → IsSome (term_of terms j)

-- the negation of the matrix with the terms put in: the terms win where it is true for no values
abbrev pub goal_of : Problem → List SkolemTerm → Tree
goal_of p terms = negation (replaced (term_of terms) p.matrix)
