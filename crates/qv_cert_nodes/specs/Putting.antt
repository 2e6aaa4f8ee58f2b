-- What is put in for the variables of the matrix.
use Rattle.std.specs.Prelude.{◌≡◌, ℕ, suc, ◌<◌, ◌==◌, Bool, false, not, ◌&&◌, ◌||◌, if◌then◌else◌, Option, Some, None, is_some, List, [], ◌∷◌, map, length}
use Rattle.std.specs.List.{AllByRecursion}
use Rattle.qv_words.specs.Tree.{Tree}
use Rattle.qv_cert.specs.Faults.{is_existential}
use Rattle.qv_store.specs.Walks.{named}
use Rattle.qv_store.specs.declared.problem.Place.{Place}
use Rattle.qv_store.specs.Problems.{quantifier_of}
use Rattle.qv_store.specs.Replacing.{term_of_level}
use Rattle.qv_cert_nodes.specs.declared.listed.Term.{Term}

-- the term that a place is given
abbrev pub term_given : List Term → ℕ → Option ℕ
term_given [] j = None
term_given (t ∷ ts) j = if t.place == j then Some t.id else term_given ts j

-- no term is put in for any place
abbrev pub NothingPut : List (Option ℕ) → Type 0
NothingPut put = (l : ℕ) → term_of_level put l ≡ None

-- whether some existential place, from this one on, has nothing put in
abbrev pub lacks_in : List (Option ℕ) → ℕ → List Place → Bool
lacks_in put j [] = false
lacks_in put j (place ∷ places) = (is_existential (quantifier_of place.quant) && not (is_some (term_of_level put j))) || lacks_in put (suc j) places

-- these trees are put in, in the order of the places
pub record IsPath (trees : List Tree) (put : List (Option ℕ)) (path : List Tree) : Type 0 where
  pub ids : List ℕ
  pub put_is : put ≡ map Some ids
  pub below : AllByRecursion (λ id. id < length trees) ids
  pub path_is : named trees ids ≡ path
