-- Problems over a store's trees.
use Rattle.std.specs.Prelude.{ℕ, ◌<◌, ◌≤◌, ◌+◌, List, map, length}
use Rattle.qv_words.specs.Problem.{Quantifier, Existential, Universal}
use Rattle.qv_words.specs.Problem.{Place as PlainPlace, Problem as PlainProblem}
use Rattle.qv_words.specs.Tree.{Tree}
use Rattle.qv_words.specs.Linked.{blocks_of, places_below}
use Rattle.qv_words.specs.GameLaws.{IsProblem}
use Rattle.qv_store.specs.declared.problem.Quant.{Quant}
use Rattle.qv_store.specs.declared.problem.Quant.TheVariants.{Exists, Forall}
use Rattle.qv_store.specs.declared.problem.Place.{Place}
use Rattle.qv_store.specs.declared.problem.Problem.{Problem}
use Rattle.qv_store.specs.Nodes.{tree_at}

abbrev pub quantifier_of : Quant → Quantifier
quantifier_of Exists = Existential
quantifier_of Forall = Universal

abbrev pub place_of : Place → PlainPlace
place_of p = record { quantifier = quantifier_of p.quant; sort = p.sort }

-- the places of a problem
abbrev pub places_of : Problem → List PlainPlace
places_of p = map place_of p.prefix.items

-- the problem that it is in a store
abbrev pub problem_in : List Tree → Problem → PlainProblem
problem_in trees p = record { prefix = places_of p; matrix = tree_at trees p.matrix }

-- a problem of a store
pub record IsPosedIn (trees : List Tree) (p : Problem) : Type 0 where
  pub below : p.matrix < length trees
  pub problem : IsProblem (problem_in trees p)

-- a place stands in the block of this number, counted from 1
pub record IsInBlock (places : List PlainPlace) (place block : ℕ) : Type 0 where
  pub from_one : 1 ≤ block
  pub within : block ≤ length (blocks_of places)
  pub behind : places_below (blocks_of places) block ≤ place
  pub before : place < places_below (blocks_of places) (block + 1)
