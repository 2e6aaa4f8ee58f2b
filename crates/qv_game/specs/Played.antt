-- What is kept of a game beside what was won.
use Rattle.std.specs.Prelude.{◌≡◌, Option, Some, None, List, [], ◌∷◌, ◌++◌, slice_get}
use Rattle.qv_words.specs.Tree.{Tree}
use Rattle.qv_words.specs.Problem.{Problem, Quantifier, other}
use Rattle.qv_words.specs.Linked.{Block, blocks_of}
use Rattle.qv_cnf.specs.Derivation.{additions}
use Rattle.qv_cnf.specs.LratLine.{LratLine}
use Rattle.qv_rewrite_passes.specs.Passes.{IsBehind}
use Rattle.qv_store.specs.Problems.{quantifier_of}
use Rattle.qv_meter.specs.Charging.{OfNewest}
use Rattle.qv_meter.specs.Queries.{last_query}
use Rattle.qv_meter.specs.Records.{Metering, position_of}
use Rattle.qv_meter.specs.Units.{Query as QueryLane}
use Rattle.qv_game_lanes.specs.Lanes.{laid_of, steps_of, IsLane}
use Rattle.qv_game_lanes.specs.declared.lane.Lane.{Lane}
use Rattle.qv_game.specs.declared.playing.Played.{Played}

-- the steps that are handed over: those of the lane, in front those of closure, or none where there
-- is no lane
abbrev pub steps_in : Played → List LratLine
steps_in played = steps_from played.lane
  where
    steps_from : Option Lane → List LratLine
    steps_from None = []
    steps_from (Some lane) = laid_of lane ++ steps_of lane

-- the problem has one block, and this player doesn't own it: the only query is about the player
abbrev pub IsAskedAbout : Problem → Quantifier → Type 0
IsAskedAbout p winner = (b : Block) × (blocks_of p.prefix ≡ b ∷ []) × (winner ≡ other b.owner)

-- the lane of that query: it has the clauses of the matrix, or of its negation, behind some passes,
-- and its steps have as many additions as conflicts were charged to the query
pub record IsAskedLane (trees : List Tree) (p : Problem) (winner : Quantifier) (l : Lane) (m : Metering) : Type 0 where
  pub formulas : List Tree
  pub behind : IsBehind (last_query p winner ∷ []) formulas
  pub lane : IsLane trees formulas l
  pub charged : OfNewest m (λ r k. slice_get k.tallies (position_of (QueryLane winner 2)) ≡ Some (additions (steps_of l)))

-- what is kept where this player has won: that lane, if there is such a query, and else none
abbrev pub IsKept : List Tree → Problem → Quantifier → Option Lane → Metering → Type 0
IsKept trees p winner None m = IsAskedAbout p winner → ⊥
IsKept trees p winner (Some lane) m = IsAskedAbout p winner × IsAskedLane trees p winner lane m

abbrev pub HasKept : List Tree → Problem → Metering → Played → Type 0
HasKept trees p m played = IsKept trees p (quantifier_of played.won.winner) played.lane m
