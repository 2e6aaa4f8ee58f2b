-- The start of a game.
use Rattle.std.specs.Prelude.{◌≡◌, ℕ, ◌<◌, Some, List, [], ◌∷◌, length, slice_get}
use Rattle.qv_words.specs.declared.sort.Sort.TheVariants.{Bool as BoolSort}
use Rattle.qv_words.specs.Tree.{Tree}
use Rattle.qv_words.specs.Problem.{Problem, Quantifier, other}
use Rattle.qv_words.specs.Skolem.{IsTermOf}
use Rattle.qv_words.specs.Linked.{last_region}
use Rattle.qv_rewrite_passes.specs.Passes.{IsBehind}
use Rattle.qv_store.specs.Nodes.{tree_at}
use Rattle.qv_store.specs.declared.problem.Quant.{Quant}
use Rattle.qv_store.specs.Problems.{quantifier_of}
use Rattle.qv_meter.specs.Records.{Metering}
use Rattle.qv_meter.specs.Charging.{OfNewest}
use Rattle.qv_game_lanes.specs.Lanes.{IsLane, variables_of}
use Rattle.qv_game_state.specs.declared.query.Query.{Query}
use Rattle.qv_game_state.specs.Spans.{Span}

-- the newest record has this problem, and nothing was charged to it
abbrev pub IsUncharged : Problem → Metering → Type 0
IsUncharged p m = OfNewest m (λ r k. (k.problem ≡ p) × (r.conflicts ≡ 0) × (r.instances ≡ 0))

-- it has this problem, counts so many instances, and no conflict of its final list
abbrev pub HasCharged : Problem → ℕ → Metering → Type 0
HasCharged p n m = OfNewest m (λ r k. (k.problem ≡ p) × (r.instances ≡ n) × (slice_get k.tallies 0 ≡ Some 0))

-- a formula of the store that this player's region behind the last block is behind some passes
pub record IsLastFormula (trees : List Tree) (p : Problem) (owner : Quantifier) (id : ℕ) : Type 0 where
  pub below : id < length trees
  pub behind : IsBehind (last_region p owner ∷ []) (tree_at trees id ∷ [])
  pub formula : IsTermOf (tree_at trees id) BoolSort

-- a query about this player without formulas
pub record IsNew (trees : List Tree) (limit : ℕ) (winner : Quant) (q : Query) : Type 0 where
  pub winner_is : q.winner ≡ winner
  pub list : q.list.items ≡ []
  pub lane : IsLane trees [] q.lane
  pub learnt : q.lane.learnt ≡ 0
  pub variables : variables_of q.lane ≡ limit

-- for each block one about the player who doesn't own it
pub record AreNew (trees : List Tree) (limit : ℕ) (spans : List Span) (queries : List Query) : Type 0 where
  pub many : length queries ≡ length spans
  pub each : (i : ℕ) (q : Query) (s : Span) → slice_get queries i ≡ Some q → slice_get spans i ≡ Some s → (quantifier_of q.winner ≡ other s.owner) × IsNew trees limit q.winner q
