-- Turns of a game.
use Rattle.std.specs.Prelude.{◌≡◌, ◌⊎◌, ℕ, ◌+◌, ◌-◌, ◌≤◌, ◌<◌, Option, Some, List, slice_get, take}
use Rattle.qv_words.specs.declared.word.Word.{Word}
use Rattle.qv_words.specs.Tree.{Tree}
use Rattle.qv_words.specs.Problem.{Problem}
use Rattle.qv_words.specs.Linked.{HoldsFirst}
use Rattle.qv_store.specs.declared.problem.Problem.{Problem as Posed}
use Rattle.qv_store.specs.declared.problem.Quant.{Quant}
use Rattle.qv_store.specs.Problems.{problem_in, quantifier_of, IsPosedIn}
use Rattle.qv_entries.specs.Rows.{entries_in}
use Rattle.qv_meter.specs.Records.{Metering}
use Rattle.qv_game_play_laws.specs.PlayLaws.{sorts_below}
use Rattle.qv_cnf.specs.Literal.{Literal}
use Rattle.qv_circuits.specs.Adding.{lits_of}
use Rattle.qv_game_lanes.specs.Asking.{LeavesNone, MakeTrue}
use Rattle.qv_store.specs.Walks.{named}
use Rattle.qv_game_state.specs.declared.game.Game.{Game}
use Rattle.qv_game_state.specs.declared.query.Query.{Query}
use Rattle.qv_game_turns.specs.declared.turns.Spot.{Spot}
use Rattle.qv_game_turns.specs.declared.turns.Turn.{Turn}
use Rattle.qv_game_turns.specs.declared.turns.Turn.TheVariants.{Over, On}
use Rattle.qv_game_state.specs.Spans.{Span}
use Rattle.qv_game_state.specs.Spots.{IsOutside}
use Rattle.qv_game_turns.specs.Moves.{MayOwn}
use Rattle.qv_words.specs.Word.{values_of}
use Rattle.qv_game_state.specs.Playing.{IsGame, IsPlaying}

-- a game of a problem of the store, at a point
pub record MayTurn (trees : List Tree) (posed : Posed) (p : Problem) (limit : ℕ) (g : Game) (spot : Spot) (m : Metering) : Type 0 where
  pub posed_in : IsPosedIn trees posed
  pub is : problem_in trees posed ≡ p
  pub playing : IsPlaying trees p limit g spot.level spot.point.items m

-- a game in which the owner of a level's block wins, at a point whose fronts lie in no region of
-- the earlier levels
pub record MayWin (trees : List Tree) (posed : Posed) (p : Problem) (limit : ℕ) (g : Game) (level : ℕ) (link : Option ℕ) (point : List Word) (m : Metering) : Type 0 where
  pub own : MayOwn trees posed p limit g level link point m
  pub outside : (k : ℕ) → 1 ≤ k → k ≤ level - 1 → IsOutside p (entries_in trees g.entries) (values_of point) k

-- and values that lie in none of the other player's regions, or bits of the point that leave none,
-- by what the query behind the level's block has
abbrev pub AreLeading : List Tree → Problem → Game → Spot → List Word → Type 0
AreLeading trees p g spot values =
    (q : Query) → slice_get g.queries.items (spot.level - 1) ≡ Some q → MakeTrue (named trees q.list.items) (sorts_below p (spot.level + 1)) spot.point.items values

abbrev pub AreFailing : List Tree → Problem → Game → Spot → List Literal → Type 0
AreFailing trees p g spot core =
    (q : Query) → slice_get g.queries.items (spot.level - 1) ≡ Some q → LeavesNone (named trees q.list.items) (sorts_below p (spot.level + 1)) spot.point.items (lits_of core)

-- after a turn: a player holds level 1, or play goes on from a point
abbrev pub IsTurn : List Tree → Problem → ℕ → Game → Metering → Turn → Type 0
IsTurn trees p limit g m (Over winner) = IsGame trees p limit g m × HoldsFirst (quantifier_of winner) (entries_in trees g.entries)
IsTurn trees p limit g m (On spot) = IsPlaying trees p limit g spot.level spot.point.items m

-- where play goes on there is an entry more, or as many and the next level
abbrev pub IsCloser : ℕ → ℕ → ℕ → Turn → Type 0
IsCloser before level after (Over winner) = Unit {0}
IsCloser before level after (On spot) = (before < after) ⊎ ((after ≡ before) × (spot.level ≡ level + 1))

-- behind an entry of a level: its winner has won, or play goes on one level up, at the point's front
abbrev pub IsUp : List Span → ℕ → Quant → List Word → Turn → Type 0
IsUp spans level winner point (Over w) = (level ≡ 1) × (w ≡ winner)
IsUp spans level winner point (On spot) =
    (level ≡ 1 → ⊥) × (spot.level + 1 ≡ level)
    × ((s : Span) → slice_get spans (spot.level - 1) ≡ Some s → spot.point.items ≡ take s.first point)
