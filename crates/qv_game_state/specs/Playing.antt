-- What holds of a game while it is played.
use Rattle.std.specs.Prelude.{◌≡◌, ℕ, ◌+◌, ◌<◌, Some, List, map, length, slice_get, All}
use Rattle.qv_words.specs.declared.word.Word.{Word}
use Rattle.qv_words.specs.Tree.{Tree}
use Rattle.qv_words.specs.Problem.{Problem, other}
use Rattle.qv_words.specs.Linked.{Block, Entry, blocks_of}
use Rattle.qv_words.specs.GameLaws.{IsProblem}
use Rattle.qv_store.specs.Walks.{named}
use Rattle.qv_entries.specs.Rows.{IsRowIn, entries_in}
use Rattle.qv_meter.specs.Played.{IsPlayed, IsSettled, IsUndecided}
use Rattle.qv_meter.specs.Queries.{StandsForQuery}
use Rattle.qv_meter.specs.Records.{Metering}
use Rattle.qv_game_entry_laws.specs.PointLaws.{places_from}
use Rattle.qv_game_lanes.specs.Lanes.{IsLane, variables_of}
use Rattle.qv_store.specs.Problems.{quantifier_of}
use Rattle.qv_game_state.specs.declared.query.Query.{Query}
use Rattle.qv_game_state.specs.declared.game.Game.{Game}
use Rattle.qv_game_state.specs.Spans.{span_of, spans_from}
use Rattle.qv_game_state.specs.Charges.{Tally, IsCharged}
use Rattle.qv_game_state.specs.Spots.{all_sorts, IsSpot}

abbrev pub tally_of : Query → Tally
tally_of q = record { winner = quantifier_of q.winner; count = q.lane.learnt }

-- the lane of the level behind block i has what stands for the query list of the entries, about the
-- player who doesn't own the block
pub record IsQueryAt (trees : List Tree) (p : Problem) (entries : List Entry) (limit i : ℕ) (q : Query) : Type 0 where
  pub opponent : (b : Block) → slice_get (blocks_of p.prefix) i ≡ Some b → quantifier_of q.winner ≡ other b.owner
  pub below : All (λ n. n < length trees) q.list.items
  pub list : StandsForQuery p entries (quantifier_of q.winner) (i + 2) (named trees q.list.items)
  pub lane : IsLane trees (named trees q.list.items) q.lane
  pub variables : variables_of q.lane ≡ limit

abbrev pub AreQueries : List Tree → Problem → List Entry → ℕ → List Query → Type 0
AreQueries trees p entries limit queries = (i : ℕ) (q : Query) → slice_get queries i ≡ Some q → IsQueryAt trees p entries limit i q

-- a game of this problem, beside a store and a meter: what is played is charged, and each lane has
-- what stands for its query list
pub record IsGame (trees : List Tree) (p : Problem) (limit : ℕ) (g : Game) (m : Metering) : Type 0 where
  pub problem : IsProblem p
  pub spans : map span_of g.spans.items ≡ spans_from 0 (blocks_of p.prefix)
  pub below : All (λ n. n < length trees) g.places.items
  pub places : named trees g.places.items ≡ places_from 0 (all_sorts p)
  pub rows : All (IsRowIn trees) g.entries
  pub played : IsPlayed p (entries_in trees g.entries)
  pub queries : AreQueries trees p (entries_in trees g.entries) limit g.queries.items
  pub charged : IsCharged p (length g.entries) limit (map tally_of g.queries.items) m

-- a game that isn't over, at a point of a level; no forced entry is the newest
pub record IsPlaying (trees : List Tree) (p : Problem) (limit : ℕ) (g : Game) (level : ℕ) (point : List Word) (m : Metering) : Type 0 where
  pub game : IsGame trees p limit g m
  pub undecided : IsUndecided (entries_in trees g.entries)
  pub settled : IsSettled p (entries_in trees g.entries)
  pub spot : IsSpot p (entries_in trees g.entries) level point
