-- The moves of a game: what each starts from, and what it leaves.
use Rattle.std.specs.Prelude.{◌≡◌, ℕ, ◌+◌, ◌-◌, ◌≤◌, ◌<◌, Option, Some, None, option_to_list, List, [], ◌∷◌, ◌++◌, length, slice_get}
use Rattle.qv_words.specs.declared.word.Word.{Word}
use Rattle.qv_words.specs.Word.{sorts_of, values_of}
use Rattle.qv_words.specs.Tree.{Tree}
use Rattle.qv_words.specs.Problem.{Problem, Quantifier}
use Rattle.qv_words.specs.Choice.{IsTrueAt}
use Rattle.qv_words.specs.Linked.{Block, Entry, last_region}
use Rattle.qv_store.specs.declared.problem.Problem.{Problem as Posed}
use Rattle.qv_store.specs.Problems.{problem_in, IsPosedIn}
use Rattle.qv_store.specs.Nodes.{tree_at}
use Rattle.qv_store.specs.Walks.{named}
use Rattle.qv_entries.specs.Rows.{Row, entries_in}
use Rattle.qv_meter.specs.Played.{FollowsForced, IsPlayed, IsSettled, IsUndecided}
use Rattle.qv_meter.specs.Queries.{all_links, block_count}
use Rattle.qv_meter.specs.Records.{Metering}
use Rattle.qv_game_play_laws.specs.PlayLaws.{sorts_below}
use Rattle.qv_game_lanes.specs.Asking.{LeavesNone as LeavesNoValues}
use Rattle.qv_cnf.specs.Literal.{Literal}
use Rattle.qv_circuits.specs.Adding.{lits_of}
use Rattle.qv_game_outside.specs.Outside.{HaveNoModel, LeavesNone}
use Rattle.qv_game_state.specs.declared.game.Game.{Game}
use Rattle.qv_game_state.specs.declared.query.Query.{Query}
use Rattle.qv_game_state.specs.Playing.{IsGame}
use Rattle.qv_game_state.specs.Entering.{IsEntered}
use Rattle.qv_game_state.specs.Spots.{BlockAt, IsOutside}

-- a later region of a player that holds the point: the last one, or that of an entry
abbrev pub IsLed : Problem → List Entry → ℕ → Quantifier → Option ℕ → List ℕ → Type 0
IsLed p entries level owner None point = (level ≡ block_count p) × IsTrueAt point (last_region p owner)
IsLed p entries level owner (Some n) point =
    (level ≡ block_count p → ⊥) × (f : Entry) × (slice_get entries n ≡ Some f) × (f.winner ≡ owner) × (f.level ≡ level + 1) × IsTrueAt point f.region

-- the later region: the last one, or that of an entry
abbrev pub IsLater : Problem → List Entry → Quantifier → Option ℕ → Tree → Type 0
IsLater p entries owner None later = later ≡ last_region p owner
IsLater p entries owner (Some n) later = (f : Entry) → slice_get entries n ≡ Some f → later ≡ f.region

-- an entry without terms that is linked to all of its winner's entries at the next level
abbrev pub linked_to_all : Problem → List Entry → ℕ → Quantifier → List ℕ → Tree → Entry
linked_to_all p entries level winner point region =
    record { level = level; winner = winner; region = region; point = point; terms = []; links = all_links p entries winner level }

-- a region from which the player who doesn't own a level's block wins: with such an entry the game
-- is still one that is played
pub record IsForcedRegion (trees : List Tree) (p : Problem) (rows : List Row) (level : ℕ) (winner : Quantifier) (point : List Word) (id : ℕ) : Type 0 where
  pub below : id < length trees
  pub played : IsPlayed p (entries_in trees rows ++ linked_to_all p (entries_in trees rows) level winner (values_of point) (tree_at trees id) ∷ [])

-- what lies outside the regions of a level's owner: by the queries of this level and the one before
-- it leaves the owner no values
pub record IsOutsideRegion (old new : List Tree) (g : Game) (level id : ℕ) : Type 0 where
  pub low : 2 ≤ level
  pub before : Query
  pub query : Query
  pub before_is : slice_get g.queries.items (level - 2) ≡ Some before
  pub query_is : slice_get g.queries.items (level - 1) ≡ Some query
  pub none : LeavesNone new (named old before.list.items) (named old query.list.items) id

-- what a level's query asks for has no values
abbrev pub IsNever : List Tree → Game → ℕ → Type 0
IsNever trees g level = (q : Query) → slice_get g.queries.items (level - 1) ≡ Some q → HaveNoModel (named trees q.list.items)

-- a game after a forced entry came, under this number
pub record IsForcedIn (trees : List Tree) (p : Problem) (limit : ℕ) (old new : Game) (level : ℕ) (winner : Quantifier) (point : List Word) (number : ℕ) (m : Metering) : Type 0 where
  pub entered : IsEntered trees p limit old new level winner m
  pub point_is : entered.row.point ≡ values_of point
  pub number_is : number ≡ length old.entries

-- a game in which the owner of a level's block has values that lead to a later region of its own
pub record MayOwn (trees : List Tree) (posed : Posed) (p : Problem) (limit : ℕ) (g : Game) (level : ℕ) (link : Option ℕ) (point : List Word) (m : Metering) : Type 0 where
  pub posed_in : IsPosedIn trees posed
  pub is : problem_in trees posed ≡ p
  pub game : IsGame trees p limit g m
  pub undecided : IsUndecided (entries_in trees g.entries)
  pub follows : FollowsForced p (entries_in trees g.entries) (option_to_list link)
  pub low : 1 ≤ level
  pub high : level ≤ block_count p
  pub sorts : sorts_of point ≡ sorts_below p (level + 1)
  pub outside : IsOutside p (entries_in trees g.entries) (values_of point) level
  pub led : (b : Block) → BlockAt p level b → IsLed p (entries_in trees g.entries) level b.owner link (values_of point)

-- a game in which bits of a point leave the owner of a level's block no values
pub record MayForce (trees : List Tree) (posed : Posed) (p : Problem) (limit : ℕ) (g : Game) (level : ℕ) (point : List Word) (core : List Literal) (m : Metering) : Type 0 where
  pub posed_in : IsPosedIn trees posed
  pub is : problem_in trees posed ≡ p
  pub game : IsGame trees p limit g m
  pub undecided : IsUndecided (entries_in trees g.entries)
  pub settled : IsSettled p (entries_in trees g.entries)
  pub low : 1 ≤ level
  pub high : level ≤ block_count p
  pub sorts : sorts_of point ≡ sorts_below p level
  pub outside : IsOutside p (entries_in trees g.entries) (values_of point) level
  pub none : (q : Query) → slice_get g.queries.items (level - 1) ≡ Some q → LeavesNoValues (named trees q.list.items) (sorts_below p (level + 1)) point (lits_of core)
