-- What the lanes of a game are asked, and what they are given.
use Rattle.std.specs.Prelude.{◌≡◌, ℕ, ◌+◌, ◌-◌, Some, List, [], ◌∷◌, ◌++◌, length, slice_get}
use Rattle.qv_words.specs.declared.word.Word.{Word}
use Rattle.qv_words.specs.Tree.{Tree}
use Rattle.qv_words.specs.Problem.{Problem}
use Rattle.qv_words.specs.Linked.{Entry}
use Rattle.qv_words.specs.GameLaws.{IsProblem}
use Rattle.qv_store.specs.Nodes.{tree_at}
use Rattle.qv_store.specs.Problems.{quantifier_of}
use Rattle.qv_store.specs.Walks.{named}
use Rattle.qv_meter.specs.Played.{IsPlayed, IsUndecided}
use Rattle.qv_meter.specs.Queries.{IsQueryLevel}
use Rattle.qv_meter.specs.Records.{Metering}
use Rattle.qv_meter.specs.Units.{IsQuery}
use Rattle.qv_game_play_laws.specs.PlayLaws.{sorts_below}
use Rattle.qv_game_lanes.specs.Asking.{ArePlaces, IsAnswer}
use Rattle.qv_game_lanes.specs.Lanes.{IsLane, variables_of}
use Rattle.qv_game_lanes.specs.declared.asking.Answer.{Answer}
use Rattle.qv_game_state.specs.declared.game.Game.{Game}
use Rattle.qv_game_state.specs.declared.query.Query.{Query}
use Rattle.qv_game_state.specs.Charges.{IsCharged, Tally}
use Rattle.qv_game_state.specs.Playing.{tally_of, IsQueryAt}

-- a query list of a level, that of a game's entries, and a point of the places before its block
pub record IsAsked (trees : List Tree) (p : Problem) (entries : List Entry) (limit : ℕ) (tallies : List Tally) (q : Query) (places : List ℕ) (point : List Word) (level : ℕ) (m : Metering) : Type 0 where
  pub problem : IsProblem p
  pub played : IsPlayed p entries
  pub undecided : IsUndecided entries
  pub of_level : IsQueryLevel p level
  pub query : IsQueryAt trees p entries limit (level - 2) q
  pub tally : slice_get tallies (level - 2) ≡ Some (tally_of q)
  pub charged : IsCharged p (length entries) limit tallies m
  pub at_places : ArePlaces trees places (sorts_below p level) point

-- what a query of a level is answered at a point
abbrev pub IsAnswerAt : List Tree → Problem → Query → ℕ → List Word → Answer → Type 0
IsAnswerAt trees p q level point answer = IsAnswer (named trees q.list.items) (sorts_below p level) point answer

-- what the owner of a level's block is answered at a point, by the game's query behind the block
abbrev pub IsAnswered : List Tree → Problem → Game → ℕ → List Word → Answer → Type 0
IsAnswered trees p g level point answer = (q : Query) → slice_get g.queries.items (level - 1) ≡ Some q → IsAnswerAt trees p q (level + 1) point answer

-- a query list with one formula more is one of the record's problem
pub record MayDeny (trees : List Tree) (p : Problem) (n limit level : ℕ) (formulas : List Tree) (q : Query) (formula : ℕ) (tallies : List Tally) (m : Metering) : Type 0 where
  pub charged : IsCharged p n limit tallies m
  pub list : named trees q.list.items ≡ formulas
  pub entries : List Entry
  pub longer : IsQuery p n entries (quantifier_of q.winner) level (formulas ++ tree_at trees formula ∷ [])
  pub lane : IsLane trees formulas q.lane
  pub variables : variables_of q.lane ≡ limit
  pub tally : slice_get tallies (level - 2) ≡ Some (tally_of q)

-- a lane has one formula more, and its list has its number
pub record IsDenied (trees formulas : List Tree) (old new : Query) (formula : ℕ) : Type 0 where
  pub winner : new.winner ≡ old.winner
  pub list : new.list.items ≡ old.list.items ++ formula ∷ []
  pub lane : IsLane trees (formulas ++ tree_at trees formula ∷ []) new.lane
  pub learnt : new.lane.learnt ≡ old.lane.learnt
  pub variables : variables_of new.lane ≡ variables_of old.lane
