-- An entry comes into a game: what it starts from, and what it leaves.
use Rattle.std.specs.Prelude.{◌≡◌, ℕ, ◌+◌, ◌≤◌, ◌<◌, List, [], ◌∷◌, ◌++◌, map, length}
use Rattle.qv_words.specs.declared.sort.Sort.TheVariants.{Bool as BoolSort}
use Rattle.qv_words.specs.Skolem.{IsTermOf}
use Rattle.qv_words.specs.Tree.{Tree}
use Rattle.qv_words.specs.Problem.{Problem, Quantifier}
use Rattle.qv_words.specs.Linked.{Entry}
use Rattle.qv_store.specs.declared.problem.Problem.{Problem as Posed}
use Rattle.qv_store.specs.declared.problem.Quant.{Quant}
use Rattle.qv_store.specs.Nodes.{tree_at}
use Rattle.qv_store.specs.Problems.{problem_in, quantifier_of}
use Rattle.qv_entries.specs.Rows.{Row, IsRowIn, entries_in}
use Rattle.qv_meter.specs.Played.{IsPlayed, IsUndecided}
use Rattle.qv_meter.specs.Queries.{block_count}
use Rattle.qv_meter.specs.Records.{Metering}
use Rattle.qv_game_state.specs.declared.game.Game.{Game}
use Rattle.qv_game_state.specs.declared.query.Query.{Query}
use Rattle.qv_game_state.specs.Charges.{IsCharged}
use Rattle.qv_game_state.specs.Playing.{tally_of, AreQueries, IsGame}

-- a game and an entry that may come
pub record MayEnter (trees : List Tree) (posed : Posed) (p : Problem) (limit : ℕ) (g : Game) (row : Row) (m : Metering) : Type 0 where
  pub is : problem_in trees posed ≡ p
  pub game : IsGame trees p limit g m
  pub undecided : IsUndecided (entries_in trees g.entries)
  pub row_in : IsRowIn trees row
  pub played : IsPlayed p (entries_in trees (g.entries ++ row ∷ []))

-- a game after an entry of this level and winner came
pub record IsEntered (trees : List Tree) (p : Problem) (limit : ℕ) (old new : Game) (level : ℕ) (winner : Quantifier) (m : Metering) : Type 0 where
  pub game : IsGame trees p limit new m
  pub row : Row
  pub rows : new.entries ≡ old.entries ++ row ∷ []
  pub level_is : row.level ≡ level
  pub winner_is : row.winner ≡ winner

-- queries of a game's entries, and one entry more that was charged
pub record MayTell (trees : List Tree) (p : Problem) (entries : List Entry) (e : Entry) (limit : ℕ) (queries : List Query) (m : Metering) : Type 0 where
  pub are : AreQueries trees p entries limit queries
  pub played : IsPlayed p (entries ++ e ∷ [])
  pub undecided : IsUndecided (entries ++ e ∷ [])
  pub charged : IsCharged p (length entries + 1) limit (map tally_of queries) m
  pub low : 2 ≤ e.level
  pub high : e.level ≤ block_count p
  pub formula : IsTermOf e.region BoolSort

-- the level, the winner and the region of an entry, as they are kept
pub record IsToldOf (trees : List Tree) (e : Entry) (level : ℕ) (winner : Quant) (region : ℕ) : Type 0 where
  pub level_is : e.level ≡ level
  pub winner_is : e.winner ≡ quantifier_of winner
  pub below : region < length trees
  pub region_is : e.region ≡ tree_at trees region
