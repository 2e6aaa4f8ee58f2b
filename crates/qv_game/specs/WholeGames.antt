-- A whole game: before any entry, and at its end.
use Rattle.std.specs.Prelude.{◌≡◌, ℕ, List, [], length, All}
use Rattle.qv_words.specs.Tree.{Tree}
use Rattle.qv_words.specs.Problem.{Problem}
use Rattle.qv_words.specs.Linked.{HoldsFirst}
use Rattle.qv_words.specs.GameLaws.{HasWon}
use Rattle.qv_store.specs.declared.problem.Problem.{Problem as Posed}
use Rattle.qv_store.specs.declared.problem.Quant.{Quant}
use Rattle.qv_store.specs.Problems.{problem_in, quantifier_of, IsPosedIn}
use Rattle.qv_entries.specs.Rows.{entries_in, IsRowIn}
use Rattle.qv_meter.specs.Played.{IsPlayed}
use Rattle.qv_meter.specs.Records.{Metering}
use Rattle.qv_game_state.specs.declared.game.Game.{Game}
use Rattle.qv_game_state.specs.Playing.{IsGame}
use Rattle.qv_game_state.specs.Starting.{HasCharged}
use Rattle.qv_game.specs.declared.playing.Played.{Played}
use Rattle.qv_game.specs.Played.{IsKept}

-- a game of a problem of the store that has places, before any entry
pub record MayPlay (trees : List Tree) (posed : Posed) (p : Problem) (limit : ℕ) (g : Game) (m : Metering) : Type 0 where
  pub posed_in : IsPosedIn trees posed
  pub is : problem_in trees posed ≡ p
  pub some : p.prefix ≡ [] → ⊥
  pub game : IsGame trees p limit g m
  pub none : g.entries ≡ []

-- a game in which this player holds level 1
abbrev pub IsOver : List Tree → Problem → ℕ → Game → Metering → Quant → Type 0
IsOver trees p limit g m winner = IsGame trees p limit g m × HoldsFirst (quantifier_of winner) (entries_in trees g.entries)

-- what is said of a game that was won
pub record IsWonBy (trees : List Tree) (p : Problem) (w : Played) (m : Metering) : Type 0 where
  pub played : IsPlayed p (entries_in trees w.won.entries)
  pub won : HasWon p (quantifier_of w.won.winner) (entries_in trees w.won.entries)
  pub rows : All (IsRowIn trees) w.won.entries
  pub charged : HasCharged p (length w.won.entries) m
  pub kept : IsKept trees p (quantifier_of w.won.winner) w.lane m
