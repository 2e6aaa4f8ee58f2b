-- Words that are offered for the places of a problem's only block.
use Rattle.std.specs.Prelude.{◌≡◌, List, map, length, All}
use Rattle.qv_words.specs.declared.word.Word.{Word}
use Rattle.qv_words.specs.Word.{sorts_of, values_of, word_sort}
use Rattle.qv_words.specs.Tree.{Tree}
use Rattle.qv_words.specs.Choice.{IsTrueAt}
use Rattle.qv_words.specs.Problem.{Problem, Existential}
use Rattle.qv_words.specs.Linked.{HoldsFirst}
use Rattle.qv_store.specs.declared.problem.Place.{Place}
use Rattle.qv_store.specs.Problems.{quantifier_of}
use Rattle.qv_entries.specs.Rows.{Row, IsRowIn, entries_in}
use Rattle.qv_meter.specs.Played.{IsPlayed}
use Rattle.qv_meter.specs.Records.{Metering}
use Rattle.qv_game_state.specs.Starting.{HasCharged}

-- the place is the existential player's, and the word has its sort
pub record IsPlaceFor (place : Place) (w : Word) : Type 0 where
  pub owned : quantifier_of place.quant ≡ Existential
  pub sort : word_sort w ≡ place.sort

-- all places are the existential player's, and the words have their sorts and make the matrix true
pub record WinsAt (p : Problem) (point : List Word) : Type 0 where
  pub owned : All (λ place. place.quantifier ≡ Existential) p.prefix
  pub sorts : sorts_of point ≡ map (λ place. place.sort) p.prefix
  pub holds : IsTrueAt (values_of point) p.matrix

-- entries by which this player has won the game, which were charged
pub record IsWonAt (trees : List Tree) (p : Problem) (entries : List Row) (m : Metering) : Type 0 where
  pub played : IsPlayed p (entries_in trees entries)
  pub won : HoldsFirst Existential (entries_in trees entries)
  pub rows : All (IsRowIn trees) entries
  pub charged : HasCharged p (length entries) m
