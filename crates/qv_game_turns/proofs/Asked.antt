-- A turn: the game after its level's query was asked, and what the answer says of it.
use Rattle.std.proofs.Common.{◌≡◌, ℕ, List, sym, subst}
use Rattle.qv_words.specs.declared.word.Word.{Word}
use Rattle.qv_words.specs.Tree.{Tree}
use Rattle.qv_words.specs.Problem.{Problem}
use Rattle.qv_store.specs.declared.problem.Problem.{Problem as Posed}
use Rattle.qv_meter.specs.Records.{Metering}
use Rattle.qv_game_lanes.specs.declared.asking.Answer.{Answer}
use Rattle.qv_game_state.specs.declared.game.Game.{Game}
use Rattle.qv_game_turns.specs.declared.turns.Spot.{Spot}
use Rattle.qv_game_state.specs.Asking.{IsAnswered}
use Rattle.qv_game_state.specs.Playing.{IsPlaying}
use Rattle.qv_game_turns.specs.Turns.{MayTurn}

pub asked-turn : (trees : List Tree) (posed : Posed) (p : Problem) (limit : ℕ) (g next : Game) (spot : Spot) (point : List Word) (m after : Metering) → point ≡ spot.point.items → MayTurn trees posed p limit g spot m → (IsPlaying trees p limit g spot.level point m → IsPlaying trees p limit next spot.level point after) → MayTurn trees posed p limit next spot after
asked-turn trees posed p limit g next spot point m after same h asked = record {
  posed_in = h.posed_in;
  is = h.is;
  playing = subst (λ (ws : List Word). IsPlaying trees p limit next spot.level ws after) same
      (asked (subst (λ (ws : List Word). IsPlaying trees p limit g spot.level ws m) (sym same) h.playing));
}

-- its answer, at the point that there is now
pub answered-now : (trees : List Tree) (posed : Posed) (p : Problem) (limit : ℕ) (g next : Game) (spot : Spot) (point : List Word) (m : Metering) (answer : Answer) → point ≡ spot.point.items → MayTurn trees posed p limit g spot m → (IsPlaying trees p limit g spot.level point m → IsAnswered trees p next spot.level point answer) → IsAnswered trees p next spot.level spot.point.items answer
answered-now trees posed p limit g next spot point m answer same h answered =
    let given = answered (subst (λ (ws : List Word). IsPlaying trees p limit g spot.level ws m) (sym same) h.playing) in
    subst (λ (ws : List Word). IsAnswered trees p next spot.level ws answer) same given
