use Rattle.std.proofs.Common.{◌≡◌, ◌-◌, ◌+◌, ℕ, List, Option, [], length, ap, sym, ◌∙◌, subst, arith, Vec, Global}
use Rattle.std.specs.Prelude.{IfSome}
use Rattle.std.specs.Vec.{vec_len}
use Rattle.qv_words.specs.declared.word.Word.{Word}
use Rattle.qv_words.specs.Word.{sorts_of}
use Rattle.qv_words.specs.Problem.{Problem}
use Rattle.qv_meter.specs.Queries.{block_count}
use Rattle.qv_game_lanes.proofs.Placing.{at-index}
use Rattle.qv_game_play_laws.specs.PlayLaws.{sorts_below}
use Rattle.qv_game_state.specs.Playing.{IsPlaying}
use Rattle.qv_game.proofs.Rounds.{sought-playing}
use Rattle.qv_game.proofs.playing.first_spot.Goals as goal
use Rattle.qv_game.proofs.playing.first_spot.Goals.{then-levels-ge-FEWEST+in_ok-point+in_default, else-levels-ge-FEWEST}

pub returns-in-Some-clause-playing : goal.returns-in-Some-clause-playing
returns-in-Some-clause-playing c p limit h none =
    let trees = c.args.store.now in
    let g = c.seek.new.self in
    let levels = c.len-levels.result in
    let values = c.in-Some.point.items in
    let same : levels ≡ vec_len g.spans = c.len-levels.ensures ∙ ap (λ v. vec_len v) (sym c.seek.ensures.spans) in
    let many : levels ≡ length g.spans.items = omega (arith, same, g.spans.ok.0) in
    let low = c.if-levels-ge-FEWEST.true in
    let at = at-index g.spans.items (levels - 1) c.index.result.now (omega (arith, many, low)) c.index.ensures in
    let sorts = subst (λ (o : Option (Vec Word Global)). IfSome o (λ found. (q : Problem) (most : ℕ) → IsPlaying trees q most c.args.game.now 1 [] c.args.meter.now → sorts_of found.items ≡ sorts_below q (block_count q + 1))) c.in-Some.is c.in_ok-point.ensures.values p limit h in
    subst (λ (ws : List Word). IsPlaying trees p limit g levels ws c.seek.new.meter) (sym c.truncate.ensures.items)
    (sought-playing trees p limit g levels values c.index.result.now c.seek.new.meter (c.seek.ensures.playing p limit h) (c.seek.ensures.entries ∙ none) (omega (arith, low)) many at sorts)

pub returns-clause-playing : goal.returns-clause-playing
returns-clause-playing c p limit h none =
    let trees = c.args.store.now in
    subst (λ (ws : List Word). IsPlaying trees p limit c.if-levels-ge-FEWEST.game 1 ws c.if-levels-ge-FEWEST.meter) (sym c.new.ensures.items)
    (elim c.if-levels-ge-FEWEST.branch [
      | then-levels-ge-FEWEST+in_ok-point+in_default w ↦
          subst (λ g. IsPlaying trees p limit g 1 [] c.if-levels-ge-FEWEST.meter) (sym w.game-is)
          (subst (λ m. IsPlaying trees p limit w.seek.new.self 1 [] m) (sym w.meter-is) (w.seek.ensures.playing p limit h))
      | else-levels-ge-FEWEST w ↦
          subst (λ g. IsPlaying trees p limit g 1 [] c.if-levels-ge-FEWEST.meter) (sym w.game-is)
          (subst (λ m. IsPlaying trees p limit c.args.game.now 1 [] m) (sym w.meter-is) h)
    ])
