use Rattle.std.proofs.Common.{refl, arith}
use Rattle.qv_game_lanes.proofs.Placing.{at-index}
use Rattle.qv_game.specs.Offered.{IsPlaceFor}
use Rattle.qv_game.proofs.Offered.{zip-next}
use Rattle.qv_game.proofs.offering.are_places_for.Goals as goal

pub places-preserved : goal.places-preserved
places-preserved c =
    let places = c.args.places.now in
    let words = c.args.words.now in
    let n = c.places.number in
    let same = c.if-places-words.false in
    let here = c.places-test.true in
    zip-next IsPlaceFor places words n _ c.index-words-number.result here (at-index words n c.index-words-number.result (omega (arith, here, same)) c.index-words-number.is) c.places.invariant
    (c.if-not-is_place_for.ensures refl)
