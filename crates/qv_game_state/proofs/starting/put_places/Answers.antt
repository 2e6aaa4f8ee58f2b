use Rattle.std.proofs.Common.{get_or}
use Rattle.std.proofs.lemmas.Option.{slice_get-get_or}
use Rattle.qv_store.proofs.Replacement.{grows-more}
use Rattle.qv_store.specs.declared.problem.Place.{Place}
use Rattle.qv_game_state.proofs.Begun.{placed}
use Rattle.qv_game_state.proofs.starting.put_places.Goals as goal

pub places-preserved : goal.places-preserved
places-preserved c =
    let xs = c.args.prefix.now in
    let k = c.places.level in
    let x : Place = get_or xs k _ in
    let both = placed c.places.store c.put_place.new.store xs k x c.places.ids.items c.push.new.self.items c.in_ok-put_place.field-0 c.put_place.ensures.grows (slice_get-get_or xs k _ c.places-test.true) c.places.invariant.below c.places.invariant.places c.in_ok-put_place.ensures.id c.in_ok-push.ensures.items in
    record {
      below = both.0;
      places = both.1;
      grows = grows-more c.args.store.now c.places.store c.put_place.new.store c.places.invariant.grows c.put_place.ensures.grows;
    }
