use Rattle.std.proofs.Common.{◌++◌, ℕ, ap, ◌∙◌, arith}
use Rattle.std.proofs.lemmas.List.{length-map}
use Rattle.qv_words.specs.Word.{values_of, word_value}
use Rattle.qv_circuits.specs.Adding.{lits_of}
use Rattle.qv_game_entry_laws.specs.Fixings.{fixed, fixings}
use Rattle.qv_store.specs.Nodes.{tree_at}
use Rattle.qv_store.specs.Walks.{named}
use Rattle.qv_game_lanes.specs.Lanes.{known_at}
use Rattle.std.specs.Prelude.{option_map}
use Rattle.std.proofs.lemmas.Option.{slice_get-map}
use Rattle.qv_game_lanes.proofs.Placing.{all-fixed, at-index, named-at, one-fixed}
use Rattle.qv_game_lanes.proofs.places.assume.Goals as goal

pub places-preserved : goal.places-preserved
places-preserved c =
    let trees = c.args.store.now in
    let known = known_at trees c.args.blaster.now in
    let ids = c.args.places.now in
    let point = c.args.point.now in
    let k = c.places.place in
    let id = c.index-places-place.result in
    let word = c.index-point-place.result in
    let few = c.requires.few in
    let here = c.places-test.true in
    let term = named-at trees ids k id (at-index ids k id (omega (arith, few, here)) c.index-places-place.is) in
    let value = slice_get-map word_value point k ∙ ap (option_map word_value) (at-index point k word here c.index-point-place.is) in
    one-fixed known (named trees ids) (values_of point) (lits_of c.places.lits.items) (lits_of c.fix.new.lits.items) (fixings known (named trees ids) (values_of point))
    (lits_of c.bits_of.result.now) k (word_value word) (tree_at trees id) term value c.bits_of.ensures.bits (c.in_ok-fix.ensures ∙ ap (λ (v : ℕ). lits_of c.places.lits.items ++ fixed v (lits_of c.bits_of.result.now)) c.value.ensures) c.places.invariant

pub returns : goal.returns
returns c =
    let trees = c.args.store.now in
    let known = known_at trees c.args.blaster.now in
    let all = c.places-test.false in
    let count = length-map c.args.point.now word_value in
    all-fixed known (named trees c.args.places.now) (values_of c.args.point.now) (lits_of c.places.lits.items) (fixings known (named trees c.args.places.now) (values_of c.args.point.now)) c.places.place
    (omega (arith, all, count)) c.places.invariant
