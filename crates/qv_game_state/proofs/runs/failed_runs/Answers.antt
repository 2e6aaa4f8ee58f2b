use Rattle.std.proofs.Common.{◌≡◌, ◌++◌, ◌∙◌, ℕ, Bool, List, map, ap, arith}
use Rattle.std.specs.Prelude.{option_map}
use Rattle.std.proofs.lemmas.List.{length-map}
use Rattle.std.proofs.lemmas.Option.{slice_get-map}
use Rattle.qv_words.specs.Word.{values_of, word_value}
use Rattle.qv_words.specs.Gate.{Lit}
use Rattle.qv_cnf_bridge_laws.specs.Bridge.{literal_for}
use Rattle.qv_circuits.specs.Adding.{lits_of}
use Rattle.qv_game_entry_laws.specs.Fixings.{named_in, named_runs}
use Rattle.qv_store.specs.Nodes.{tree_at}
use Rattle.qv_store.specs.Walks.{named}
use Rattle.qv_game_lanes.specs.Lanes.{known_of}
use Rattle.qv_game_lanes.proofs.Placing.{at-index, named-at}
use Rattle.qv_game_regions.specs.Runs.{run_of}
use Rattle.qv_game_state.specs.Naming.{is_marked_in, named_by}
use Rattle.qv_game_state.proofs.Naming.{all-named, one-named}
use Rattle.qv_game_state.proofs.runs.failed_runs.Goals as goal

pub places-preserved : goal.places-preserved
places-preserved c =
    let trees = c.args.store.now in
    let known = known_of trees c.args.lane.now in
    let ids = c.args.places.now in
    let point = c.args.point.now in
    let k = c.places.place in
    let id = c.index-places-place.result in
    let word = c.index-point-place.result in
    let mark = is_marked_in c.in_ok-marks.marks.items in
    let few = c.requires.few in
    let here = c.places-test.true in
    let term = named-at trees ids k id (at-index ids k id (omega (arith, few, here)) c.index-places-place.is) in
    let value = slice_get-map word_value point k ∙ ap (option_map word_value) (at-index point k word here c.index-point-place.is) in
    let bits = lits_of c.bits-bits.result.now in
    one-named mark known (named trees ids) (values_of point) (map run_of c.places.runs.items) (map run_of c.add_runs.new.runs.items) (named_runs mark known 0 (named trees ids) (values_of point))
    bits k (word_value word) (tree_at trees id) term value c.bits-bits.ensures.bits
    (c.in_ok-add_runs.ensures ∙ ap (λ (ms : List Bool). map run_of c.places.runs.items ++ named_in (is_marked_in ms) k c.value.result bits) c.deref.ensures.value ∙ ap (λ (v : ℕ). map run_of c.places.runs.items ++ named_in mark k v bits) c.value.ensures) c.places.invariant

pub returns : goal.returns
returns c =
    let trees = c.args.store.now in
    let known = known_of trees c.args.lane.now in
    let ts = named trees c.args.places.now in
    let vs = values_of c.args.point.now in
    let marks = c.in_ok-marks.marks.items in
    let all = c.places-test.false in
    let count = length-map c.args.point.now word_value in
    let same : is_marked_in marks ≡ named_by c.args.core.now = λ i l. c.in_ok-marks.ensures (literal_for l) i in
    all-named (is_marked_in marks) known ts vs (map run_of c.places.runs.items) (named_runs (is_marked_in marks) known 0 ts vs) c.places.place (omega (arith, all, count)) c.places.invariant
    ∙ ap (λ (f : Lit → Bool). named_runs f known 0 ts vs) same
