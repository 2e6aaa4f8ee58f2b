use Rattle.std.proofs.Common.{◌≡◌, ◌++◌, ◌+◌, suc, None, Some, List, map, drop, get_or, refl, sym, ap, ◌∙◌, arith}
use Rattle.std.specs.Prelude.{option_map}
use Rattle.std.proofs.lemmas.Option.{slice_get-get_or}
use Rattle.qv_words.proofs.Elements.{dropped-at}
use Rattle.qv_store.specs.Problems.{place_of}
use Rattle.qv_store.specs.declared.problem.Place.{Place}
use Rattle.qv_game_state.specs.Spans.{span_of, spans_with}
use Rattle.qv_game_state.specs.declared.spans.Span.{Span}
use Rattle.qv_game_state.proofs.Blocks.{spans-are}
use Rattle.qv_game_state.proofs.spans.spans_of.Goals as goal

pub places-init : goal.places-init
places-init c = ap (λ (ss : List Span). map span_of ss ++ spans_with 0 None (map place_of c.args.prefix.now)) c.new-spans.ensures.items ∙ spans-are (map place_of c.args.prefix.now)

pub places-preserved : goal.places-preserved
places-preserved c =
    let xs = c.args.prefix.now in
    let k = c.places.number in
    let x : Place = get_or xs k _ in
    let here = dropped-at xs k x (slice_get-get_or xs k _ c.places-test.true) in
    let next : k + 1 ≡ suc k = omega arith in
    let before = map span_of c.places.spans.items in
    let after = map span_of c.add_place.new.spans.items in
    ap (λ n. after ++ spans_with (k + 1) (Some (span_of c.in_ok-add_place.field-0)) (map place_of (drop n xs))) next
    ∙ c.in_ok-add_place.ensures (place_of x) (map place_of (drop (suc k) xs)) refl
    ∙ ap (λ (ps : List Place). before ++ spans_with k (option_map span_of c.places.last) (map place_of ps)) (sym here)
    ∙ c.places.invariant
