use Rattle.std.proofs.Common.{◌≡◌, ◌+◌, suc, List, ◌∷◌, [], ◌++◌, map, take, get_or, sym, ap, ◌∙◌, subst, arith}
use Rattle.std.proofs.lemmas.List.{map-append}
use Rattle.std.proofs.lemmas.Option.{slice_get-get_or}
use Rattle.qv_words.proofs.Elements.{take-one}
use Rattle.qv_game_state.specs.declared.spans.Span.{Span as Kept}
use Rattle.qv_game_state.specs.declared.query.Query.{Query}
use Rattle.qv_game_state.specs.Spans.{Span, span_of}
use Rattle.qv_game_state.specs.Starting.{AreNew, IsNew}
use Rattle.qv_store.specs.Problems.{quantifier_of}
use Rattle.qv_game_state.proofs.Begun.{new-push}
use Rattle.qv_game_state.proofs.starting.new_queries.Goals as goal

pub spans-preserved : goal.spans-preserved
spans-preserved c trees shared =
    let xs = c.args.spans.now in
    let k = c.spans.span-index in
    let x : Kept = get_or xs k _ in
    let q = c.in_ok-new_query.field-0 in
    let new = c.in_ok-new_query.ensures trees shared in
    let next : k + 1 ≡ suc k = omega arith in
    let front : map span_of (take (k + 1) xs) ≡ map span_of (take k xs) ++ span_of x ∷ [] =
    ap (λ n. map span_of (take n xs)) next ∙ ap (map span_of) (take-one xs k x (slice_get-get_or xs k _ c.spans-test.true)) ∙ map-append span_of (take k xs) (x ∷ []) in
    let own = subst (λ w. IsNew trees c.args.limit w q) (sym new.winner_is) new in
    let who = ap quantifier_of new.winner_is ∙ c.opponent.ensures in
    let pushed = new-push trees c.args.limit (map span_of (take k xs)) c.spans.queries.items (span_of x) q (c.spans.invariant trees shared) own who in
    subst (λ (ss : List Span). AreNew trees c.args.limit ss c.push.new.self.items) (sym front)
    (subst (λ (qs : List Query). AreNew trees c.args.limit (map span_of (take k xs) ++ span_of x ∷ []) qs) (sym c.in_ok-push.ensures.items) pushed)
