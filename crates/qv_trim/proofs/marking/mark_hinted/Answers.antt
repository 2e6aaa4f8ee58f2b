use Rattle.std.proofs.Common.{◌≡◌, ℕ, ◌+◌, ◌||◌, ℤ, pos, [], ◌∷◌, ◌++◌, map, take, get_or, to_z, of_z, w64, FitsSigned, unsigned_abs, rules, subst, ap, ◌∙◌}
use Rattle.std.proofs.lemmas.Bool.{or_parts}
use Rattle.std.proofs.lemmas.Int.{to_z-of_z}
use Rattle.std.proofs.lemmas.List.{map-append, take_more}
use Rattle.qv_trim.specs.Marking.{HasId, Marks}
use Rattle.qv_trim.proofs.Marked.{hinted-more}
use Rattle.qv_trim.proofs.marking.mark_hinted.Goals as goal

pub hints-preserved : goal.hints-preserved
hints-preserved c =
    let es = c.args.entries.now in
    let hints = c.args.hints.now in
    let i = c.hints.hint-index in
    let hint : ℤ = get_or hints i (pos 0) in
    let fits : FitsSigned w64 hint = search rules in
    let whole : to_z w64 (of_z w64 hint) ≡ hint = to_z-of_z w64 hint fits in
    let id : c.unsigned_abs.result ≡ unsigned_abs hint = c.unsigned_abs.ensures.value ∙ ap unsigned_abs whole in
    let more : map unsigned_abs (take (i + 1) hints) ≡ map unsigned_abs (take i hints) ++ unsigned_abs hint ∷ [] =
    ap (map unsigned_abs) (take_more hints i (pos 0) c.hints-test.true) ∙ map-append unsigned_abs (take i hints) (hint ∷ [])
    in
    hinted-more es c.args.at (map unsigned_abs (take i hints)) (map unsigned_abs (take (i + 1) hints)) (unsigned_abs hint) c.args.marks.now c.hints.marks c.mark-again.new.marks c.hints.again c.mark-again.result (c.hints.again || c.mark-again.result) more
    c.hints.invariant (subst (λ (n : ℕ). Marks es (HasId es (n ∷ [])) c.args.at c.hints.marks c.mark-again.new.marks c.mark-again.result) id c.mark-again.ensures) (λ e. or_parts c.hints.again c.mark-again.result e)
