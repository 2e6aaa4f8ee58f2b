use Rattle.std.proofs.Common.{◌≤◌, ◌<◌, ◌++◌, ◌∷◌, length, sym, ap, ◌∙◌, arith}
use Rattle.qv_elab_items.proofs.NamesFound.{next-oldest}
use Rattle.qv_elab_items.proofs.named.NamedIds.push_from.Goals as goal

pub bindings-preserved : goal.bindings-preserved
bindings-preserved c =
    let others = c.args.others.now in
    let lt : c.bindings.place < length others = omega (arith, c.bindings-test.true, c.len-place-end.ensures) in
    let le : c.args.from ≤ c.bindings.place = omega arith in
    c.in_ok-push.ensures.ok
    ∙ ap (λ xs. (c.at-id.result.0.now, c.at-id.result.1) ∷ xs) c.bindings.invariant
    ∙ sym (ap (λ xs. xs ++ c.args.self.now) (next-oldest others c.bindings.place c.args.from (c.at-id.result.0.now, c.at-id.result.1) le lt c.at-id.ensures))
