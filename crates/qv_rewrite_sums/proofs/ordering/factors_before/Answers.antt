use Rattle.std.proofs.Common.{◌≡◌, true, map, drop, sym, ◌∙◌}
use Rattle.qv_words.specs.Sums.{factors_before}
use Rattle.qv_store.specs.Nodes.{tree_at}
use Rattle.qv_rewrite_sums.proofs.Ordered.{factors-longer, factors-decided}
use Rattle.qv_rewrite_sums.proofs.ordering.factors_before.Goals.{then-place-b-via-then-place-b, then-place-b-via-else-place-b+then-comes_before}
use Rattle.qv_rewrite_sums.proofs.ordering.factors_before.Goals as goal

pub returns-then-place-b : goal.returns-then-place-b
returns-then-place-b c =
    let trees = c.args.store.now in
    let a = c.args.a.now in
    let b = c.args.b.now in
    let k = c.factors.place in
    let left : factors_before (map (tree_at trees) (drop k a)) (map (tree_at trees) (drop k b)) ≡ true =
    elim c.then-place-b.branch [
      | then-place-b-via-then-place-b w ↦ factors-longer trees a b k c.factors-test.true w.if-place-b.true
      | then-place-b-via-else-place-b+then-comes_before w ↦ factors-decided trees a b k w.index-a-place.result w.index-b-place.result c.factors-test.true w.if-place-b.false w.index-a-place.is w.index-b-place.is (sym w.comes_before.ensures ∙ w.if-comes_before.true)
    ] in
    sym (sym c.factors.invariant.same ∙ left)
