use Rattle.std.proofs.Common.{ℕ, Bool, not, length, ap, sym, ◌∙◌}
use Rattle.std.specs.Prelude.{Option, unwrap_or}
use Rattle.qv_words.specs.Sums.{comes_before}
use Rattle.qv_store.specs.Nodes.{tree_at}
use Rattle.qv_rewrite_sums.proofs.Lists.{place-found, place-more}
use Rattle.qv_rewrite_sums.proofs.ordering.place_of_factor.Goals as goal

pub returns-then-not-comes_before-clause-place : goal.returns-then-not-comes_before-clause-place
returns-then-not-comes_before-clause-place c =
    let test : ℕ → Bool = λ other. not (comes_before (tree_at c.args.store.now other) (tree_at c.args.store.now c.args.next)) in
    let x = c.index-ordered-place.result in
    sym (ap (λ (q : Option ℕ). unwrap_or q (length c.args.ordered.now))
    (place-found test c.args.ordered.now c.factors.place x c.factors.invariant c.factors-test.true (ap test (sym c.index-ordered-place.is) ∙ ap not (sym c.comes_before.ensures ∙ c.if-not-comes_before.true))))

pub factors-preserved : goal.factors-preserved
factors-preserved c =
    let test : ℕ → Bool = λ other. not (comes_before (tree_at c.args.store.now other) (tree_at c.args.store.now c.args.next)) in
    let x = c.index-ordered-place.result in
    place-more test c.args.ordered.now c.factors.place x c.factors.invariant c.factors-test.true (ap test (sym c.index-ordered-place.is) ∙ ap not (sym c.comes_before.ensures ∙ c.if-not-comes_before.false))
