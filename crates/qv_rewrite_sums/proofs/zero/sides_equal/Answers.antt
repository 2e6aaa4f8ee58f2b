use Rattle.std.proofs.Common.{◌^◌, ◌<◌, List, sym, subst}
use Rattle.std.proofs.lemmas.List.Elements.{All-from_recursion}
use Rattle.qv_rewrite_sums.specs.declared.product.Product.{Product}
use Rattle.qv_rewrite_sums.specs.Held.{sum_at, AreOfWords}
use Rattle.qv_rewrite_sums.proofs.Held.{values-below}
use Rattle.qv_rewrite_sums.proofs.Fitting.{added-fits, subtracted-fits}
use Rattle.qv_rewrite_sums.proofs.zero.sides_equal.Goals as goal

pub added-requires-clause-values : goal.added-requires-clause-values
added-requires-clause-values c =
    All-from_recursion (λ (m : Product). m.coefficient < 2 ^ c.args.width) c.args.ordered.now (values-below c.args.store.now c.args.width c.args.ordered.now c.requires.fits)

pub subtracted-requires-clause-values : goal.subtracted-requires-clause-values
subtracted-requires-clause-values c =
    All-from_recursion (λ (m : Product). m.coefficient < 2 ^ c.args.width) c.args.ordered.now (values-below c.args.store.now c.args.width c.args.ordered.now c.requires.fits)

pub is_turned-requires-clause-values : goal.is_turned-requires-clause-values
is_turned-requires-clause-values c =
    All-from_recursion (λ (m : Product). m.coefficient < 2 ^ c.args.width) c.args.ordered.now (values-below c.args.store.now c.args.width c.args.ordered.now c.requires.fits)

pub equation-requires-clause-a : goal.equation-requires-clause-a
equation-requires-clause-a c =
    subst (λ (p : List Product). AreOfWords c.args.width (sum_at c.args.store.now p)) (sym c.deref.ensures.value)
    (subst (AreOfWords c.args.width) (sym (c.in_ok-minus.ensures c.args.store.now)) (subtracted-fits c.args.width (sum_at c.args.store.now c.args.ordered.now) c.requires.fits))

pub equation-requires-clause-b : goal.equation-requires-clause-b
equation-requires-clause-b c =
    subst (λ (p : List Product). AreOfWords c.args.width (sum_at c.args.store.now p)) (sym c.deref-then-is_turned.ensures.value)
    (subst (AreOfWords c.args.width) (sym (c.in_ok-plus.ensures c.args.store.now)) (added-fits c.args.width (sum_at c.args.store.now c.args.ordered.now) c.requires.fits))

pub equation-requires-else-is_turned-clause-a : goal.equation-requires-else-is_turned-clause-a
equation-requires-else-is_turned-clause-a c =
    subst (λ (p : List Product). AreOfWords c.args.width (sum_at c.args.store.now p)) (sym c.deref-else-is_turned.ensures.value)
    (subst (AreOfWords c.args.width) (sym (c.in_ok-plus.ensures c.args.store.now)) (added-fits c.args.width (sum_at c.args.store.now c.args.ordered.now) c.requires.fits))

pub equation-requires-else-is_turned-clause-b : goal.equation-requires-else-is_turned-clause-b
equation-requires-else-is_turned-clause-b c =
    subst (λ (p : List Product). AreOfWords c.args.width (sum_at c.args.store.now p)) (sym c.deref-else-is_turned-2.ensures.value)
    (subst (AreOfWords c.args.width) (sym (c.in_ok-minus.ensures c.args.store.now)) (subtracted-fits c.args.width (sum_at c.args.store.now c.args.ordered.now) c.requires.fits))
