use Rattle.std.proofs.Common.{◌<◌, ◌^◌, List, ap, sym, ◌∙◌, subst}
use Rattle.std.proofs.lemmas.List.Elements.{All-from_recursion}
use Rattle.qv_words.specs.declared.sort.Sort.TheVariants.{Bits}
use Rattle.qv_words.specs.Sums.{Polynomial, subtracted, difference_term}
use Rattle.qv_store.proofs.Replacement.{if-ok}
use Rattle.qv_rewrite_sums.specs.declared.product.Product.{Product}
use Rattle.qv_rewrite_sums.specs.Held.{sum_at, AreOfWords, StandsAs}
use Rattle.qv_rewrite_sums.proofs.Held.{values-below}
use Rattle.qv_rewrite_sums.proofs.Fitting.{added-fits, subtracted-fits}
use Rattle.qv_rewrite_sums.proofs.building.ordered_term.Goals as goal

pub added-requires-clause-values : goal.added-requires-clause-values
added-requires-clause-values c =
    All-from_recursion (λ (m : Product). m.coefficient < 2 ^ c.args.width) c.args.ordered.now (values-below c.args.store.now c.args.width c.args.ordered.now c.requires.fits)

pub subtracted-requires-clause-values : goal.subtracted-requires-clause-values
subtracted-requires-clause-values c =
    All-from_recursion (λ (m : Product). m.coefficient < 2 ^ c.args.width) c.args.ordered.now (values-below c.args.store.now c.args.width c.args.ordered.now c.requires.fits)

pub difference_term-requires : goal.difference_term-requires
difference_term-requires c = record {
  low = c.requires.low;
  high = c.requires.high;
  plus = subst (λ (p : List Product). AreOfWords c.args.width (sum_at c.args.store.now p)) (sym c.deref.ensures.value)
      (subst (AreOfWords c.args.width) (sym (c.in_ok-plus.ensures c.args.store.now)) (added-fits c.args.width (sum_at c.args.store.now c.args.ordered.now) c.requires.fits));
  minus = subst (λ (p : List Product). AreOfWords c.args.width (sum_at c.args.store.now p)) (sym c.deref-2.ensures.value)
      (subst (AreOfWords c.args.width) (sym (c.in_ok-minus.ensures c.args.store.now)) (subtracted-fits c.args.width (sum_at c.args.store.now c.args.ordered.now) c.requires.fits));
}

pub returns-clause-id : goal.returns-clause-id
returns-clause-id c =
    let trees = c.args.store.now in
    let first = ap (sum_at trees) c.deref.ensures.value ∙ c.in_ok-plus.ensures trees in
    let second = ap (sum_at trees) c.deref-2.ensures.value ∙ c.in_ok-minus.ensures trees in
    if-ok c.difference_term.result (λ id s.
    subst (λ (p : Polynomial). StandsAs c.difference_term.new.store (Bits c.args.width) id (difference_term c.args.width p (subtracted c.args.width (sum_at trees c.args.ordered.now)))) first
    (subst (λ (q : Polynomial). StandsAs c.difference_term.new.store (Bits c.args.width) id (difference_term c.args.width (sum_at trees c.deref.result.now) q)) second s)) c.difference_term.ensures.id
