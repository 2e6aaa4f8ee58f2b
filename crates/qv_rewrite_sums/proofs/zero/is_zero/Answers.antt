use Rattle.std.proofs.Common.{List, sym, subst}
use Rattle.qv_rewrite_sums.specs.declared.product.Product.{Product}
use Rattle.qv_rewrite_sums.specs.Held.{sum_at, AreOfWords}
use Rattle.qv_rewrite_sums.proofs.Held.{fit-words, words-below}
use Rattle.qv_rewrite_sums.proofs.Ordered.{order-fits}
use Rattle.qv_rewrite_sums.proofs.zero.is_zero.Goals as goal

pub with_order-requires : goal.with_order-requires
with_order-requires c = record { below = words-below c.args.store.now c.args.width c.args.sum.now (fit-words c.args.width (sum_at c.args.store.now c.args.sum.now) c.requires.fits) }

pub sides_equal-requires-clause-fits : goal.sides_equal-requires-clause-fits
sides_equal-requires-clause-fits c =
    subst (λ (p : List Product). AreOfWords c.args.width (sum_at c.args.store.now p)) (sym c.deref.ensures.value)
    (subst (AreOfWords c.args.width) (sym c.in_ok-ordered-in-None.ensures.sum) (order-fits c.args.width (sum_at c.args.store.now c.args.sum.now) c.requires.fits))
