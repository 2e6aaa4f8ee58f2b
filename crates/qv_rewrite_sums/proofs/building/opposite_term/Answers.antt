use Rattle.std.proofs.Common.{ap, sym, ◌∙◌, subst}
use Rattle.qv_rewrite_sums.specs.Held.{sum_at, AreOfWords}
use Rattle.qv_rewrite_sums.proofs.Fitting.{others-fit}
use Rattle.qv_rewrite_sums.proofs.building.opposite_term.Goals as goal

pub sum_term-requires-clause-fits : goal.sum_term-requires-clause-fits
sum_term-requires-clause-fits c =
    let same = ap (sum_at c.args.store.now) c.deref-then-unwrap_or-eq1.ensures.value ∙ c.in_ok-others.ensures c.args.store.now in
    subst (AreOfWords c.args.width) (sym same) (others-fit c.args.width (sum_at c.args.store.now c.args.sum.now) c.requires.fits)
