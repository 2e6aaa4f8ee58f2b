use Rattle.std.proofs.Common.{◌≡◌, ℕ, Option, Some, None, List, ap, sym, ◌∙◌, subst}
use Rattle.qv_words.specs.declared.sort.Sort.TheVariants.{Bits}
use Rattle.qv_words.specs.Sums.{Polynomial, number_of, with_order, added, subtracted, difference_term, term_from}
use Rattle.qv_store.proofs.Replacement.{if-ok}
use Rattle.qv_rewrite_sums.specs.declared.product.Product.{Product}
use Rattle.qv_rewrite_sums.specs.Held.{sum_at, AreOfWords, StandsAs}
use Rattle.qv_rewrite_sums.proofs.Held.{fit-words, words-below}
use Rattle.qv_rewrite_sums.proofs.Ordered.{order-fits}
use Rattle.qv_rewrite_sums.proofs.Fitting.{number-fits}
use Rattle.qv_rewrite_sums.proofs.building.word_term.Goals as goal

pub put_number-requires-clause-value : goal.put_number-requires-clause-value
put_number-requires-clause-value c =
    number-fits c.args.width (sum_at c.args.store.now c.args.sum.now) c.in-Some.value c.requires.fits (sym (c.number_of.ensures c.args.store.now) ∙ c.in-Some.is)

pub with_order-requires : goal.with_order-requires
with_order-requires c = record { below = words-below c.args.store.now c.args.width c.args.sum.now (fit-words c.args.width (sum_at c.args.store.now c.args.sum.now) c.requires.fits) }

pub ordered_term-requires : goal.ordered_term-requires
ordered_term-requires c = record {
  low = c.requires.low;
  high = c.requires.high;
  fits = subst (λ (p : List Product). AreOfWords c.args.width (sum_at c.args.store.now p)) (sym c.deref.ensures.value)
      (subst (AreOfWords c.args.width) (sym c.in_ok-ordered-in-None.ensures.sum) (order-fits c.args.width (sum_at c.args.store.now c.args.sum.now) c.requires.fits));
}

pub returns-in-Some-clause-id : goal.returns-in-Some-clause-id
returns-in-Some-clause-id c =
    let p = sum_at c.args.store.now c.args.sum.now in
    let is : Some c.in-Some.value ≡ number_of p = sym c.in-Some.is ∙ c.number_of.ensures c.args.store.now in
    if-ok c.put_number.result (λ id s. subst (λ (q : Option ℕ). StandsAs c.put_number.new.store (Bits c.args.width) id (term_from c.args.width (with_order p) q)) is s) c.put_number.ensures.id

pub returns-in_ok-ordered-in-None-clause-id : goal.returns-in_ok-ordered-in-None-clause-id
returns-in_ok-ordered-in-None-clause-id c =
    let p = sum_at c.args.store.now c.args.sum.now in
    let w = c.args.width in
    let is : None ≡ number_of p = sym c.in-None.is ∙ c.number_of.ensures c.args.store.now in
    let ordered = ap (sum_at c.args.store.now) c.deref.ensures.value ∙ c.in_ok-ordered-in-None.ensures.sum in
    if-ok c.ordered_term.result (λ id s. subst (λ (q : Option ℕ). StandsAs c.ordered_term.new.store (Bits w) id (term_from w (with_order p) q)) is
    (subst (λ (q : Polynomial). StandsAs c.ordered_term.new.store (Bits w) id (difference_term w (added w q) (subtracted w q))) ordered s)) c.ordered_term.ensures.id
