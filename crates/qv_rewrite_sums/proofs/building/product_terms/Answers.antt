use Rattle.std.proofs.Common.{◌+◌, ℕ, List, [], take, refl, sym, subst}
use Rattle.std.proofs.lemmas.List.{take_all}
use Rattle.qv_store.proofs.Replacement.{grows-more}
use Rattle.qv_rewrite_sums.specs.declared.product.Product.{Product}
use Rattle.qv_rewrite_sums.specs.Held.{monomial_at, IsOfWords}
use Rattle.qv_rewrite_sums.proofs.Held.{at-mapped}
use Rattle.qv_rewrite_sums.proofs.Built.{grows-itself, AreTerms, product-fits, terms-more}
use Rattle.qv_rewrite_sums.proofs.building.product_terms.Goals as goal

pub products-init : goal.products-init
products-init c = record {
  grows = grows-itself c.args.store.now;
  terms = subst (λ (ids : List ℕ). AreTerms c.args.store.now c.args.store.now c.args.width ids []) (sym c.new-terms.ensures.items) (record { terms = refl; words = tt });
}

pub product_term-requires-clause-fits : goal.product_term-requires-clause-fits
product_term-requires-clause-fits c =
    let x = c.product-item.result in
    let same = product-fits c.args.store.now c.products.store c.args.width c.args.sum.now c.products.product-index x c.products.invariant.grows c.products-test.true c.product-item.is c.requires.fits in
    subst (IsOfWords c.args.width) (sym same) (at-mapped (IsOfWords c.args.width) (monomial_at c.args.store.now) c.args.sum.now c.products.product-index x c.requires.fits c.products-test.true c.product-item.is)

pub products-preserved : goal.products-preserved
products-preserved c =
    let more =
    terms-more c.args.store.now c.products.store c.product_term.new.store c.args.width c.products.product-index c.products.terms.items c.in_ok-term.term c.args.sum.now c.product-item.result
    c.products.invariant.grows c.product_term.ensures.grows c.products-test.true c.product-item.is c.requires.fits c.products.invariant.terms c.in_ok-term.ensures.id in
    record {
      grows = grows-more c.args.store.now c.products.store c.product_term.new.store c.products.invariant.grows c.product_term.ensures.grows;
      terms = subst (λ (ids : List ℕ). AreTerms c.args.store.now c.product_term.new.store c.args.width ids (take (c.products.product-index + 1) c.args.sum.now)) (sym c.in_ok-push.ensures.items) more;
    }

pub returns : goal.returns
returns c =
    let whole = subst (λ (ps : List Product). AreTerms c.args.store.now c.products.store c.args.width c.products.terms.items ps) (take_all c.products.product-index c.args.sum.now c.products-test.false) c.products.invariant.terms in
    record { terms = whole.terms; words = whole.words; grows = c.products.invariant.grows }
