use Rattle.std.proofs.Common.{◌++◌, ◌∷◌, [], ◌∙◌, Bool, List, cond, not, ap, refl}
use Rattle.std.specs.Prelude.{filter}
use Rattle.qv_words.specs.Sums.{Monomial, has_factors}
use Rattle.qv_rewrite_sums.specs.declared.product.Product.{Product}
use Rattle.qv_rewrite_sums.specs.Held.{monomial_at, sum_at}
use Rattle.qv_rewrite_sums.proofs.Lists.{some-step, all-made}
use Rattle.qv_rewrite_sums.proofs.parts.without_factors.Goals as goal

pub products-preserved : goal.products-preserved
products-preserved c = λ trees.
    let x = c.one-item.result in
    some-step (λ (ps : List Product). filter (λ (m : Monomial). not (has_factors m)) (sum_at trees ps)) (sum_at trees c.products.part.items) (sum_at trees c.push_if.new.part.items) (not (has_factors (monomial_at trees x))) (monomial_at trees x) c.args.sum.now c.products.one-index x c.products-test.true c.one-item.is
    (c.in_ok-push_if.ensures trees ∙ ap (λ (b : Bool). sum_at trees c.products.part.items ++ cond (not b) (monomial_at trees x ∷ []) []) (c.has_factors-unwanted.ensures trees)) refl
    ∙ c.products.invariant trees

pub returns : goal.returns
returns c = λ trees.
    all-made (λ (ps : List Product). filter (λ (m : Monomial). not (has_factors m)) (sum_at trees ps)) (sum_at trees c.products.part.items) _ c.args.sum.now c.products.one-index c.products-test.false refl (c.products.invariant trees)
