use Rattle.std.proofs.Common.{◌+◌, ◌++◌, ◌∷◌, [], ◌∙◌, Bool, ℕ, List, cond, drop, ap, refl}
use Rattle.std.specs.Prelude.{filter}
use Rattle.qv_words.specs.Signed.{negated}
use Rattle.qv_words.specs.Sums.{Monomial, is_subtracted, subtracted}
use Rattle.qv_rewrite_sums.specs.declared.product.Product.{Product}
use Rattle.qv_rewrite_sums.specs.Held.{monomial_at, sum_at, with_coefficient}
use Rattle.qv_rewrite_sums.proofs.Lists.{some-step, all-made, map-some}
use Rattle.qv_rewrite_sums.proofs.parts.subtracted.Goals as goal

pub products-preserved : goal.products-preserved
products-preserved c = λ trees.
    let x = c.one-item.result in
    let w = c.args.width in
    let own : Monomial = with_coefficient (negated w x.coefficient) (monomial_at trees x) in
    some-step (λ (ps : List Product). subtracted w (sum_at trees ps)) (sum_at trees c.products.part.items) (sum_at trees c.push_if.new.part.items) (is_subtracted w (monomial_at trees x)) own c.args.sum.now c.products.one-index x c.products-test.true c.one-item.is
    (c.in_ok-push_if.ensures trees
    ∙ ap (λ (b : Bool). sum_at trees c.products.part.items ++ cond b (with_coefficient c.negation-coefficient.result (monomial_at trees x) ∷ []) []) c.is_shorter_negated-less.ensures
    ∙ ap (λ (k : ℕ). sum_at trees c.products.part.items ++ cond (is_subtracted w (monomial_at trees x)) (with_coefficient k (monomial_at trees x) ∷ []) []) c.negation-coefficient.ensures)
    (map-some (λ (m : Monomial). with_coefficient (negated w m.coefficient) m) (is_subtracted w (monomial_at trees x)) (monomial_at trees x) (filter (is_subtracted w) (sum_at trees (drop (c.products.one-index + 1) c.args.sum.now))))
    ∙ c.products.invariant trees

pub returns : goal.returns
returns c = λ trees.
    all-made (λ (ps : List Product). subtracted c.args.width (sum_at trees ps)) (sum_at trees c.products.part.items) _ c.args.sum.now c.products.one-index c.products-test.false refl (c.products.invariant trees)
