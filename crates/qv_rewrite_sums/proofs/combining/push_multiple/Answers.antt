use Rattle.std.proofs.Common.{◌^◌, ◌∙◌, List, refl}
use Rattle.qv_words.specs.Sums.{multiple}
use Rattle.qv_rewrite_sums.specs.declared.product.Product.{Product}
use Rattle.qv_rewrite_sums.specs.Held.{sum_at, modulo}
use Rattle.qv_rewrite_sums.proofs.Lists.{all-made}
use Rattle.qv_rewrite_sums.proofs.Combined.{multiple-more}
use Rattle.qv_rewrite_sums.proofs.combining.push_multiple.Goals as goal

pub products-preserved : goal.products-preserved
products-preserved c = λ trees.
    multiple-more trees (2 ^ c.args.width) c.args.factor c.products.raw.items c.push.new.self.items c.args.sum.now c.products.one-index c.one-item.result c.in_ok-next.next c.products-test.true c.one-item.is
    (c.in_ok-next.ensures.coefficient ∙ c.product-coefficient.ensures) (c.in_ok-next.ensures.factors ∙ c.as_slice.ensures) c.in_ok-push.ensures.items
    ∙ c.products.invariant trees

pub returns : goal.returns
returns c = λ trees.
    all-made (λ (ps : List Product). modulo (2 ^ c.args.width) (multiple c.args.factor (sum_at trees ps))) (sum_at trees c.products.raw.items) _ c.args.sum.now c.products.one-index c.products-test.false refl (c.products.invariant trees)
