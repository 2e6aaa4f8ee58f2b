use Rattle.std.proofs.Common.{◌^◌, ◌∙◌, List, map, refl}
use Rattle.qv_words.specs.Sums.{times}
use Rattle.qv_rewrite_sums.specs.declared.product.Product.{Product}
use Rattle.qv_rewrite_sums.specs.Held.{monomial_at, sum_at, modulo}
use Rattle.qv_rewrite_sums.proofs.Lists.{all-made}
use Rattle.qv_rewrite_sums.proofs.Combined.{times-more}
use Rattle.qv_rewrite_sums.proofs.combining.push_times.Goals as goal

pub products-preserved : goal.products-preserved
products-preserved c = λ trees.
    times-more trees (2 ^ c.args.width) (monomial_at trees c.args.factor.now) c.products.raw.items c.push.new.self.items c.args.sum.now c.products.one-index c.one-item.result c.in_ok-next.next c.products-test.true c.one-item.is
    (c.in_ok-next.ensures trees) c.in_ok-push.ensures.items
    ∙ c.products.invariant trees

pub returns : goal.returns
returns c = λ trees.
    all-made (λ (ps : List Product). modulo (2 ^ c.args.width) (map (times (monomial_at trees c.args.factor.now)) (sum_at trees ps))) (sum_at trees c.products.raw.items) _ c.args.sum.now c.products.one-index c.products-test.false refl (c.products.invariant trees)
