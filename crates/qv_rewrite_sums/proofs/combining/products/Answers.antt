use Rattle.std.proofs.Common.{◌^◌, ◌∙◌, List, refl}
use Rattle.qv_words.specs.Sums.{products}
use Rattle.qv_rewrite_sums.specs.declared.product.Product.{Product}
use Rattle.qv_rewrite_sums.specs.Held.{sum_at, modulo}
use Rattle.qv_rewrite_sums.proofs.Lists.{all-made}
use Rattle.qv_rewrite_sums.proofs.Combined.{products-more}
use Rattle.qv_rewrite_sums.proofs.combining.products.Goals as goal

pub products-preserved : goal.products-preserved
products-preserved c = λ trees.
    products-more trees (2 ^ c.args.width) c.products.raw.items c.push_times.new.raw.items c.args.a.now c.args.b.now c.products.one-index c.one-item.result c.products-test.true c.one-item.is (c.in_ok-push_times.ensures trees)
    ∙ c.products.invariant trees

pub returns : goal.returns
returns c = λ trees.
    all-made (λ (ps : List Product). modulo (2 ^ c.args.width) (products (sum_at trees ps) (sum_at trees c.args.b.now))) (sum_at trees c.products.raw.items) _ c.args.a.now c.products.one-index c.products-test.false refl (c.products.invariant trees)
