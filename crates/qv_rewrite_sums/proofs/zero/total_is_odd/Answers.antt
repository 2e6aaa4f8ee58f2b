use Rattle.std.proofs.Common.{◌==◌, ◌+◌, ◌%◌, ℕ, List, ap, ◌∙◌, arith}
use Rattle.std.proofs.lemmas.List.{take_all}
use Rattle.std.proofs.lemmas.Nat.{mod_below}
use Rattle.qv_rewrite_sums.specs.declared.product.Product.{Product}
use Rattle.qv_rewrite_sums.proofs.Odd.{total, total-more}
use Rattle.qv_rewrite_sums.proofs.zero.total_is_odd.Goals as goal

pub overflow_add-odd : goal.overflow_add-odd
overflow_add-odd c = omega arith

pub products-preserved : goal.products-preserved
products-preserved c = record {
  total = λ trees. total-more trees c.args.sum.now c.products.one-index c.products.odd c.one-item.result c.products-test.true c.one-item.is (c.products.invariant.total trees);
  small = mod_below (c.products.odd + c.one-item.result.coefficient % 2) 2 (omega arith);
}

pub returns : goal.returns
returns c = λ trees. ap (λ (n : ℕ). n == 1) (c.products.invariant.total trees ∙ ap (λ (ps : List Product). total trees ps % 2) (take_all c.products.one-index c.args.sum.now c.products-test.false))
