use Rattle.std.proofs.Common.{◌^◌, ◌++◌, ◌∙◌, ℕ, List, ap}
use Rattle.qv_words.specs.Sums.{multiple}
use Rattle.qv_rewrite_sums.specs.declared.product.Product.{Product}
use Rattle.qv_rewrite_sums.specs.Held.{sum_at, modulo}
use Rattle.qv_rewrite_sums.proofs.Combined.{ones-are}
use Rattle.qv_rewrite_sums.proofs.combining.opposite.Goals as goal

pub returns : goal.returns
returns c = λ trees.
    let n = 2 ^ c.args.width in
    c.in_ok-push_multiple.ensures trees
    ∙ ap (λ (ps : List Product). sum_at trees ps ++ modulo n (multiple c.ones.result (sum_at trees c.args.a.now))) c.new-raw.ensures.items
    ∙ ap (λ (f : ℕ). modulo n (multiple f (sum_at trees c.args.a.now))) (ones-are c.ones.result n c.ones.ensures)
