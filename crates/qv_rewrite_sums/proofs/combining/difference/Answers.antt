use Rattle.std.proofs.Common.{◌^◌, ◌++◌, ◌∙◌, ℕ, List, ap, sym}
use Rattle.qv_words.specs.Sums.{Polynomial, multiple, opposite}
use Rattle.qv_rewrite_sums.specs.declared.product.Product.{Product}
use Rattle.qv_rewrite_sums.specs.Held.{sum_at, modulo}
use Rattle.qv_rewrite_sums.proofs.Combined.{once, modulo-append, ones-are}
use Rattle.qv_rewrite_sums.proofs.combining.difference.Goals as goal

pub returns : goal.returns
returns c = λ trees.
    let w = c.args.width in
    let n = 2 ^ w in
    let p = sum_at trees c.args.a.now in
    let q = sum_at trees c.args.b.now in
    c.in_ok-push_multiple-2.ensures trees
    ∙ ap (λ (l : Polynomial). l ++ modulo n (multiple c.ones.result q)) (c.in_ok-push_multiple.ensures trees ∙ ap (λ (ps : List Product). sum_at trees ps ++ modulo n (multiple 1 p)) c.new-raw.ensures.items)
    ∙ ap (λ (l : Polynomial). l ++ modulo n (multiple c.ones.result q)) (once n p)
    ∙ ap (λ (f : ℕ). modulo n p ++ modulo n (multiple f q)) (ones-are c.ones.result n c.ones.ensures)
    ∙ sym (modulo-append n p (opposite w q))
