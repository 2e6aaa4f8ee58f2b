use Rattle.std.proofs.Common.{◌^◌, ◌++◌, ◌∙◌, List, ap, sym}
use Rattle.qv_words.specs.Sums.{Polynomial, multiple}
use Rattle.qv_rewrite_sums.specs.declared.product.Product.{Product}
use Rattle.qv_rewrite_sums.specs.Held.{sum_at, modulo}
use Rattle.qv_rewrite_sums.proofs.Combined.{once, modulo-append}
use Rattle.qv_rewrite_sums.proofs.combining.together.Goals as goal

pub returns : goal.returns
returns c = λ trees.
    let n = 2 ^ c.args.width in
    let p = sum_at trees c.args.a.now in
    let q = sum_at trees c.args.b.now in
    c.in_ok-push_multiple-2.ensures trees
    ∙ ap (λ (l : Polynomial). l ++ modulo n (multiple 1 q)) (c.in_ok-push_multiple.ensures trees ∙ ap (λ (ps : List Product). sum_at trees ps ++ modulo n (multiple 1 p)) c.new-raw.ensures.items)
    ∙ ap (λ (l : Polynomial). l ++ modulo n (multiple 1 q)) (once n p) ∙ ap (λ (l : Polynomial). modulo n p ++ l) (once n q) ∙ sym (modulo-append n p q)
