use Rattle.std.proofs.Common.{◌≡◌, ◌^◌, ◌+◌, ◌%◌, List, refl, ap, sym, ◌∙◌}
use Rattle.std.specs.List.{insert}
use Rattle.qv_words.proofs.Powers.{mod-mod_pow}
use Rattle.qv_rewrite_sums.specs.declared.product.Product.{Product}
use Rattle.qv_rewrite_sums.specs.Held.{sum_at}
use Rattle.qv_rewrite_sums.proofs.Alike.{raised-gone, raised-kept}
use Rattle.qv_rewrite_sums.proofs.adding.raise.Goals as goal

pub returns-in_ok-insert : goal.returns-in_ok-insert
returns-in_ok-insert c = λ trees.
    let x = c.remove-product.result in
    let y : Product = record { coefficient = c.low_bits-coefficient.result; factors = x.factors } in
    let is : c.low_bits-coefficient.result ≡ (x.coefficient + c.args.more) % 2 ^ c.args.width = c.low_bits-coefficient.ensures ∙ mod-mod_pow (x.coefficient + c.args.more) c.args.width 128 c.requires.high in
    ap (sum_at trees) (c.in_ok-insert.ensures.items ∙ ap (λ (ps : List Product). insert ps c.args.place y) c.remove-product.ensures.items)
    ∙ raised-kept trees (2 ^ c.args.width) c.args.more c.args.sum.now.items c.args.place x y c.requires.place c.remove-product.ensures.value (λ e. c.if-coefficient-ne0.true (is ∙ e)) is refl

pub returns-else-coefficient-ne0 : goal.returns-else-coefficient-ne0
returns-else-coefficient-ne0 c = λ trees.
    let x = c.remove-product.result in
    let is : c.low_bits-coefficient.result ≡ (x.coefficient + c.args.more) % 2 ^ c.args.width = c.low_bits-coefficient.ensures ∙ mod-mod_pow (x.coefficient + c.args.more) c.args.width 128 c.requires.high in
    ap (sum_at trees) c.remove-product.ensures.items
    ∙ raised-gone trees (2 ^ c.args.width) c.args.more c.args.sum.now.items c.args.place x c.requires.place c.remove-product.ensures.value (sym is ∙ c.if-coefficient-ne0.false)
