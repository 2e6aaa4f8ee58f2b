use Rattle.std.proofs.Common.{◌≡◌, ◌^◌, ◌++◌, [], ℕ, List, length, ap, sym, ◌∙◌, subst}
use Rattle.qv_words.specs.declared.sort.Sort.{Sort}
use Rattle.qv_words.specs.declared.sort.Sort.TheVariants.{Bool, Bits}
use Rattle.qv_words.specs.Word.{word_value}
use Rattle.qv_words.specs.Tree.{Tree, Literal}
use Rattle.qv_words.specs.Sums.{reduced}
use Rattle.qv_store.specs.Nodes.{tree_at}
use Rattle.qv_rewrite_sums.specs.declared.product.Product.{Product}
use Rattle.qv_rewrite_sums.specs.Held.{sum_at, IsSumOf}
use Rattle.qv_rewrite_sums.proofs.Rebuilding.{literal-held}
use Rattle.qv_rewrite_sums.proofs.Applying.{if-ok_two, truth-held}
use Rattle.qv_rewrite_sums.proofs.summing.literal_sum.Goals as goal

pub returns-in_ok-push_reduced-in-Bits : goal.returns-in_ok-push_reduced-in-Bits
returns-in_ok-push_reduced-in-Bits c = λ trees is low.
    let w = c.in-Bits.width in
    let n = word_value c.args.word in
    let tree : tree_at trees c.args.id ≡ Literal (Bits w) n = is ∙ ap (λ (s : Sort). Literal s n) (sym c.sort.ensures ∙ c.in-Bits.is) in
    let sum = c.in_ok-push_reduced-in-Bits.ensures trees
    ∙ ap (λ (ps : List Product). sum_at trees ps ++ reduced (2 ^ w) c.value.result []) c.new-sum.ensures.items
    ∙ ap (λ (v : ℕ). reduced (2 ^ w) v []) c.value.ensures in
    subst (λ (t : Tree). IsSumOf trees t c.push_reduced.new.sum.items) (sym tree) (literal-held trees w n c.push_reduced.new.sum.items sum)

pub returns-in-Bool : goal.returns-in-Bool
returns-in-Bool c = λ trees is low.
    let n = word_value c.args.word in
    let tree : tree_at trees c.args.id ≡ Literal Bool n = is ∙ ap (λ (s : Sort). Literal s n) (sym c.sort.ensures ∙ c.in-Bool.is) in
    if-ok_two c.atom.result (λ sum e below. truth-held trees (tree_at trees c.args.id) n sum.items tree e below) (c.atom.ensures.sum trees) (c.atom.ensures.below (length trees) low)
