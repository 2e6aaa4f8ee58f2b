use Rattle.std.proofs.Common.{◌≡◌, ℕ, Some, ap, sym, ◌∙◌, subst}
use Rattle.qv_words.specs.declared.sort.Sort.TheVariants.{Bool, Bits}
use Rattle.qv_words.specs.Tree.{tree_sort}
use Rattle.qv_words.specs.Sorted.{no_levels}
use Rattle.qv_words.proofs.Existing.{lawful_sort}
use Rattle.qv_words.specs.Sums.{polynomial, term_of, summed}
use Rattle.qv_store.specs.Nodes.{tree_at}
use Rattle.qv_store.specs.Stores.{StandsAt}
use Rattle.qv_store.proofs.Replacement.{if-ok}
use Rattle.qv_rewrite_sums.specs.declared.product.Product.{Product}
use Rattle.qv_rewrite_sums.specs.Held.{sum_at, AreOfWords}
use Rattle.qv_rewrite_sums.proofs.Fitting.{bits-are, sum-fits}
use Rattle.qv_rewrite_sums.proofs.Applying.{truth-stands}
use Rattle.qv_rewrite_sums.proofs.summing.term_of.Goals as goal

pub word_term-requires : goal.word_term-requires
word_term-requires c =
    let t = tree_at c.args.store.now c.args.id in
    let w = c.in-Bits.width in
    let is : tree_sort t ≡ Some (Bits w) = c.sort.ensures.sort ∙ ap Some c.in-Bits.is in
    let sorted = c.sort.ensures.shared.sorted c.args.id c.requires.id in
    let lawful = lawful_sort t no_levels (Bits w) sorted is in
    record {
      low = lawful.0;
      high = lawful.1;
      fits = subst (AreOfWords w) (sym c.requires.sum.sum) (sum-fits t (Bits w) sorted is);
    }

pub returns-in-Bits-clause-id : goal.returns-in-Bits-clause-id
returns-in-Bits-clause-id c =
    let t = tree_at c.args.store.now c.args.id in
    let w = c.in-Bits.width in
    let is : tree_sort t ≡ Some (Bits w) = c.sort.ensures.sort ∙ ap Some c.in-Bits.is in
    let whole : term_of w (sum_at c.args.store.now c.args.sum.now) ≡ summed t = ap (term_of w) c.requires.sum.sum ∙ ap (λ (n : ℕ). term_of n (polynomial t)) (sym (bits-are t (Bits w) is)) in
    if-ok c.word_term.result (λ made s. subst (StandsAt c.word_term.new.store made) whole s.stands) c.word_term.ensures.id

pub returns-in-Bool-clause-id : goal.returns-in-Bool-clause-id
returns-in-Bool-clause-id c =
    let t = tree_at c.args.store.now c.args.id in
    let is : tree_sort t ≡ Some Bool = c.sort.ensures.sort ∙ ap Some c.in-Bool.is in
    truth-stands c.args.store.now t c.args.sum.now c.index-sum-0.result c.as_slice.result.now c.index-as_slice-0.result (c.sort.ensures.shared.sorted c.args.id c.requires.id) is c.requires.sum
    c.index-sum-0.is (c.as_slice.ensures ∙ ap (λ (m : Product). m.factors.items) (sym c.index-sum-0.is)) c.index-as_slice-0.is
