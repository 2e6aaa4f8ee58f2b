use Rattle.std.proofs.Common.{◌^◌, ◌++◌, arith, ℕ, Vec, ap, sym, ◌∙◌, subst}
use Rattle.std.proofs.lemmas.List.{length-map}
use Rattle.std.specs.declared.alloc.Global.{Global}
use Rattle.qv_store.specs.Walks.{IsEarlier}
use Rattle.qv_words.specs.declared.sort.Sort.TheVariants.{Bits}
use Rattle.qv_words.specs.Sorted.{no_levels}
use Rattle.qv_words.proofs.Existing.{lawful_sort}
use Rattle.qv_words.specs.Sums.{polynomial, opposite, collected, is_zero}
use Rattle.qv_store.specs.Nodes.{tree_at}
use Rattle.qv_store.specs.Stores.{StandsAt}
use Rattle.qv_store.proofs.Replacement.{if-ok}
use Rattle.qv_rewrite_sums.specs.declared.product.Product.{Product}
use Rattle.qv_rewrite_sums.specs.Held.{sum_at, HaveWords, AreOfWords}
use Rattle.qv_rewrite_sums.proofs.Combined.{collected-rest}
use Rattle.qv_rewrite_sums.proofs.Fitting.{collected-fits}
use Rattle.qv_rewrite_sums.proofs.Rebuilding.{modulo-words, word-rebuilt, sides-words}
use Rattle.qv_rewrite_sums.proofs.Applying.{sides-raw}
use Rattle.qv_rewrite_sums.proofs.summing.equation.Goals as goal

pub sum_of-first-requires : goal.sum_of-first-requires
sum_of-first-requires c = record { found = c.requires.application.found; id = subst (λ (n : ℕ). IsEarlier c.args.walk.now n c.args.sides.a) (length-map c.args.sums.now (λ (v : Vec Product Global). v.items)) (c.requires.application.kids_earlier 0 c.args.sides.a (omega arith)) }

pub sum_of-second-requires : goal.sum_of-second-requires
sum_of-second-requires c = record { found = c.requires.application.found; id = subst (λ (n : ℕ). IsEarlier c.args.walk.now n c.args.sides.b) (length-map c.args.sums.now (λ (v : Vec Product Global). v.items)) (c.requires.application.kids_earlier 1 c.args.sides.b (omega arith)) }

pub difference-requires-clause-low : goal.difference-requires-clause-low
difference-requires-clause-low c = (lawful_sort (tree_at c.args.store.now c.args.sides.a) no_levels (Bits c.args.sides.width) c.requires.application.sorted.0.0 c.requires.word).0

pub difference-requires-clause-high : goal.difference-requires-clause-high
difference-requires-clause-high c = (lawful_sort (tree_at c.args.store.now c.args.sides.a) no_levels (Bits c.args.sides.width) c.requires.application.sorted.0.0 c.requires.word).1

pub collected-requires : goal.collected-requires
collected-requires c =
    let trees = c.args.store.now in
    let w = c.args.sides.width in
    let s = tree_at trees c.args.sides.a in
    let t = tree_at trees c.args.sides.b in
    let sorted = c.requires.application.sorted in
    let lawful = lawful_sort s no_levels (Bits w) sorted.0.0 c.requires.word in
    let words = (sides-words s t w sorted c.requires.word).1 in
    let is = sides-raw trees w s t c.sum_of-first.result.now c.sum_of-second.result.now c.in_ok-raw.raw.items c.deref.result.now c.sum_of-first.ensures c.sum_of-second.ensures (c.in_ok-raw.ensures trees) c.deref.ensures.value in
    record {
      low = lawful.0;
      high = lawful.1;
      shared = c.len-terms.ensures.shared;
      words = subst (HaveWords w) (sym is) (modulo-words w (2 ^ w) (polynomial s ++ opposite w (polynomial t)) words);
    }

pub is_zero-requires : goal.is_zero-requires
is_zero-requires c =
    let trees = c.args.store.now in
    let w = c.args.sides.width in
    let s = tree_at trees c.args.sides.a in
    let t = tree_at trees c.args.sides.b in
    let sorted = c.requires.application.sorted in
    let lawful = lawful_sort s no_levels (Bits w) sorted.0.0 c.requires.word in
    let words = (sides-words s t w sorted c.requires.word).1 in
    let is = sides-raw trees w s t c.sum_of-first.result.now c.sum_of-second.result.now c.in_ok-raw.raw.items c.deref.result.now c.sum_of-first.ensures c.sum_of-second.ensures (c.in_ok-raw.ensures trees) c.deref.ensures.value in
    let whole = ap (sum_at trees) c.deref-2.ensures.value ∙ c.in_ok-sum.ensures ∙ ap (collected w) is ∙ collected-rest w (polynomial s ++ opposite w (polynomial t)) in
    record {
      low = lawful.0;
      high = lawful.1;
      fits = subst (AreOfWords w) (sym whole) (collected-fits w (polynomial s ++ opposite w (polynomial t)) words);
    }

pub returns-clause-id : goal.returns-clause-id
returns-clause-id c =
    let trees = c.args.store.now in
    let w = c.args.sides.width in
    let s = tree_at trees c.args.sides.a in
    let t = tree_at trees c.args.sides.b in
    let is = sides-raw trees w s t c.sum_of-first.result.now c.sum_of-second.result.now c.in_ok-raw.raw.items c.deref.result.now c.sum_of-first.ensures c.sum_of-second.ensures (c.in_ok-raw.ensures trees) c.deref.ensures.value in
    let whole = ap (sum_at trees) c.deref-2.ensures.value ∙ c.in_ok-sum.ensures ∙ ap (collected w) is ∙ collected-rest w (polynomial s ++ opposite w (polynomial t)) in
    if-ok c.is_zero.result (λ made r. subst (StandsAt c.is_zero.new.store made) (ap (is_zero w) whole ∙ sym (word-rebuilt s t w c.requires.word)) r.stands) c.is_zero.ensures.id
