use Rattle.std.proofs.Common.{◌^◌, List, fold, ap, sym, ◌∙◌, subst}
use Rattle.std.proofs.lemmas.List.{drop_all}
use Rattle.qv_words.specs.Sums.{plus}
use Rattle.qv_rewrite_sums.specs.declared.product.Product.{Product}
use Rattle.qv_rewrite_sums.specs.Held.{monomial_at, sum_at, HaveWords}
use Rattle.qv_rewrite_sums.proofs.Held.{words-left}
use Rattle.qv_rewrite_sums.proofs.Alike.{plus-words, fold-on}
use Rattle.qv_rewrite_sums.proofs.adding.collected.Goals as goal

pub raw-init : goal.raw-init
raw-init c = record {
  sum = ap (λ (ps : List Product). fold (plus (2 ^ c.args.width)) (sum_at c.args.store.now ps) (sum_at c.args.store.now c.args.raw.now)) c.new-sum.ensures.items;
  words = subst (λ (ps : List Product). HaveWords c.args.width (sum_at c.args.store.now ps)) (sym c.new-sum.ensures.items) tt;
  left = c.requires.words;
}

pub add-requires : goal.add-requires
add-requires c = record {
  low = c.requires.low;
  high = c.requires.high;
  shared = c.requires.shared;
  sum = c.raw.invariant.words;
  product = (words-left c.args.store.now c.args.width c.args.raw.now c.raw.product-index c.product-item.result c.raw.invariant.left c.raw-test.true c.product-item.is).0;
}

pub raw-preserved : goal.raw-preserved
raw-preserved c =
    let rest = words-left c.args.store.now c.args.width c.args.raw.now c.raw.product-index c.product-item.result c.raw.invariant.left c.raw-test.true c.product-item.is in
    record {
      sum = fold-on c.args.store.now (2 ^ c.args.width) (sum_at c.args.store.now c.raw.sum.items) (sum_at c.args.store.now c.add.new.sum.items) c.args.raw.now c.raw.product-index c.product-item.result c.raw-test.true c.product-item.is c.in_ok-add.ensures ∙ c.raw.invariant.sum;
      words = subst (HaveWords c.args.width) (sym c.in_ok-add.ensures) (plus-words c.args.width (2 ^ c.args.width) (sum_at c.args.store.now c.raw.sum.items) (monomial_at c.args.store.now c.product-item.result) c.raw.invariant.words rest.0);
      left = rest.1;
    }

pub returns : goal.returns
returns c =
    sym (ap (λ (ps : List Product). fold (plus (2 ^ c.args.width)) (sum_at c.args.store.now c.raw.sum.items) (sum_at c.args.store.now ps)) (drop_all c.raw.product-index c.args.raw.now c.raw-test.false)) ∙ c.raw.invariant.sum
