use Rattle.std.proofs.Common.{◌≡◌, ◌≤◌, ℕ, Some, None, Vec, length, ap, sym, ◌∙◌, subst}
use Rattle.std.specs.declared.alloc.Global.{Global}
use Rattle.std.specs.Prelude.{option_map}
use Rattle.qv_words.specs.Tree.{Apply}
use Rattle.qv_words.specs.Sorted.{no_levels}
use Rattle.qv_words.proofs.Existing.{lawful_sort}
use Rattle.qv_words.specs.Sums.{polynomials, bits_in}
use Rattle.qv_store.specs.Nodes.{tree_at, trees_at}
use Rattle.qv_rewrite_sums.specs.declared.product.Product.{Product}
use Rattle.qv_rewrite_sums.specs.Held.{sum_at, short_sum}
use Rattle.qv_rewrite_sums.proofs.Fitting.{bits-are}
use Rattle.qv_rewrite_sums.proofs.Rebuilding.{held-short, held-rebuilt}
use Rattle.qv_rewrite_sums.proofs.Applying.{if-ok_two}
use Rattle.qv_rewrite_sums.proofs.summing.application_sum.Goals as goal

pub short_sum-requires : goal.short_sum-requires
short_sum-requires c =
    let t = tree_at c.args.store.now c.args.id in
    let sorted = c.sort.ensures.shared.sorted c.args.id c.requires.id in
    let lawful = lawful_sort t no_levels c.sort.result sorted c.sort.ensures.sort in
    record {
      low = subst (λ (n : ℕ). 1 ≤ n) (sym c.width-width.ensures) lawful.0;
      high = subst (λ (n : ℕ). n ≤ 128) (sym c.width-width.ensures) lawful.1;
      application = c.requires.application;
      shared = c.sort.ensures.shared;
      width = ap bits_in (sym c.requires.tree) ∙ bits-are t c.sort.result c.sort.ensures.sort ∙ sym c.width-width.ensures;
    }

pub returns-in-Some-clause-sum : goal.returns-in-Some-clause-sum
returns-in-Some-clause-sum c =
    let trees = c.args.store.now in
    let ts = trees_at trees c.args.kids.now in
    let t = tree_at trees c.args.id in
    let w = c.width-width.result in
    let bits : bits_in (Apply c.args.op ts) ≡ w = ap bits_in (sym c.requires.tree) ∙ bits-are t c.sort.result c.sort.ensures.sort ∙ sym c.width-width.ensures in
    let made : short_sum c.args.op w (polynomials ts) ≡ Some (sum_at trees c.in-Some.sum.items) =
    sym c.in_ok-sum.ensures ∙ ap (option_map (λ (v : Vec Product Global). sum_at trees v.items)) c.in-Some.is in
    held-short trees c.args.id c.args.op ts w c.in-Some.sum.items c.requires.application.sorted c.requires.tree bits made

pub returns-in_ok-made-in-None-clause-sum : goal.returns-in_ok-made-in-None-clause-sum
returns-in_ok-made-in-None-clause-sum c =
    let trees = c.args.store.now in
    let new = c.rebuilt.new.store in
    let ts = trees_at trees c.args.kids.now in
    let t = tree_at trees c.args.id in
    let w = c.width-width.result in
    let bits : bits_in (Apply c.args.op ts) ≡ w = ap bits_in (sym c.requires.tree) ∙ bits-are t c.sort.result c.sort.ensures.sort ∙ sym c.width-width.ensures in
    let none : short_sum c.args.op w (polynomials ts) ≡ None =
    sym c.in_ok-sum.ensures ∙ ap (option_map (λ (v : Vec Product Global). sum_at trees v.items)) c.in-None.is in
    let s = c.in_ok-made-in-None.ensures.id in
    if-ok_two c.atom.result (λ sum e below. held-rebuilt new t c.args.op ts w c.in_ok-made-in-None.made sum.items c.requires.tree bits none s e below) (c.atom.ensures.sum new) (c.atom.ensures.below (length new) s.below)
