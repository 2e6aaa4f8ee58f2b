use Rattle.std.proofs.Common.{ap, sym, ◌∙◌, subst}
use Rattle.qv_words.specs.declared.sort.Sort.TheVariants.{Bits}
use Rattle.qv_words.specs.declared.op.Op.TheVariants.{BvSub}
use Rattle.qv_words.specs.Tree.{tree_sort}
use Rattle.qv_store.proofs.Replacement.{grown-tree, if-ok}
use Rattle.qv_rewrite_sums.specs.Held.{AreOfWords, StandsAs}
use Rattle.qv_rewrite_sums.proofs.Fitting.{alike-rank}
use Rattle.qv_rewrite_sums.proofs.Built.{second-sum, two-terms}
use Rattle.qv_rewrite_sums.proofs.building.put_difference.Goals as goal

pub sum_term-requires-2-clause-fits : goal.sum_term-requires-2-clause-fits
sum_term-requires-2-clause-fits c =
    subst (AreOfWords c.args.width) (sym (second-sum c.args.store.now c.sum_term.new.store c.args.width c.args.minus.now c.sum_term.ensures.grows c.requires.minus)) c.requires.minus

pub put_words-requires : goal.put_words-requires
put_words-requires c =
    let s = c.in_ok-first.ensures.id in
    let t = c.in_ok-second.ensures.id in
    record {
      rank = alike-rank c.args.width;
      a = ap tree_sort (grown-tree c.sum_term.new.store c.sum_term-2.new.store c.sum_term-2.ensures.grows c.in_ok-first.first s.stands.below ∙ s.stands.tree) ∙ s.sort;
      b = ap tree_sort t.stands.tree ∙ t.sort;
    }

pub returns-clause-id : goal.returns-clause-id
returns-clause-id c =
    let whole = two-terms c.args.store.now c.sum_term.new.store c.sum_term-2.new.store BvSub c.args.width c.in_ok-first.first c.in_ok-second.second c.args.plus.now c.args.minus.now c.sum_term.ensures.grows c.sum_term-2.ensures.grows c.requires.minus c.in_ok-first.ensures.id c.in_ok-second.ensures.id in
    if-ok c.put_words.result (λ id s. subst (StandsAs c.put_words.new.store (Bits c.args.width) id) whole s) c.put_words.ensures.id
