use Rattle.std.proofs.Common.{◌<◌, ℕ, List, [], length, sym, subst}
use Rattle.std.specs.List.{AllZip}
use Rattle.std.proofs.lemmas.List.{take_all}
use Rattle.qv_words.specs.Tree.{Tree}
use Rattle.qv_words.specs.Sums.{summed}
use Rattle.qv_store.specs.Nodes.{tree_at}
use Rattle.qv_store.specs.Stores.{StandsAt}
use Rattle.qv_store.specs.Walks.{IsEarlier}
use Rattle.qv_store.proofs.Replacement.{grown-tree, grown-within, grows-more}
use Rattle.qv_rewrite_sums.specs.Held.{sums_in}
use Rattle.qv_rewrite_sums.proofs.Built.{grows-itself}
use Rattle.qv_rewrite_sums.proofs.Found.{sums-grown, sums-turned}
use Rattle.qv_rewrite_sums.proofs.Rebuilding.{IsTermOf, zip-terms_more}
use Rattle.qv_rewrite_sums.proofs.summing.terms_of.Goals as goal

pub kids-init : goal.kids-init
kids-init c = record {
  grows = grows-itself c.args.store.now;
  terms = subst (λ (ts : List ℕ). AllZip (IsTermOf c.args.store.now c.args.store.now) [] ts) (sym c.new-terms.ensures.items) tt;
}

pub sum_of-found-requires : goal.sum_of-found-requires
sum_of-found-requires c = record {
  found = sums-turned c.args.store.now c.kids.store c.args.walk.now (sums_in c.args.sums.now) c.kids.invariant.grows c.requires.walk
      (sums-grown c.args.store.now c.kids.store (tree_at c.args.store.now) c.args.walk.now (sums_in c.args.sums.now) c.kids.invariant.grows c.requires.found);
  id = subst (λ (n : ℕ). IsEarlier c.args.walk.now (length c.args.sums.now) n) (sym c.kid-item.is) (c.requires.kids c.kids.kid-index c.kid-item.result c.kids-test.true);
}

pub term_of-requires : goal.term_of-requires
term_of-requires c =
    let low = subst (λ (n : ℕ). n < length c.args.store.now) (sym c.kid-item.is) (c.requires.below c.kids.kid-index c.kid-item.result c.kids-test.true) in
    record {
      id = grown-within c.args.store.now c.kids.store c.kids.invariant.grows c.kid-item.result low;
      sum = c.sum_of-found.ensures;
    }

pub returns-in_err-term-clause-grows : goal.returns-in_err-term-clause-grows
returns-in_err-term-clause-grows c = grows-more c.args.store.now c.kids.store c.term_of.new.store c.kids.invariant.grows c.term_of.ensures.grows

pub returns-in_err-push-clause-grows : goal.returns-in_err-push-clause-grows
returns-in_err-push-clause-grows c = grows-more c.args.store.now c.kids.store c.term_of.new.store c.kids.invariant.grows c.term_of.ensures.grows

pub kids-preserved : goal.kids-preserved
kids-preserved c =
    let low = subst (λ (n : ℕ). n < length c.args.store.now) (sym c.kid-item.is) (c.requires.below c.kids.kid-index c.kid-item.result c.kids-test.true) in
    let own = subst (λ (t : Tree). StandsAt c.term_of.new.store c.in_ok-term.term (summed t)) (grown-tree c.args.store.now c.kids.store c.kids.invariant.grows c.kid-item.result low) c.in_ok-term.ensures.id in
    record {
      grows = grows-more c.args.store.now c.kids.store c.term_of.new.store c.kids.invariant.grows c.term_of.ensures.grows;
      terms = zip-terms_more c.args.store.now c.kids.store c.term_of.new.store c.args.kids.now c.kids.terms.items c.push.new.self.items c.kids.kid-index c.kid-item.result c.in_ok-term.term c.term_of.ensures.grows c.kids.invariant.terms c.kids-test.true c.kid-item.is own c.in_ok-push.ensures.ok;
    }

pub returns-clause-terms : goal.returns-clause-terms
returns-clause-terms c = subst (λ (ks : List ℕ). AllZip (IsTermOf c.args.store.now c.kids.store) ks c.kids.terms.items) (take_all c.kids.kid-index c.args.kids.now c.kids-test.false) c.kids.invariant.terms
