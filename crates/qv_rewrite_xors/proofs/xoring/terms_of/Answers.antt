use Rattle.std.proofs.Common.{◌<◌, ℕ, length, sym, subst}
use Rattle.qv_words.specs.Tree.{Tree}
use Rattle.qv_rewrite_passes.specs.Xors.{xored}
use Rattle.qv_store.specs.Nodes.{tree_at}
use Rattle.qv_store.specs.Stores.{StandsAt}
use Rattle.qv_store.proofs.Replacement.{grown-tree, grows-more}
use Rattle.qv_rewrite_xors.proofs.Found.{chains-grown, chains-turned}
use Rattle.qv_rewrite_xors.proofs.Applying.{zip-terms_more}
use Rattle.qv_rewrite_xors.proofs.xoring.terms_of.Goals as goal

pub chain_of-chain-requires-clause-found : goal.chain_of-chain-requires-clause-found
chain_of-chain-requires-clause-found c =
    chains-turned c.args.store.now c.kids.store c.args.walk.now c.args.found.now c.kids.invariant.grows c.requires.walk
    (chains-grown c.args.store.now c.kids.store (tree_at c.args.store.now) c.args.walk.now c.args.found.now c.kids.invariant.grows c.requires.found)

pub kids-preserved : goal.kids-preserved
kids-preserved c =
    let low = subst (λ (n : ℕ). n < length c.args.store.now) (sym c.kid-item.is) (c.requires.below c.kids.kid-index c.kid-item.result c.kids-test.true) in
    let own = subst (λ (t : Tree). StandsAt c.term_of.new.store c.in_ok-term.term (xored t)) (grown-tree c.args.store.now c.kids.store c.kids.invariant.grows c.kid-item.result low) c.in_ok-term.ensures.id in
    record {
      grows = grows-more c.args.store.now c.kids.store c.term_of.new.store c.kids.invariant.grows c.term_of.ensures.grows;
      terms = zip-terms_more c.args.store.now c.kids.store c.term_of.new.store c.args.kids.now c.kids.terms.items c.push.new.self.items c.kids.kid-index c.kid-item.result c.in_ok-term.term c.term_of.ensures.grows c.kids.invariant.terms c.kids-test.true c.kid-item.is own c.in_ok-push.ensures.ok;
    }
