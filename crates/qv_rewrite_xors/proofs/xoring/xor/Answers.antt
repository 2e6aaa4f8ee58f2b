use Rattle.std.proofs.Common.{◌≤◌, length, ap, sym, subst, arith}
use Rattle.qv_words.specs.Tree.{Tree}
use Rattle.qv_rewrite_passes.specs.Xors.{xored}
use Rattle.qv_store.specs.Nodes.{tree_at}
use Rattle.qv_store.specs.Stores.{StandsAt}
use Rattle.qv_store.proofs.Passes.{contains-earlier, earlier-in}
use Rattle.qv_store.proofs.Replacement.{grown-tree, grows-more, if-ok}
use Rattle.qv_rewrite_xors.specs.Held.{AreChains}
use Rattle.qv_rewrite_xors.proofs.Found.{chains-turned}
use Rattle.qv_rewrite_xors.proofs.xoring.xor.Goals as goal

pub chain_of-chain-requires : goal.chain_of-chain-requires
chain_of-chain-requires c =
    let old = c.args.store.now in
    let now = c.chains_of.new.store in
    let many : length c.visit.new.self ≤ length c.deref.result.now = omega (arith, ap length c.deref.ensures.value, c.in_ok-chains.ensures.many) in
    record {
      found = subst (AreChains now (tree_at now) c.visit.new.self) (sym c.deref.ensures.value)
          (chains-turned old now c.visit.new.self c.in_ok-chains.chains.items c.chains_of.ensures.grows c.visit.ensures.walk c.in_ok-chains.ensures.chains);
      id = earlier-in c.visit.new.self (length c.visit.new.self) (length c.deref.result.now) c.args.id many (contains-earlier c.visit.new.self c.args.id c.in_ok-visit.ensures.has);
    }

pub returns-clause-id : goal.returns-clause-id
returns-clause-id c =
    if-ok c.term_of.result (λ made s. subst (λ (t : Tree). StandsAt c.term_of.new.store made (xored t)) (grown-tree c.args.store.now c.chains_of.new.store c.chains_of.ensures.grows c.args.id c.requires.id) s) c.term_of.ensures.id

pub returns-clause-grows : goal.returns-clause-grows
returns-clause-grows c = grows-more c.args.store.now c.chains_of.new.store c.term_of.new.store c.chains_of.ensures.grows c.term_of.ensures.grows
