use Rattle.std.proofs.Common.{◌≤◌, List, Vec, length, ap, sym, subst, arith}
use Rattle.std.specs.declared.alloc.Global.{Global}
use Rattle.qv_words.specs.Tree.{Tree}
use Rattle.qv_words.specs.Sums.{summed}
use Rattle.qv_store.specs.Nodes.{tree_at}
use Rattle.qv_store.specs.Stores.{StandsAt}
use Rattle.qv_store.proofs.Passes.{contains-earlier, earlier-in}
use Rattle.qv_store.proofs.Replacement.{grown-tree, grown-within, grows-more, if-ok}
use Rattle.qv_rewrite_sums.specs.declared.product.Product.{Product}
use Rattle.qv_rewrite_sums.specs.Held.{sums_in, AreSums}
use Rattle.qv_rewrite_sums.proofs.Found.{sums-turned}
use Rattle.qv_rewrite_sums.proofs.summing.sum.Goals as goal

pub sum_of-found-requires : goal.sum_of-found-requires
sum_of-found-requires c =
    let old = c.args.store.now in
    let now = c.sums_of.new.store in
    let many : length c.visit.new.self ≤ length c.deref.result.now = omega (arith, ap length c.deref.ensures.value, c.in_ok-sums.ensures.many) in
    record {
      found = subst (λ (vs : List (Vec Product Global)). AreSums now (tree_at now) c.visit.new.self (sums_in vs)) (sym c.deref.ensures.value)
          (sums-turned old now c.visit.new.self (sums_in c.in_ok-sums.sums.items) c.sums_of.ensures.grows c.visit.ensures.walk c.in_ok-sums.ensures.sums);
      id = earlier-in c.visit.new.self (length c.visit.new.self) (length c.deref.result.now) c.args.id many (contains-earlier c.visit.new.self c.args.id c.in_ok-visit.ensures.has);
    }

pub term_of-requires : goal.term_of-requires
term_of-requires c = record {
  id = grown-within c.args.store.now c.sums_of.new.store c.sums_of.ensures.grows c.args.id c.requires.id;
  sum = c.sum_of-found.ensures;
}

pub returns-clause-id : goal.returns-clause-id
returns-clause-id c =
    if-ok c.term_of.result (λ made s. subst (λ (t : Tree). StandsAt c.term_of.new.store made (summed t)) (grown-tree c.args.store.now c.sums_of.new.store c.sums_of.ensures.grows c.args.id c.requires.id) s) c.term_of.ensures.id

pub returns-clause-grows : goal.returns-clause-grows
returns-clause-grows c = grows-more c.args.store.now c.sums_of.new.store c.term_of.new.store c.sums_of.ensures.grows c.term_of.ensures.grows
