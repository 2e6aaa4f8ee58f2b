use Rattle.std.proofs.Common.{ℕ, List, map, fold, take, subst}
use Rattle.std.proofs.lemmas.List.{take_all}
use Rattle.qv_words.specs.Prenex.{binary}
use Rattle.qv_store.specs.Nodes.{tree_at}
use Rattle.qv_store.proofs.Replacement.{grows-more}
use Rattle.qv_rewrite_sums.specs.Held.{StandsAs}
use Rattle.qv_rewrite_sums.proofs.Held.{at-place}
use Rattle.qv_rewrite_sums.proofs.Built.{grows-itself}
use Rattle.qv_rewrite_xors.specs.Held.{IsOfSort}
use Rattle.qv_rewrite_xors.proofs.Standing.{of-standing, stands-itself, sort-grown, joined-more}
use Rattle.qv_rewrite_xors.proofs.building.joined.Goals as goal

pub rest-init : goal.rest-init
rest-init c = record {
  grows = grows-itself c.args.store.now;
  stands = stands-itself c.args.store.now c.args.sort c.args.first c.requires.first;
}

pub put_pair-requires : goal.put_pair-requires
put_pair-requires c =
    let s = c.args.sort in
    let next = at-place (IsOfSort c.args.store.now s) c.args.rest.now c.rest.next-index c.next-item.result c.requires.rest c.rest-test.true c.next-item.is in
    record {
      rank = c.requires.rank;
      a = of-standing c.rest.store s c.rest.term (fold (binary c.args.op) (tree_at c.args.store.now c.args.first) (map (tree_at c.args.store.now) (take c.rest.next-index c.args.rest.now))) c.rest.invariant.stands;
      b = sort-grown c.args.store.now c.rest.store s c.next-item.result c.rest.invariant.grows next;
    }

pub rest-preserved : goal.rest-preserved
rest-preserved c =
    let whole = joined-more c.args.store.now c.rest.store c.args.op c.args.sort (tree_at c.args.store.now c.args.first) c.args.rest.now c.rest.next-index c.next-item.result c.rest.term c.rest.invariant.grows c.rest-test.true c.next-item.is c.requires.rest c.rest.invariant.stands.stands.tree in
    record {
      grows = grows-more c.args.store.now c.rest.store c.put_pair.new.store c.rest.invariant.grows c.put_pair.ensures.grows;
      stands = subst (StandsAs c.put_pair.new.store c.args.sort c.in_ok-term.term) whole c.in_ok-term.ensures.id;
    }

pub returns : goal.returns
returns c = record {
  id = subst (λ (xs : List ℕ). StandsAs c.rest.store c.args.sort c.rest.term (fold (binary c.args.op) (tree_at c.args.store.now c.args.first) (map (tree_at c.args.store.now) xs))) (take_all c.rest.next-index c.args.rest.now c.rest-test.false) c.rest.invariant.stands;
  grows = c.rest.invariant.grows;
}
