use Rattle.std.proofs.Common.{ℕ, List, map, fold, refl, ap, ◌∙◌, subst}
use Rattle.std.proofs.lemmas.List.{take_all}
use Rattle.qv_words.specs.declared.sort.Sort.TheVariants.{Bits}
use Rattle.qv_words.specs.Tree.{tree_sort}
use Rattle.qv_words.specs.Prenex.{binary}
use Rattle.qv_store.specs.Nodes.{tree_at}
use Rattle.qv_store.proofs.Replacement.{grows-more}
use Rattle.qv_rewrite_sums.specs.Held.{IsWord, StandsAs}
use Rattle.qv_rewrite_sums.proofs.Held.{word-below, at-mapped}
use Rattle.qv_rewrite_sums.proofs.Built.{grows-itself, word-grown, joined-more}
use Rattle.qv_rewrite_sums.proofs.building.joined.Goals as goal

pub rest-init : goal.rest-init
rest-init c = record {
  grows = grows-itself c.args.store.now;
  stands = record { stands = record { below = word-below c.args.store.now c.args.width c.args.first c.requires.first; tree = refl }; sort = c.requires.first };
}

pub put_words-requires : goal.put_words-requires
put_words-requires c =
    let word = at-mapped (IsWord c.args.width) (tree_at c.args.store.now) c.args.rest.now c.rest.next-index c.next-item.result c.requires.rest c.rest-test.true c.next-item.is in
    record {
      rank = c.requires.rank;
      a = ap tree_sort c.rest.invariant.stands.stands.tree ∙ c.rest.invariant.stands.sort;
      b = word-grown c.args.store.now c.rest.store c.args.width c.next-item.result c.rest.invariant.grows word;
    }

pub rest-preserved : goal.rest-preserved
rest-preserved c =
    let whole = joined-more c.args.store.now c.rest.store c.args.op (tree_at c.args.store.now c.args.first) c.args.rest.now c.rest.next-index c.next-item.result c.rest.term c.args.width c.rest.invariant.grows c.rest-test.true c.next-item.is c.requires.rest c.rest.invariant.stands.stands.tree in
    record {
      grows = grows-more c.args.store.now c.rest.store c.put_words.new.store c.rest.invariant.grows c.put_words.ensures.grows;
      stands = subst (StandsAs c.put_words.new.store (Bits c.args.width) c.in_ok-term.term) whole c.in_ok-term.ensures.id;
    }

pub returns : goal.returns
returns c = record {
  id = subst (λ (xs : List ℕ). StandsAs c.rest.store (Bits c.args.width) c.rest.term (fold (binary c.args.op) (tree_at c.args.store.now c.args.first) (map (tree_at c.args.store.now) xs))) (take_all c.rest.next-index c.args.rest.now c.rest-test.false) c.rest.invariant.stands;
  grows = c.rest.invariant.grows;
}
