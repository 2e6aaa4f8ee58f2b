use Rattle.std.proofs.Common.{◌<◌, ℕ, List, [], ◌∷◌, length, sym, subst}
use Rattle.std.specs.Prelude.{All}
use Rattle.std.proofs.lemmas.List.Elements.{All-from_recursion}
use Rattle.qv_words.specs.declared.sort.Sort.TheVariants.{Bits}
use Rattle.qv_words.specs.Tree.{Apply}
use Rattle.qv_words.specs.Sorted.{IsSorted}
use Rattle.qv_store.specs.Nodes.{tree_at, trees_at}
use Rattle.qv_store.specs.Stores.{StandsAt}
use Rattle.qv_store.proofs.Replacement.{if-ok}
use Rattle.qv_rewrite_sums.proofs.Held.{word-below}
use Rattle.qv_rewrite_sums.proofs.Fitting.{sort-unary, sorted-unary}
use Rattle.qv_rewrite_sums.proofs.building.put_word.Goals as goal

pub put-requires-clause-children : goal.put-requires-clause-children
put-requires-clause-children c =
    subst (λ (ks : List ℕ). All (λ (child : ℕ). child < length c.args.store.now) ks) (sym c.in_ok-kids.ensures.ok)
    (All-from_recursion (λ (child : ℕ). child < length c.args.store.now) (c.args.a ∷ []) (word-below c.args.store.now c.args.width c.args.a c.requires.a, tt))

pub put-requires-clause-sorted : goal.put-requires-clause-sorted
put-requires-clause-sorted c =
    let t = tree_at c.args.store.now c.args.a in
    subst (λ (ks : List ℕ). IsSorted (Apply c.args.op (trees_at c.args.store.now ks))) (sym c.in_ok-kids.ensures.ok)
    (sorted-unary c.args.op t (Bits c.args.width) (c.len-terms.ensures.shared.sorted c.args.a (word-below c.args.store.now c.args.width c.args.a c.requires.a)) (sort-unary c.args.op c.args.width t c.requires.a c.requires.rank))

pub returns-clause-id : goal.returns-clause-id
returns-clause-id c =
    if-ok c.put.result (λ id at. record {
      stands = subst (λ (ks : List ℕ). StandsAt c.put.new.self id (Apply c.args.op (trees_at c.args.store.now ks))) c.in_ok-kids.ensures.ok at;
      sort = sort-unary c.args.op c.args.width (tree_at c.args.store.now c.args.a) c.requires.a c.requires.rank;
    }) c.put.ensures.id
