use Rattle.std.proofs.Common.{◌<◌, ℕ, List, [], ◌∷◌, length, sym, subst}
use Rattle.std.specs.Prelude.{All}
use Rattle.std.proofs.lemmas.List.Elements.{All-from_recursion}
use Rattle.qv_words.specs.Tree.{Apply}
use Rattle.qv_words.specs.Sorted.{IsSorted}
use Rattle.qv_store.specs.Nodes.{trees_at}
use Rattle.qv_store.specs.Stores.{StandsAt}
use Rattle.qv_store.proofs.Replacement.{if-ok}
use Rattle.qv_rewrite_sums.proofs.building.put_two.Goals as goal

pub put-requires-clause-children : goal.put-requires-clause-children
put-requires-clause-children c =
    subst (λ (ks : List ℕ). All (λ (child : ℕ). child < length c.args.store.now) ks) (sym c.in_ok-kids.ensures.ok)
    (All-from_recursion (λ (child : ℕ). child < length c.args.store.now) (c.args.a ∷ c.args.b ∷ []) (c.requires.a, (c.requires.b, tt)))

pub put-requires-clause-sorted : goal.put-requires-clause-sorted
put-requires-clause-sorted c = subst (λ (ks : List ℕ). IsSorted (Apply c.args.op (trees_at c.args.store.now ks))) (sym c.in_ok-kids.ensures.ok) c.requires.sorted

pub returns-clause-id : goal.returns-clause-id
returns-clause-id c =
    if-ok c.put.result (λ id at. subst (λ (ks : List ℕ). StandsAt c.put.new.self id (Apply c.args.op (trees_at c.args.store.now ks))) c.in_ok-kids.ensures.ok at) c.put.ensures.id
