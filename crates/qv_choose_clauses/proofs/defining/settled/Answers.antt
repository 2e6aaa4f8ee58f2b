use Rattle.std.proofs.Common.{◌≡◌, ◌<◌, ℕ, true, List, length, map, ap, sym, subst, ◌∙◌}
use Rattle.std.specs.Prelude.{All, Some}
use Rattle.std.proofs.lemmas.List.Elements.{recursion_from_All, All-from_recursion}
use Rattle.qv_words.specs.declared.sort.Sort.TheVariants.{Bool as BoolSort}
use Rattle.qv_words.specs.Tree.{Tree, tree_sort}
use Rattle.qv_words.specs.Problem.{conjunction}
use Rattle.qv_words.specs.Passes.{truth_literal}
use Rattle.qv_words.specs.Choice.{with_term}
use Rattle.qv_words.proofs.Elements.{all-weaker}
use Rattle.qv_store.specs.Nodes.{tree_at}
use Rattle.qv_store.specs.Stores.{StandsAt}
use Rattle.qv_store.specs.Walks.{named}
use Rattle.qv_store.proofs.Replacement.{grows-more}
use Rattle.qv_choose_clauses.specs.Implying.{IsSettling}
use Rattle.qv_choose_clauses.specs.Defining.{IsTruth}
use Rattle.qv_choose_clauses.proofs.Stores.{named-grows}
use Rattle.qv_choose_clauses.proofs.Placed.{if-other}
use Rattle.qv_choose_clauses.proofs.SettleLaws.{settling-grows}
use Rattle.qv_choose_clauses.proofs.defining.settled.Goals as goal

pub put_each-requires-clause-clauses : goal.put_each-requires-clause-clauses
put_each-requires-clause-clauses c =
    All-from_recursion (IsSettling c.args.place c.put_true.new.store) c.args.clauses.now
    (all-weaker (IsSettling c.args.place c.args.store.now) (IsSettling c.args.place c.put_true.new.store) c.args.clauses.now (λ n h. settling-grows c.args.store.now c.put_true.new.store c.args.place n c.put_true.ensures.grows h)
    (recursion_from_All (IsSettling c.args.place c.args.store.now) c.args.clauses.now c.requires.clauses))

pub conjoin-requires-clause-ids : goal.conjoin-requires-clause-ids
conjoin-requires-clause-ids c =
    subst (λ (ids : List ℕ). All (λ id. id < length c.put_each.new.store) ids) (sym c.deref.ensures.value)
    (All-from_recursion (λ id. id < length c.put_each.new.store) c.in_ok-made.made.items
    (all-weaker (IsTruth c.put_each.new.store) (λ id. id < length c.put_each.new.store) c.in_ok-made.made.items (λ n h. h.below) (recursion_from_All (IsTruth c.put_each.new.store) c.in_ok-made.made.items c.in_ok-made.ensures.truths)))

pub conjoin-requires-clause-bool : goal.conjoin-requires-clause-bool
conjoin-requires-clause-bool c =
    subst (λ (ids : List ℕ). All (λ id. tree_sort (tree_at c.put_each.new.store id) ≡ Some BoolSort) ids) (sym c.deref.ensures.value)
    (All-from_recursion (λ id. tree_sort (tree_at c.put_each.new.store id) ≡ Some BoolSort) c.in_ok-made.made.items
    (all-weaker (IsTruth c.put_each.new.store) (λ id. tree_sort (tree_at c.put_each.new.store id) ≡ Some BoolSort) c.in_ok-made.made.items (λ n h. h.bool) (recursion_from_All (IsTruth c.put_each.new.store) c.in_ok-made.made.items c.in_ok-made.ensures.truths)))

pub returns-clause-id : goal.returns-clause-id
returns-clause-id c =
    let old = c.args.store.now in
    let mid = c.put_true.new.store in
    let last = c.put_each.new.store in
    let below = all-weaker (IsSettling c.args.place old) (λ n. n < length old) c.args.clauses.now (λ n h. h.below) (recursion_from_All (IsSettling c.args.place old) c.args.clauses.now c.requires.clauses) in
    let same : map (tree_at last) c.deref.result.now ≡ map (with_term c.args.place.level (truth_literal true)) (named old c.args.clauses.now) =
    ap (map (tree_at last)) c.deref.ensures.value ∙ c.in_ok-made.ensures.made ∙ ap (map (with_term c.args.place.level (truth_literal true))) (named-grows old mid c.args.clauses.now c.put_true.ensures.grows below) in
    if-other c.conjoin.result (λ id. StandsAt c.conjoin.new.store id (conjunction (map (tree_at last) c.deref.result.now))) (λ id. StandsAt c.conjoin.new.store id (conjunction (map (with_term c.args.place.level (truth_literal true)) (named old c.args.clauses.now))))
    (λ id h. subst (λ (ts : List Tree). StandsAt c.conjoin.new.store id (conjunction ts)) same h) c.conjoin.ensures.id

pub returns-in_err-made-clause-grows : goal.returns-in_err-made-clause-grows
returns-in_err-made-clause-grows c = grows-more c.args.store.now c.put_true.new.store c.put_each.new.store c.put_true.ensures.grows c.put_each.ensures.grows

pub returns-clause-grows : goal.returns-clause-grows
returns-clause-grows c = grows-more c.args.store.now c.put_each.new.store c.conjoin.new.store (grows-more c.args.store.now c.put_true.new.store c.put_each.new.store c.put_true.ensures.grows c.put_each.ensures.grows) c.conjoin.ensures.grows
