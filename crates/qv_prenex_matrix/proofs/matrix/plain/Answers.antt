use Rattle.std.proofs.Common.{◌≡◌, sym, ap, ◌∙◌, subst}
use Rattle.qv_words.specs.declared.sort.Sort.TheVariants.{Bool as BoolSort}
use Rattle.std.specs.Prelude.{Some}
use Rattle.qv_words.specs.Tree.{Tree, tree_sort}
use Rattle.qv_words.specs.Sorted.{IsSorted, no_levels}
use Rattle.qv_words.specs.Replacement.{replaced}
use Rattle.qv_words.specs.Problem.{with_places}
use Rattle.qv_words.specs.Prenex.{negation, under_sign}
use Rattle.qv_store.specs.Nodes.{tree_at}
use Rattle.qv_store.specs.Stores.{StandsAt}
use Rattle.qv_store.proofs.Replacement.{if-ok}
use Rattle.qv_prenex_splits.specs.Naming.{place_of, outer_of}
use Rattle.qv_prenex_splits.proofs.Fitting.{negation-sorted, negation-formula}
use Rattle.qv_prenex_matrix.proofs.Running.{plain-renamed, named-by, named-more, always}
use Rattle.qv_prenex_matrix.proofs.matrix.plain.Goals as goal

pub rename-requires-clause-sorted : goal.rename-requires-clause-sorted
rename-requires-clause-sorted c = (plain-renamed c.args.store.now c.args.names.now c.args.made.now c.args.term c.requires.free c.requires.named c.requires.formula).sorted

pub put_negation-requires-clause-sorted : goal.put_negation-requires-clause-sorted
put_negation-requires-clause-sorted c =
    let r = plain-renamed c.args.store.now c.args.names.now c.args.made.now c.args.term c.requires.free c.requires.named c.requires.formula in
    let id = c.in_ok-id.ensures.id in
    negation-sorted no_levels (tree_at c.rename.new.store c.in_ok-id.id) (subst IsSorted (sym id.tree) r.sorted) (ap tree_sort id.tree ∙ r.bool)

pub returns-then-plus-clause-id : goal.returns-then-plus-clause-id
returns-then-plus-clause-id c =
    let r = plain-renamed c.args.store.now c.args.names.now c.args.made.now c.args.term c.requires.free c.requires.named c.requires.formula in
    let x : Tree = with_places (place_of c.args.names.now.constants.keys) (replaced (outer_of c.args.store.now c.args.names.now.outer) (tree_at c.args.store.now c.args.term)) in
    subst (StandsAt c.rename.new.store c.in_ok-id.id) (r.is ∙ sym (ap (λ b. under_sign b x) c.if-plus.true)) c.in_ok-id.ensures.id

pub returns-then-plus-clause-bool : goal.returns-then-plus-clause-bool
returns-then-plus-clause-bool c =
    let r = plain-renamed c.args.store.now c.args.names.now c.args.made.now c.args.term c.requires.free c.requires.named c.requires.formula in
    ap tree_sort c.in_ok-id.ensures.id.tree ∙ r.bool

pub returns-then-plus-clause-named : goal.returns-then-plus-clause-named
returns-then-plus-clause-named c =
    named-by c.args.store.now c.rename.new.store c.args.names.now c.args.made.now c.rename.new.made c.rename.ensures.grows c.rename.ensures.shared c.requires.named c.in_ok-id.ensures.made

pub returns-else-plus-clause-id : goal.returns-else-plus-clause-id
returns-else-plus-clause-id c =
    let r = plain-renamed c.args.store.now c.args.names.now c.args.made.now c.args.term c.requires.free c.requires.named c.requires.formula in
    let x : Tree = with_places (place_of c.args.names.now.constants.keys) (replaced (outer_of c.args.store.now c.args.names.now.outer) (tree_at c.args.store.now c.args.term)) in
    let same : negation (tree_at c.rename.new.store c.in_ok-id.id) ≡ under_sign c.args.plus x = ap negation (c.in_ok-id.ensures.id.tree ∙ r.is) ∙ sym (ap (λ b. under_sign b x) c.if-plus.false) in
    if-ok c.put_negation.result (λ id at. subst (StandsAt c.put_negation.new.store id) same at) c.put_negation.ensures.id

pub returns-else-plus-clause-bool : goal.returns-else-plus-clause-bool
returns-else-plus-clause-bool c =
    let r = plain-renamed c.args.store.now c.args.names.now c.args.made.now c.args.term c.requires.free c.requires.named c.requires.formula in
    let b : tree_sort (tree_at c.rename.new.store c.in_ok-id.id) ≡ Some BoolSort = ap tree_sort c.in_ok-id.ensures.id.tree ∙ r.bool in
    if-ok c.put_negation.result (λ id at. ap tree_sort at.tree ∙ negation-formula (tree_at c.rename.new.store c.in_ok-id.id) b) c.put_negation.ensures.id

pub returns-else-plus-clause-named : goal.returns-else-plus-clause-named
returns-else-plus-clause-named c =
    always c.put_negation.result (named-more c.rename.new.store c.put_negation.new.store c.args.names.now c.rename.new.made c.put_negation.ensures.grows c.put_negation.ensures.shared
    (named-by c.args.store.now c.rename.new.store c.args.names.now c.args.made.now c.rename.new.made c.rename.ensures.grows c.rename.ensures.shared c.requires.named c.in_ok-id.ensures.made))
