use Rattle.std.proofs.Common.{◌≡◌, ◌<◌, ℕ, List, [], drop, length, refl, sym, ap, subst, ◌∙◌, arith}
use Rattle.std.specs.Prelude.{All}
use Rattle.std.specs.List.{AllByRecursion, AllZip}
use Rattle.std.proofs.lemmas.List.Elements.{recursion_from_All, All-from_recursion}
use Rattle.qv_words.specs.declared.word.Word.{Word}
use Rattle.qv_words.specs.Word.{sorts_of, values_of}
use Rattle.qv_words.specs.Tree.{Tree, IsQuantifierFree}
use Rattle.qv_words.specs.Sorted.{free_levels}
use Rattle.qv_words.specs.Skolem.{IsTermOf}
use Rattle.qv_words.specs.Choice.{AreChosen, IsTrueAt}
use Rattle.qv_words.specs.Linked.{with_terms}
use Rattle.qv_words.proofs.Elements.{all-weaker}
use Rattle.qv_store.specs.Nodes.{tree_at}
use Rattle.qv_store.specs.Walks.{named}
use Rattle.qv_choose.specs.Conjuncts.{AreConjuncts}
use Rattle.qv_choose_paths.specs.Sights.{IsRegion}
use Rattle.qv_choose.proofs.BlockLaws.{block-terms, block-stays}
use Rattle.qv_choose.proofs.GoingLaws.{start-regions, start-holds}
use Rattle.qv_choose.proofs.choosing.choose.Goals as goal

pub listed-requires-clause-free : goal.listed-requires-clause-free
listed-requires-clause-free c =
    let s = c.args.store.now in
    let p = c.args.point.now in
    let r = tree_at s c.args.region in
    let regions = start-regions p s c.args.region c.in_ok-parts.parts.items c.len-count.ensures.shared c.requires.formula c.requires.places c.in_ok-parts.ensures.below c.in_ok-parts.ensures.conjuncts in
    subst (λ (ids : List ℕ). All (λ id. IsQuantifierFree (tree_at s id)) ids) (sym c.deref.ensures.value)
    (All-from_recursion (λ id. IsQuantifierFree (tree_at s id)) c.in_ok-parts.parts.items
    (all-weaker (IsRegion p s) (λ id. IsQuantifierFree (tree_at s id)) c.in_ok-parts.parts.items (λ id h. h.formula.quantifier_free) regions))

pub choose_each-requires-clause-regions : goal.choose_each-requires-clause-regions
choose_each-requires-clause-regions c =
    let s = c.args.store.now in
    let p = c.args.point.now in
    let r = tree_at s c.args.region in
    let regions = start-regions p s c.args.region c.in_ok-parts.parts.items c.len-count.ensures.shared c.requires.formula c.requires.places c.in_ok-parts.ensures.below c.in_ok-parts.ensures.conjuncts in
    let words : c.deref_mut-2.result.now ≡ p = c.deref_mut-2.ensures.value ∙ c.in_ok-words.ensures in
    subst (λ (ids : List ℕ). All (IsRegion c.deref_mut-2.result.now s) ids) (sym c.deref_mut.ensures.value)
    (subst (λ (q : List Word). All (IsRegion q s) c.in_ok-parts.parts.items) (sym words) (All-from_recursion (IsRegion p s) c.in_ok-parts.parts.items regions))

pub choose_each-requires-clause-hold : goal.choose_each-requires-clause-hold
choose_each-requires-clause-hold c =
    let s = c.args.store.now in
    let p = c.args.point.now in
    let r = tree_at s c.args.region in
    let words : c.deref_mut-2.result.now ≡ p = c.deref_mut-2.ensures.value ∙ c.in_ok-words.ensures in
    subst (λ (ids : List ℕ). All (λ id. IsTrueAt (values_of c.deref_mut-2.result.now) (tree_at s id)) ids) (sym c.deref_mut.ensures.value)
    (subst (λ (q : List Word). All (λ id. IsTrueAt (values_of q) (tree_at s id)) c.in_ok-parts.parts.items) (sym words)
    (start-holds p s c.args.region c.in_ok-parts.parts.items c.requires.holds c.in_ok-parts.ensures.conjuncts))

pub returns-clause-chosen : goal.returns-clause-chosen
returns-clause-chosen c =
    let s = c.args.store.now in
    let p = c.args.point.now in
    let r = tree_at s c.args.region in
    let words : c.deref_mut-2.result.now ≡ p = c.deref_mut-2.ensures.value ∙ c.in_ok-words.ensures in
    let of = subst (λ (ids : List ℕ). AreConjuncts r (named s ids)) (sym c.deref_mut.ensures.value) c.in_ok-parts.ensures.conjuncts in
    let chosen = subst (λ (q : List Word). AreChosen c.args.first c.args.end (values_of q) r c.args.first (drop c.args.first (sorts_of q)) (named c.choose_each.new.store c.in_ok-terms.terms.items)) words (c.in_ok-terms.ensures.chosen r of) in
    chosen

pub returns-clause-terms : goal.returns-clause-terms
returns-clause-terms c =
    let s = c.args.store.now in
    let p = c.args.point.now in
    let r = tree_at s c.args.region in
    let words : c.deref_mut-2.result.now ≡ p = c.deref_mut-2.ensures.value ∙ c.in_ok-words.ensures in
    let of = subst (λ (ids : List ℕ). AreConjuncts r (named s ids)) (sym c.deref_mut.ensures.value) c.in_ok-parts.ensures.conjuncts in
    let chosen = subst (λ (q : List Word). AreChosen c.args.first c.args.end (values_of q) r c.args.first (drop c.args.first (sorts_of q)) (named c.choose_each.new.store c.in_ok-terms.terms.items)) words (c.in_ok-terms.ensures.chosen r of) in
    block-terms p c.args.first c.args.end r (named c.choose_each.new.store c.in_ok-terms.terms.items) c.requires.formula c.requires.places c.requires.point chosen

pub returns-clause-stays : goal.returns-clause-stays
returns-clause-stays c =
    let s = c.args.store.now in
    let p = c.args.point.now in
    let r = tree_at s c.args.region in
    let words : c.deref_mut-2.result.now ≡ p = c.deref_mut-2.ensures.value ∙ c.in_ok-words.ensures in
    let of = subst (λ (ids : List ℕ). AreConjuncts r (named s ids)) (sym c.deref_mut.ensures.value) c.in_ok-parts.ensures.conjuncts in
    let chosen = subst (λ (q : List Word). AreChosen c.args.first c.args.end (values_of q) r c.args.first (drop c.args.first (sorts_of q)) (named c.choose_each.new.store c.in_ok-terms.terms.items)) words (c.in_ok-terms.ensures.chosen r of) in
    block-stays p c.args.first c.args.end r (named c.choose_each.new.store c.in_ok-terms.terms.items) c.requires.formula c.requires.places c.requires.point c.requires.block c.requires.holds chosen
