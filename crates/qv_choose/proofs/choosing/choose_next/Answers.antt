use Rattle.std.proofs.Common.{◌≡◌, ◌<◌, ℕ, List, [], length, refl, sym, ap, subst, ◌∙◌, arith}
use Rattle.std.specs.Prelude.{All, Some}
use Rattle.std.specs.List.{AllByRecursion}
use Rattle.std.proofs.lemmas.List.Elements.{recursion_from_All, All-from_recursion}
use Rattle.qv_words.specs.declared.sort.Sort.TheVariants.{Bool as BoolSort}
use Rattle.qv_words.specs.declared.word.Word.{Word}
use Rattle.qv_words.specs.Tree.{Tree, tree_sort}
use Rattle.qv_words.specs.Problem.{conjunction}
use Rattle.qv_store.specs.Nodes.{tree_at}
use Rattle.qv_store.specs.Stores.{StandsAt}
use Rattle.qv_store.specs.Walks.{named}
use Rattle.qv_store.proofs.Replacement.{grows-more}
use Rattle.qv_choose_paths.specs.Sights.{IsRegion}
use Rattle.qv_choose.proofs.PlaceLaws.{numbers-there, those-below, those-bool, region-of, all-take, parts-below, still-picked, part-choice, put-parts}
use Rattle.qv_choose.proofs.choosing.choose_next.Goals as goal

pub pick-requires : goal.pick-requires
pick-requires c = record { numbers = numbers-there c.args.place.level c.args.store.now c.args.parts.now c.args.numbers.now c.requires.picked }

pub conjoin-requires-clause-ids : goal.conjoin-requires-clause-ids
conjoin-requires-clause-ids c =
    subst (λ (ids : List ℕ). All (λ id. id < length c.args.store.now) ids) (sym c.deref.ensures.value)
    (those-below c.args.point.now c.args.store.now c.args.parts.now c.args.numbers.now c.in_ok-picked.picked.items (recursion_from_All (IsRegion c.args.point.now c.args.store.now) c.args.parts.now c.requires.regions) c.in_ok-picked.ensures.picked)

pub conjoin-requires-clause-bool : goal.conjoin-requires-clause-bool
conjoin-requires-clause-bool c =
    subst (λ (ids : List ℕ). All (λ id. tree_sort (tree_at c.args.store.now id) ≡ Some BoolSort) ids) (sym c.deref.ensures.value)
    (those-bool c.args.point.now c.args.store.now c.args.parts.now c.args.numbers.now c.in_ok-picked.picked.items (recursion_from_All (IsRegion c.args.point.now c.args.store.now) c.args.parts.now c.requires.regions) c.in_ok-picked.ensures.picked)

pub choose_one-requires-clause-region : goal.choose_one-requires-clause-region
choose_one-requires-clause-region c =
    let stands = subst (λ (ids : List ℕ). StandsAt c.conjoin.new.store c.in_ok-region.region (conjunction (named c.args.store.now ids))) c.deref.ensures.value c.in_ok-region.ensures.id in
    region-of c.args.point.now c.args.store.now c.args.parts.now c.args.numbers.now c.in_ok-picked.picked.items (recursion_from_All (IsRegion c.args.point.now c.args.store.now) c.args.parts.now c.requires.regions) c.in_ok-picked.ensures.picked
    c.conjoin.new.store c.in_ok-region.region c.in_ok-region.ensures.shared stands

pub put_each-requires-clause-numbers : goal.put_each-requires-clause-numbers
put_each-requires-clause-numbers c = numbers-there c.args.place.level c.args.store.now c.args.parts.now c.args.numbers.now c.requires.picked

pub put_each-requires-clause-below : goal.put_each-requires-clause-below
put_each-requires-clause-below c =
    let stands = subst (λ (ids : List ℕ). StandsAt c.conjoin.new.store c.in_ok-region.region (conjunction (named c.args.store.now ids))) c.deref.ensures.value c.in_ok-region.ensures.id in
    parts-below c.args.point.now c.args.store.now c.args.parts.now c.args.numbers.now c.in_ok-picked.picked.items (recursion_from_All (IsRegion c.args.point.now c.args.store.now) c.args.parts.now c.requires.regions) c.in_ok-picked.ensures.picked
    c.conjoin.new.store c.in_ok-region.region c.in_ok-region.ensures.shared stands
    c.args.place c.choose_one.new.store c.in_ok-term.term c.requires.level c.conjoin.ensures.grows c.choose_one.ensures.grows c.in_ok-term.ensures.choice

pub put_each-requires-clause-fit : goal.put_each-requires-clause-fit
put_each-requires-clause-fit c =
    let stands = subst (λ (ids : List ℕ). StandsAt c.conjoin.new.store c.in_ok-region.region (conjunction (named c.args.store.now ids))) c.deref.ensures.value c.in_ok-region.ensures.id in
    all-take c.args.point.now c.args.store.now c.args.parts.now c.args.numbers.now c.in_ok-picked.picked.items (recursion_from_All (IsRegion c.args.point.now c.args.store.now) c.args.parts.now c.requires.regions) c.in_ok-picked.ensures.picked
    c.conjoin.new.store c.in_ok-region.region c.in_ok-region.ensures.shared stands
    c.args.place c.choose_one.new.store c.in_ok-term.term c.requires.level c.conjoin.ensures.grows c.choose_one.ensures.grows c.in_ok-term.ensures.choice

pub put_each-requires-clause-picked : goal.put_each-requires-clause-picked
put_each-requires-clause-picked c =
    let stands = subst (λ (ids : List ℕ). StandsAt c.conjoin.new.store c.in_ok-region.region (conjunction (named c.args.store.now ids))) c.deref.ensures.value c.in_ok-region.ensures.id in
    still-picked c.args.point.now c.args.store.now c.args.parts.now c.args.numbers.now c.in_ok-picked.picked.items (recursion_from_All (IsRegion c.args.point.now c.args.store.now) c.args.parts.now c.requires.regions) c.in_ok-picked.ensures.picked
    c.conjoin.new.store c.in_ok-region.region c.in_ok-region.ensures.shared stands
    c.args.place c.choose_one.new.store c.in_ok-term.term c.requires.level c.conjoin.ensures.grows c.choose_one.ensures.grows c.in_ok-term.ensures.choice c.requires.picked

pub put_each-requires-clause-term : goal.put_each-requires-clause-term
put_each-requires-clause-term c = c.in_ok-term.ensures.choice.stands.below

pub returns-clause-choice : goal.returns-clause-choice
returns-clause-choice c =
    let stands = subst (λ (ids : List ℕ). StandsAt c.conjoin.new.store c.in_ok-region.region (conjunction (named c.args.store.now ids))) c.deref.ensures.value c.in_ok-region.ensures.id in
    part-choice c.args.point.now c.args.store.now c.args.parts.now c.args.numbers.now c.in_ok-picked.picked.items (recursion_from_All (IsRegion c.args.point.now c.args.store.now) c.args.parts.now c.requires.regions) c.in_ok-picked.ensures.picked
    c.conjoin.new.store c.in_ok-region.region c.in_ok-region.ensures.shared stands
    c.args.place c.choose_one.new.store c.in_ok-term.term c.requires.level c.conjoin.ensures.grows c.choose_one.ensures.grows c.in_ok-term.ensures.choice
    c.put_each.new.store c.put_each.ensures.grows

pub returns-clause-parts : goal.returns-clause-parts
returns-clause-parts c =
    let stands = subst (λ (ids : List ℕ). StandsAt c.conjoin.new.store c.in_ok-region.region (conjunction (named c.args.store.now ids))) c.deref.ensures.value c.in_ok-region.ensures.id in
    put-parts c.args.point.now c.args.store.now c.args.parts.now c.args.numbers.now c.in_ok-picked.picked.items (recursion_from_All (IsRegion c.args.point.now c.args.store.now) c.args.parts.now c.requires.regions) c.in_ok-picked.ensures.picked
    c.conjoin.new.store c.in_ok-region.region c.in_ok-region.ensures.shared stands
    c.args.place c.choose_one.new.store c.in_ok-term.term c.requires.level c.conjoin.ensures.grows c.choose_one.ensures.grows c.in_ok-term.ensures.choice
    c.put_each.new.store c.put_each.ensures.grows c.put_each.new.parts c.in_ok-put_each.ensures.below c.in_ok-put_each.ensures.parts

pub returns-in_err-term-clause-grows : goal.returns-in_err-term-clause-grows
returns-in_err-term-clause-grows c = grows-more c.args.store.now c.conjoin.new.store c.choose_one.new.store c.conjoin.ensures.grows c.choose_one.ensures.grows

pub returns-in_err-put_each-clause-grows : goal.returns-in_err-put_each-clause-grows
returns-in_err-put_each-clause-grows c = grows-more c.args.store.now c.choose_one.new.store c.put_each.new.store (grows-more c.args.store.now c.conjoin.new.store c.choose_one.new.store c.conjoin.ensures.grows c.choose_one.ensures.grows) c.put_each.ensures.grows

pub returns-clause-grows : goal.returns-clause-grows
returns-clause-grows c = grows-more c.args.store.now c.choose_one.new.store c.put_each.new.store (grows-more c.args.store.now c.conjoin.new.store c.choose_one.new.store c.conjoin.ensures.grows c.choose_one.ensures.grows) c.put_each.ensures.grows
