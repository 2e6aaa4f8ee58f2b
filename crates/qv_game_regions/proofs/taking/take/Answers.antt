use Rattle.std.proofs.Common.{◌≡◌, List, Option, ℕ, length, drop, sym, ap, subst, ◌∙◌}
use Rattle.qv_words.specs.Word.{sorts_of, values_of}
use Rattle.qv_words.specs.Tree.{Tree, IsQuantifierFree}
use Rattle.qv_words.specs.Replacement.{HasTheirSorts, replaced}
use Rattle.qv_words.specs.Choice.{AreChosen}
use Rattle.qv_words.specs.Linked.{with_terms}
use Rattle.qv_game_entry_laws.specs.BuildingLaws.{IsSimplified}
use Rattle.qv_store.specs.Nodes.{tree_at}
use Rattle.qv_store.specs.Walks.{named}
use Rattle.qv_store.specs.Replacing.{AreTermsOf, put_by_level}
use Rattle.qv_store.proofs.Replacement.{grown-tree, grows-more}
use Rattle.qv_game_regions.specs.Slots.{slots_from}
use Rattle.qv_game_regions.proofs.Blocks.{chosen-sorts, led-plain, named-grows, slots-are, slots-led, slots-there}
use Rattle.qv_game_regions.proofs.taking.take.Goals as goal

pub put_in-requires-clause-terms : goal.put_in-requires-clause-terms
put_in-requires-clause-terms c =
    let mid = c.choose.new.store in
    let terms = c.in_ok-terms.terms.items in
    let slots : c.deref-2.result.now ≡ slots_from c.args.first terms =
    c.deref-2.ensures.value ∙ c.in_ok-slots.ensures ∙ ap (slots_from c.args.first) c.deref.ensures.value in
    subst (AreTermsOf mid) (sym slots) (slots-there mid c.args.first terms c.in_ok-terms.ensures.below)

pub put_in-requires-clause-sorts : goal.put_in-requires-clause-sorts
put_in-requires-clause-sorts c =
    let old = c.args.store.now in
    let mid = c.choose.new.store in
    let first = c.args.first in
    let terms = c.in_ok-terms.terms.items in
    let slots : c.deref-2.result.now ≡ slots_from first terms =
    c.deref-2.ensures.value ∙ c.in_ok-slots.ensures ∙ ap (slots_from first) c.deref.ensures.value in
    let same = grown-tree old mid c.choose.ensures.grows c.args.later c.requires.later in
    let sorts = chosen-sorts first (named mid terms) c.args.point.now c.in_ok-terms.ensures.terms (tree_at old c.args.later) c.requires.places in
    subst (λ (t : Tree). HasTheirSorts (put_by_level mid c.deref-2.result.now) t) (sym same)
    (subst (λ (q : List (Option ℕ)). HasTheirSorts (put_by_level mid q) (tree_at old c.args.later)) (sym slots)
    (subst (λ (f : ℕ → Option Tree). HasTheirSorts f (tree_at old c.args.later)) (sym (slots-are mid first terms)) sorts))

pub reduce-requires-clause-free : goal.reduce-requires-clause-free
reduce-requires-clause-free c =
    let old = c.args.store.now in
    let mid = c.choose.new.store in
    let first = c.args.first in
    let terms = c.in_ok-terms.terms.items in
    let slots : c.deref-2.result.now ≡ slots_from first terms =
    c.deref-2.ensures.value ∙ c.in_ok-slots.ensures ∙ ap (slots_from first) c.deref.ensures.value in
    let same = grown-tree old mid c.choose.ensures.grows c.args.later c.requires.later in
    let led : tree_at c.put_in.new.self c.in_ok-led.led ≡ with_terms first (named mid terms) (tree_at old c.args.later) =
    c.in_ok-led.ensures.id.tree ∙ ap (λ (q : List (Option ℕ)). replaced (put_by_level mid q) (tree_at mid c.args.later)) slots
    ∙ slots-led mid first terms (tree_at mid c.args.later) ∙ ap (with_terms first (named mid terms)) same in
    subst IsQuantifierFree (sym led)
    (led-plain first (named mid terms) (drop first (sorts_of c.args.point.now)) (tree_at old c.args.later) c.in_ok-terms.ensures.terms c.requires.formula.quantifier_free)

pub returns-clause-chosen : goal.returns-clause-chosen
returns-clause-chosen c =
    let old = c.args.store.now in
    let mid = c.choose.new.store in
    let new = c.reduce.new.store in
    let first = c.args.first in
    let terms = c.in_ok-terms.terms.items in
    let later = tree_at old c.args.later in
    let point = c.args.point.now in
    let grows = grows-more mid c.put_in.new.self new c.put_in.ensures.grows c.reduce.ensures.grows in
    let named-same : named new terms ≡ named mid terms = named-grows mid new grows terms c.in_ok-terms.ensures.below in
    subst (λ (ts : List Tree). AreChosen first (length point) (values_of point) later first (drop first (sorts_of point)) ts) (sym named-same)
    c.in_ok-terms.ensures.chosen

pub returns-clause-region : goal.returns-clause-region
returns-clause-region c =
    let old = c.args.store.now in
    let mid = c.choose.new.store in
    let new = c.reduce.new.store in
    let first = c.args.first in
    let terms = c.in_ok-terms.terms.items in
    let later = tree_at old c.args.later in
    let slots : c.deref-2.result.now ≡ slots_from first terms =
    c.deref-2.ensures.value ∙ c.in_ok-slots.ensures ∙ ap (slots_from first) c.deref.ensures.value in
    let same = grown-tree old mid c.choose.ensures.grows c.args.later c.requires.later in
    let led : tree_at c.put_in.new.self c.in_ok-led.led ≡ with_terms first (named mid terms) later =
    c.in_ok-led.ensures.id.tree ∙ ap (λ (q : List (Option ℕ)). replaced (put_by_level mid q) (tree_at mid c.args.later)) slots
    ∙ slots-led mid first terms (tree_at mid c.args.later) ∙ ap (with_terms first (named mid terms)) same in
    let grows = grows-more mid c.put_in.new.self new c.put_in.ensures.grows c.reduce.ensures.grows in
    let named-same : named new terms ≡ named mid terms = named-grows mid new grows terms c.in_ok-terms.ensures.below in
    let made : IsSimplified (tree_at new c.in_ok-region.region) (tree_at c.put_in.new.self c.in_ok-led.led) =
    record { stands = c.in_ok-region.ensures.stands_for; small = c.in_ok-region.ensures.no_more; simple = c.in_ok-region.ensures.simple } in
    subst (λ (ts : List Tree). IsSimplified (tree_at new c.in_ok-region.region) (with_terms first ts later)) (sym named-same)
    (subst (λ (t : Tree). IsSimplified (tree_at new c.in_ok-region.region) t) led made)

pub returns-in_err-led-clause-grows : goal.returns-in_err-led-clause-grows
returns-in_err-led-clause-grows c = grows-more c.args.store.now c.choose.new.store c.put_in.new.self c.choose.ensures.grows c.put_in.ensures.grows

pub returns-in_err-region-clause-grows : goal.returns-in_err-region-clause-grows
returns-in_err-region-clause-grows c = grows-more c.args.store.now c.put_in.new.self c.reduce.new.store (grows-more c.args.store.now c.choose.new.store c.put_in.new.self c.choose.ensures.grows c.put_in.ensures.grows) c.reduce.ensures.grows

pub returns-clause-grows : goal.returns-clause-grows
returns-clause-grows c = grows-more c.args.store.now c.put_in.new.self c.reduce.new.store (grows-more c.args.store.now c.choose.new.store c.put_in.new.self c.choose.ensures.grows c.put_in.ensures.grows) c.reduce.ensures.grows
