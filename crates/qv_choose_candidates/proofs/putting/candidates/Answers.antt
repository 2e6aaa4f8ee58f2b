use Rattle.std.proofs.Common.{◌≡◌, ◌++◌, ◌<◌, List, ℕ, length, ap, sym, ◌∙◌, subst}
use Rattle.std.specs.Prelude.{All}
use Rattle.std.specs.Option.{option_to_list}
use Rattle.std.proofs.lemmas.List.Elements.{recursion_from_All, All-from_recursion}
use Rattle.qv_words.specs.Tree.{Tree}
use Rattle.qv_words.specs.Choice.{candidates, definitions}
use Rattle.qv_store.specs.Nodes.{tree_at}
use Rattle.qv_store.specs.Walks.{named}
use Rattle.qv_store.proofs.Replacement.{grows-more}
use Rattle.qv_choose_paths.specs.declared.ways.Place.{Place}
use Rattle.qv_choose_paths.proofs.RowTerms.{stays-at}
use Rattle.qv_choose_clauses.specs.Defining.{IsDefinition}
use Rattle.qv_choose_clauses.proofs.Placed.{if-other}
use Rattle.qv_choose_candidates.specs.Chosen.{others}
use Rattle.qv_choose_candidates.proofs.ChoiceUses.{in-all, below-all}
use Rattle.qv_choose_candidates.proofs.SightLaws.{sight-grows}
use Rattle.qv_choose_candidates.proofs.putting.candidates.Goals as goal

pub others-requires : goal.others-requires
others-requires c = record { sight = sight-grows c.args.store.now c.definition.new.store c.args.region c.in_ok-sight.sight c.definition.ensures.grows c.in_ok-defined.ensures.shared c.in_ok-sight.ensures.sight }

pub returns-clause-candidates : goal.returns-clause-candidates
returns-clause-candidates c =
    let p : Place = record { first = c.args.first; end = c.args.end; level = c.args.level } in
    let old = c.args.store.now in
    let mid = c.definition.new.store in
    let new = c.others.new.store in
    let region = tree_at old c.args.region in
    let defined : IsDefinition p mid (definitions p.first p.end region p.level) c.in_ok-defined.defined =
    subst (λ (q : Place). IsDefinition q mid (definitions q.first q.end region q.level) c.in_ok-defined.defined) c.in_ok-sight.ensures.place c.in_ok-defined.ensures.defined in
    let rest : named new c.in_ok-others.others.items ≡ others p region =
    c.in_ok-others.ensures.others ∙ ap (λ q. others q (tree_at mid c.args.region)) c.in_ok-sight.ensures.place
    ∙ ap (others p) (stays-at old mid c.args.region c.definition.ensures.grows c.requires.region) in
    if-other c.in_front.result (λ ids. ids.items ≡ option_to_list c.in_ok-defined.defined ++ c.deref.result.now) (λ ids. named new ids.items ≡ candidates p.first p.end region p.level)
    (λ ids h. in-all p region mid new c.in_ok-defined.defined c.in_ok-others.others.items ids.items c.others.ensures.grows defined rest (h ∙ ap (λ xs. option_to_list c.in_ok-defined.defined ++ xs) c.deref.ensures.value))
    c.in_front.ensures

pub returns-clause-below : goal.returns-clause-below
returns-clause-below c =
    let mid = c.definition.new.store in
    let new = c.others.new.store in
    let p = c.in_ok-sight.sight.place in
    if-other c.in_front.result (λ ids. ids.items ≡ option_to_list c.in_ok-defined.defined ++ c.deref.result.now) (λ ids. All (λ id. id < length new) ids.items)
    (λ ids h. All-from_recursion (λ id. id < length new) ids.items
    (below-all p (definitions p.first p.end (tree_at c.args.store.now c.args.region) p.level) mid new c.in_ok-defined.defined c.in_ok-others.others.items ids.items c.others.ensures.grows c.in_ok-defined.ensures.defined
    (recursion_from_All (λ id. id < length new) c.in_ok-others.others.items c.in_ok-others.ensures.below) (h ∙ ap (λ xs. option_to_list c.in_ok-defined.defined ++ xs) c.deref.ensures.value)))
    c.in_front.ensures

pub returns-in_err-others-clause-grows : goal.returns-in_err-others-clause-grows
returns-in_err-others-clause-grows c = grows-more c.args.store.now c.definition.new.store c.others.new.store c.definition.ensures.grows c.others.ensures.grows

pub returns-clause-grows : goal.returns-clause-grows
returns-clause-grows c = grows-more c.args.store.now c.definition.new.store c.others.new.store c.definition.ensures.grows c.others.ensures.grows
