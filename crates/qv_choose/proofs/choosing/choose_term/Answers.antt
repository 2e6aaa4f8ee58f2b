use Rattle.std.proofs.Common.{◌≡◌, ap, sym, ◌∙◌, subst}
use Rattle.qv_words.specs.Tree.{Tree}
use Rattle.qv_words.specs.Choice.{definitions}
use Rattle.qv_store.specs.Nodes.{tree_at}
use Rattle.qv_store.proofs.Replacement.{grows-more}
use Rattle.qv_choose_paths.specs.declared.ways.Place.{Place}
use Rattle.qv_choose_paths.proofs.RowTerms.{stays-at}
use Rattle.qv_choose_clauses.specs.Defining.{IsDefinition}
use Rattle.qv_choose_clauses.proofs.Placed.{if-other}
use Rattle.qv_choose_candidates.specs.Chosen.{IsChoice}
use Rattle.qv_choose_candidates.proofs.SightLaws.{sight-grows}
use Rattle.qv_choose.proofs.DefinedLaws.{region-grows}
use Rattle.qv_choose.proofs.choosing.choose_term.Goals as goal

pub of-requires-2-clause-region : goal.of-requires-2-clause-region
of-requires-2-clause-region c = region-grows c.args.point.now c.args.store.now c.definition.new.store c.args.region c.definition.ensures.grows c.in_ok-defined.ensures.shared c.requires.region

pub of-requires-2-clause-sight : goal.of-requires-2-clause-sight
of-requires-2-clause-sight c = sight-grows c.args.store.now c.definition.new.store c.args.region c.in_ok-sight.sight c.definition.ensures.grows c.in_ok-defined.ensures.shared c.in_ok-sight.ensures.sight

pub choose_first-requires-clause-defined : goal.choose_first-requires-clause-defined
choose_first-requires-clause-defined c =
    let mid = c.definition.new.store in
    subst (λ (t : Tree). IsDefinition c.args.place mid (definitions c.args.place.first c.args.place.end t c.args.place.level) c.in_ok-defined.defined) (sym (stays-at c.args.store.now mid c.args.region c.definition.ensures.grows c.requires.region.below))
    (subst (λ (q : Place). IsDefinition q mid (definitions q.first q.end (tree_at c.args.store.now c.args.region) q.level) c.in_ok-defined.defined) c.in_ok-sight.ensures.place c.in_ok-defined.ensures.defined)

pub choose_first-requires-clause-place : goal.choose_first-requires-clause-place
choose_first-requires-clause-place c = ap (λ s. s.place) c.in_ok-trial.ensures.sight ∙ c.in_ok-sight.ensures.place

pub returns-clause-choice : goal.returns-clause-choice
returns-clause-choice c =
    let mid = c.definition.new.store in
    let new = c.choose_first.new.store in
    let same = stays-at c.args.store.now mid c.args.region c.definition.ensures.grows c.requires.region.below in
    if-other c.choose_first.result (IsChoice c.args.point.now c.args.place (tree_at mid c.args.region) new) (IsChoice c.args.point.now c.args.place (tree_at c.args.store.now c.args.region) new)
    (λ id h. subst (λ (t : Tree). IsChoice c.args.point.now c.args.place t new id) same h) c.choose_first.ensures.choice

pub returns-clause-grows : goal.returns-clause-grows
returns-clause-grows c = grows-more c.args.store.now c.definition.new.store c.choose_first.new.store c.definition.ensures.grows c.choose_first.ensures.grows
