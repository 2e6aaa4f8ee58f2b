use Rattle.std.proofs.Common.{◌≡◌, ℕ, Option, [], sym, subst}
use Rattle.qv_words.specs.Choice.{definitions}
use Rattle.qv_store.specs.Nodes.{tree_at}
use Rattle.qv_choose_clauses.specs.Defining.{IsDefinition}
use Rattle.qv_choose_clauses.proofs.Placed.{if-other}
use Rattle.qv_choose_candidates.specs.Chosen.{IsChoice, IsOtherChoice}
use Rattle.qv_choose_candidates.proofs.ChoiceUses.{none-first, other-choice}
use Rattle.qv_choose.proofs.choosing.choose_first.Goals as goal

pub choose_defined-requires-clause-defined : goal.choose_defined-requires-clause-defined
choose_defined-requires-clause-defined c =
    let p = c.args.place in
    subst (λ (o : Option ℕ). IsDefinition p c.args.store.now (definitions p.first p.end (tree_at c.args.store.now c.args.region) p.level) o) c.in-Some.is c.requires.defined

pub returns-in-None-clause-choice : goal.returns-in-None-clause-choice
returns-in-None-clause-choice c =
    let p = c.args.place in
    let region = tree_at c.args.store.now c.args.region in
    let new = c.choose_other.new.store in
    let none = subst (λ (o : Option ℕ). IsDefinition p c.args.store.now (definitions p.first p.end region p.level) o) c.in-None.is c.requires.defined in
    if-other c.choose_other.result (IsOtherChoice c.args.point.now p region new) (IsChoice c.args.point.now p region new)
    (λ id h. other-choice c.args.point.now p region [] new id c.requires.before (none-first p region none) tt h) c.choose_other.ensures.choice
