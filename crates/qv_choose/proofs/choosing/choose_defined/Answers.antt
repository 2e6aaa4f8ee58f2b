use Rattle.std.proofs.Common.{◌≡◌, ℕ, List, [], ◌∷◌, refl, sym, subst}
use Rattle.qv_words.specs.declared.word.Word.{Word}
use Rattle.qv_words.specs.Word.{values_of}
use Rattle.qv_words.specs.Tree.{Tree}
use Rattle.qv_store.specs.Nodes.{tree_at}
use Rattle.qv_choose_paths.specs.declared.ways.Place.{Place}
use Rattle.qv_choose_paths.specs.Sights.{IsTrial}
use Rattle.qv_choose_clauses.proofs.Placed.{if-other}
use Rattle.qv_choose_candidates.specs.Chosen.{IsChoice, IsOtherChoice}
use Rattle.qv_choose_candidates.specs.Offers.{Fails, StaysTrue}
use Rattle.qv_choose_candidates.proofs.ChoiceUses.{defined-first, definition-choice, other-choice}
use Rattle.qv_choose.specs.Trying.{IsTermAt}
use Rattle.qv_choose.proofs.DefinedLaws.{definition-term}
use Rattle.qv_choose.proofs.choosing.choose_defined.Goals as goal

pub holds_with-requires-clause-term : goal.holds_with-requires-clause-term
holds_with-requires-clause-term c =
    subst (λ (p : Place). IsTermAt c.args.point.now c.args.store.now p c.args.term) (sym c.requires.place)
    (definition-term c.args.point.now c.args.store.now c.args.region c.args.place c.args.term c.requires.trial.region c.requires.defined)

pub returns-then-branch-clause-choice : goal.returns-then-branch-clause-choice
returns-then-branch-clause-choice c =
    let term = tree_at c.args.store.now c.args.term in
    let region = tree_at c.args.store.now c.args.region in
    definition-choice c.args.point.now c.args.place region c.args.store.now c.args.term c.requires.before c.requires.defined
    (subst (λ (p : Place). StaysTrue (values_of c.args.point.now) region p.level term) c.requires.place ((c.in_ok-holds_with.ensures.held term refl).0 c.if-branch.true))

pub choose_other-requires-clause-trial : goal.choose_other-requires-clause-trial
choose_other-requires-clause-trial c = subst (λ (point : List Word). IsTrial point c.args.store.now c.args.region c.args.trial.now) (sym c.in_ok-holds_with.ensures.same) c.requires.trial

pub returns-clause-choice : goal.returns-clause-choice
returns-clause-choice c =
    let p = c.args.place in
    let old = c.args.store.now in
    let region = tree_at old c.args.region in
    let term = tree_at old c.args.term in
    let point = c.args.point.now in
    let new = c.choose_other.new.store in
    let first = defined-first p region c.requires.defined.term c.requires.defined.is c.requires.defined.outside in
    let fails : Fails (StaysTrue (values_of point) region p.level) c.requires.defined.term =
    subst (Fails (StaysTrue (values_of point) region p.level)) c.requires.defined.stands.tree
    (subst (λ (q : Place). Fails (StaysTrue (values_of point) region q.level) term) c.requires.place ((c.in_ok-holds_with.ensures.held term refl).1 c.if-branch.false)) in
    if-other c.choose_other.result (IsOtherChoice c.holds_with.new.point p region new) (IsChoice point p region new)
    (λ id h. other-choice point p region (c.requires.defined.term ∷ []) new id c.requires.before first (fails, tt)
    (subst (λ (words : List Word). IsOtherChoice words p region new id) c.in_ok-holds_with.ensures.same h)) c.choose_other.ensures.choice
