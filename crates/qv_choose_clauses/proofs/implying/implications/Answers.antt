use Rattle.std.proofs.Common.{◌≡◌, ℕ, Bool, List, filter, length, ap, sym, subst, ◌∙◌}
use Rattle.std.specs.Prelude.{All}
use Rattle.std.proofs.lemmas.List.Elements.{All-from_recursion}
use Rattle.qv_words.specs.Choice.{implications}
use Rattle.qv_store.specs.Nodes.{tree_at}
use Rattle.qv_store.specs.Walks.{named}
use Rattle.qv_choose_clauses.specs.declared.clauses.Clause.{Clause}
use Rattle.qv_choose_clauses.specs.Implying.{AreSaid, IsSettling}
use Rattle.qv_choose_clauses.proofs.Placed.{if-other}
use Rattle.qv_choose_clauses.proofs.PickLaws.{Says, are-said, are-implications}
use Rattle.qv_choose_clauses.proofs.SettleLaws.{all-picked}
use Rattle.qv_choose_clauses.proofs.implying.implications.Goals as goal

pub picked-requires-clause-clauses : goal.picked-requires-clause-clauses
picked-requires-clause-clauses c = ap length c.deref.ensures.value ∙ c.in_ok-clauses.ensures.many ∙ sym (ap length c.ids.ensures)

pub picked-requires-clause-marks : goal.picked-requires-clause-marks
picked-requires-clause-marks c = ap length c.deref-2.ensures.value ∙ c.in_ok-marks.ensures.many ∙ sym (ap length c.ids.ensures)

pub returns-clause-clauses : goal.returns-clause-clauses
returns-clause-clauses c =
    let p = c.args.sight.now.place in
    let trees = c.args.store.now in
    let region = tree_at trees c.args.region in
    let walk = c.args.sight.now.walk in
    let test : ℕ → Bool = λ n. Says p region (tree_at trees n) in
    let said : AreSaid test c.ids.result.now c.deref.result.now c.deref-2.result.now =
    subst (λ (ids : List ℕ). AreSaid test ids c.deref.result.now c.deref-2.result.now) (sym c.ids.ensures)
    (subst (λ (cs : List Clause). AreSaid test walk cs c.deref-2.result.now) (sym c.deref.ensures.value)
    (subst (λ (ms : List Bool). AreSaid test walk c.in_ok-clauses.clauses.items ms) (sym c.deref-2.ensures.value)
    (are-said p trees region walk c.in_ok-clauses.clauses.items c.in_ok-marks.marks.items c.in_ok-clauses.ensures.clauses c.in_ok-marks.ensures.marks))) in
    if-other c.picked.result (λ ids. (says : ℕ → Bool) → AreSaid says c.ids.result.now c.deref.result.now c.deref-2.result.now → ids.items ≡ filter says c.ids.result.now)
    (λ ids. named trees ids.items ≡ implications p.first p.end region p.level)
    (λ ids h. are-implications p trees region walk ids.items (h test said ∙ ap (filter test) c.ids.ensures) c.requires.order) c.picked.ensures

pub returns-clause-settling : goal.returns-clause-settling
returns-clause-settling c =
    let p = c.args.sight.now.place in
    let trees = c.args.store.now in
    let region = tree_at trees c.args.region in
    let walk = c.args.sight.now.walk in
    let test : ℕ → Bool = λ n. Says p region (tree_at trees n) in
    let said : AreSaid test c.ids.result.now c.deref.result.now c.deref-2.result.now =
    subst (λ (ids : List ℕ). AreSaid test ids c.deref.result.now c.deref-2.result.now) (sym c.ids.ensures)
    (subst (λ (cs : List Clause). AreSaid test walk cs c.deref-2.result.now) (sym c.deref.ensures.value)
    (subst (λ (ms : List Bool). AreSaid test walk c.in_ok-clauses.clauses.items ms) (sym c.deref-2.ensures.value)
    (are-said p trees region walk c.in_ok-clauses.clauses.items c.in_ok-marks.marks.items c.in_ok-clauses.ensures.clauses c.in_ok-marks.ensures.marks))) in
    if-other c.picked.result (λ ids. (says : ℕ → Bool) → AreSaid says c.ids.result.now c.deref.result.now c.deref-2.result.now → ids.items ≡ filter says c.ids.result.now)
    (λ ids. All (IsSettling p trees) ids.items)
    (λ ids h. All-from_recursion (IsSettling p trees) ids.items (all-picked p trees region c.args.sight.now ids.items c.requires.scene (h test said ∙ ap (filter test) c.ids.ensures))) c.picked.ensures
