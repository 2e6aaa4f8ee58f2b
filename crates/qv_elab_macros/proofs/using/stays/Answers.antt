use Rattle.std.proofs.Common.{◌≡◌, length, sym, ◌∙◌}
use Rattle.qv_words.proofs.Equals.{eq-from_test}
use Rattle.qv_store.specs.Nodes.{tree_at}
use Rattle.qv_elab_macros.proofs.Insertion.{stays-whole, stays-ground, when-not}
use Rattle.qv_elab_macros.proofs.using.stays.Goals as goal

pub returns-then-binders-eq0 : goal.returns-then-binders-eq0
returns-then-binders-eq0 c h =
    let none : length c.args.args.now ≡ 0 = eq-from_test (length c.args.args.now) 0 (sym c.is_empty.ensures ∙ c.if-is_empty.true) in
    stays-whole c.args.store.now c.args.binders c.args.args.now (tree_at c.args.store.now c.args.id) none c.if-binders-eq0.true

pub returns-else-binders-eq0 : goal.returns-else-binders-eq0
returns-else-binders-eq0 c h =
    let none : length c.args.args.now ≡ 0 = eq-from_test (length c.args.args.now) 0 (sym c.is_empty.ensures ∙ c.if-is_empty.true) in
    stays-ground c.args.store.now c.args.binders c.args.args.now (tree_at c.args.store.now c.args.id) none (when-not c.quantified.result h c.quantified.ensures.free) c.requires.levels
