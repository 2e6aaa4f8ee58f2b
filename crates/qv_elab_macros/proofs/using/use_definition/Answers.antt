use Rattle.std.proofs.Common.{◌≡◌, true, false, sym, ap, ◌∙◌}
use Rattle.qv_store.specs.Walks.{named}
use Rattle.qv_elab_defs.proofs.Beginning.{begins-anyhow}
use Rattle.qv_elab_macros.specs.PutIn.{some_too_deep}
use Rattle.qv_elab_macros.specs.Readings.{used_at}
use Rattle.qv_elab_macros.proofs.UsedInStore.{used-levels, used-sorted, used-deep, used-ok, used-has}
use Rattle.qv_elab_macros.proofs.using.use_definition.Goals as goal

pub put_body-requires-clause-levels : goal.put_body-requires-clause-levels
put_body-requires-clause-levels c =
    let d = c.requires.definition in
    used-levels c.args.store.now c.len-terms.ensures.shared d.0 d.1 d.2 d.3 c.args.sorts.now c.args.body.now c.args.binders c.args.args.now d.4 c.requires.args c.requires.levels c.requires.shallow c.in_default.ensures

pub put_body-requires-clause-sorted : goal.put_body-requires-clause-sorted
put_body-requires-clause-sorted c =
    let d = c.requires.definition in
    used-sorted c.args.store.now c.len-terms.ensures.shared d.0 d.1 d.2 d.3 c.args.sorts.now c.args.body.now c.args.binders c.args.args.now d.4 c.requires.args c.requires.levels c.requires.shallow c.in_default.ensures

pub returns-then-is_too_deep-clause-answer : goal.returns-then-is_too_deep-clause-answer
returns-then-is_too_deep-clause-answer c scope parameters s e used =
    let deep : some_too_deep (named c.args.store.now c.args.args.now) c.args.body.now.depths.items ≡ true =
    ap (some_too_deep (named c.args.store.now c.args.args.now)) (sym c.deref.ensures.value) ∙ sym c.is_too_deep.ensures ∙ c.if-is_too_deep.true in
    used-deep c.args.store.now c.len-terms.ensures.shared scope parameters s e c.args.sorts.now c.args.body.now c.args.binders c.args.args.now used c.requires.args c.requires.levels c.requires.shallow c.in_default.ensures
    c.args.place deep

pub returns-clause-answer : goal.returns-clause-answer
returns-clause-answer c scope parameters s e used =
    let shallow : some_too_deep (named c.args.store.now c.args.args.now) c.args.body.now.depths.items ≡ false =
    ap (some_too_deep (named c.args.store.now c.args.args.now)) (sym c.deref.ensures.value) ∙ sym c.is_too_deep.ensures ∙ c.if-is_too_deep.false in
    used-ok c.args.store.now c.len-terms.ensures.shared scope parameters s e c.args.sorts.now c.args.body.now c.args.binders c.args.args.now used c.requires.args c.requires.levels c.requires.shallow c.in_default.ensures
    c.args.place c.in_ok-id.id c.put_body.new.store shallow c.in_ok-id.ensures.id

pub returns-in_err-id-clause-begins : goal.returns-in_err-id-clause-begins
returns-in_err-id-clause-begins c scope parameters s e used =
    let shallow : some_too_deep (named c.args.store.now c.args.args.now) c.args.body.now.depths.items ≡ false =
    ap (some_too_deep (named c.args.store.now c.args.args.now)) (sym c.deref.ensures.value) ∙ sym c.is_too_deep.ensures ∙ c.if-is_too_deep.false in
    begins-anyhow (used_at c.args.place c.args.binders scope parameters e c.args.sorts.now (named c.args.store.now c.args.args.now)) c.from_residual.result
    (used-has c.args.store.now c.len-terms.ensures.shared scope parameters s e c.args.sorts.now c.args.body.now c.args.binders c.args.args.now used c.requires.args c.requires.levels c.requires.shallow c.in_default.ensures
    c.args.place shallow)

pub returns-clause-begins : goal.returns-clause-begins
returns-clause-begins c scope parameters s e used =
    let shallow : some_too_deep (named c.args.store.now c.args.args.now) c.args.body.now.depths.items ≡ false =
    ap (some_too_deep (named c.args.store.now c.args.args.now)) (sym c.deref.ensures.value) ∙ sym c.is_too_deep.ensures ∙ c.if-is_too_deep.false in
    used-has c.args.store.now c.len-terms.ensures.shared scope parameters s e c.args.sorts.now c.args.body.now c.args.binders c.args.args.now used c.requires.args c.requires.levels c.requires.shallow c.in_default.ensures
    c.args.place shallow
