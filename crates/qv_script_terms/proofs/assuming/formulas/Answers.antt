use Rattle.std.proofs.Common.{ℕ, List, [], ◌∷◌, ◌++◌, Err, slice_index_or, refl, sym, ap, subst, ◌∙◌, arith}
use Rattle.std.specs.Prelude.{Result, Vec}
use Rattle.std.specs.declared.alloc.Global.{Global}
use Rattle.std.proofs.lemmas.Result.{err_from_is_err_and}
use Rattle.qv_store.proofs.Replacement.{grows-more}
use Rattle.qv_elab_scope.proofs.Growing.{scope-grows}
use Rattle.qv_script_defs.specs.declared.faults.ScriptFault.{ScriptFault}
use Rattle.qv_script_defs.specs.State.{scope_of}
use Rattle.qv_script_defs.specs.Moves.{assumptions}
use Rattle.qv_script_terms.specs.Told.{TellsTree}
use Rattle.qv_script_terms.specs.Asking.{TellsTrees}
use Rattle.qv_script_terms.proofs.Asked.{part-at, part-begins}
use Rattle.qv_script_terms.proofs.Assumed.{assumed_of, formulas-more, formulas-out, formulas-end}
use Rattle.qv_script_stack.proofs.Stepping.{parts-count}
use Rattle.qv_script_terms.proofs.assuming.formulas.Goals as goal

pub formula-requires-clause-at : goal.formula-requires-clause-at
formula-requires-clause-at c =
    let at = slice_index_or c.args.parts.now c.formulas.part-index 0 in
    let p = part-at c.args.expr.now c.args.parts.now c.requires.parts.0 c.formulas.part-index at 0 c.requires.parts.1 c.formulas-test.true refl in
    part-begins c.args.expr.now at p.0 p.2

pub formula-requires-clause-whole : goal.formula-requires-clause-whole
formula-requires-clause-whole c =
    let at = slice_index_or c.args.parts.now c.formulas.part-index 0 in
    let p = part-at c.args.expr.now c.args.parts.now c.requires.parts.0 c.formulas.part-index at 0 c.requires.parts.1 c.formulas-test.true refl in
    part-begins c.args.expr.now at p.0 p.2

pub formula-requires-clause-scope : goal.formula-requires-clause-scope
formula-requires-clause-scope c =
    let s = c.requires.held in
    (scope_of s.0, scope-grows c.args.store.now c.formulas.store c.formulas.invariant.grows c.args.stack.now.force (scope_of s.0) s.1.scope)

pub returns-in_err-id-clause-tells : goal.returns-in_err-id-clause-tells
returns-in_err-id-clause-tells c = λ s es h parts.
    let a = c.args in
    let part = part-at a.expr.now a.parts.now es c.formulas.part-index (slice_index_or a.parts.now c.formulas.part-index 0) 0 parts c.formulas-test.true refl in
    let scope = scope-grows a.store.now c.formulas.store c.formulas.invariant.grows a.stack.now.force (scope_of s) h.scope in
    let told = subst (λ (r : Result ℕ ScriptFault). TellsTree c.formula.new.store (assumed_of s part.0) r) c.in_err-id.was (c.formula.ensures.tells (scope_of s) part.0 part.0 scope part.2 part.2) in
    let left = err_from_is_err_and c.from_residual.result c.from_residual.ensures.1 in
    subst (λ (r : Result (Vec ℕ Global) ScriptFault). TellsTrees c.formula.new.store (assumptions s es) r) (sym (left.1 ∙ ap Err left.2))
    (formulas-out s es c.formulas.store c.formula.new.store c.formulas.ids.items c.formulas.part-index part.0 c.in_err-id.field-0.0 (c.formulas.invariant.so_far s es h parts) part.1 told)

pub formulas-preserved : goal.formulas-preserved
formulas-preserved c = record {
  so_far = λ s es h parts.
      let a = c.args in
      let part = part-at a.expr.now a.parts.now es c.formulas.part-index (slice_index_or a.parts.now c.formulas.part-index 0) 0 parts c.formulas-test.true refl in
      let scope = scope-grows a.store.now c.formulas.store c.formulas.invariant.grows a.stack.now.force (scope_of s) h.scope in
      let told = subst (λ (r : Result ℕ ScriptFault). TellsTree c.formula.new.store (assumed_of s part.0) r) c.in_ok-id.was (c.formula.ensures.tells (scope_of s) part.0 part.0 scope part.2 part.2) in
      formulas-more s es c.formulas.store c.formula.new.store c.formulas.ids.items c.push_reserved.new.self.items c.formulas.part-index part.0 c.in_ok-id.id c.formula.ensures.grows (c.formulas.invariant.so_far s es h parts) part.1 told
      (c.push_reserved.ensures.items ∙ ap (λ (q : List ℕ). q ++ c.in_ok-id.id ∷ []) c.reserve.ensures.items);
  grows = grows-more c.args.store.now c.formulas.store c.formula.new.store c.formulas.invariant.grows c.formula.ensures.grows;
}

pub returns-clause-tells : goal.returns-clause-tells
returns-clause-tells c = λ s es h parts.
    let count = parts-count c.args.expr.now c.args.parts.now es parts in
    formulas-end s es c.formulas.store c.formulas.ids.items c.formulas.part-index (c.formulas.invariant.so_far s es h parts) (omega (arith, count, c.formulas-test.false))

pub returns-in_err-id-clause-grows : goal.returns-in_err-id-clause-grows
returns-in_err-id-clause-grows c = grows-more c.args.store.now c.formulas.store c.formula.new.store c.formulas.invariant.grows c.formula.ensures.grows

pub returns-in_err-reserve-clause-grows : goal.returns-in_err-reserve-clause-grows
returns-in_err-reserve-clause-grows c = grows-more c.args.store.now c.formulas.store c.formula.new.store c.formulas.invariant.grows c.formula.ensures.grows
