use Rattle.std.proofs.Common.{List, [], ◌∷◌, ◌++◌, Err, slice_index_or, refl, sym, ap, subst, ◌∙◌, arith}
use Rattle.std.specs.Prelude.{Result, Vec}
use Rattle.std.specs.declared.alloc.Global.{Global}
use Rattle.std.proofs.lemmas.Result.{err_from_is_err_and}
use Rattle.qv_store.proofs.Replacement.{grows-more}
use Rattle.qv_elab_scope.proofs.Growing.{scope-grows}
use Rattle.qv_script_defs.specs.declared.effects.ValueTerm.{ValueTerm as Asked}
use Rattle.qv_script_defs.specs.declared.faults.ScriptFault.{ScriptFault}
use Rattle.qv_script_defs.specs.State.{scope_of}
use Rattle.qv_script_defs.specs.Moves.{value_terms}
use Rattle.qv_script_terms.specs.Asking.{value_of, TellsValue, TellsValues}
use Rattle.qv_script_terms.proofs.Asked.{part-at, part-begins, values-more, values-out, values-end}
use Rattle.qv_script_stack.proofs.Stepping.{parts-count}
use Rattle.qv_script_terms.proofs.asking.value_terms.Goals as goal

pub value_term-requires-clause-at : goal.value_term-requires-clause-at
value_term-requires-clause-at c =
    let at = slice_index_or c.args.parts.now c.terms.part-index 0 in
    let p = part-at c.args.expr.now c.args.parts.now c.requires.parts.0 c.terms.part-index at 0 c.requires.parts.1 c.terms-test.true refl in
    part-begins c.args.expr.now at p.0 p.2

pub value_term-requires-clause-scope : goal.value_term-requires-clause-scope
value_term-requires-clause-scope c =
    let s = c.requires.held in
    (scope_of s.0, scope-grows c.args.store.now c.terms.store c.terms.invariant.grows c.args.stack.now.force (scope_of s.0) s.1.scope)

pub returns-in_err-term-clause-tells : goal.returns-in_err-term-clause-tells
returns-in_err-term-clause-tells c = λ s es h parts.
    let a = c.args in
    let part = part-at a.expr.now a.parts.now es c.terms.part-index (slice_index_or a.parts.now c.terms.part-index 0) 0 parts c.terms-test.true refl in
    let scope = scope-grows a.store.now c.terms.store c.terms.invariant.grows a.stack.now.force (scope_of s) h.scope in
    let told = subst (λ (r : Result Asked ScriptFault). TellsValue c.value_term.new.store (value_of (scope_of s) part.0) r) c.in_err-term.was (c.value_term.ensures.tells (scope_of s) part.0 scope part.2) in
    let left = err_from_is_err_and c.from_residual.result c.from_residual.ensures.1 in
    subst (λ (r : Result (Vec Asked Global) ScriptFault). TellsValues c.value_term.new.store (value_terms s es) r) (sym (left.1 ∙ ap Err left.2))
    (values-out s es c.terms.store c.value_term.new.store c.terms.terms.items c.terms.part-index part.0 c.in_err-term.field-0.0 (c.terms.invariant.so_far s es h parts) part.1 told)

pub terms-preserved : goal.terms-preserved
terms-preserved c = record {
  so_far = λ s es h parts.
      let a = c.args in
      let part = part-at a.expr.now a.parts.now es c.terms.part-index (slice_index_or a.parts.now c.terms.part-index 0) 0 parts c.terms-test.true refl in
      let scope = scope-grows a.store.now c.terms.store c.terms.invariant.grows a.stack.now.force (scope_of s) h.scope in
      let told = subst (λ (r : Result Asked ScriptFault). TellsValue c.value_term.new.store (value_of (scope_of s) part.0) r) c.in_ok-term.was (c.value_term.ensures.tells (scope_of s) part.0 scope part.2) in
      values-more s es c.terms.store c.value_term.new.store c.terms.terms.items c.push_reserved.new.self.items c.terms.part-index part.0 c.in_ok-term.term c.value_term.ensures.grows (c.terms.invariant.so_far s es h parts) part.1 told
      (c.push_reserved.ensures.items ∙ ap (λ (q : List Asked). q ++ c.in_ok-term.term ∷ []) c.reserve.ensures.items);
  grows = grows-more c.args.store.now c.terms.store c.value_term.new.store c.terms.invariant.grows c.value_term.ensures.grows;
}

pub returns-clause-tells : goal.returns-clause-tells
returns-clause-tells c = λ s es h parts.
    let count = parts-count c.args.expr.now c.args.parts.now es parts in
    values-end s es c.terms.store c.terms.terms.items c.terms.part-index (c.terms.invariant.so_far s es h parts) (omega (arith, count, c.terms-test.false))

pub returns-in_err-term-clause-grows : goal.returns-in_err-term-clause-grows
returns-in_err-term-clause-grows c = grows-more c.args.store.now c.terms.store c.value_term.new.store c.terms.invariant.grows c.value_term.ensures.grows

pub returns-in_err-reserve-clause-grows : goal.returns-in_err-reserve-clause-grows
returns-in_err-reserve-clause-grows c = grows-more c.args.store.now c.terms.store c.value_term.new.store c.terms.invariant.grows c.value_term.ensures.grows
