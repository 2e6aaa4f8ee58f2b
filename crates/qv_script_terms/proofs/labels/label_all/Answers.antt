use Rattle.std.proofs.Common.{[], Err, slice_index_or, refl, sym, ap, subst, ◌∙◌, append-nil, arith}
use Rattle.std.specs.Prelude.{Result}
use Rattle.std.proofs.lemmas.Result.{err_from_is_err_and}
use Rattle.qv_store.proofs.Replacement.{grows-more}
use Rattle.qv_script_defs.specs.declared.faults.ScriptFault.{ScriptFault}
use Rattle.qv_script_defs.specs.Labels.{label, labelled}
use Rattle.qv_script_stack.specs.Held.{Held}
use Rattle.qv_script_stack.specs.Changes.{IsLonger}
use Rattle.qv_script_stack.proofs.Undefining.{longer-itself, longer-more}
use Rattle.qv_script_terms.specs.Labelling.{GivesState}
use Rattle.qv_script_terms.proofs.Labelled.{label-at, labels-count, more-so-far, fault-so-far, end-so-far}
use Rattle.qv_script_terms.proofs.labels.label_all.Goals as goal

pub labels-init : goal.labels-init
labels-init c = record {
  so_far = λ s ls h is. (s, refl, h);
  longer = longer-itself c.args.stack.now;
  grows = record { more = []; behind = sym (append-nil c.args.store.now) };
}

pub label-requires-clause-label : goal.label-requires-clause-label
label-requires-clause-label c =
    let a = c.args in
    let at = slice_index_or a.labels.now c.labels.at-index 0 in
    let p = label-at a.expr.now a.labels.now c.requires.labels.0 c.labels.at-index at 0 c.requires.labels.1 c.labels-test.true refl in
    (p.0, p.2)

pub label-requires-clause-held : goal.label-requires-clause-held
label-requires-clause-held c =
    let here = c.labels.invariant.so_far c.requires.held.0 c.requires.labels.0 c.requires.held.1 c.requires.labels.1 in
    (here.0, here.2)

pub returns-in_err-label-clause-labelled : goal.returns-in_err-label-clause-labelled
returns-in_err-label-clause-labelled c = λ s ls h is.
    let a = c.args in
    let at = slice_index_or a.labels.now c.labels.at-index 0 in
    let p = label-at a.expr.now a.labels.now ls c.labels.at-index at 0 is c.labels-test.true refl in
    let here = c.labels.invariant.so_far s ls h is in
    let told = subst (λ (r : Result (Unit {0}) ScriptFault). GivesState c.label.new.store c.label.new.stack (label a.place here.0 p.0) r) c.in_err-label.was (c.label.ensures.label here.0 p.0 here.2 p.2) in
    let left = err_from_is_err_and c.from_residual.result c.from_residual.ensures.1 in
    subst (λ (r : Result (Unit {0}) ScriptFault). GivesState c.label.new.store c.label.new.stack (labelled a.place ls s) r) (sym (left.1 ∙ ap Err left.2))
    (fault-so-far a.place ls s c.label.new.store c.label.new.stack c.labels.at-index here.0 p.0 c.in_err-label.field-0.0 here.1 p.1 told)

pub returns-in_err-label-clause-longer : goal.returns-in_err-label-clause-longer
returns-in_err-label-clause-longer c = subst (λ (k : Held). IsLonger c.args.stack.now k) (sym c.in_err-label.ensures.err) c.labels.invariant.longer

pub returns-in_err-label-clause-grows : goal.returns-in_err-label-clause-grows
returns-in_err-label-clause-grows c = grows-more c.args.store.now c.labels.store c.label.new.store c.labels.invariant.grows c.label.ensures.grows

pub labels-preserved : goal.labels-preserved
labels-preserved c = record {
  so_far = λ s ls h is.
      let a = c.args in
      let at = slice_index_or a.labels.now c.labels.at-index 0 in
      let p = label-at a.expr.now a.labels.now ls c.labels.at-index at 0 is c.labels-test.true refl in
      let here = c.labels.invariant.so_far s ls h is in
      let told = subst (λ (r : Result (Unit {0}) ScriptFault). GivesState c.label.new.store c.label.new.stack (label a.place here.0 p.0) r) c.in_ok-label.was (c.label.ensures.label here.0 p.0 here.2 p.2) in
      more-so-far a.place ls s c.label.new.store c.label.new.stack c.labels.at-index here.0 told.0 p.0 here.1 p.1 told.1 told.2;
  longer =
      let d = c.in_ok-label.ensures.ok in
      subst (λ (k : Held). IsLonger c.args.stack.now k) (sym d.3) (longer-more c.args.stack.now c.labels.stack d.0 d.1 d.2 c.labels.invariant.longer);
  grows = grows-more c.args.store.now c.labels.store c.label.new.store c.labels.invariant.grows c.label.ensures.grows;
}

pub returns-clause-labelled : goal.returns-clause-labelled
returns-clause-labelled c = λ s ls h is.
    let count = labels-count c.args.expr.now c.args.labels.now ls is in
    end-so-far c.args.place ls s c.labels.store c.labels.stack c.labels.at-index (c.labels.invariant.so_far s ls h is) (omega (arith, count, c.labels-test.false))
