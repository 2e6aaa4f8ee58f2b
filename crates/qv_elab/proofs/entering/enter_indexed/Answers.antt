use Rattle.std.proofs.Common.{◌<◌, ◌≤◌, ◌+◌, ℕ, List, length, sym, ap, subst, ◌∙◌, arith}
use Rattle.std.specs.Prelude.{Result}
use Rattle.std.specs.List.{slice_range}
use Rattle.std.proofs.lemmas.Result.{err_from_is_err_and}
use Rattle.qv_sexpr.specs.declared.items.Item.{Item}
use Rattle.qv_sexpr.specs.Copying.{EndsBefore}
use Rattle.qv_words.specs.Tree.{Tree}
use Rattle.qv_elab_defs.specs.Faults.{Fault}
use Rattle.qv_elab_items.specs.Flat.{indexed_in}
use Rattle.qv_elab_defs.specs.Leaves.{indexed_literal}
use Rattle.qv_elab_defs.specs.Answers.{Writes}
use Rattle.qv_elab_defs.specs.Beginnings.{list_beginning}
use Rattle.qv_elab_defs.proofs.Beginning.{begins-out, begins-ok}
use Rattle.qv_elab_defs.specs.Shapes.{Indexed}
use Rattle.qv_elab_frames.specs.Loop.{source, state_of}
use Rattle.qv_elab_frames.proofs.Departing.{out}
use Rattle.qv_elab_frames.proofs.Inside.{list-within, ends-first, is-second}
use Rattle.qv_elab.proofs.Arriving.{read-indexed, indexed-begins, made-next}
use Rattle.qv_elab.proofs.entering.enter_indexed.Goals as goal

pub overflow_add-at : goal.overflow_add-at
overflow_add-at c =
    let x = c.requires.list in
    let n = list-within (source c.args.expr.now x.1 x.0) c.args.store.now (state_of c.args.elaborator.now) c.args.at c.args.close c.args.place Indexed x.2 x.3.1 in
    omega (arith, n.0, n.1, n.2, c.args.expr.now.items.small, c.args.expr.now.items.ok.0, c.args.expr.now.items.ok.1)

pub overflow_add-result : goal.overflow_add-result
overflow_add-result c =
    let x = c.requires.list in
    let n = list-within (source c.args.expr.now x.1 x.0) c.args.store.now (state_of c.args.elaborator.now) c.args.at c.args.close c.args.place Indexed x.2 x.3.1 in
    omega (arith, n.0, n.1, n.2, c.args.expr.now.items.small, c.args.expr.now.items.ok.0, c.args.expr.now.items.ok.1)

pub behind-second-requires : goal.behind-second-requires
behind-second-requires c =
    let x = c.requires.list in
    let w = source c.args.expr.now x.1 x.0 in
    let n = list-within w c.args.store.now (state_of c.args.elaborator.now) c.args.at c.args.close c.args.place Indexed x.2 x.3.1 in
    let e = ends-first w c.args.store.now (state_of c.args.elaborator.now) c.args.at c.args.close c.args.place Indexed x.2 x.3.1 in
    subst (λ (its : List Item). (to : ℕ) × (to ≤ length its) × (c.args.at + 1 < to) × EndsBefore its (c.args.at + 1) to) (sym c.deref.ensures.value) (x.3.1.second, e.0, n.0, e.1)

pub part-others-requires-clause-order : goal.part-others-requires-clause-order
part-others-requires-clause-order c =
    let x = c.requires.list in
    let w = source c.args.expr.now x.1 x.0 in
    let n = list-within w c.args.store.now (state_of c.args.elaborator.now) c.args.at c.args.close c.args.place Indexed x.2 x.3.1 in
    let ends = subst (λ (its : List Item). EndsBefore its (c.args.at + 1) c.behind-second.result) c.deref.ensures.value c.behind-second.ensures in
    let is = is-second w c.args.store.now (state_of c.args.elaborator.now) c.args.at c.args.close c.args.place Indexed x.2 x.3.1 c.behind-second.result ends in
    omega (arith, n.1, is)

pub part-others-requires-clause-within : goal.part-others-requires-clause-within
part-others-requires-clause-within c =
    let x = c.requires.list in
    let w = source c.args.expr.now x.1 x.0 in
    let n = list-within w c.args.store.now (state_of c.args.elaborator.now) c.args.at c.args.close c.args.place Indexed x.2 x.3.1 in
    let same = ap length c.deref-2.ensures.value in
    omega (arith, n.2, same)

pub returns-in_err-id-clause-next : goal.returns-in_err-id-clause-next
returns-in_err-id-clause-next c = λ defs end given s h.
    let w = source c.args.expr.now end defs in
    let st = state_of c.args.elaborator.now in
    let a = c.args in
    let ends = subst (λ (its : List Item). EndsBefore its (a.at + 1) c.behind-second.result) c.deref.ensures.value c.behind-second.ensures in
    let is = is-second w a.store.now st a.at a.close a.place Indexed given h c.behind-second.result ends in
    let slice = c.part-others.ensures ∙ ap (λ its. slice_range its c.behind-second.result a.close) c.deref-2.ensures.value ∙ ap (λ n. slice_range a.expr.now.items.items n a.close) is in
    let given' = ap (λ t. indexed_literal a.place (indexed_in t c.part-others.result.now)) c.deref-3.ensures.value ∙ ap (λ its. indexed_literal a.place (indexed_in a.expr.now.text.items its)) slice in
    let written = subst (λ (r : Result Tree Fault). Writes r c.indexed_literal.result) given' c.indexed_literal.ensures in
    let made = read-indexed w a.store.now c.put_written.new.store st a.at a.close a.place given h c.put_written.ensures.grows c.put_written.result (c.put_written.ensures.answers _ written) in
    let q = err_from_is_err_and c.from_residual.result c.from_residual.ensures.1 in
    out w c.put_written.new.store st st (a.close + 1) given c.put_written.result c.in_err-id.field-0.0 q.0 c.from_residual.result made c.in_err-id.was q.1 q.2

pub returns-clause-next : goal.returns-clause-next
returns-clause-next c = λ defs end given s h.
    let w = source c.args.expr.now end defs in
    let st = state_of c.args.elaborator.now in
    let a = c.args in
    let ends = subst (λ (its : List Item). EndsBefore its (a.at + 1) c.behind-second.result) c.deref.ensures.value c.behind-second.ensures in
    let is = is-second w a.store.now st a.at a.close a.place Indexed given h c.behind-second.result ends in
    let slice = c.part-others.ensures ∙ ap (λ its. slice_range its c.behind-second.result a.close) c.deref-2.ensures.value ∙ ap (λ n. slice_range a.expr.now.items.items n a.close) is in
    let given' = ap (λ t. indexed_literal a.place (indexed_in t c.part-others.result.now)) c.deref-3.ensures.value ∙ ap (λ its. indexed_literal a.place (indexed_in a.expr.now.text.items its)) slice in
    let written = subst (λ (r : Result Tree Fault). Writes r c.indexed_literal.result) given' c.indexed_literal.ensures in
    let made = read-indexed w a.store.now c.put_written.new.store st a.at a.close a.place given h c.put_written.ensures.grows c.put_written.result (c.put_written.ensures.answers _ written) in
    made-next w c.put_written.new.store st (a.close + 1) given c.put_written.result c.in_ok-id.id made c.in_ok-id.was

pub returns-clause-fewer : goal.returns-clause-fewer
returns-clause-fewer c =
    let x = c.requires.list in
    let n = list-within (source c.args.expr.now x.1 x.0) c.args.store.now (state_of c.args.elaborator.now) c.args.at c.args.close c.args.place Indexed x.2 x.3.1 in
    omega (arith, n.0, n.1, n.2)

pub returns-in_err-id-clause-begins : goal.returns-in_err-id-clause-begins
returns-in_err-id-clause-begins c = λ defs end given s h.
    let w = source c.args.expr.now end defs in
    let st = state_of c.args.elaborator.now in
    let a = c.args in
    let ends = subst (λ (its : List Item). EndsBefore its (a.at + 1) c.behind-second.result) c.deref.ensures.value c.behind-second.ensures in
    let is = is-second w a.store.now st a.at a.close a.place Indexed given h c.behind-second.result ends in
    let slice = c.part-others.ensures ∙ ap (λ its. slice_range its c.behind-second.result a.close) c.deref-2.ensures.value ∙ ap (λ n. slice_range a.expr.now.items.items n a.close) is in
    let given' = ap (λ t. indexed_literal a.place (indexed_in t c.part-others.result.now)) c.deref-3.ensures.value ∙ ap (λ its. indexed_literal a.place (indexed_in a.expr.now.text.items its)) slice in
    let written = subst (λ (r : Result Tree Fault). Writes r c.indexed_literal.result) given' c.indexed_literal.ensures in
    let all = indexed-begins w a.store.now st a.at a.close a.place given h c.put_written.result (c.put_written.ensures.begins _ written) in
    let q = err_from_is_err_and c.from_residual.result c.from_residual.ensures.1 in
    begins-out (list_beginning Indexed a.place h.first h.rest defs) c.put_written.result c.in_err-id.field-0.0 q.0 c.from_residual.result all c.in_err-id.was q.1 q.2

pub returns-clause-begins : goal.returns-clause-begins
returns-clause-begins c = λ defs end given s h.
    let w = source c.args.expr.now end defs in
    let st = state_of c.args.elaborator.now in
    let a = c.args in
    let ends = subst (λ (its : List Item). EndsBefore its (a.at + 1) c.behind-second.result) c.deref.ensures.value c.behind-second.ensures in
    let is = is-second w a.store.now st a.at a.close a.place Indexed given h c.behind-second.result ends in
    let slice = c.part-others.ensures ∙ ap (λ its. slice_range its c.behind-second.result a.close) c.deref-2.ensures.value ∙ ap (λ n. slice_range a.expr.now.items.items n a.close) is in
    let given' = ap (λ t. indexed_literal a.place (indexed_in t c.part-others.result.now)) c.deref-3.ensures.value ∙ ap (λ its. indexed_literal a.place (indexed_in a.expr.now.text.items its)) slice in
    let written = subst (λ (r : Result Tree Fault). Writes r c.indexed_literal.result) given' c.indexed_literal.ensures in
    let all = indexed-begins w a.store.now st a.at a.close a.place given h c.put_written.result (c.put_written.ensures.begins _ written) in
    begins-ok (list_beginning Indexed a.place h.first h.rest defs) c.put_written.result c.in_ok-id.id c.in_ok-id.was all
