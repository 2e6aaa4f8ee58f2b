use Rattle.std.proofs.Common.{◌≡◌, ◌∙◌, true, Option, Some, map, refl, sym, subst}
use Rattle.qv_store.specs.Nodes.{tree_at}
use Rattle.qv_cert.specs.declared.line.Section.{Section}
use Rattle.qv_meter.specs.Views.{limits_of}
use Rattle.qv_solve_cores.specs.declared.cores.Course.{Course}
use Rattle.qv_solve_cores.specs.Marks.{gone}
use Rattle.qv_solve_cores.specs.Trying.{HasLeftOut, ListIsTried}
use Rattle.qv_solve_cores.proofs.Searches.{some-none}
use Rattle.qv_solve_cores.proofs.Steps.{left-dropped, left-kept, left-nothing, list-formulas, list-ids, list-solvable, on-error}
use Rattle.qv_solve_cores.proofs.cores.leave_out.Goals as goal

pub returns-then-not-drop_all-clause-left_out : goal.returns-then-not-drop_all-clause-left_out
returns-then-not-drop_all-clause-left_out c =
    left-nothing (limits_of c.args.limits) (map (tree_at c.args.store.now) c.args.assertions.now) c.args.named.now c.args.meter.now c.args.course.now c.requires.fresh c.requires.may.no_model

pub try_list-requires-clause-ids : goal.try_list-requires-clause-ids
try_list-requires-clause-ids c =
    list-ids c.args.store.now c.args.assertions.now c.args.named.now c.deref.result.now (gone c.args.named.now c.drop_all.new.search.kept) c.requires.may (c.deref.ensures.value ∙ c.in_ok-list.ensures)

pub try_list-requires-clause-solvable : goal.try_list-requires-clause-solvable
try_list-requires-clause-solvable c =
    list-solvable c.args.store.now c.args.assertions.now c.args.named.now c.deref.result.now (gone c.args.named.now c.drop_all.new.search.kept) c.requires.may (c.deref.ensures.value ∙ c.in_ok-list.ensures)

pub returns-in_err-fewer-clause-memory : goal.returns-in_err-fewer-clause-memory
returns-in_err-fewer-clause-memory c = on-error c.from_residual.result (some-none (limits_of c.args.limits) c.args.meter.now)

pub returns-in-Some-clause-left_out : goal.returns-in-Some-clause-left_out
returns-in-Some-clause-left_out c =
    let limits = limits_of c.args.limits in
    let fs = map (tree_at c.args.store.now) c.args.assertions.now in
    let left = map (tree_at c.args.store.now) c.deref.result.now in
    let named = c.args.named.now in
    let made : Course = record { search = c.drop_all.new.search; section = Some c.in-Some.section } in
    let is = list-formulas c.args.store.now c.args.assertions.now c.deref.result.now (gone named c.drop_all.new.search.kept) (c.deref.ensures.value ∙ c.in_ok-list.ensures) in
    let tried = subst (λ (o : Option Section). ListIsTried limits c.args.meter.now c.try_list.new.meter left o) c.in-Some.is c.in_ok-section.ensures.tried in
    let some : c.drop_all.result ≡ true = c.if-not-drop_all.false in
    subst (λ (d : Course). HasLeftOut limits fs named c.args.meter.now c.try_list.new.meter d) (sym c.stand_at.ensures)
    (left-dropped limits fs left named c.requires.may.rises c.args.meter.now c.try_list.new.meter made c.in-Some.section c.drop_all.ensures.each c.drop_all.ensures.next (c.drop_all.ensures.some some) refl is tried)

pub returns-in-None-clause-left_out : goal.returns-in-None-clause-left_out
returns-in-None-clause-left_out c =
    let limits = limits_of c.args.limits in
    let fs = map (tree_at c.args.store.now) c.args.assertions.now in
    let left = map (tree_at c.args.store.now) c.deref.result.now in
    let tried = subst (λ (o : Option Section). ListIsTried limits c.args.meter.now c.try_list.new.meter left o) c.in-None.is c.in_ok-section.ensures.tried in
    left-kept limits fs left c.args.named.now c.args.meter.now c.try_list.new.meter c.args.course.now c.requires.fresh c.requires.may.no_model tried
