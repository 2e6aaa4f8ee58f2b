use Rattle.std.proofs.Common.{◌∙◌, false, Option, map, set, refl, subst}
use Rattle.qv_store.specs.Nodes.{tree_at}
use Rattle.qv_cert.specs.declared.line.Section.{Section}
use Rattle.qv_meter.specs.Views.{limits_of}
use Rattle.qv_solve_cores.specs.Marks.{gone}
use Rattle.qv_solve_cores.specs.Trying.{ListIsTried}
use Rattle.qv_solve_cores.proofs.Searches.{some-none}
use Rattle.qv_solve_cores.proofs.Steps.{item-dropped, item-kept, list-formulas, list-ids, list-solvable, on-error}
use Rattle.qv_solve_cores.proofs.cores.try_one.Goals as goal
use Rattle.qv_solve_cores.proofs.cores.try_one.Goals.{in-Some, in-None}

pub returns-in_err-list-clause-memory : goal.returns-in_err-list-clause-memory
returns-in_err-list-clause-memory c = on-error c.from_residual.result (some-none (limits_of c.args.limits) c.args.meter.now)

pub try_list-requires-clause-ids : goal.try_list-requires-clause-ids
try_list-requires-clause-ids c =
    list-ids c.args.store.now c.args.assertions.now c.args.named.now c.deref.result.now (gone c.args.named.now (set c.args.course.now.search.kept c.args.item false)) c.requires.may (c.deref.ensures.value ∙ c.in_ok-list.ensures)

pub try_list-requires-clause-solvable : goal.try_list-requires-clause-solvable
try_list-requires-clause-solvable c =
    list-solvable c.args.store.now c.args.assertions.now c.args.named.now c.deref.result.now (gone c.args.named.now (set c.args.course.now.search.kept c.args.item false)) c.requires.may (c.deref.ensures.value ∙ c.in_ok-list.ensures)

pub returns-clause-tried : goal.returns-clause-tried
returns-clause-tried c =
    let limits = limits_of c.args.limits in
    let fs = map (tree_at c.args.store.now) c.args.assertions.now in
    let left = map (tree_at c.args.store.now) c.deref.result.now in
    let named = c.args.named.now in
    let is = list-formulas c.args.store.now c.args.assertions.now c.deref.result.now (gone named (set c.args.course.now.search.kept c.args.item false)) (c.deref.ensures.value ∙ c.in_ok-list.ensures) in
    let Tried : Option Section → Type 0 = λ o. ListIsTried limits c.args.meter.now c.try_list.new.meter left o in
    elim c.match-branch-3.branch [
      | in-Some w ↦
          item-dropped limits fs named c.args.item c.args.meter.now c.try_list.new.meter c.args.course.now c.match-branch-3.course c.requires.stands c.requires.item left is w.in-Some.section
          (subst Tried w.in-Some.is c.in_ok-section.ensures.tried) (rw w.course-is w.drop_item.ensures.search) (rw w.course-is w.drop_item.ensures.section)
      | in-None w ↦
          item-kept limits fs named c.args.item c.args.meter.now c.try_list.new.meter c.args.course.now c.match-branch-3.course c.requires.stands c.requires.item left is
          (subst Tried w.in-None.is c.in_ok-section.ensures.tried) (rw w.course-is w.answer.ensures) (rw w.course-is refl)
    ]
