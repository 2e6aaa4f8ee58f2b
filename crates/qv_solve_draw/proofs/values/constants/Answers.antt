use Rattle.std.proofs.Common.{◌≡◌, ℕ, Some, List, slice_get, get_or, refl, sym, ap, ◌∙◌}
use Rattle.std.proofs.lemmas.Option.{slice_get-get_or}
use Rattle.qv_store.specs.Problems.{problem_in}
use Rattle.qv_skolem.specs.Skolems.{skolems_in}
use Rattle.qv_solve_draw.proofs.Valued.{valued-next, valued-sorts, valued-wins}
use Rattle.qv_solve_draw.proofs.values.constants.Goals as goal

pub constants-preserved : goal.constants-preserved
constants-preserved c =
    let items = c.deref-index-items.result.now in
    let i = c.constants.place in
    let index = get_or items i 0 in
    let at : slice_get c.args.problem.now.constants.items i ≡ Some index = ap (λ (ns : List ℕ). slice_get ns i) (sym c.deref-index-items.ensures.value) ∙ slice_get-get_or items i 0 c.constants-test.true in
    valued-next (problem_in c.args.store.now c.args.problem.now) (skolems_in c.args.store.now c.args.terms.now) c.args.problem.now.constants.items i index c.constants.values.items c.push.new.self.items
    (record { index = index; word = c.in_ok-word.word }) at refl c.in_ok-push.ensures.items c.in_ok-word.ensures c.constants.invariant

pub returns-clause-sorts : goal.returns-clause-sorts
returns-clause-sorts c =
    valued-sorts (problem_in c.args.store.now c.args.problem.now) (skolems_in c.args.store.now c.args.terms.now) c.constants.values.items c.constants.invariant.each

pub returns-clause-wins : goal.returns-clause-wins
returns-clause-wins c =
    valued-wins (problem_in c.args.store.now c.args.problem.now) (skolems_in c.args.store.now c.args.terms.now) c.constants.values.items c.requires.posed.problem c.requires.section c.requires.goal c.constants.invariant.each
