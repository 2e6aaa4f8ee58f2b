use Rattle.std.proofs.Common.{◌≡◌, ◌+◌, List, ◌∷◌, drop, sym, ◌∙◌, ap, arith}
use Rattle.std.proofs.lemmas.List.{drop_more}
use Rattle.qv_cnf.specs.Derivation.{additions}
use Rattle.qv_cnf.specs.LratLine.{line_of, lines_of}
use Rattle.qv_cnf.specs.declared.steps.Step.{Step}
use Rattle.qv_sat.specs.CoreState.{deletions}
use Rattle.qv_sat.proofs.work.work_in.Goals as goal
use Rattle.qv_sat.proofs.work.work_in.Goals.{in-Add, in-Delete}

pub steps-preserved : goal.steps-preserved
steps-preserved c =
    let steps = c.args.steps.now in
    let i = c.steps.step-index in
    let x = c.step-item.result in
    let rest = drop (i + 1) steps in
    let here : drop i steps ≡ x ∷ rest = drop_more steps i x c.steps-test.true ∙ ap (λ (y : Step). y ∷ rest) (sym c.step-item.is) in
    let inv = c.steps.invariant in
    elim c.match-step.branch [
      | in-Add w ↦
          let a : additions (lines_of (drop i steps)) ≡ additions (lines_of rest) + 1 = ap (λ (xs : List Step). additions (lines_of xs)) here ∙ ap (λ (y : Step). additions (line_of y ∷ lines_of rest)) w.in-Add.is in
          let d : deletions (lines_of (drop i steps)) ≡ deletions (lines_of rest) = ap (λ (xs : List Step). deletions (lines_of xs)) here ∙ ap (λ (y : Step). deletions (line_of y ∷ lines_of rest)) w.in-Add.is in
          record {
            conflicts = omega (arith, a, w.conflicts-is, inv.conflicts);
            reductions = omega (arith, d, w.reductions-is, inv.reductions);
            few = omega (arith, w.conflicts-is, w.reductions-is, inv.few);
          }
      | in-Delete w ↦
          let a : additions (lines_of (drop i steps)) ≡ additions (lines_of rest) = ap (λ (xs : List Step). additions (lines_of xs)) here ∙ ap (λ (y : Step). additions (line_of y ∷ lines_of rest)) w.in-Delete.is in
          let d : deletions (lines_of (drop i steps)) ≡ deletions (lines_of rest) + 1 = ap (λ (xs : List Step). deletions (lines_of xs)) here ∙ ap (λ (y : Step). deletions (line_of y ∷ lines_of rest)) w.in-Delete.is in
          record {
            conflicts = omega (arith, a, w.conflicts-is, inv.conflicts);
            reductions = omega (arith, d, w.reductions-is, inv.reductions);
            few = omega (arith, w.conflicts-is, w.reductions-is, inv.few);
          }
    ]
