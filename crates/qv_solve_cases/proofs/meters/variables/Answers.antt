use Rattle.std.proofs.Common.{◌≡◌, [], ◌∷◌, ap, rules}
use Rattle.qv_words.specs.Tree.{Tree}
use Rattle.qv_store.specs.Nodes.{tree_at}
use Rattle.qv_store.specs.Problems.{problem_in}
use Rattle.qv_meter.specs.Records.{started}
use Rattle.qv_meter.specs.Views.{limits_of}
use Rattle.qv_solve_cases.proofs.Charging.{may-exceed}
use Rattle.qv_solve_cases.proofs.meters.variables.Goals as goal

pub variables-spent-requires : goal.variables-spent-requires
variables-spent-requires c =
    let b = c.in_ok-board.board in
    let is : c.start.new.self ≡ started (problem_in b.store b.problem) (limits_of c.args.limits) c.args.meter.now = search rules in (
      [],
      may-exceed (limits_of c.args.limits) c.args.meter.now c.start.new.self (problem_in b.store b.problem) (tree_at b.store b.top ∷ []) is c.in_ok-board.ensures.problem c.if-limits-eq1.true
          (ap (λ (t : Tree). t ∷ []) c.in_ok-board.ensures.top),
    )
