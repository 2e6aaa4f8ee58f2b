use Rattle.std.proofs.Common.{◌-◌, length, drop}
use Rattle.std.proofs.lemmas.List.Elements.{All-drop, All-take}
use Rattle.qv_game_regions.specs.declared.run.Run.{Run}
use Rattle.qv_game_regions.specs.Runs.{run_of, IsRunAt}
use Rattle.qv_game_regions.proofs.fixing.fix.Goals as goal

pub fix_more-requires-clause-rest : goal.fix_more-requires-clause-rest
fix_more-requires-clause-rest c =
    let runs = c.args.runs.now in
    let P : Run → Type 0 = λ run. IsRunAt c.args.point.now (run_of run) in
    All-take P (length runs - 1) (drop 1 runs) (All-drop P 1 runs c.requires)
