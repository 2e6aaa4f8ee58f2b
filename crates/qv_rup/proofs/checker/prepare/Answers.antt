use Rattle.std.proofs.Common.{◌<◌, length}
use Rattle.qv_rup.proofs.checker.prepare.Goals as goal

pub returns-then-is_ready-clause-made : goal.returns-then-is_ready-clause-made
returns-then-is_ready-clause-made c =
    let some : 0 < length c.args.index.now.lists.items = c.is_ready.ensures c.if-is_ready.true in
    record { some = some; filed = c.requires some }

pub returns-clause-keeps : goal.returns-clause-keeps
returns-clause-keeps c = λ some. c.in_ok-index.ensures.filed
