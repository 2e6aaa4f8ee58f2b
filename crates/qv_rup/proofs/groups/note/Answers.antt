use Rattle.qv_rup.proofs.Grouped.{groups-more}
use Rattle.qv_rup.proofs.groups.note.Goals as goal

pub returns : goal.returns
returns c = λ groups are. groups-more c.args.ids.now c.insert.new.self c.args.id groups c.in_ok-insert.ensures.updates.1 c.in_ok-insert.ensures.updates.2 are
