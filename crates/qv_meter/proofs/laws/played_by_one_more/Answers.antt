use Rattle.std.proofs.Common.{[]}
use Rattle.qv_meter.proofs.Fresh.{shorter, last-entry, longer}
use Rattle.qv_meter.proofs.laws.played_by_one_more.Goals as goal

pub returns : goal.returns
returns _ p entries e =
    (λ h. let last = last-entry p [] entries e h in (shorter p [] entries e h, last.0, last.1), λ h. longer p [] entries e h.0 (h.1, h.2))
