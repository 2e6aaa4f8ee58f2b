use Rattle.std.proofs.Common.{[]}
use Rattle.qv_meter.proofs.Fresh.{linked, fresh, played}
use Rattle.qv_meter.proofs.laws.played_is_linked_and_fresh.Goals as goal

pub returns : goal.returns
returns _ p entries = (λ h. (linked p [] entries h, fresh p [] entries h), λ h. played p [] entries h.0 h.1)
