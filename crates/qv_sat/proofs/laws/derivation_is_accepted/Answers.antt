use Rattle.qv_sat.proofs.Accepting.{IsAccepted-from_derivation}
use Rattle.qv_sat.proofs.laws.derivation_is_accepted.Goals as goal

pub returns : goal.returns
returns c = IsAccepted-from_derivation
