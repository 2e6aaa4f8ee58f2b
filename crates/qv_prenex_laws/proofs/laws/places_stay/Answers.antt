use Rattle.qv_prenex_laws.proofs.OnePass.{places-stay}
use Rattle.qv_prenex_laws.proofs.laws.places_stay.Goals as goal

pub returns : goal.returns
returns _ = places-stay
