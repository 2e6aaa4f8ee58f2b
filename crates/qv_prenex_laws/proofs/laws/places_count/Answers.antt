use Rattle.qv_prenex_laws.proofs.FormLengths.{places-count}
use Rattle.qv_prenex_laws.proofs.laws.places_count.Goals as goal

pub returns : goal.returns
returns _ = places-count
