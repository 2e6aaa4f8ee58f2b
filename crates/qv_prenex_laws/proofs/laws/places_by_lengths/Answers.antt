use Rattle.qv_prenex_laws.proofs.FormLengths.{places-by-lengths}
use Rattle.qv_prenex_laws.proofs.laws.places_by_lengths.Goals as goal

pub returns : goal.returns
returns _ = places-by-lengths
