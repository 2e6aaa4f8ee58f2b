use Rattle.qv_words.proofs.InverseThere.{rows_there}
use Rattle.qv_words.proofs.inverse_laws.rows_are_there.Goals as goal

pub returns : goal.returns
returns _ = rows_there
