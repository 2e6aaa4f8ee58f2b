use Rattle.qv_solve_write_laws.proofs.Written.{terms-written}
use Rattle.qv_solve_write_laws.proofs.laws.terms_are_written.Goals as goal

pub returns : goal.returns
returns _ = terms-written
