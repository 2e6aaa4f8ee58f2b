use Rattle.qv_sexpr.proofs.Counting.{given_is_counted}
use Rattle.qv_sexpr.proofs.laws.given_is_counted.Goals as goal

pub returns : goal.returns
returns g c = given_is_counted g.R.Read.remaining
