use Rattle.qv_game_entry_laws.proofs.Literals.{clauses-have_literals}
use Rattle.qv_game_entry_laws.proofs.laws.clauses_have_literals.Goals as goal

pub returns : goal.returns
returns _ = clauses-have_literals
