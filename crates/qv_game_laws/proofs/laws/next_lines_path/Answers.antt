use Rattle.qv_game_laws.proofs.Paths.{next-lines_path}
use Rattle.qv_game_laws.proofs.laws.next_lines_path.Goals as goal

pub returns : goal.returns
returns _ = next-lines_path
