use Rattle.qv_words.proofs.InSort.{op_in_sort}
use Rattle.qv_words.proofs.laws.ops_stay_in_sort.Goals as goal

pub returns : goal.returns
returns _ = op_in_sort
