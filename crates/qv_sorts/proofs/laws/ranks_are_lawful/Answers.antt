use Rattle.qv_words.proofs.InSort.{lawful_rank}
use Rattle.qv_sorts.proofs.laws.ranks_are_lawful.Goals as goal

pub returns : goal.returns
returns _ = lawful_rank
