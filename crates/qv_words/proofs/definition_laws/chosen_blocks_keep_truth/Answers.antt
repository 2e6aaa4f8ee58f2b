use Rattle.qv_words.proofs.Chosen.{blocks-keep_truth}
use Rattle.qv_words.proofs.definition_laws.chosen_blocks_keep_truth.Goals as goal

pub returns : goal.returns
returns _ = blocks-keep_truth
