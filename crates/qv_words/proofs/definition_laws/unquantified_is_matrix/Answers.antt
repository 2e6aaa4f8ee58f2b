use Rattle.qv_words.proofs.Sections.{problem-unquantified}
use Rattle.qv_words.proofs.definition_laws.unquantified_is_matrix.Goals as goal

pub returns : goal.returns
returns _ t free none = problem-unquantified t free none
