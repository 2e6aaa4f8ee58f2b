use Rattle.qv_words.proofs.Sections.{unquantified-free, free-unquantified}
use Rattle.qv_words.proofs.definition_laws.quantifier_test_decides.Goals as goal

pub returns : goal.returns
returns _ t = (unquantified-free t, free-unquantified t)
