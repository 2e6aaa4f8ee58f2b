use Rattle.qv_words.proofs.FixedFormulas.{fixed-formulas_are_simple}
use Rattle.qv_words.proofs.definition_laws.fixed_formulas_are_simple.Goals as goal

pub returns : goal.returns
returns _ = fixed-formulas_are_simple
