use Rattle.qv_circuits_laws.proofs.Modelling.{models-give_values}
use Rattle.qv_circuits_laws.proofs.clauses.models_give_values.Goals as goal

pub returns : goal.returns
returns _ formulas sorts v e plain bools over gives h = models-give_values formulas sorts v e plain bools over gives h
