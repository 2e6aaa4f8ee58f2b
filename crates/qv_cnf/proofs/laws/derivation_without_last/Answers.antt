use Rattle.std.proofs.Common.{[], ◌∷◌}
use Rattle.qv_cnf.proofs.Derivations.{DerivesFrom-front}
use Rattle.qv_cnf.specs.Derivation.{no_steps}
use Rattle.qv_cnf.proofs.laws.derivation_without_last.Goals as goal

pub returns : goal.returns
returns c = λ base steps step h. DerivesFrom-front base steps (step ∷ []) no_steps h
