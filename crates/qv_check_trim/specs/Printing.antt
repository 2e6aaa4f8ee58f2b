-- What the check of a certificate prints.
use Rattle.std.specs.Prelude.{◌≡◌, ◌≢◌, ℕ, Option, IfOk, IfSome, Result, Err, List, [], ◌++◌}
use Rattle.qv_check_defs.specs.Outcome.{outcome}
use Rattle.qv_check_script.specs.Ending.{status_of}
use Rattle.qv_check_script.specs.declared.ending.Ending.{Ending}
use Rattle.qv_check_script.specs.declared.ending.Halt.{Halt}
use Rattle.qv_check_script.specs.declared.ending.Halt.TheVariants.{NoMemory}

-- a front of what is printed of these bytes
abbrev pub IsFrontOfOutcome : (places : ℕ) (script cert printed : List ℕ) → Type 0
IsFrontOfOutcome places script cert printed = (rest : List ℕ) × ((outcome places script cert).text ≡ printed ++ rest)

-- and not all of it
abbrev pub IsShortOfOutcome : (places : ℕ) (script cert printed : List ℕ) → Type 0
IsShortOfOutcome places script cert printed = (rest : List ℕ) × ((outcome places script cert).text ≡ printed ++ rest) × (rest ≢ [])

-- all of it, with this ending
abbrev pub IsOutcome : (places : ℕ) (script cert : List ℕ) → Ending → (printed : List ℕ) → Type 0
IsOutcome places script cert ending printed = (status_of ending ≡ (outcome places script cert).status) × ((outcome places script cert).text ≡ printed)

-- what a check that ended so prints beside a script that is told
pub record IsChecked (places : ℕ) (script : Option (List ℕ)) (cert : List ℕ) (ended : Result Ending Halt) (printed : List ℕ) : Type 0 where
  pub front : IfSome script (λ text. IsFrontOfOutcome places text cert printed)
  pub done : IfOk ended (λ ending. IfSome script (λ text. IsOutcome places text cert ending printed))
  pub short : ended ≡ Err NoMemory → IfSome script (λ text. IsShortOfOutcome places text cert printed)
