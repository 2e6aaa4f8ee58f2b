-- What the check of a certificate writes that lists the clauses of its sections.
use Rattle.std.specs.Prelude.{◌≤◌, ◌≡◌, ◌⊎◌, ℕ, Option, IfSome, List}
use Rattle.qv_check_defs.specs.Outcome.{Outcome, outcome}
use Rattle.qv_check_script.specs.BesideLaws.{AnswersHold}
use Rattle.qv_check_clauses.specs.Clauses.{clauses_text}
use Rattle.qv_shell.specs.Checking.{IsEnd, IsFront, IsShort, IsWhole}

-- the clauses of the accepted sections, with the status of the verdict
abbrev pub clauses_outcome : (places : ℕ) (script cert : List ℕ) → Outcome
clauses_outcome places script cert = record { text = clauses_text places script cert; status = (outcome places script cert).status }

-- A run with this limit on prefixes that ends with this status, where `script` and `cert` are the bytes of its sources, if they
-- tell them, and `held` those of its sink.
pub record IsClausesRun (places : ℕ) (script cert : Option (List ℕ)) (held held' : Option (List ℕ)) (status : ℕ) : Type 0 where
  -- it came to its end, or stopped before
  pub ends : IsEnd status ⊎ ((3 ≤ status) × (status ≤ 5))
  -- The clauses of the sections that are accepted were written, whole where the run came to its end, and
  -- otherwise a front of them; where memory was wanting, not all of them.
  pub whole : IsEnd status → IfSome script (λ text. IfSome cert (λ bytes. IsWhole held held' status (clauses_outcome places text bytes)))
  pub front : 3 ≤ status → status ≤ 5 → IfSome script (λ text. IfSome cert (λ bytes. IsFront held held' (clauses_outcome places text bytes)))
  pub short : status ≡ 5 → IfSome script (λ text. IfSome cert (λ bytes. IsShort held held' (clauses_outcome places text bytes)))
  -- The answers over them are true of what the script asserts.
  pub answers_hold : IfSome script (λ text. IfSome cert (λ bytes. AnswersHold places text bytes))
