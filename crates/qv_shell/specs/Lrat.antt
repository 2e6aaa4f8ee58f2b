-- What the check of a SAT solver's proof writes and reads.
use Rattle.std.specs.Prelude.{◌≡◌, ◌≤◌, ◌⊎◌, ℕ, Option, IfSome, List}
use Rattle.qv_dimacs.specs.Clauses.{dimacs_of}
use Rattle.qv_lrat.specs.Laws.{SaysNoModel}
use Rattle.qv_lrat.specs.Verdict.{lrat_outcome}
use Rattle.qv_shell.specs.Checking.{IsEnd, IsFront, IsShort, IsWhole}

-- A check that ends with this status, where `cnf` and `proof` are the bytes of its sources, if they
-- tell them, and `held` those of its sink; `unread` says that the proof's source is as before.
pub record IsLratRun (unread : Type 0) (cnf proof : Option (List ℕ)) (held held' : Option (List ℕ)) (status : ℕ) : Type 0 where
  -- it came to its end, or stopped before
  pub ends : IsEnd status ⊎ ((3 ≤ status) × (status ≤ 5))
  -- The text of its outcome on these bytes was written, whole where it came to its end, and
  -- otherwise a front of it; where memory was wanting, not all of it.
  pub whole : IsEnd status → IfSome cnf (λ text. IfSome proof (λ bytes. IsWhole held held' status (lrat_outcome text bytes)))
  pub front : 3 ≤ status → status ≤ 5 → IfSome cnf (λ text. IfSome proof (λ bytes. IsFront held held' (lrat_outcome text bytes)))
  pub short : status ≡ 5 → IfSome cnf (λ text. IfSome proof (λ bytes. IsShort held held' (lrat_outcome text bytes)))
  -- Where the proof is accepted, the clauses have no model.
  pub shown : IfSome cnf (λ text. IfSome proof (λ bytes. status ≡ 0 → SaysNoModel (dimacs_of text)))
  -- Beside a text that has a fault the proof isn't read.
  pub passed_over : status ≡ 1 → unread
