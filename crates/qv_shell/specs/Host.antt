-- Where the status of a run comes from, by what became of its objects.
use Rattle.std.specs.Prelude.{◌≡◌, ◌≤◌, ◌-◌, ◌^◌, ◌⊎◌, ℕ, Option, Some, IsSome, List}
use Rattle.std.specs.declared.io.Error.{Error}
use Rattle.qv_io.specs.Count.{Rose}
use Rattle.qv_check_defs.specs.Limits.{MetLimit}
use Rattle.qv_shell_args.specs.Call.{Request, Solve, Check, Lrat, Trim, Clauses, QSolve, QCheck}
pub use Rattle.qv_shell_args.specs.Call.{request_in}
pub use Rattle.qv_gen.specs.Generating.{IsGenRun, IsWritingUnless}
pub use Rattle.qv_check_script.specs.Wanting.{WantsMore}

-- a call of the source failed, or the limit on its bytes was met
abbrev pub RanShort : {S : Type 0} → (S → ℕ → Option (List ℕ) → S → Type 0) → (S → Option (List ℕ)) → (S → ℕ) → S → S → Type 0
RanShort call left faults source source' = Rose (faults source) (faults source') ⊎ MetLimit call (left source) source source'

-- a run stops with status 3 only where the script ran short, or, where a certificate or a proof is
-- checked, that
abbrev pub StopsReading : Option Request → (script cert : Type 0) → (status : ℕ) → Type 0
StopsReading (Some (Check s c p)) script cert status = status ≡ 3 → script ⊎ cert
StopsReading (Some (Lrat s c)) script cert status = status ≡ 3 → script ⊎ cert
StopsReading (Some (Trim s c n p)) script cert status = status ≡ 3 → script ⊎ cert
StopsReading (Some (Clauses s c p)) script cert status = status ≡ 3 → script ⊎ cert
StopsReading (Some (QCheck s c p)) script cert status = status ≡ 3 → script ⊎ cert
StopsReading _ script cert status = status ≡ 3 → script

-- and with 4 only where the output failed, or, where a certificate is written, that
abbrev pub StopsWriting : Option Request → (out cert : Type 0) → (status : ℕ) → Type 0
StopsWriting (Some (Solve s c settings)) out cert status = status ≡ 4 → out ⊎ cert
StopsWriting (Some (Trim s c n p)) out cert status = status ≡ 4 → out ⊎ cert
StopsWriting (Some (QSolve s c settings)) out cert status = status ≡ 4 → out ⊎ cert
StopsWriting _ out cert status = status ≡ 4 → out

-- what a source over one of std's readers says of that: it failed for this reason, or gave as many
-- bytes as are taken of one
abbrev pub SaysShort : Option Error → ℕ → Type 0
SaysShort error given = IsSome error ⊎ (2 ^ 62 - 4096 ≤ given)
