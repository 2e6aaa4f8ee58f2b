-- What is printed of the generator's script of a number, solved and checked in memory.
use Rattle.std.specs.Prelude.{◌≡◌, ◌⊎◌, ◌+◌, ◌*◌, ℕ, Option, Some, List, ◌++◌}
use Rattle.qv_io.specs.MemSource.{MemSourceState, ReadGives}
use Rattle.qv_text.specs.Progress.{Progress}
use Rattle.qv_sexpr.specs.Script.{Script, reads}
use Rattle.qv_gen.specs.Text.{script_text}
use Rattle.qv_meter.specs.Records.{Limits, Record}
use Rattle.qv_check_defs.specs.Outcome.{ending_text}
use Rattle.qv_script_transcript.specs.Certificates.{Certified, checks_of, AreCertified, certificate, verdict_beside}
use Rattle.qv_shell_command.specs.declared.tallies.Tally.{Tally}
use Rattle.qv_shell_command.specs.Tallies.{tally_of}
use Rattle.qv_script_defs.specs.State.{State}
use Rattle.qv_shell_follow.specs.Calls.{AreRecordsOfRun, HasFollowed}
use Rattle.qv_shell_follow.specs.Solved.{IsWhole}
use Rattle.qv_gen.specs.Generating.{IsWriting}
use Rattle.qv_gen.specs.declared.counts.Counts.{Counts}
use Rattle.qv_gen.specs.Counts.{counts_text}

abbrev pub default_limits : Limits
default_limits = record { conflicts = 1000000; instances = 10000; variables = 4000000 }

-- the limit on prefixes where none is given
abbrev pub default_places : ℕ
default_places = 4096

-- the counts of a tally
abbrev pub counts_of : Tally → Counts
counts_of t = record { checks = t.checks; sat = t.sat; unsat = t.unsat; unknown = t.unknown }

-- four counts, and the last line of a check
abbrev pub bench_text : Tally → List ℕ → List ℕ
bench_text t last = counts_text (counts_of t) ++ last

-- the commands of a script in memory were followed, with these checks, and started these records
-- within the default limits
pub record IsMetered (script : List ℕ) (checks : List Certified) (records : List Record) : Type 0 where
  pub source : MemSourceState
  pub written : List ℕ
  pub lexer : Progress
  pub now : MemSourceState
  pub still : Option Script
  pub state : State
  pub followed : HasFollowed default_places ReadGives source (Some (reads script)) (checks_of checks) written lexer now still state
  pub metered : AreRecordsOfRun default_limits followed records

-- A text for the checks of the script of this number: they have answers, sections and records as those
-- of any run, within the default limits.
pub record IsBenchOf (n : ℕ) (before after : List Record) (text : List ℕ) : Type 0 where
  pub checks : List Certified
  pub certified : AreCertified 1 checks
  pub records : List Record
  pub metered : IsMetered (script_text n) checks records
  pub started : after ≡ before ++ records
  pub out : List ℕ
  pub status : ℕ
  pub whole : IsWhole default_places (script_text n) checks out (certificate checks) status
  pub text_is : text ≡ bench_text (tally_of (checks_of checks)) (ending_text (verdict_beside default_places (script_text n) (certificate checks)).ending)

-- some records were started
abbrev pub StartsSome : (before after : List Record) → Type 0
StartsSome before after = (more : List Record) × (after ≡ before ++ more)

-- it is written, or a part of it; or nothing is, where memory runs out
abbrev pub IsBenchRun : ℕ → (out out' : Option (List ℕ)) → (before after : List Record) → (status : ℕ) → Type 0
IsBenchRun n out out' before after status =
    ((text : List ℕ) × IsBenchOf n before after text × IsWriting out out' text 0 status)
    ⊎ ((status ≡ 5) × (out' ≡ out) × StartsSome before after)

-- ---- the inside

-- how long the lines of the answers are
abbrev pub answers_length : Tally → ℕ
answers_length t = 4 * t.sat + 6 * t.unsat + 8 * t.unknown

-- a script was solved, with this certificate and these counts
pub record IsSolvedSo (script cert : List ℕ) (before after : List Record) (tally : Tally) : Type 0 where
  pub checks : List Certified
  pub certified : AreCertified 1 checks
  pub records : List Record
  pub metered : IsMetered script checks records
  pub started : after ≡ before ++ records
  pub out : List ℕ
  pub status : ℕ
  pub cert_is : cert ≡ certificate checks
  pub whole : IsWhole default_places script checks out cert status
  pub tallied : tally ≡ tally_of (checks_of checks)
