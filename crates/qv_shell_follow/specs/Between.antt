-- What stands between two commands of a script. No public contract cites this.
use Rattle.std.specs.Prelude.{◌≡◌, ◌⊎◌, ℕ, Option, Some, None, List, ◌++◌}
use Rattle.qv_io.specs.Sink.{Appends, AppendsPart}
use Rattle.qv_sexpr.specs.Script.{Script}
use Rattle.qv_sexpr.specs.Reader.{Position}
use Rattle.qv_text.specs.Progress.{Progress}
use Rattle.qv_script_defs.specs.State.{State}
use Rattle.qv_script_transcript.specs.Certificates.{Certified, checks_of, AreCertified, certificate}
use Rattle.qv_meter.specs.Records.{Limits, Record}
use Rattle.qv_shell_command.specs.declared.ending.Ending.{Ending}
use Rattle.qv_shell_command.specs.declared.moves.After.{After}
use Rattle.qv_shell_command.specs.declared.moves.After.TheVariants.{More, Ended}
use Rattle.qv_shell_command.specs.declared.moves.Move.{Move}
use Rattle.qv_shell_command.specs.declared.moves.Course.{Course}
use Rattle.qv_shell_command.specs.Tallies.{tally_of}
use Rattle.qv_shell_command.specs.Moves.{StandsFor}
use Rattle.qv_shell_follow.specs.Calls.{AreRecordsOfRun, HasFollowed, unfed}

-- Commands were followed, and what they print and the sections of their checks were written.
pub record Between (places : ℕ) {S : Type 0} (call : S → ℕ → Option (List ℕ) → S → Type 0) (limits : Limits) (source : S) (script : Option Script) (out cert : Option (List ℕ)) (before : List Record) (c : Course) (lexer : Progress) (now : S) (still : Option Script) (out' cert' : Option (List ℕ)) (after : List Record) : Type 0 where
  pub checks : List Certified
  pub certified : AreCertified 1 checks
  pub counted : c.tally ≡ tally_of (checks_of checks)
  pub written : List ℕ
  pub prints : Appends out out' written
  pub keeps : Appends cert cert' (certificate checks)
  pub state : State
  pub followed : HasFollowed places call source script (checks_of checks) written lexer now still state
  pub records : List Record
  pub metered : AreRecordsOfRun limits followed records
  pub started : after ≡ before ++ records
  pub stands : StandsFor c state

-- the end, if a move is one
abbrev pub end_after : After → Option Ending
end_after More = None
end_after (Ended ending) = Some ending

-- what was written of a move by a sink that failed: a part of its section, or that and a part of its text
abbrev pub WritesPart : Move → (out out' cert cert' : Option (List ℕ)) → Type 0
WritesPart m out out' cert cert' =
    ((out' ≡ out) × AppendsPart cert cert' m.section.items) ⊎ (Appends cert cert' m.section.items × AppendsPart out out' m.text.items)

-- a reader that nothing happened to
abbrev pub fresh : Position
fresh = record { lexer = unfed; stopped = None }
