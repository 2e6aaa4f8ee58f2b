-- What was taken of a source, told or not, where reading stopped for the source: which bytes, and
-- that no whole command stands in them.
use Rattle.std.specs.Prelude.{ℕ, ◌≡◌, ◌+◌, List, [], ◌++◌, length, Option, Some, None}
use Rattle.qv_text.specs.Progress.{Progress, fed, still_reads}
use Rattle.qv_sexpr.specs.Limits.{piece_size}
use Rattle.qv_sexpr.specs.Script.{Script, stops, command, commands}

-- In what follows `call` says what one call makes of a source. Each call asks for `piece_size`
-- bytes.

-- calls, one after another, and the bytes that they gave in all
pub data Gave {S : Type 0} (call : S → ℕ → Option (List ℕ) → S → Type 0) (source : S) : List ℕ → S → Type 0 where
  no_call : Gave call source [] source
  one_more : (bytes : List ℕ) (now : S) (more : List ℕ) (later : S) → Gave call source bytes now → call now piece_size (Some more) later → Gave call source (bytes ++ more) later

-- what is read begins with no command
abbrev pub NoCommand : Script → Type 0
NoCommand (stops end) = Unit {0}
NoCommand (command tree rest) = ⊥

-- calls gave these bytes, and all of them were fed; with what was fed before and not yet read they
-- are no whole command
pub record TookNoCommand {S : Type 0} (call : S → ℕ → Option (List ℕ) → S → Type 0) (old : Progress) (source : S) (bytes : List ℕ) (new : Progress) (later : S) : Type 0 where
  pub gave : Gave call source bytes later
  pub all_fed : fed new ≡ fed old + length bytes
  pub no_command : NoCommand (commands (still_reads old bytes))

-- a call failed behind those that gave bytes
abbrev pub FailsBehind : {S : Type 0} → (S → ℕ → Option (List ℕ) → S → Type 0) → Progress → S → Progress → S → Type 0
FailsBehind {S} call old source new later = (bytes : List ℕ) × (now : S) × TookNoCommand call old source bytes new now × call now piece_size None later

-- none is made behind those that gave bytes
abbrev pub MeetsLimit : {S : Type 0} → (S → ℕ → Option (List ℕ) → S → Type 0) → Progress → S → Progress → S → Type 0
MeetsLimit call old source new later = (bytes : List ℕ) × TookNoCommand call old source bytes new later
