-- What a reader has still to read, and what it answers.
use Rattle.std.specs.Prelude.{ℕ, ◌≡◌, ◌+◌, ◌<◌, ◌≤◌, ◌⊎◌, true, List, [], length, if◌then◌else◌, Option, Some, None, option_map, IfSome, IsSomeAnd, IsTrue}
use Rattle.qv_text.specs.Reading.{Tokens}
use Rattle.qv_text.specs.Progress.{Progress, fed, still_reads, IsOpen}
use Rattle.qv_sexpr.specs.declared.answers.Stop.{Stop}
use Rattle.qv_sexpr.specs.declared.answers.Stop.TheVariants as stop
use Rattle.qv_sexpr.specs.declared.answers.Next.{Next}
use Rattle.qv_sexpr.specs.declared.answers.Next.TheVariants.{Command, End, ReadFault, ReadLimit, Lex, Parse, NestingLimit, NoMemory}
use Rattle.qv_sexpr.specs.Limits.{piece_size, read_limit}
use Rattle.qv_sexpr.specs.Script.{Tree, TextEnd, Script, all_read, lexical, parsing, nesting, stops, command, commands}
use Rattle.qv_sexpr.specs.Items.{IsExprOf}

-- the tokens that are still to be read where a source has these bytes left, of which none counts
-- once the end was met
abbrev pub coming : Progress → List ℕ → Tokens
coming lexer left = still_reads lexer (if lexer.finished then [] else left)

-- where a source tells its bytes, no more were fed than it gave
abbrev pub FedGiven : Option (List ℕ) → Progress → Option (List ℕ) → Progress → Type 0
FedGiven left old left' new = IfSome left (λ bytes. IsSomeAnd left' (λ bytes'. fed new + length bytes' ≤ fed old + length bytes))

-- Bytes are taken only while fewer than the limit were, and none is behind the end.
pub record TakesBelow (old new : Progress) : Type 0 where
  pub grows : fed old ≤ fed new
  pub piece : fed old < fed new → fed new < read_limit + piece_size
  pub finish : IsTrue new.finished → IsTrue old.finished ⊎ (fed new < read_limit)
  pub stays : IsTrue old.finished → (new.finished ≡ true) × (fed new ≡ fed old)

-- the commands that are still to be read behind a lexer, where a source that may not tell its bytes
-- has these left
abbrev pub behind : Progress → Option (List ℕ) → Option Script
behind lexer left = option_map (λ bytes. commands (coming lexer bytes)) left

-- how the text ends, where reading stopped for that: the source's faults and want of memory belong
-- to the reader alone
abbrev pub text_end : Stop → Option TextEnd
text_end stop.End = Some all_read
text_end (stop.Lex fault) = Some (lexical fault)
text_end (stop.Parse fault) = Some (parsing fault)
text_end (stop.NestingLimit place) = Some (nesting place)
text_end stop.ReadFault = None
text_end stop.ReadLimit = None
text_end stop.NoMemory = None

-- the text ends here, as this says
abbrev pub IsEnd : Stop → Script → Type 0
IsEnd stop script = IsSomeAnd (text_end stop) (λ end. script ≡ stops end)

-- what the user of a reader sees of it: how far its lexer is, and why reading stopped, if it did
pub record Position : Type 0 where
  pub lexer : Progress
  pub stopped : Option Stop

-- where reading stopped, the text's end is left, if that is why
abbrev pub unless_stopped : Option Stop → Option Script → Option Script
unless_stopped None script = script
unless_stopped (Some s) script = option_map stops (text_end s)

-- what is still to be read, where it is told
abbrev pub to_read : Position → Option (List ℕ) → Option Script
to_read p left = unless_stopped p.stopped (behind p.lexer left)

-- why reading stopped, if this answer says so
abbrev pub stop_of : Next → Option Stop
stop_of (Command expr) = None
stop_of End = Some stop.End
stop_of ReadFault = Some stop.ReadFault
stop_of ReadLimit = Some stop.ReadLimit
stop_of (Lex fault) = Some (stop.Lex fault)
stop_of (Parse fault) = Some (stop.Parse fault)
stop_of (NestingLimit place) = Some (stop.NestingLimit place)
stop_of NoMemory = Some stop.NoMemory

-- why no command comes, where these are still to be read; `rose` says that the source's count of
-- faults rose
abbrev pub CommandStop : Type 0 → Option Script → Progress → Stop → Type 0
CommandStop rose old new stop.End = IfSome old (IsEnd stop.End)
CommandStop rose old new (stop.Lex fault) = IfSome old (IsEnd (stop.Lex fault))
CommandStop rose old new (stop.Parse fault) = IfSome old (IsEnd (stop.Parse fault))
CommandStop rose old new (stop.NestingLimit place) = IfSome old (IsEnd (stop.NestingLimit place))
CommandStop rose old new stop.ReadFault = rose × (fed new < read_limit)
CommandStop rose old new stop.ReadLimit = (read_limit ≤ fed new) × IsOpen new
CommandStop rose old new stop.NoMemory = Unit {0}

-- Where the bytes are told, the answer is what comes next in them, and the rest is still to be
-- read.
abbrev pub GivesNext : Option Script → Next → Option Script → Type 0
GivesNext old (Command expr) new = (tree : Tree) × IsExprOf tree expr × (old ≡ option_map (command tree) new)
GivesNext old End new = IfSome old (IsEnd stop.End)
GivesNext old (Lex fault) new = IfSome old (IsEnd (stop.Lex fault))
GivesNext old (Parse fault) new = IfSome old (IsEnd (stop.Parse fault))
GivesNext old (NestingLimit place) new = IfSome old (IsEnd (stop.NestingLimit place))
-- the bytes say nothing of these
GivesNext old ReadFault new = Unit {0}
GivesNext old ReadLimit new = Unit {0}
GivesNext old NoMemory new = Unit {0}
