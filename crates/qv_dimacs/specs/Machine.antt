-- How a text is read byte by byte. No public contract cites this.
use Rattle.std.specs.Prelude.{ℕ, ◌+◌, ◌==◌, Bool, true, false, ◌&&◌, if◌then◌else◌, List, [], ◌∷◌, ◌++◌, Option, Some, None}
use Rattle.qv_cnf.specs.Literal.{Literal}
use Rattle.qv_dimacs.specs.declared.faults.DimacsKind.TheVariants.{ProblemLine, Number, Unfinished}
use Rattle.qv_dimacs.specs.declared.words.Seen.{Seen}
use Rattle.qv_dimacs.specs.declared.machine.Stage.{Stage}
use Rattle.qv_dimacs.specs.declared.machine.Stage.TheVariants as stage
use Rattle.qv_dimacs.specs.declared.machine.At.{At}
use Rattle.qv_dimacs.specs.declared.machine.At.TheVariants as at
use Rattle.qv_dimacs.specs.Text.{is_white}
use Rattle.qv_dimacs.specs.Clauses.{Said, Clauses, Faulty, is_none, begun, at_end}
use Rattle.qv_dimacs.specs.Seen.{first_seen, next_seen, seen_literal, seen_numeral, seen_p, seen_cnf, seen_zero, seen_percent}

-- what was read of a text
pub record State : Type 0 where
  pub stage : Stage
  pub at : At
  pub place : ℕ
  pub start : ℕ
  pub lits : List Literal
  pub done : List (List Literal)

-- reading goes on, or what the text says is known
pub data Moved : Type 0 where
  Goes : State → Moved
  Stops : Said → Moved

-- and then
abbrev pub then_goes : Moved → (State → Moved) → Moved
then_goes (Goes s) next = next s
then_goes (Stops said) next = Stops said

abbrev pub no_problem_line : State → Moved
no_problem_line s = Stops (Faulty s.start ProblemLine)

-- the next word of the problem line passes its test, or not
abbrev pub goes_to : Bool → Stage → State → Moved
goes_to b next s = if b then Goes (record s { stage = next }) else no_problem_line s

abbrev pub part_at : Stage → State → Seen → Moved
part_at stage.Letter s seen = goes_to (seen_p seen) stage.Format s
part_at stage.Format s seen = goes_to (seen_cnf seen) stage.Variables s
part_at stage.Variables s seen = goes_to (seen_numeral seen) stage.Count s
part_at stage.Count s seen = goes_to (seen_numeral seen) stage.Whole s
part_at stage.Whole s seen = no_problem_line s
part_at stage.Comments s seen = no_problem_line s
part_at stage.Clauses s seen = no_problem_line s

-- a word of the problem line
abbrev pub part_ends : State → Seen → Moved
part_ends s seen = part_at s.stage s seen

-- a word that should be a literal
abbrev pub with_item : State → ℕ → Option Literal → Moved
with_item s place None = Stops (Faulty place Number)
with_item s place (Some lit) = Goes (record s { lits = s.lits ++ lit ∷ []; start = begun s.start s.lits place })

abbrev pub literal : State → ℕ → Seen → Moved
literal s place seen = with_item s place (seen_literal seen)

-- a word among clauses
abbrev pub item : State → ℕ → Seen → Moved
item s place seen =
    if seen_zero seen then Goes (record s { done = s.done ++ s.lits ∷ []; lits = [] })
    else (if is_none s.lits && seen_percent seen then Stops (Clauses s.done)
    else literal s place seen)

abbrev pub is_clauses : Stage → Bool
is_clauses stage.Clauses = true
is_clauses stage.Comments = false
is_clauses stage.Letter = false
is_clauses stage.Format = false
is_clauses stage.Variables = false
is_clauses stage.Count = false
is_clauses stage.Whole = false

-- a word ends
abbrev pub word_ends : State → ℕ → Seen → Moved
word_ends s place seen = if is_clauses s.stage then item s place seen else part_ends s seen

-- a line ends
abbrev pub line_at : Stage → State → Moved
line_at stage.Comments s = Goes (record s { at = at.Fresh })
line_at stage.Clauses s = Goes (record s { at = at.Fresh })
line_at stage.Whole s = Goes (record s { stage = stage.Clauses; start = 0; at = at.Fresh })
line_at stage.Letter s = no_problem_line s
line_at stage.Format s = no_problem_line s
line_at stage.Variables s = no_problem_line s
line_at stage.Count s = no_problem_line s

abbrev pub line_ends : State → Moved
line_ends s = line_at s.stage s

-- white space behind a word, or before one
abbrev pub gap : State → ℕ → Moved
gap s byte = if byte == 10 then line_ends s else Goes s

-- a word begins
abbrev pub stage_begun : Stage → State → State
stage_begun stage.Comments s = record s { stage = stage.Letter; start = s.place }
stage_begun stage.Letter s = s
stage_begun stage.Format s = s
stage_begun stage.Variables s = s
stage_begun stage.Count s = s
stage_begun stage.Whole s = s
stage_begun stage.Clauses s = s

abbrev pub begin : State → ℕ → State
begin s byte = record (stage_begun s.stage s) { at = at.Word s.place (first_seen byte) }

-- a byte before a word
abbrev pub between : State → ℕ → Moved
between s byte = if is_white byte then gap s byte else Goes (begin s byte)

-- a byte behind one of a word
abbrev pub in_word : State → ℕ → Seen → ℕ → Moved
in_word s place seen byte =
    if is_white byte then then_goes (word_ends s place seen) (λ t. gap (record t { at = at.Gap }) byte)
    else Goes (record s { at = at.Word place (next_seen seen byte) })

abbrev pub step_at : At → State → ℕ → Moved
step_at (at.Word place seen) s byte = in_word s place seen byte
step_at at.Comment s byte = Goes (if byte == 10 then record s { at = at.Fresh } else s)
step_at at.Fresh s byte = if byte == 99 then Goes (record s { at = at.Comment }) else between s byte
step_at at.Gap s byte = between s byte

-- one more byte
abbrev pub step : State → ℕ → Moved
step s byte = then_goes (step_at s.at s byte) (λ t. Goes (record t { place = s.place + 1 }))

-- the bytes end behind the last word
abbrev pub end_at : Stage → State → Said
end_at stage.Comments s = Faulty s.place Unfinished
end_at stage.Whole s = Clauses s.done
end_at stage.Clauses s = at_end s.done s.start s.lits
end_at stage.Letter s = Faulty s.start ProblemLine
end_at stage.Format s = Faulty s.start ProblemLine
end_at stage.Variables s = Faulty s.start ProblemLine
end_at stage.Count s = Faulty s.start ProblemLine

abbrev pub said_at_end : State → Said
said_at_end s = end_at s.stage s

-- what is said where a word ends, or reading stops
abbrev pub ends_with : Moved → Said
ends_with (Goes s) = said_at_end s
ends_with (Stops said) = said

-- the bytes end
abbrev pub finish_at : At → State → Said
finish_at (at.Word place seen) s = ends_with (word_ends s place seen)
finish_at at.Fresh s = said_at_end s
finish_at at.Comment s = said_at_end s
finish_at at.Gap s = said_at_end s

abbrev pub finish : State → Said
finish s = finish_at s.at s

-- how the text goes on
abbrev pub goes_on : Moved → (State → Said) → Said
goes_on (Goes s) next = next s
goes_on (Stops said) next = said

-- what a text says from here on
unfoldable pub run : State → List ℕ → Said
run s [] = finish s
run s (byte ∷ text) = goes_on (step s byte) (λ t. run t text)

-- before the first byte
abbrev pub start_state : State
start_state = record { stage = stage.Comments; at = at.Fresh; place = 0; start = 0; lits = []; done = [] }
