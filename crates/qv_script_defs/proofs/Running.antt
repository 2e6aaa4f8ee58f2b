-- What becomes of the commands of a text, for worked examples.
use Rattle.std.proofs.Common.{◌≡◌, ℕ, List, [], ◌∷◌, map, Ok, Err}
use Rattle.qv_sexpr.specs.Script.{TextEnd, Script, stops, command, reads}
use Rattle.qv_script_defs.specs.Faults.{Fault}
use Rattle.qv_script_defs.specs.State.{State, Last, opening, answered, no_counts}
use Rattle.qv_script_defs.specs.Moves.{Effect, Check, Exit, Move}
use Rattle.qv_script_defs.specs.Commands.{after}

pub data Outcome : Type 0 where
  Did : Effect → Outcome
  Refused : Fault → Outcome
  Stopped : TextEnd → Outcome

-- what a move gives, and then what further commands give; the first of the answers is that of the next check
abbrev pub went : (List Last → State → List Outcome) → List Last → Move → List Outcome
went more answers (Err fault) = Refused fault ∷ []
went more answers (Ok (s, Exit)) = Did Exit ∷ []
went more (a ∷ answers) (Ok (s, Check trees)) = Did (Check trees) ∷ more answers (answered a no_counts s)
went more answers (Ok (s, effect)) = Did effect ∷ more answers s

abbrev pub outcomes : Script → List Last → State → List Outcome
outcomes (stops end) answers s = Stopped end ∷ []
outcomes (command e rest) answers s = went (outcomes rest) answers (after s e)

-- the outcomes of a text, with the answers of its checks
unfoldable pub all_of : List Last × List ℕ → List Outcome
all_of x = outcomes (reads x.1) x.0 opening

-- each text has, with the answers in front, the outcomes beside it
abbrev pub Go : List (List Last × List ℕ × List Outcome) → Type 0
Go rows = map (λ row. all_of (row.0, row.1)) rows ≡ map (λ row. row.2) rows
