-- A script as a certificate beside it meets it.
use Rattle.std.specs.Prelude.{ℕ, nat_lt, if◌then◌else◌, Option, Some, None, List, map, codes, Ok, Err}
use Rattle.qv_words.specs.declared.op.Answer.{Answer}
use Rattle.qv_words.specs.declared.op.Answer.TheVariants as answer
use Rattle.qv_words.specs.Tree.{Tree}
use Rattle.qv_words.specs.Problem.{problem_of}
use Rattle.std.specs.Prelude.{length}
use Rattle.qv_sexpr.specs.Script.{Tree as Expr, Script as Commands, stops, command}
use Rattle.qv_elab_defs.specs.Tokens.{place_of}
use Rattle.qv_script_defs.specs.declared.faults.SpentWord.TheVariants.{Conflicts}
use Rattle.qv_script_defs.specs.Faults.{refusal, fault_line}
use Rattle.qv_script_defs.specs.State.{State, Last, Sat, Unsat, Unknown, answered, no_counts, constants}
use Rattle.qv_script_defs.specs.Moves.{Quiet, Text, Check, Values, Whole, Core, Exit, Move}
use Rattle.qv_script_defs.specs.Commands.{after}
use Rattle.qv_script_texts.specs.EndLines.{fault_at_end}
use Rattle.qv_check_laws.specs.Verdict.{Script, Asks, Stops, Ends}

-- A check has the answer of its section. Values, reasons and counts aren't in a certificate, and none
-- is printed, so any do.
abbrev pub last_of : State → Answer → Last
last_of s answer.Sat = Sat (map (λ own. 0) (constants s))
last_of s answer.Unsat = Unsat
last_of s answer.Unknown = Unknown Conflicts

-- a check of these trees, whose problem may have so many places: the script goes on by the answer
abbrev pub asks : (places : ℕ) → (State → Script (List ℕ)) → State → Expr → List Tree → Script (List ℕ)
asks places goes_on s e trees =
    if nat_lt places (length (problem_of trees).prefix)
    then Stops (refusal (place_of e) (codes "prefix limit"))
    else Asks (problem_of trees) (λ answer. goes_on (answered (last_of s answer) no_counts s))

-- behind a command
abbrev pub behind : (places : ℕ) → (State → Script (List ℕ)) → Expr → Move → Script (List ℕ)
behind places goes_on e (Err fault) = Stops (fault_line fault)
behind places goes_on e (Ok (s, Quiet)) = goes_on s
behind places goes_on e (Ok (s, Text words)) = goes_on s
behind places goes_on e (Ok (s, Values terms)) = goes_on s
behind places goes_on e (Ok (s, Whole)) = goes_on s
behind places goes_on e (Ok (s, Core trees named)) = goes_on s
behind places goes_on e (Ok (s, Check trees)) = asks places goes_on s e trees
behind places goes_on e (Ok (s, Exit)) = Ends

-- where the text ends
abbrev pub at_end : Option (List ℕ) → Script (List ℕ)
at_end None = Ends
at_end (Some fault) = Stops fault

-- commands from a state on; a fault is its line
unfoldable pub beside : (places : ℕ) → State → Commands → Script (List ℕ)
beside places s (stops end) = at_end (fault_at_end end)
beside places s (command e rest) = behind places (λ t. beside places t rest) e (after s e)
