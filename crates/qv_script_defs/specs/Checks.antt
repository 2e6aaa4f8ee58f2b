-- The trees in force at each check of a script.
use Rattle.std.specs.Prelude.{List, [], ◌∷◌, Ok, Err}
use Rattle.qv_sexpr.specs.Script.{Script, stops, command}
use Rattle.qv_words.specs.Tree.{Tree}
use Rattle.qv_script_defs.specs.State.{State, Last, answered, no_counts}
use Rattle.qv_script_defs.specs.Moves.{Check, Exit, Move}
use Rattle.qv_script_defs.specs.Commands.{after}

-- behind a move: `more` says what comes of further commands
abbrev pub checked_behind : (List Last → State → List (List Tree)) → List Last → Move → List (List Tree)
checked_behind more answers (Err fault) = []
checked_behind more answers (Ok (s, Exit)) = []
checked_behind more (a ∷ answers) (Ok (s, Check trees)) = trees ∷ more answers (answered a no_counts s)
checked_behind more [] (Ok (s, Check trees)) = trees ∷ []
checked_behind more answers (Ok (s, effect)) = more answers s

-- those of each check that is reached, where the checks before it have these answers
abbrev pub checked : Script → List Last → State → List (List Tree)
checked (stops end) answers s = []
checked (command e rest) answers s = checked_behind (checked rest) answers (after s e)
