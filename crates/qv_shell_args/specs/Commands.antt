-- The commands by which `clap` reads the words behind the first one.
use Rattle.std.specs.Prelude.{true, List, [], ◌∷◌, Option, Some, None, codes}
use Rattle.clap.specs.Words.{App, Kinds, Row, Rule, Text, fault_of, matches_of, new_app, new_rule, with_rule}
use Rattle.clap.specs.Simple.{on_top}
use Rattle.clap.specs.declared.builder.action.ArgAction.TheVariants.{SetTrue}

-- a command without arguments, and without flags for help and version; the first of the words that
-- it reads is no program's name
abbrev pub bare_command : Text → App
bare_command name =
    on_top (λ c. record c { no_binary_name = true; disable_help_flag = true; disable_version_flag = true }) (new_app name)

-- a word that has to be there, known by its place
abbrev pub place : Text → Rule
place id = record (new_rule id) { required = true }

-- `--name` with a value
abbrev pub option : Text → Rule
option name = record (new_rule name) { long = Some name }

-- `--name`, without a value
abbrev pub flag : Text → Rule
flag name = record (new_rule name) { long = Some name; action = Some SetTrue }

-- NAME FIRST SECOND
abbrev pub pair_command : Text → (first second : Text) → App
pair_command name first second = with_rule (with_rule (bare_command name) (place first)) (place second)

-- NAME FILE CERT [--conflicts N] [--instances N] [--variables N] [--places N] [--stats]
abbrev pub settled_command : Text → (file : Text) → App
settled_command name file =
    let with_budgets = with_rule (with_rule (with_rule (pair_command name file (codes "CERT")) (option (codes "conflicts"))) (option (codes "instances"))) (option (codes "variables")) in
    with_rule (with_rule with_budgets (option (codes "places"))) (flag (codes "stats"))

-- solve SCRIPT CERT, with the options above, [--check] [--verbose]
abbrev pub solve_command : App
solve_command = with_rule (with_rule (settled_command (codes "solve") (codes "SCRIPT")) (flag (codes "check"))) (flag (codes "verbose"))

-- qsolve FILE CERT, with the options above
abbrev pub qsolve_command : App
qsolve_command = settled_command (codes "qsolve") (codes "FILE")

-- NAME FIRST SECOND [--places N]
abbrev pub checking_command : Text → (first second : Text) → App
checking_command name first second = with_rule (pair_command name first second) (option (codes "places"))

-- trim SCRIPT CERT NEW [--places N]
abbrev pub trim_command : App
trim_command = with_rule (with_rule (pair_command (codes "trim") (codes "SCRIPT") (codes "CERT")) (place (codes "NEW"))) (option (codes "places"))

-- gen N, or bench N
abbrev pub number_command : Text → App
number_command name = with_rule (bare_command name) (place (codes "N"))

abbrev pub if_taken : Kinds → List Row → Option (List Row)
if_taken [] rows = Some rows
if_taken (kind ∷ kinds) rows = None

-- What `clap` finds for the arguments of a command, where it names no fault in the words.
unfoldable pub matched : App → List Text → Option (List Row)
matched command words = if_taken (fault_of command words) (matches_of command words)
