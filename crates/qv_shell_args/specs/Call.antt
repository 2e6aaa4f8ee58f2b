-- What a command line asks for.
use Rattle.std.specs.Prelude.{◌≡◌, ℕ, Bool, true, false, not, ◌||◌, ◌==◌, ◌-◌, ◌^◌, ◌≤◌, ◌<◌, List, [], ◌∷◌, Option, Some, None, option_map, option_and_then, if◌then◌else◌, codes, string_bytes}
use Rattle.std.specs.Option.{option_map_or}
use Rattle.std.specs.Str.{bytes_eq}
use Rattle.clap.specs.Words.{App, Row, Text, first_of}
use Rattle.qv_shell_args.specs.Number.{number_in}
use Rattle.qv_shell_args.specs.Commands.{checking_command, matched, number_command, pair_command, qsolve_command, solve_command, trim_command}
use Rattle.qv_shell_args.specs.declared.calls.Budgets.{Budgets}
use Rattle.qv_shell_args.specs.declared.calls.Settings.{Settings}
use Rattle.qv_shell_args.specs.declared.calls.Page.{Page}
use Rattle.qv_shell_args.specs.declared.calls.Page.TheVariants.{Help, Version}
use Rattle.qv_shell_args.specs.declared.calls.Call.{Call}
use Rattle.qv_shell_args.specs.declared.calls.Call.TheVariants as call

-- a call, by the bytes of its texts
pub data Request : Type 0 where
  Solve : Text → Text → Settings → Request
  Check : Text → Text → (places : ℕ) → Request
  Lrat : Text → Text → Request
  Trim : Text → Text → Text → (places : ℕ) → Request
  Clauses : Text → Text → (places : ℕ) → Request
  QSolve : Text → Text → Settings → Request
  QCheck : Text → Text → (places : ℕ) → Request
  Gen : ℕ → Request
  Bench : ℕ → Request
  Print : Page → Request

abbrev pub request_of : Call → Request
request_of (call.Solve script cert settings) = Solve (string_bytes script) (string_bytes cert) settings
request_of (call.Check script cert places) = Check (string_bytes script) (string_bytes cert) places
request_of (call.Lrat cnf proof) = Lrat (string_bytes cnf) (string_bytes proof)
request_of (call.Trim script cert to places) = Trim (string_bytes script) (string_bytes cert) (string_bytes to) places
request_of (call.Clauses script cert places) = Clauses (string_bytes script) (string_bytes cert) places
request_of (call.QSolve file cert settings) = QSolve (string_bytes file) (string_bytes cert) settings
request_of (call.QCheck file cert places) = QCheck (string_bytes file) (string_bytes cert) places
request_of (call.Gen number) = Gen number
request_of (call.Bench number) = Bench number
request_of (call.Print page) = Print page

-- ---- the budgets

-- the number of an option, which is the default where the option isn't there
abbrev pub budget : Text → ℕ → ℕ → List Row → Option ℕ
budget name default most rows = option_map_or (number_in 1 most) (first_of name rows) (Some default)

abbrev pub all_three : Option ℕ → Option ℕ → Option ℕ → Option Budgets
all_three (Some conflicts) (Some instances) (Some variables) =
    Some (record { conflicts = conflicts; instances = instances; variables = variables })
all_three _ _ _ = None

unfoldable pub budgets_of : List Row → Option Budgets
budgets_of rows = all_three
    (budget (codes "conflicts") 1000000 (2 ^ 60 - 1) rows)
    (budget (codes "instances") 10000 (2 ^ 60 - 1) rows)
    (budget (codes "variables") 4000000 (2 ^ 30) rows)

-- the budgets are in their ranges
pub record AreBudgets (b : Budgets) : Type 0 where
  pub conflicts : (1 ≤ b.conflicts) × (b.conflicts < 2 ^ 60)
  pub instances : (1 ≤ b.instances) × (b.instances < 2 ^ 60)
  pub variables : (1 ≤ b.variables) × (b.variables ≤ 2 ^ 30)

-- ---- the settings

-- the prefix limit
unfoldable pub places_of : List Row → Option ℕ
places_of rows = budget (codes "places") 4096 1000000 rows

-- it is in its range
abbrev pub ArePlaces : ℕ → Type 0
ArePlaces places = (1 ≤ places) × (places ≤ 1000000)

-- the flag is among the words
abbrev pub has_flag : Text → List Row → Bool
has_flag name rows = option_map_or (λ value. bytes_eq value (codes "true")) (first_of name rows) false

-- both numbers, and the flags
abbrev pub settings_with : List Row → Option Budgets → Option ℕ → Option Settings
settings_with rows (Some budgets) (Some places) = Some (record {
  budgets = budgets;
  places = places;
  check = has_flag (codes "check") rows;
  verbose = has_flag (codes "verbose") rows;
  stats = has_flag (codes "stats") rows;
})
settings_with rows _ _ = None

-- the budgets, the prefix limit, and which flags are there
abbrev pub settings_of : List Row → Option Settings
settings_of rows = settings_with rows (budgets_of rows) (places_of rows)

-- their numbers are in their ranges
pub record AreSettings (s : Settings) : Type 0 where
  pub budgets : AreBudgets s.budgets
  pub places : ArePlaces s.places

-- ---- what the words behind the first one ask for

abbrev pub both : {A B : Type 0} → Option A → Option B → Option (A × B)
both (Some a) (Some b) = Some (a, b)
both _ _ = None

-- the words at two places
abbrev pub pair_of : (first second : Text) → List Row → Option (Text × Text)
pair_of first second rows = both (first_of first rows) (first_of second rows)

-- those behind the name of a command that has these two
unfoldable pub pair_in : (name first second : Text) → List Text → Option (Text × Text)
pair_in name first second words = option_and_then (pair_of first second) (matched (pair_command name first second) words)

-- a file, a certificate and settings
abbrev pub solving_of : (file : Text) → List Row → Option ((Text × Text) × Settings)
solving_of file rows = both (pair_of file (codes "CERT") rows) (settings_of rows)

unfoldable pub solving_in : App → (file : Text) → List Text → Option ((Text × Text) × Settings)
solving_in command file words = option_and_then (solving_of file) (matched command words)

abbrev pub solve_request : List Text → Option Request
solve_request words = option_map (λ s. Solve s.0.0 s.0.1 s.1) (solving_in solve_command (codes "SCRIPT") words)

-- two files and the prefix limit
abbrev pub checking_of : (first second : Text) → List Row → Option ((Text × Text) × ℕ)
checking_of first second rows = both (pair_of first second rows) (places_of rows)

unfoldable pub checking_in : (name first second : Text) → List Text → Option ((Text × Text) × ℕ)
checking_in name first second words = option_and_then (checking_of first second) (matched (checking_command name first second) words)

abbrev pub check_request : List Text → Option Request
check_request words = option_map (λ c. Check c.0.0 c.0.1 c.1) (checking_in (codes "check") (codes "SCRIPT") (codes "CERT") words)

abbrev pub lrat_request : List Text → Option Request
lrat_request words = option_map (λ files. Lrat files.0 files.1) (pair_in (codes "lrat") (codes "CNF") (codes "PROOF") words)

-- what is written anew has a file of its own, since standard output has the answers
abbrev pub trim_with : Option ((Text × Text) × ℕ) → Option Text → Option Request
trim_with (Some c) (Some to) = if bytes_eq to (codes "-") then None else Some (Trim c.0.0 c.0.1 to c.1)
trim_with _ _ = None

abbrev pub trim_of : List Row → Option Request
trim_of rows = trim_with (checking_of (codes "SCRIPT") (codes "CERT") rows) (first_of (codes "NEW") rows)

unfoldable pub trim_request : List Text → Option Request
trim_request words = option_and_then trim_of (matched trim_command words)

abbrev pub clauses_request : List Text → Option Request
clauses_request words = option_map (λ c. Clauses c.0.0 c.0.1 c.1) (checking_in (codes "clauses") (codes "SCRIPT") (codes "CERT") words)

abbrev pub qsolve_request : List Text → Option Request
qsolve_request words = option_map (λ s. QSolve s.0.0 s.0.1 s.1) (solving_in qsolve_command (codes "FILE") words)

abbrev pub qcheck_request : List Text → Option Request
qcheck_request words = option_map (λ c. QCheck c.0.0 c.0.1 c.1) (checking_in (codes "qcheck") (codes "FILE") (codes "CERT") words)

abbrev pub number_of : ℕ → List Row → Option ℕ
number_of most rows = option_and_then (number_in 0 most) (first_of (codes "N") rows)

-- the number behind `gen` or `bench`
unfoldable pub request_number : Text → ℕ → List Text → Option ℕ
request_number name most words = option_and_then (number_of most) (matched (number_command name) words)

-- the word doesn't begin with `-`
abbrev pub is_plain : Text → Bool
is_plain [] = true
is_plain (first ∷ others) = not (first == 45)

-- the words behind `solve` that name this script, and keep no certificate
abbrev pub unkept : Text → List Text → List Text
unkept script words = script ∷ codes "-" ∷ words

abbrev pub asks_help : Text → Bool
asks_help name = bytes_eq name (codes "-h") || (bytes_eq name (codes "--help") || bytes_eq name (codes "help"))

-- The first word picks the command, asks for help or the version, whatever stands behind it, or is a
-- script to be solved of which no certificate is kept.
abbrev pub request_behind : Text → List Text → Option Request
request_behind name words =
    if bytes_eq name (codes "solve") then solve_request words
    else if bytes_eq name (codes "check") then check_request words
    else if bytes_eq name (codes "lrat") then lrat_request words
    else if bytes_eq name (codes "trim") then trim_request words
    else if bytes_eq name (codes "clauses") then clauses_request words
    else if bytes_eq name (codes "qsolve") then qsolve_request words
    else if bytes_eq name (codes "qcheck") then qcheck_request words
    else if bytes_eq name (codes "gen") then option_map Gen (request_number (codes "gen") 100000 words)
    else if bytes_eq name (codes "bench") then option_map Bench (request_number (codes "bench") 1000 words)
    else if asks_help name then Some (Print Help)
    else if bytes_eq name (codes "--version") then Some (Print Version)
    else if is_plain name then solve_request (unkept name words)
    else None

-- What the words ask for, if they do.
unfoldable pub request_in : List Text → Option Request
request_in [] = None
request_in (name ∷ words) = request_behind name words

-- the words are this call
abbrev pub IsCall : List Text → Call → Type 0
IsCall words call = request_in words ≡ Some (request_of call)

-- the words are no call
abbrev pub IsRefusedCall : List Text → Type 0
IsRefusedCall words = request_in words ≡ None

-- the numbers of a call are in their ranges
abbrev pub IsInRanges : Call → Type 0
IsInRanges (call.Solve script cert settings) = AreSettings settings
IsInRanges (call.Check script cert places) = ArePlaces places
IsInRanges (call.Lrat cnf proof) = Unit {0}
IsInRanges (call.Trim script cert to places) = ArePlaces places
IsInRanges (call.Clauses script cert places) = ArePlaces places
IsInRanges (call.QSolve file cert settings) = AreSettings settings
IsInRanges (call.QCheck file cert places) = ArePlaces places
IsInRanges (call.Gen number) = number ≤ 100000
IsInRanges (call.Bench number) = number ≤ 1000
IsInRanges (call.Print page) = Unit {0}

-- ---- what plain words come to

-- two plain words behind `check` are the script and the certificate, and the prefix limit is 4,096
abbrev pub PlainWordsCheck : Type 0
PlainWordsCheck = (script cert : Text) → is_plain script ≡ true → is_plain cert ≡ true
    → request_in (codes "check" ∷ script ∷ cert ∷ []) ≡ Some (Check script cert 4096)
