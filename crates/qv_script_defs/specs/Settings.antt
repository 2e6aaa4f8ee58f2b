-- The options of `set-option`: what each takes, and what it is where it isn't set.
use Rattle.std.specs.Prelude.{ℕ, ◌==◌, if◌then◌else◌, Bool, Option, Some, None, List, [], ◌∷◌, codes}
use Rattle.std.specs.List.{list_any}
use Rattle.qv_elab_defs.specs.Tokens.{number_of}
use Rattle.qv_elab_defs.specs.Scopes.{Named, found}
use Rattle.qv_script_defs.specs.declared.settings.Setting.{Setting}
use Rattle.qv_script_defs.specs.declared.settings.Setting.TheVariants.{Success, Global, Truth, Numeral, Answers, Diagnostics, Foreign}
use Rattle.qv_script_defs.specs.State.{State}
use Rattle.qv_script_defs.specs.Texts.{line, unsupported}

unfoldable pub settings : Named Setting
settings =
    (codes ":print-success", Success)
    ∷ (codes ":global-declarations", Global)
    ∷ (codes ":produce-models", Truth)
    ∷ (codes ":produce-unsat-cores", Truth)
    ∷ (codes ":produce-unsat-assumptions", Truth)
    ∷ (codes ":produce-assignments", Truth)
    ∷ (codes ":produce-assertions", Truth)
    ∷ (codes ":interactive-mode", Truth)
    ∷ (codes ":verbosity", Numeral)
    ∷ (codes ":random-seed", Numeral)
    ∷ (codes ":reproducible-resource-limit", Numeral)
    ∷ (codes ":regular-output-channel", Answers)
    ∷ (codes ":diagnostic-output-channel", Diagnostics)
    ∷ (codes ":auto_config", Foreign)
    ∷ (codes ":memory_max_size", Foreign)
    ∷ (codes ":model", Foreign)
    ∷ (codes ":model_validate", Foreign)
    ∷ (codes ":proof", Foreign)
    ∷ (codes ":rlimit", Foreign)
    ∷ (codes ":smtlib2_compliant", Foreign)
    ∷ (codes ":stats", Foreign)
    ∷ (codes ":timeout", Foreign)
    ∷ (codes ":trace", Foreign)
    ∷ (codes ":type_check", Foreign)
    ∷ (codes ":unsat_core", Foreign)
    ∷ (codes ":verbose", Foreign)
    ∷ (codes ":warning", Foreign)
    ∷ (codes ":well_sorted_check", Foreign)
    ∷ (codes ":bv-solver", Foreign)
    ∷ (codes ":fmf-bound", Foreign)
    ∷ (codes ":incremental", Foreign)
    ∷ (codes ":rlimit-per", Foreign)
    ∷ (codes ":sat-solver", Foreign)
    ∷ (codes ":seed", Foreign)
    ∷ (codes ":strings-exp", Foreign)
    ∷ (codes ":time-limit-per", Foreign)
    ∷ (codes ":tlimit", Foreign)
    ∷ (codes ":tlimit-per", Foreign)
    ∷ (codes ":yices-ef-max-iters", Foreign)
    ∷ []

-- What an option takes, if it is one. A dot in its name makes it another solver's own.
abbrev pub has_dot : List ℕ → Bool
has_dot key = list_any (λ b. b == 46) key

abbrev pub setting_of : List ℕ → Option Setting
setting_of key = if has_dot key then Some Foreign else found key settings

-- the strings that options for channels take, as they are written
abbrev pub standard_output : List ℕ
standard_output = codes "\"stdout\""

abbrev pub standard_error : List ℕ
standard_error = codes "\"stderr\""

-- what an option is where it isn't set, as it would be written
abbrev pub default_of : Option Setting → Option (List ℕ)
default_of (Some Success) = Some (codes "false")
default_of (Some Global) = Some (codes "false")
default_of (Some Truth) = Some (codes "false")
default_of (Some Numeral) = Some (codes "0")
default_of (Some Answers) = Some standard_output
default_of (Some Diagnostics) = Some standard_error
default_of (Some Foreign) = None
default_of None = None

abbrev pub value_line : Option (List ℕ) → List ℕ
value_line (Some text) = line text
value_line None = unsupported

-- what `get-option` prints: the value that was set, as it is written, or else the default
abbrev pub value_or : Option (List ℕ) → Option Setting → List ℕ
value_or (Some text) setting = line text
value_or None setting = value_line (default_of setting)

abbrev pub option_text : State → List ℕ → List ℕ
option_text s key = value_or (found key s.options) (setting_of key)

-- how many conflicts each check may have by this option, as it was set last; 0 where that is free
abbrev pub written_limit : Option (List ℕ) → ℕ
written_limit (Some digits) = number_of 10 digits
written_limit None = 0

abbrev pub limit_of : State → ℕ
limit_of s = written_limit (found (codes ":reproducible-resource-limit") s.options)
