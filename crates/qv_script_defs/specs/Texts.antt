-- What commands print that print a text of their own.
use Rattle.std.specs.Prelude.{ℕ, ◌++◌, Bool, true, false, Option, Some, None, List, [], ◌∷◌, length, codes, Result, Ok}
use Rattle.std.specs.Fmt.{decimal}
use Rattle.qv_elab_defs.specs.Scopes.{Named}
use Rattle.qv_script_defs.specs.declared.faults.SpentWord.{SpentWord}
use Rattle.qv_script_defs.specs.declared.counts.Counts.{Counts}
use Rattle.qv_script_defs.specs.declared.faults.SpentWord.TheVariants.{Conflicts, Instances, Variables}
use Rattle.qv_script_defs.specs.declared.faults.ScriptKind.TheVariants.{NoReason}
use Rattle.qv_script_defs.specs.Faults.{Fault, refuse}
use Rattle.qv_script_defs.specs.State.{State, Last, Unknown}

abbrev pub line : List ℕ → List ℕ
line text = text ++ codes "\n"

abbrev pub unsupported : List ℕ
unsupported = line (codes "unsupported")

-- what a command prints that prints nothing else
abbrev pub success : Bool → List ℕ
success true = line (codes "success")
success false = []

abbrev pub spent_text : SpentWord → List ℕ
spent_text Conflicts = codes "conflicts"
spent_text Instances = codes "instances"
spent_text Variables = codes "variables"

-- what get-info knows
pub data Info : Type 0 where
  Fixed : (text : List ℕ) → Info
  Levels : Info
  ReasonUnknown : Info
  AllStatistics : Info

unfoldable pub infos : Named Info
infos =
    (codes ":name", Fixed (codes "\"qbv\""))
    ∷ (codes ":version", Fixed (codes "\"1\""))
    ∷ (codes ":authors", Fixed (codes "\"qbv\""))
    ∷ (codes ":error-behavior", Fixed (codes "immediate-exit"))
    ∷ (codes ":assertion-stack-levels", Levels)
    ∷ (codes ":reason-unknown", ReasonUnknown)
    ∷ (codes ":all-statistics", AllStatistics)
    ∷ []

-- the line of a key and what is known of it
abbrev pub info_line : List ℕ → List ℕ → List ℕ
info_line key text = line (codes "(" ++ (key ++ (codes " " ++ (text ++ codes ")"))))

abbrev pub reason_text : ℕ → Option Last → Result (List ℕ) Fault
reason_text place (Some (Unknown spent)) = Ok (info_line (codes ":reason-unknown") (spent_text spent))
reason_text place _ = refuse place NoReason

-- what the last check was charged for
abbrev pub counts_text : Counts → List ℕ
counts_text c =
    codes "(:conflicts " ++ (decimal c.conflicts ++ (codes " :instances " ++ (decimal c.instances ++ (codes " :variables " ++ (decimal c.variables ++ codes ")")))))

abbrev pub statistics_text : Option Counts → List ℕ
statistics_text None = line (codes "()")
statistics_text (Some c) = line (counts_text c)

abbrev pub info_text : ℕ → State → List ℕ → Option Info → Result (List ℕ) Fault
info_text place s key (Some (Fixed text)) = Ok (info_line key text)
info_text place s key (Some Levels) = Ok (info_line key (decimal (length s.opened)))
info_text place s key (Some ReasonUnknown) = reason_text place s.last
info_text place s key (Some AllStatistics) = Ok (statistics_text s.counts)
info_text place s key None = Ok unsupported
