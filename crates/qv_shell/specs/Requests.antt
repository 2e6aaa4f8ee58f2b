-- What is said of a run by what its words ask for.
use Rattle.std.specs.Prelude.{◌≡◌, ℕ, Option, Some, None, List}
use Rattle.clap.specs.Words.{Text}
use Rattle.qv_shell_args.specs.declared.calls.Budgets.{Budgets}
use Rattle.qv_shell_args.specs.Call.{Request, Solve, Check, Lrat, Trim, Clauses, QSolve, QCheck, Gen, Bench, Print}
use Rattle.qv_meter.specs.Records.{Limits}
use Rattle.qv_shell_args.specs.declared.calls.Page.{Page}
use Rattle.qv_shell_args.specs.declared.calls.Settings.{Settings}

-- where they ask for it, with these settings, or with this limit on prefixes
abbrev pub IfSolve : Option Request → (Settings → Type 0) → Type 0
IfSolve (Some (Solve script cert settings)) P = P settings
IfSolve _ P = Unit {0}

abbrev pub IfCheck : Option Request → (ℕ → Type 0) → Type 0
IfCheck (Some (Check script cert places)) P = P places
IfCheck _ P = Unit {0}

abbrev pub IfLrat : Option Request → Type 0 → Type 0
IfLrat (Some (Lrat cnf proof)) P = P
IfLrat _ P = Unit {0}

abbrev pub IfTrim : Option Request → (ℕ → Type 0) → Type 0
IfTrim (Some (Trim script cert to places)) P = P places
IfTrim _ P = Unit {0}

abbrev pub IfClauses : Option Request → (ℕ → Type 0) → Type 0
IfClauses (Some (Clauses script cert places)) P = P places
IfClauses _ P = Unit {0}

abbrev pub IfQSolve : Option Request → (Settings → Type 0) → Type 0
IfQSolve (Some (QSolve file cert settings)) P = P settings
IfQSolve _ P = Unit {0}

abbrev pub IfQCheck : Option Request → (ℕ → Type 0) → Type 0
IfQCheck (Some (QCheck file cert places)) P = P places
IfQCheck _ P = Unit {0}

abbrev pub IfGen : Option Request → (ℕ → Type 0) → Type 0
IfGen (Some (Gen n)) P = P n
IfGen _ P = Unit {0}

abbrev pub IfBench : Option Request → (ℕ → Type 0) → Type 0
IfBench (Some (Bench n)) P = P n
IfBench _ P = Unit {0}

abbrev pub IfPage : Option Request → (Page → Type 0) → Type 0
IfPage (Some (Print page)) P = P page
IfPage _ P = Unit {0}

abbrev pub IfRefused : Option Request → Type 0 → Type 0
IfRefused None P = P
IfRefused (Some request) P = Unit {0}

-- for a script or a formula to be solved
abbrev pub IfSolves : Option Request → Type 0 → Type 0
IfSolves (Some (Solve script cert settings)) P = P
IfSolves (Some (QSolve file cert settings)) P = P
IfSolves _ P = Unit {0}

-- for a check of any kind, after which nothing is written but to the output
abbrev pub IfChecks : Option Request → Type 0 → Type 0
IfChecks (Some (Check script cert places)) P = P
IfChecks (Some (Lrat cnf proof)) P = P
IfChecks (Some (Clauses script cert places)) P = P
IfChecks (Some (QCheck file cert places)) P = P
IfChecks _ P = Unit {0}

-- a certificate or a proof is read
abbrev pub IfReads : Option Request → Type 0 → Type 0
IfReads (Some (Trim script cert to places)) P = P
IfReads request P = IfChecks request P

-- a certificate is written
abbrev pub IfWrites : Option Request → Type 0 → Type 0
IfWrites (Some (Trim script cert to places)) P = P
IfWrites request P = IfSolves request P

-- they ask for something by which none is read, or written
abbrev pub UnlessReads : Option Request → Type 0 → Type 0
UnlessReads (Some (Check script cert places)) P = Unit {0}
UnlessReads (Some (Lrat cnf proof)) P = Unit {0}
UnlessReads (Some (Trim script cert to places)) P = Unit {0}
UnlessReads (Some (Clauses script cert places)) P = Unit {0}
UnlessReads (Some (QCheck file cert places)) P = Unit {0}
UnlessReads _ P = P

abbrev pub UnlessWrites : Option Request → Type 0 → Type 0
UnlessWrites (Some (Solve script cert settings)) P = Unit {0}
UnlessWrites (Some (Trim script cert to places)) P = Unit {0}
UnlessWrites (Some (QSolve file cert settings)) P = Unit {0}
UnlessWrites _ P = P

-- by which no script is read, nor a text in the place of one
abbrev pub UnlessScript : Option Request → Type 0 → Type 0
UnlessScript request P = UnlessWrites request (UnlessReads request P)

-- by which nothing is solved
abbrev pub UnlessMetered : Option Request → Type 0 → Type 0
UnlessMetered (Some (Solve script cert settings)) P = Unit {0}
UnlessMetered (Some (QSolve file cert settings)) P = Unit {0}
UnlessMetered (Some (Bench n)) P = Unit {0}
UnlessMetered _ P = P

-- the status of a run without a script that nothing stopped
abbrev pub IsDone : Option Request → ℕ → Type 0
IsDone (Some request) status = status ≡ 0
IsDone None status = status ≡ 2

-- budgets as the limits of records
abbrev pub limits_with : Budgets → Limits
limits_with b = record { conflicts = b.conflicts; instances = b.instances; variables = b.variables }
