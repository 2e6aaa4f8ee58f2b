-- Clauses of formulas within a limit, or not.
use Rattle.std.specs.Prelude.{ℕ, ◌<◌, ◌≤◌, Option, Some, None, List}
use Rattle.qv_words.specs.Tree.{Tree}
use Rattle.qv_words.specs.Clauses.{cnf_variables}
use Rattle.qv_cnf.specs.Listing.{Listing, Numbered, clauses_of}
use Rattle.qv_blast.specs.declared.blaster.Blaster.{Blaster}
use Rattle.qv_blast.specs.States.{HasFormulas}
use Rattle.qv_cert_formulas.specs.Numbers.{under_ids}

-- the formulas have a blaster of their clauses exactly where they take no more variables than the
-- limit
abbrev pub IsBlasted : List Tree → List Tree → ℕ → Option Blaster → Type 0
IsBlasted trees formulas limit None = limit < cnf_variables formulas
IsBlasted trees formulas limit (Some b) = HasFormulas trees formulas b × (cnf_variables formulas ≤ limit)

-- the clauses of a list under ids from 1 on
abbrev pub listed_in : Listing → List Numbered
listed_in clauses = under_ids 1 (clauses_of clauses.live)
