-- What is known of blasters.
use Rattle.std.specs.Prelude.{◌≡◌, ℕ, Bool, List}
use Rattle.std.specs.List.{list_all}
use Rattle.qv_words.specs.Tree.{Tree}
use Rattle.qv_words.specs.Gate.{clauses_value}
use Rattle.qv_words.specs.Clauses.{cnf}
use Rattle.qv_cnf.specs.Listing.{Numbered, clauses_of}
use Rattle.qv_cnf.specs.Truth.{clause_value}
use Rattle.qv_cnf_bridge_laws.specs.Bridge.{clauses_for, HasClausesOf}
use Rattle.qv_store.specs.Stores.{Grows}
use Rattle.qv_blast.specs.declared.blaster.Blaster.{Blaster}
use Rattle.qv_blast.specs.Blasters.{from_one}
use Rattle.qv_blast.specs.States.{blasting_at, HasFormulas, IsBlaster}

-- where a store has grown, the blaster was used with it too, and stands where it stood
abbrev pub BlastersStay : Type 0
BlastersStay = (old new : List Tree) (b : Blaster) → Grows old new → IsBlaster old b → IsBlaster new b × (blasting_at new b ≡ blasting_at old b)

-- and has the clause list of the same formulas
abbrev pub FormulasStay : Type 0
FormulasStay = (old new formulas : List Tree) (b : Blaster) → Grows old new → HasFormulas old formulas b → HasFormulas new formulas b

-- the clauses of a clause list under ids from 1 on, ids aside, are those of the formulas
abbrev pub NumberedFromOne : Type 0
NumberedFromOne = (formulas : List Tree) → HasClausesOf (from_one (clauses_for (cnf formulas))).live formulas

-- an assignment that makes such clauses true makes those of the formulas true, and the other way
-- round
abbrev pub ModelsStay : Type 0
ModelsStay =
    (v : ℕ → Bool) (base : List Numbered) (formulas : List Tree) → HasClausesOf base formulas →
    list_all (clause_value v) (clauses_of base) ≡ clauses_value v (cnf formulas)
