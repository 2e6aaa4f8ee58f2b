-- Clauses without a model, by a core and by what a base has besides.
use Rattle.std.proofs.Common.{List, [], ◌∷◌, refl}
use Rattle.qv_words.specs.Tree.{Tree}
use Rattle.qv_words.specs.Clauses.{cnf}
use Rattle.qv_cnf.specs.Laws.{RupIsTrue}
use Rattle.qv_cnf.specs.Listing.{Numbered, clauses_of}
use Rattle.qv_cnf.specs.Literal.{Literal}
use Rattle.qv_cnf.specs.Truth.{HasNoModel}
use Rattle.qv_cnf_bridge_laws.specs.Bridge.{clauses_for}
use Rattle.qv_meter.specs.Bases.{IsBaseOf}
use Rattle.qv_meter.proofs.Bases.{model-of-base}
use Rattle.qv_sat.specs.Answering.{IsFailed}

-- without assumptions the clauses alone fail
pub failed-alone : (base : List Numbered) (core : List Literal) → IsFailed base [] core → HasNoModel (clauses_of base)
failed-alone base [] h v m = h.no_model v m refl
failed-alone base (l ∷ ls) h v m = absurd (let among = h.among_assumptions in cc)

-- a base has no model only where the formulas' clauses have none
pub none-of-base : RupIsTrue → (base : List Numbered) (formulas : List Tree) → IsBaseOf base formulas → HasNoModel (clauses_of base) → HasNoModel (clauses_for (cnf formulas))
none-of-base rup base formulas has none v m = none v (model-of-base rup v [] base (clauses_for (cnf formulas)) has refl m)
