-- Lanes: the clauses of formulas, and a core that has them.
use Rattle.std.specs.Prelude.{◌≡◌, ℕ, ◌+◌, ◌<◌, ◌^◌, List, All, IsTrue}
use Rattle.qv_words.specs.declared.sort.Sort.TheVariants.{Bool as BoolSort}
use Rattle.qv_words.specs.Tree.{Tree}
use Rattle.qv_words.specs.Clauses.{Blasted, cnf}
use Rattle.qv_words.specs.Skolem.{IsTermOf}
use Rattle.qv_cnf.specs.Derivation.{additions}
use Rattle.qv_cnf.specs.Listing.{Numbered}
use Rattle.qv_cnf.specs.LratLine.{LratLine, lines_of}
use Rattle.qv_cnf.specs.Truth.{HasNoModel}
use Rattle.qv_cnf_bridge_laws.specs.Bridge.{clauses_for}
use Rattle.qv_meter.specs.Bases.{IsBaseOf}
use Rattle.qv_blast.specs.declared.blaster.Blaster.{Blaster}
use Rattle.qv_blast.specs.States.{HasFormulas, blasting_at, limit_of}
use Rattle.qv_game_lanes.specs.declared.lane.Lane.{Lane}

-- a lane has the clauses of these formulas, in its blaster and in its core, whose greatest id is that
-- of what it was fed with one more for each clause that it learnt; where it is closed these clauses
-- have no model
pub record IsLane (trees formulas : List Tree) (l : Lane) : Type 0 where
  pub terms : All (λ t. IsTermOf t BoolSort) formulas
  pub blaster : HasFormulas trees formulas l.blaster
  pub core : IsBaseOf l.core.base formulas
  pub few : l.fed < 2 ^ 61
  pub learnt : l.learnt ≡ additions l.core.steps
  pub top : l.core.top ≡ l.fed + l.learnt
  pub closed : IsTrue l.closed → HasNoModel (clauses_for (cnf formulas))

-- the greatest variable that it may take, its core's clauses, and the steps that were learnt, with
-- those of closure in front of them
abbrev pub variables_of : Lane → ℕ
variables_of l = limit_of l.blaster

abbrev pub base_of : Lane → List Numbered
base_of l = l.core.base

abbrev pub steps_of : Lane → List LratLine
steps_of l = l.core.steps

abbrev pub laid_of : Lane → List LratLine
laid_of l = lines_of l.laid.items

-- the terms that have bits, with them
abbrev pub known_at : List Tree → Blaster → List Blasted
known_at trees b = (blasting_at trees b).known

abbrev pub known_of : List Tree → Lane → List Blasted
known_of trees l = known_at trees l.blaster
