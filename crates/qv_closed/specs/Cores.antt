-- Cores that have the clauses of a list, and behind them those that closure adds.
use Rattle.std.specs.Prelude.{◌≡◌, ℕ, suc, ◌<◌, ◌≤◌, ◌^◌, List, [], ◌++◌, All}
use Rattle.qv_cnf.specs.Listing.{Numbered}
use Rattle.qv_cnf.specs.LratLine.{LratLine, Addition, Deletion}
use Rattle.qv_cnf.specs.Refutation.{standing_at}
use Rattle.qv_gates.specs.Closing.{Adds, added}
use Rattle.qv_lrat_text.specs.Grammar.{HasIds, IsId}
use Rattle.qv_sat.specs.CoreState.{CoreState, with_base}

-- a core that has these clauses, and no steps
pub record IsFed (core : CoreState) (base : List Numbered) : Type 0 where
  pub base_is : core.base ≡ base
  pub steps : core.steps ≡ []
  pub few : core.top < 2 ^ 61
  pub ids : All (λ c. IsId c.id) core.base

-- a core that has these clauses, and behind them those that lines add, each of which follows
pub record IsLaid (core : CoreState) (base : List Numbered) (laid : List LratLine) : Type 0 where
  pub adds : Adds (standing_at base) laid
  pub ids : All HasIds laid
  pub fed : IsFed core (base ++ added laid)

-- a core got the clause that a line adds, and this id is the one behind it
abbrev pub IsAddedTo : CoreState → LratLine → ℕ → CoreState → Type 0
IsAddedTo old (Addition id lits hints) next new = (new ≡ with_base old id lits) × (next ≡ suc id) × (1 ≤ id) × (id < 2 ^ 61)
IsAddedTo old (Deletion id ids) next new = ⊥
