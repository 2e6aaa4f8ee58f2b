-- What a base keeps, while its core is given clauses and asked.
use Rattle.std.specs.Prelude.{◌≤◌, ◌<◌, ◌+◌, ◌-◌, ◌^◌, List}
use Rattle.qv_words.specs.Tree.{Tree}
use Rattle.qv_blast.specs.States.{IsBlaster}
use Rattle.qv_sat.specs.CoreState.{CoreState}
use Rattle.qv_solve_offer.specs.declared.base.Base.{Base}
use Rattle.qv_solve_offer.specs.declared.tally.Tally.{Tally}

-- its blaster was used with this store, and its core has no greater id than the last
pub record IsBase (trees : List Tree) (b : Base) : Type 0 where
  pub blaster : IsBlaster trees b.blaster
  pub top : b.core.top ≤ b.last
  pub few : b.last ≤ 2 ^ 61

-- the ids that may still be charged for stay small
abbrev pub HasRoom : CoreState → Tally → Type 0
HasRoom core tally = core.top + (tally.limit - tally.count) < 2 ^ 62
