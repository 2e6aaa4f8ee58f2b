-- What the inside of a core keeps.
use Rattle.std.specs.Prelude.{◌≡◌, ℕ, ◌+◌, ◌<◌, ◌≤◌, ◌^◌, Bool, true, false, List, All, length}
use Rattle.std.specs.List.{list_any}
use Rattle.qv_cnf.specs.Derivation.{no_steps}
use Rattle.qv_cnf.specs.Listing.{Listing, next_id}
use Rattle.qv_cnf.specs.LratLine.{LratLine, lines_of}
use Rattle.qv_cnf.specs.Refutation.{adds_none, has_none}
use Rattle.qv_watch.specs.TrailState.{TrailState}
use Rattle.qv_sat.specs.declared.aside.Aside.{Aside}
use Rattle.qv_sat.specs.declared.solver.Solver.{Solver}
use Rattle.qv_sat.specs.Aside.{AreAside}
use Rattle.qv_sat.specs.CoreState.{CoreState, IsCore, after_steps, live_after}
use Rattle.qv_sat.specs.Choosing.{Covers}
use Rattle.qv_sat.specs.Deciding.{AllWithin}
use Rattle.qv_sat.specs.Naming.{AllBelow, AreAttached}
use Rattle.qv_sat.specs.Ordering.{IsOrdered}

-- of the base, the steps, the trail on which all live clauses are attached but those left aside, the
-- greatest id, the greatest variable, whether a clause without literals was learnt, and what is left
-- aside
pub record IsHeld (base : Listing) (steps : List LratLine) (on : TrailState) (top variables : ℕ) (refuted : Bool) (aside : Aside) : Type 0 where
  pub ordered : IsOrdered base.live steps top
  pub room : on.room ≡ variables
  pub most : variables ≤ 2 ^ 30
  pub core : IsCore record { base = base.live; steps = steps; top = top }
  pub next_base : next_id base.given ≤ top + 1
  pub next_step : (after_steps no_steps steps).next ≤ top + 1
  pub few : top < 2 ^ 62
  pub below : AllBelow (top + 1) (live_after base.live steps)
  pub attached : AreAttached aside.ids.items (live_after base.live steps) on.clauses
  pub are_aside : AreAside base.live aside
  pub literals : AllWithin variables (live_after base.live steps)
  pub filled : refuted ≡ false → All (λ c. has_none c.lits ≡ false) (live_after base.live steps)
  pub refutes : refuted ≡ true → list_any adds_none steps ≡ true

abbrev pub Held : Solver → Type 0
Held s = IsHeld s.base (lines_of s.steps.items) s.trail s.top s.variables s.refuted s.aside

-- what contracts see of it
abbrev pub core_of : Solver → CoreState
core_of s = record { base = s.base.live; steps = lines_of s.steps.items; top = s.top }

-- each variable that has no value may be decided
pub record IsCovered (s : Solver) : Type 0 where
  pub covers : Covers s.chooser.order.held s.trail.entries
  pub most : length s.chooser.order.held ≤ s.variables

-- so far as there are any
abbrev pub IsWide : Solver → Type 0
IsWide s = length s.chooser.order.held ≡ s.variables

-- what every core keeps inside
pub record IsKept (s : Solver) : Type 0 where
  pub held : Held s
  pub covered : IsCovered s
