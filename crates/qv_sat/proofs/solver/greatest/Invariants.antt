use Rattle.std.proofs.Common.{◌≤◌, ◌^◌, All, take}
use Rattle.qv_sat.specs.Deciding.{IsWithin}
use Rattle.qv_sat.proofs.solver.greatest.Given as goal

abbrev pub invariant-loop-lit : goal.invariant-loop-lit
invariant-loop-lit l = record {
  within : All (IsWithin l.variables) (take l.lit-index l.lits);
  most : l.variables ≤ 2 ^ 30;
}
