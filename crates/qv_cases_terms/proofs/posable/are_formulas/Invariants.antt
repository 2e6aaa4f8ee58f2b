use Rattle.std.proofs.Common.{take}
use Rattle.std.specs.Prelude.{All}
use Rattle.qv_cases_terms.specs.Posable.{IsFormulaAt}
use Rattle.qv_cases_terms.proofs.posable.are_formulas.Given as goal

abbrev pub invariant-each : goal.invariant-each
invariant-each l = All (IsFormulaAt l.store) (take l.id-index l.ids)
