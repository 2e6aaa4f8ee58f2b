-- the formula below the quantifiers from a level on
use Rattle.std.proofs.Common.{◌≤◌, length, drop}
use Rattle.qv_store.specs.Nodes.{tree_at}
use Rattle.qv_store.specs.Stores.{StandsAt, Grows, AreShared}
use Rattle.qv_qdimacs.specs.Translation.{bound_from}
use Rattle.qv_qdimacs.specs.Formulas.{IsFormulaAt}
use Rattle.qv_qdimacs.proofs.translating.put_prefix.Given as goal

abbrev pub invariant-levels : goal.invariant-levels
invariant-levels l = record {
  grows : Grows l.fn.store l.store;
  shared : AreShared l.store;
  within : l.level ≤ length l.prefix;
  stands : StandsAt l.store l.formula (bound_from l.level (drop l.level l.prefix) (tree_at l.fn.store l.fn.body));
  formula : IsFormulaAt l.store l.formula;
}

abbrev pub decreases-levels : goal.decreases-levels
decreases-levels l = l.level
