use Rattle.std.proofs.Common.{take}
use Rattle.std.specs.List.{All}
use Rattle.qv_words.specs.Tree.{IsQuantifierFree}
use Rattle.qv_store.specs.Nodes.{tree_at}
use Rattle.qv_solve_offer.proofs.shared.has_quantifier.Given as goal

abbrev pub invariant-formulas : goal.invariant-formulas
invariant-formulas l = All (λ id. IsQuantifierFree (tree_at l.store id)) (take l.formula-index l.formulas)
