use Rattle.std.proofs.lemmas.List.Elements.{All-from_recursion, recursion_from_All}
use Rattle.qv_words.specs.Tree.{IsQuantifierFree}
use Rattle.qv_circuits_laws.specs.ClauseLaws.{blasted}
use Rattle.qv_circuits_laws.proofs.Listed.{bits-are_found}
use Rattle.qv_circuits_laws.proofs.clauses.bits_are_found.Goals as goal

pub returns : goal.returns
returns _ formulas free = All-from_recursion _ (blasted formulas) (bits-are_found formulas (recursion_from_All IsQuantifierFree formulas free))
