use Rattle.std.proofs.lemmas.List.Elements.{recursion_from_All}
use Rattle.qv_words.specs.Tree.{IsQuantifierFree}
use Rattle.qv_circuits_laws.proofs.Listed.{subtrees-have_bits}
use Rattle.qv_circuits_laws.proofs.clauses.subtrees_have_bits.Goals as goal

pub returns : goal.returns
returns _ formulas t free = subtrees-have_bits formulas t (recursion_from_All IsQuantifierFree formulas free)
