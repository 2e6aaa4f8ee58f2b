use Rattle.std.proofs.lemmas.List.Elements.{recursion_from_All}
use Rattle.qv_words.specs.Tree.{IsQuantifierFree}
use Rattle.qv_words.specs.Clauses.{first_blasting}
use Rattle.qv_circuits_laws.proofs.Listing.{formulas-trees}
use Rattle.qv_circuits_laws.proofs.clauses.nodes_have_bits.Goals as goal

pub returns : goal.returns
returns _ formulas h = formulas-trees first_blasting formulas (recursion_from_All IsQuantifierFree formulas h)
