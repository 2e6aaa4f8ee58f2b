use Rattle.std.proofs.Common.{◌∙◌, sym, ap}
use Rattle.qv_words.specs.Equality.{tree_eq}
use Rattle.qv_words.proofs.Equals.{tree_eq-is, tree_eq-refl}
use Rattle.qv_words.proofs.definition_laws.tree_eq_decides.Goals as goal

pub returns : goal.returns
returns _ a b = (tree_eq-is a b, λ same. sym (ap (tree_eq a) same) ∙ tree_eq-refl a)
