use Rattle.std.proofs.lemmas.List.Elements.{recursion_from_All}
use Rattle.qv_words.specs.Sorted.{constants_of, free_levels}
use Rattle.qv_words.proofs.Leaves.{Agree}
use Rattle.qv_words.proofs.Agreeing.{SameConstant, same_meaning}
use Rattle.qv_words.proofs.laws.free_leaves_decide.Goals as goal

pub returns : goal.returns
returns _ t c d e f v g h =
    same_meaning t c d e f v
    (recursion_from_All (SameConstant c d) (constants_of t) g) (recursion_from_All (Agree e f) (free_levels t) h)
