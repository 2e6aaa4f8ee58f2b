use Rattle.std.proofs.lemmas.List.Elements.{recursion_from_All}
use Rattle.qv_words.specs.PassLaws.{IsPlain}
use Rattle.qv_rewrite_passes.proofs.Behind.{all-stand}
use Rattle.qv_rewrite_passes.proofs.laws.passes_stand_for.Goals as goal

pub returns : goal.returns
returns _ passes formulas h = all-stand passes formulas (recursion_from_All IsPlain formulas h)
