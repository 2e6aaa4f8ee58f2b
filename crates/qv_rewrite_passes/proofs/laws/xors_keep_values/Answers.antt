use Rattle.std.proofs.lemmas.List.Elements.{recursion_from_All}
use Rattle.qv_words.specs.PassLaws.{IsPlain}
use Rattle.qv_rewrite_passes.proofs.XorPass.{pass-stands}
use Rattle.qv_rewrite_passes.proofs.laws.xors_keep_values.Goals as goal

pub returns : goal.returns
returns _ formulas h = pass-stands formulas (recursion_from_All IsPlain formulas h)
