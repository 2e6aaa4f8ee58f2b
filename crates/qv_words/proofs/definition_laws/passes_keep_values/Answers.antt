use Rattle.std.proofs.Common.{refl}
use Rattle.std.proofs.lemmas.List.Elements.{recursion_from_All}
use Rattle.qv_words.specs.PassLaws.{IsPlain}
use Rattle.qv_words.proofs.PassRules.{rules-keep}
use Rattle.qv_words.proofs.Passed.{pass-stands}
use Rattle.qv_words.proofs.definition_laws.passes_keep_values.Goals as goal

pub returns : goal.returns
returns _ r formulas h = pass-stands (rules-keep (λ a b. refl) (λ a b. refl)) r formulas (recursion_from_All IsPlain formulas h)
