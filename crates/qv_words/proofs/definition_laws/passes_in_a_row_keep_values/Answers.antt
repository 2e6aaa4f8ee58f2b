use Rattle.std.proofs.Common.{refl}
use Rattle.std.proofs.lemmas.List.Elements.{recursion_from_All}
use Rattle.qv_words.specs.PassLaws.{IsPlain}
use Rattle.qv_words.proofs.PassRules.{rules-keep}
use Rattle.qv_words.proofs.Passed.{passes-stand}
use Rattle.qv_words.proofs.definition_laws.passes_in_a_row_keep_values.Goals as goal

pub returns : goal.returns
returns _ rules formulas h = passes-stand (rules-keep (λ a b. refl) (λ a b. refl)) rules formulas (recursion_from_All IsPlain formulas h)
