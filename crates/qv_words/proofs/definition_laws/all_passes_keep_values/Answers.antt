use Rattle.std.proofs.Common.{refl}
use Rattle.std.proofs.lemmas.List.Elements.{recursion_from_All}
use Rattle.qv_words.specs.Passes.{rules_in_order}
use Rattle.qv_words.specs.PassLaws.{IsPlain}
use Rattle.qv_words.proofs.PassRules.{rules-keep}
use Rattle.qv_words.proofs.Passed.{passes-stand}
use Rattle.qv_words.proofs.definition_laws.all_passes_keep_values.Goals as goal

pub returns : goal.returns
returns _ formulas h = passes-stand (rules-keep (λ a b. refl) (λ a b. refl)) rules_in_order formulas (recursion_from_All IsPlain formulas h)
