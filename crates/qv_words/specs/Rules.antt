-- The names of the rewriting rules.
use Rattle.std.specs.Prelude.{ℕ, Option, List, codes}
use Rattle.std.specs.List.{find}
use Rattle.std.specs.Str.{bytes_eq}
use Rattle.qv_words.specs.declared.rule.Rule.{Rule}
use Rattle.qv_words.specs.declared.rule.Rule.TheVariants.{Fold, Same, NotNot, Unit as UnitRule, Absorb, IteKnown, IteSame, AddZero, MulOne, MulZero}
use Rattle.qv_words.specs.Passes.{rules_in_order}

abbrev pub name_of_rule : Rule → List ℕ
name_of_rule Fold = codes "fold"
name_of_rule Same = codes "same"
name_of_rule NotNot = codes "not-not"
name_of_rule UnitRule = codes "unit"
name_of_rule Absorb = codes "absorb"
name_of_rule IteKnown = codes "ite-known"
name_of_rule IteSame = codes "ite-same"
name_of_rule AddZero = codes "add-zero"
name_of_rule MulOne = codes "mul-one"
name_of_rule MulZero = codes "mul-zero"

-- the rule of a name, where there is one
unfoldable pub rule_named : List ℕ → Option Rule
rule_named name = find (λ r. bytes_eq (name_of_rule r) name) rules_in_order
