use Rattle.std.proofs.Common.{◌∷◌, []}
use Rattle.std.specs.Prelude.{option_map}
use Rattle.qv_words.specs.Word.{word_value}
use Rattle.qv_terms.specs.View.{tree}
use Rattle.std.proofs.lemmas.List.Elements.{All-from_recursion}
use Rattle.qv_words.specs.Sort.{IsLawful}
use Rattle.qv_choose_paths.proofs.SceneLaws.{lawful-at, kid-below}
use Rattle.qv_choose_paths.proofs.StepLaws.{two-rank, first-step}
use Rattle.qv_choose_paths.proofs.descending.step_to_first.Goals as goal

pub invert-requires-clause-lawful : goal.invert-requires-clause-lawful
invert-requires-clause-lawful c =
    All-from_recursion IsLawful (c.sort-left.result ∷ c.sort-right.result ∷ []) (
      lawful-at c.args.store.now c.args.a c.sort-left.result c.sort-left.ensures.shared (kid-below c.args.id c.args.a c.requires.kids.lower.0 c.requires.kids.below) c.sort-left.ensures.sort,
      (lawful-at c.args.store.now c.args.b c.sort-right.result c.sort-left.ensures.shared (kid-below c.args.id c.args.b c.requires.kids.lower.1.0 c.requires.kids.below) c.sort-right.ensures.sort, tt),
    )

pub invert-requires-clause-rank : goal.invert-requires-clause-rank
invert-requires-clause-rank c =
    two-rank c.args.store.now c.args.sight.now.walk c.args.id c.args.a c.args.b c.args.op c.sort-left.result c.sort-right.result c.sort-left.ensures.shared c.requires.kids c.sort-left.ensures.sort c.sort-right.ensures.sort

pub returns : goal.returns
returns c =
    first-step c.args.sight.now.place c.args.store.now c.args.sight.now.walk c.args.id c.args.a c.args.b c.args.op c.sort-left.result c.sort-right.result (option_map word_value c.literal-value.result) (option_map tree c.in_ok-row.row) c.step_of.result
    c.sort-left.ensures.shared c.requires.kids c.requires.way c.requires.first c.sort-left.ensures.sort c.sort-right.ensures.sort c.in_ok-row.ensures c.literal-value.ensures c.step_of.ensures
