use Rattle.std.proofs.Common.{◌∷◌, []}
use Rattle.std.specs.Prelude.{option_map}
use Rattle.qv_terms.specs.View.{tree}
use Rattle.std.proofs.lemmas.List.Elements.{All-from_recursion}
use Rattle.qv_words.specs.Sort.{IsLawful}
use Rattle.qv_choose_paths.proofs.SceneLaws.{lawful-at, kid-below}
use Rattle.qv_choose_paths.proofs.StepLaws.{one-rank, only-step}
use Rattle.qv_choose_paths.proofs.descending.step_to_only.Goals as goal

pub invert-requires-clause-lawful : goal.invert-requires-clause-lawful
invert-requires-clause-lawful c =
    All-from_recursion IsLawful (c.sort-sort.result ∷ [])
    (lawful-at c.args.store.now c.args.a c.sort-sort.result c.sort-sort.ensures.shared (kid-below c.args.id c.args.a c.requires.kids.lower.0 c.requires.kids.below) c.sort-sort.ensures.sort, tt)

pub invert-requires-clause-rank : goal.invert-requires-clause-rank
invert-requires-clause-rank c =
    one-rank c.args.store.now c.args.sight.now.walk c.args.id c.args.a c.args.op c.sort-sort.result c.sort-sort.ensures.shared c.requires.kids c.sort-sort.ensures.sort

pub returns : goal.returns
returns c =
    only-step c.args.sight.now.place c.args.store.now c.args.sight.now.walk c.args.id c.args.a c.args.op c.sort-sort.result (option_map tree c.in_ok-row.row) c.step_of.result
    c.sort-sort.ensures.shared c.requires.kids c.requires.way c.sort-sort.ensures.sort c.in_ok-row.ensures c.step_of.ensures
