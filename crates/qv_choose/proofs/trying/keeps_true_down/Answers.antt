use Rattle.std.proofs.Common.{◌≡◌, [], Some}
use Rattle.qv_terms.specs.View.{tree}
use Rattle.qv_words.specs.Choice.{descend}
use Rattle.qv_store.specs.Nodes.{tree_at}
use Rattle.qv_store.specs.Evaluating.{IsWordOf}
use Rattle.qv_choose_paths.specs.Rows.{sort_at}
use Rattle.qv_choose_candidates.specs.Targets.{target_tree}
use Rattle.qv_choose_candidates.specs.Offers.{Stays}
use Rattle.qv_choose_paths.proofs.SceneLaws.{earlier-below, lawful-at}
use Rattle.qv_choose_candidates.proofs.TrialUses.{decides-other, place-sort, aim-sorted, aim-over, aim-arrives}
use Rattle.qv_choose.proofs.trying.keeps_true_down.Goals as goal

pub target_row-requires : goal.target_row-requires
target_row-requires c =
    lawful-at c.args.store.now c.args.other c.sort.result c.sort.ensures.shared (earlier-below c.args.store.now c.args.trial.now.sight.walk c.args.other c.requires.trial.sight.scene.walk c.requires.aim.other_there) c.sort.ensures.sort

pub row_word-requires-clause-sorted : goal.row_word-requires-clause-sorted
row_word-requires-clause-sorted c = aim-sorted c.args.point.now c.args.store.now c.args.region c.args.trial.now c.args.side c.args.other c.args.target c.sort.result (tree c.in_ok-row.row) c.word-word.result c.requires.trial c.requires.aim c.sort.ensures.sort c.in_ok-row.ensures c.word-word.ensures

pub row_word-requires-clause-over : goal.row_word-requires-clause-over
row_word-requires-clause-over c = aim-over c.args.point.now c.args.store.now c.args.region c.args.trial.now c.args.side c.args.other c.args.target c.sort.result (tree c.in_ok-row.row) c.word-word.result c.requires.trial c.requires.aim c.sort.ensures.sort c.in_ok-row.ensures c.word-word.ensures

pub stays_true-requires-clause-sort : goal.stays_true-requires-clause-sort
stays_true-requires-clause-sort c = place-sort c.args.point.now c.args.store.now c.args.region c.args.trial.now c.in_ok-arrived.arrived c.requires.trial c.in_ok-arrived.ensures.place

pub returns-clause-good : goal.returns-clause-good
returns-clause-good c =
    decides-other c.stays_true.result (Stays c.args.point.now c.args.store.now c.args.region c.args.trial.now.sight.place) (λ u. IsWordOf [] c.args.point.now u c.in_ok-arrived.arrived)
    (λ u. descend c.args.trial.now.sight.place.level (tree_at c.args.store.now c.args.side) (target_tree c.args.target (sort_at c.args.store.now c.args.other) (tree_at c.args.store.now c.args.other)) ≡ Some u)
    (aim-arrives c.args.point.now c.args.store.now c.args.region c.args.trial.now c.args.side c.args.other c.args.target c.sort.result (tree c.in_ok-row.row) c.word-word.result c.requires.trial c.requires.aim c.sort.ensures.sort c.in_ok-row.ensures c.word-word.ensures c.in_ok-aim.aim c.in_ok-arrived.arrived c.in_ok-aim.ensures.word c.in_ok-arrived.ensures.arrives)
    c.stays_true.ensures.held
