use Rattle.std.proofs.Common.{◌==◌, ap, sym, ◌∙◌, slice_get}
use Rattle.qv_store.specs.Nodes.{tree_at}
use Rattle.qv_choose.proofs.TryLaws.{values-set, set-back, trial-decides}
use Rattle.qv_choose.proofs.trying.stays_true.Goals as goal

pub eval_all-words-requires-clause-values : goal.eval_all-words-requires-clause-values
eval_all-words-requires-clause-values c =
    values-set c.args.point.now c.args.store.now c.args.trial.now.sight.walk c.args.trial.now.sight.place.level c.args.word c.requires.sort c.requires.trial.values

pub returns-in_err-words-clause-same : goal.returns-in_err-words-clause-same
returns-in_err-words-clause-same c = set-back c.args.point.now c.args.trial.now.sight.place.level c.args.word c.index-point-level.result c.index-point-level.is

pub returns-clause-same : goal.returns-clause-same
returns-clause-same c = set-back c.args.point.now c.args.trial.now.sight.place.level c.args.word c.index-point-level.result c.index-point-level.is

pub returns-clause-held : goal.returns-clause-held
returns-clause-held c =
    let found = c.in_ok-words.ensures.words c.result_of.ensures.place c.args.region c.result_of.result.now c.result_of.ensures.at
    (ap (λ ws. slice_get ws c.result_of.ensures.place) (sym c.deref.ensures.value) ∙ c.result_of.ensures.found) in
    trial-decides c.args.point.now c.args.trial.now.sight.place.level c.args.word c.result_of.result.now (tree_at c.args.store.now c.args.region) (c.value.result == 1)
    c.requires.trial.region.formula c.requires.trial.region.words c.requires.sort found.value (ap (λ n. n == 1) c.value.ensures)
