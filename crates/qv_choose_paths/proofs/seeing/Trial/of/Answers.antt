use Rattle.std.proofs.Common.{[]}
use Rattle.qv_store.specs.Evaluating.{HasValue}
use Rattle.qv_store.proofs.Passes.{each-of-walk}
use Rattle.qv_store.proofs.Evaluation.{inherit-value}
use Rattle.qv_choose_paths.proofs.seeing.Trial.of.Goals as goal

pub eval_all-requires-clause-values : goal.eval_all-requires-clause-values
eval_all-requires-clause-values c = λ k n at.
    each-of-walk (HasValue [] c.args.point.now) (inherit-value [] c.args.point.now) c.args.store.now c.args.sight.walk c.args.region c.requires.sight.subtrees
    (record { quantifier_free = c.requires.region.formula.quantifier_free; words = c.requires.region.words }) k n at

pub returns-clause-trial : goal.returns-clause-trial
returns-clause-trial c = record {
  region = c.requires.region;
  sight = c.requires.sight;
  level = c.requires.level;
  values = λ k n at.
      each-of-walk (HasValue [] c.args.point.now) (inherit-value [] c.args.point.now) c.args.store.now c.args.sight.walk c.args.region c.requires.sight.subtrees
      (record { quantifier_free = c.requires.region.formula.quantifier_free; words = c.requires.region.words }) k n at;
  sorted = record { many = c.in_ok-words.ensures.many; sorts = λ k n w at there. (c.in_ok-words.ensures.words k n w at there).sort };
  words = c.in_ok-words.ensures.words;
}
