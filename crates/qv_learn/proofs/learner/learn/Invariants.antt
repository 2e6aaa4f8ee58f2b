use Rattle.qv_learn.specs.Analysing.{IsAnalysing}
use Rattle.qv_learn.specs.Effort.{effort}
use Rattle.qv_learn.proofs.learner.learn.Given as goal

abbrev pub invariant-loop-task : goal.invariant-loop-task
invariant-loop-task l = IsAnalysing l.trail l.conflict l.frontier.between l.search

abbrev pub decreases-loop-task : goal.decreases-loop-task
decreases-loop-task l = effort l.trail l.search
