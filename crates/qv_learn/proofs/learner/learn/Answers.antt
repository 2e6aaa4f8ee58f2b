use Rattle.std.proofs.Common.{[], ◌∷◌, ◌++◌, ap, subst}
use Rattle.std.specs.Option.{option_to_list}
use Rattle.qv_learn.proofs.Analysing.{analysing_ends, analysing_starts, analysing_turns, met_ends, met_learnt, of_learnt, task_came, task_true}
use Rattle.qv_learn.proofs.Effort.{effort_falls}
use Rattle.qv_learn.specs.Analysing.{IsAnalysed, IsAnalysing}
use Rattle.qv_learn.specs.Searching.{Searched}
use Rattle.qv_learn.proofs.learner.learn.Goals as goal

pub loop-task-init : goal.loop-task-init
loop-task-init c =
    analysing_starts c.args.trail.now c.args.conflict (option_to_list c.in_ok-point.point) c.point_of.new.frontier.between c.start.new.self c.point_of.ensures.trail c.requires c.in_ok-start.ensures

pub turn-requires-clause-is_true : goal.turn-requires-clause-is_true
turn-requires-clause-is_true c =
    task_true c.args.trail.now c.args.conflict c.point_of.new.frontier.between c.loop-task.search c.in-Some.task c.next.new.self.tasks c.loop-task.invariant (ap (λ (s : Searched). s.tasks) c.in-Some.ensures.first)

pub turn-requires-clause-came : goal.turn-requires-clause-came
turn-requires-clause-came c =
    task_came c.args.trail.now c.args.conflict c.point_of.new.frontier.between c.loop-task.search c.in-Some.task c.next.new.self.tasks c.loop-task.invariant (ap (λ (s : Searched). s.tasks) c.in-Some.ensures.first)

pub loop-task-smaller : goal.loop-task-smaller
loop-task-smaller c =
    effort_falls c.args.trail.now c.point_of.new.frontier.between c.loop-task.search c.turn.new.self (rw c.in-Some.ensures.first c.in_ok-turn.ensures)

pub loop-task-preserved : goal.loop-task-preserved
loop-task-preserved c =
    analysing_turns c.args.trail.now c.args.conflict c.point_of.new.frontier.between c.loop-task.search c.turn.new.self c.point_of.ensures.trail c.loop-task.invariant (rw c.in-Some.ensures.first c.in_ok-turn.ensures)

pub returns-clause-learnt : goal.returns-clause-learnt
returns-clause-learnt c =
    let t = c.args.trail.now in
    let s = c.next.new.self in
    let end = analysing_ends t c.args.conflict c.point_of.new.frontier.between s c.point_of.ensures.trail c.requires (subst (IsAnalysing t c.args.conflict c.point_of.new.frontier.between) c.in_default.ensures.first c.loop-task.invariant) c.in_default.ensures.none in
    of_learnt (λ lits hints level. IsAnalysed t c.args.conflict lits hints level) c.finish.result s (s.hints ++ c.args.conflict ∷ []) c.finish.new.self.marks c.finish.ensures end

pub returns-clause-met : goal.returns-clause-met
returns-clause-met c =
    let t = c.args.trail.now in
    let s = c.next.new.self in
    let end = met_ends t c.args.conflict c.point_of.new.frontier.between s (subst (IsAnalysing t c.args.conflict c.point_of.new.frontier.between) c.in_default.ensures.first c.loop-task.invariant) c.in_default.ensures.none in
    met_learnt t c.finish.result s (s.hints ++ c.args.conflict ∷ []) c.finish.new.self.marks c.finish.ensures end
