use Rattle.std.proofs.Common.{reverse}
use Rattle.qv_learn.proofs.Turning.{met_before, turn_passes}
use Rattle.qv_learn.specs.Searching.{Searched}
use Rattle.qv_learn.proofs.search.Search.visit.Goals as goal

pub returns-then-not-branch : goal.returns-then-not-branch
returns-then-not-branch c =
    let i = c.self.inside in
    let v = c.args.lit.variable in
    let s : Searched = record { tasks = reverse i.tasks.items; marks = i.marks; lits = i.lits.items; hints = i.hints.items; level = i.level } in
    rw (← c.self.view_is)
    (turn_passes c.args.trail.now c.args.between.now s _ c.args.lit
    (met_before i.marks v c.variable.result c.in_ok-mark.field-0 c.variable.ensures.value c.in_ok-mark.ensures.new c.if-not-branch.true)
    (cc (c.in_ok-mark.ensures.same c.if-not-branch.true)))
