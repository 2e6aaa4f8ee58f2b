use Rattle.std.proofs.Common.{sym, ◌∙◌}
use Rattle.qv_lrat.proofs.Turns.{at-end_accepted, at-end_refused}
use Rattle.qv_lrat.proofs.judging.at_end.Goals as goal

pub returns-then-refuted : goal.returns-then-refuted
returns-then-refuted c s same = at-end_accepted c.args.number s (sym same ∙ c.if-refuted.true)

pub returns-else-refuted : goal.returns-else-refuted
returns-else-refuted c s same = at-end_refused c.args.number s (sym same ∙ c.if-refuted.false)
