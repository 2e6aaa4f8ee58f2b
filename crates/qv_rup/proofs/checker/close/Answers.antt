use Rattle.std.proofs.Common.{sym, ◌∙◌}
use Rattle.qv_rup.proofs.Grouped.{ends-lacking, ends-open, ends-whole}
use Rattle.qv_rup.proofs.checker.close.Goals as goal

pub returns-then-groups-clause-judged : goal.returns-then-groups-clause-judged
returns-then-groups-clause-judged c = λ ids set are. ends-open c.args.clauses.now.live c.args.pivot.now.lit ids set c.args.groups.now.is_open c.if-groups.true

pub returns-then-not-are_all_grouped-clause-judged : goal.returns-then-not-are_all_grouped-clause-judged
returns-then-not-are_all_grouped-clause-judged c = λ ids set are.
    ends-lacking c.args.clauses.now.live c.args.pivot.now.lit ids set c.args.groups.now.is_open c.if-groups.false (sym (c.are_all_grouped.ensures ids are) ∙ c.if-not-are_all_grouped.true)

pub returns-clause-judged : goal.returns-clause-judged
returns-clause-judged c = λ ids set are.
    ends-whole c.args.clauses.now.live c.args.pivot.now.lit ids set c.args.groups.now.is_open c.if-groups.false (sym (c.are_all_grouped.ensures ids are) ∙ c.if-not-are_all_grouped.false)
