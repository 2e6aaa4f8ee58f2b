use Rattle.std.proofs.Common.{◌+◌, List, unsigned_abs, w64, sym, subst, ap, ◌∙◌}
use Rattle.std.proofs.lemmas.Int.{to_z-of_z}
use Rattle.qv_cnf.specs.Literal.{Literal}
use Rattle.qv_cnf.specs.Rat.{judged_groups}
use Rattle.qv_rup.specs.Grouping.{KeepsGroups, group_of, kept_of, with_group}
use Rattle.qv_rup.proofs.Grouped.{hint-closes, hint-fails, hint-forces, hint-passed, keeps-forced, keeps-same}
use Rattle.qv_rup.proofs.groups.look.Goals as goal

pub returns-then-not-groups-clause-judged : goal.returns-then-not-groups-clause-judged
returns-then-not-groups-clause-judged c = λ groups hints.
    hint-passed c.args.clauses.now.live c.args.pivot.now.lit (kept_of c.args.pivot.now.kept c.args.marks.now) c.args.marks.now c.args.groups.now.is_open groups c.args.hint hints c.args.position c.requires.positive c.if-not-groups.true

pub returns-then-not-groups-clause-keeps : goal.returns-then-not-groups-clause-keeps
returns-then-not-groups-clause-keeps c = keeps-same c.args.hint c.args.pivot.now.kept c.args.marks.now c.args.groups.now.ids c.requires.positive c.requires.enough

pub returns-in-Falsified-clause-judged : goal.returns-in-Falsified-clause-judged
returns-in-Falsified-clause-judged c = λ groups hints.
    hint-closes c.args.clauses.now.live c.args.pivot.now.lit (kept_of c.args.pivot.now.kept c.args.marks.now) c.args.marks.now c.args.groups.now.is_open groups c.args.hint hints c.args.position c.unsigned_abs-id.result
    c.requires.positive c.if-not-groups.false (c.unsigned_abs-id.ensures.value ∙ ap unsigned_abs (to_z-of_z w64 c.args.hint c.ranges.hint)) (sym c.read_hint.ensures ∙ c.in-Falsified.is)

pub returns-in-Falsified-clause-keeps : goal.returns-in-Falsified-clause-keeps
returns-in-Falsified-clause-keeps c = keeps-same c.args.hint c.args.pivot.now.kept c.args.marks.now c.args.groups.now.ids c.requires.positive c.requires.enough

pub returns-in_ok-insert-in-Forced-clause-judged : goal.returns-in_ok-insert-in-Forced-clause-judged
returns-in_ok-insert-in-Forced-clause-judged c = λ groups hints.
    hint-forces c.args.clauses.now.live c.args.pivot.now.lit (kept_of c.args.pivot.now.kept c.args.marks.now) c.args.marks.now c.args.groups.now.is_open groups c.args.hint hints c.args.position c.unsigned_abs-id.result c.in-Forced.lit
    c.requires.positive c.if-not-groups.false (c.unsigned_abs-id.ensures.value ∙ ap unsigned_abs (to_z-of_z w64 c.args.hint c.ranges.hint)) (sym c.read_hint.ensures ∙ c.in-Forced.is)
    ∙ ap (λ (xs : List Literal). judged_groups c.args.clauses.now.live c.args.pivot.now.lit (kept_of c.args.pivot.now.kept c.args.marks.now) (group_of c.args.groups.now.is_open xs) (with_group c.args.hint groups) hints (c.args.position + 1)) (sym c.in_ok-insert-in-Forced.ensures.ok)

pub returns-in_ok-insert-in-Forced-clause-keeps : goal.returns-in_ok-insert-in-Forced-clause-keeps
returns-in_ok-insert-in-Forced-clause-keeps c =
    subst (λ (xs : List Literal). KeepsGroups c.args.hint c.args.pivot.now.kept c.args.marks.now xs c.args.groups.now.ids c.args.groups.now.ids) (sym c.in_ok-insert-in-Forced.ensures.ok)
    (keeps-forced c.args.hint c.args.pivot.now.kept c.in-Forced.lit c.args.marks.now c.args.groups.now.ids c.requires.positive c.requires.enough)

pub returns-in-Useless-clause-judged : goal.returns-in-Useless-clause-judged
returns-in-Useless-clause-judged c = λ groups hints.
    hint-fails c.args.clauses.now.live c.args.pivot.now.lit (kept_of c.args.pivot.now.kept c.args.marks.now) c.args.marks.now c.args.groups.now.is_open groups c.args.hint hints c.args.position c.unsigned_abs-id.result
    c.requires.positive c.if-not-groups.false (c.unsigned_abs-id.ensures.value ∙ ap unsigned_abs (to_z-of_z w64 c.args.hint c.ranges.hint)) (sym c.read_hint.ensures ∙ c.in-Useless.is)
