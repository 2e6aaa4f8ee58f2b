use Rattle.std.proofs.Common.{◌≡◌, List, Some, None, unsigned_abs, w64, sym, subst, ap, ◌∙◌}
use Rattle.std.specs.Option.{option_copied}
use Rattle.std.proofs.lemmas.Int.{to_z-of_z}
use Rattle.qv_cnf.specs.Literal.{Literal, negated}
use Rattle.qv_cnf.specs.Listing.{clause_named}
use Rattle.qv_cnf.specs.Rat.{group_set}
use Rattle.qv_rup.specs.Grouping.{holding, IsBehind, kept_of}
use Rattle.qv_rup.proofs.Grouped.{keeps-opened, rat-opens, rat-refused, rat-stays}
use Rattle.qv_rup.proofs.groups.open_group.Goals as goal

pub returns-then-groups-clause-judged : goal.returns-then-groups-clause-judged
returns-then-groups-clause-judged c = λ groups hints.
    rat-stays c.args.clauses.now.live c.args.pivot.now.lit (kept_of c.args.pivot.now.kept c.args.marks.now) c.args.marks.now c.args.groups.now.is_open groups c.args.hint hints c.args.position c.requires.negative c.if-groups.true

pub returns-in_default-clause-judged : goal.returns-in_default-clause-judged
returns-in_default-clause-judged c = λ groups hints.
    let live = c.args.clauses.now.live in
    let id = c.unsigned_abs-id.result in
    let none : holding (negated c.args.pivot.now.lit) (clause_named id live) ≡ None =
    ap (λ (l : Literal). holding l (clause_named id live)) (sym c.negated.ensures) ∙ sym c.holding.ensures ∙ ap option_copied c.in_default.is in
    rat-refused live c.args.pivot.now.lit (kept_of c.args.pivot.now.kept c.args.marks.now) c.args.marks.now c.args.groups.now.is_open groups c.args.hint hints c.args.position id
    c.requires.negative c.if-groups.false (c.unsigned_abs-id.ensures.value ∙ ap unsigned_abs (to_z-of_z w64 c.args.hint c.ranges.hint)) none

pub returns-clause-judged : goal.returns-clause-judged
returns-clause-judged c = λ groups hints.
    let live = c.args.clauses.now.live in
    let id = c.unsigned_abs-id.result in
    let lits = c.in-Some.lits.now in
    let some : holding (negated c.args.pivot.now.lit) (clause_named id live) ≡ Some lits =
    ap (λ (l : Literal). holding l (clause_named id live)) (sym c.negated.ensures) ∙ sym c.holding.ensures ∙ ap option_copied c.in-Some.is in
    rat-opens live c.args.pivot.now.lit (kept_of c.args.pivot.now.kept c.args.marks.now) c.args.marks.now c.begin.new.marks c.args.groups.now.is_open c.in_ok-is_open.is_open groups c.args.hint hints c.args.position id lits
    c.requires.negative c.if-groups.false (c.unsigned_abs-id.ensures.value ∙ ap unsigned_abs (to_z-of_z w64 c.args.hint c.ranges.hint)) some
    (c.in_ok-is_open.ensures.set ∙ ap (λ (ks : List Literal). group_set c.args.pivot.now.lit ks lits) c.truncate.ensures)

pub returns-clause-keeps : goal.returns-clause-keeps
returns-clause-keeps c =
    keeps-opened c.args.hint c.args.pivot.now.kept c.unsigned_abs-id.result c.args.marks.now c.begin.new.marks c.args.groups.now.ids c.note.new.ids c.requires.negative
    (c.unsigned_abs-id.ensures.value ∙ ap unsigned_abs (to_z-of_z w64 c.args.hint c.ranges.hint)) c.requires.enough
    (subst (λ (ks : List Literal). IsBehind ks c.begin.new.marks) c.truncate.ensures c.in_ok-is_open.ensures.behind) c.in_ok-note.ensures
