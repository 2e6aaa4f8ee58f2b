use Rattle.std.proofs.Common.{◌≡◌, refl, subst, arith}
use Rattle.qv_learn.proofs.Reaching.{level_read, level_within, notes_one, reaches_one_itself}
use Rattle.qv_learn.specs.Frontiers.{IsBetween}
use Rattle.qv_learn.specs.Learning.{level_at}
use Rattle.qv_learn.specs.Marking.{MarksOne}
use Rattle.qv_learn.specs.declared.point.Frontier.{Frontier}
use Rattle.qv_learn.proofs.point.Frontier.reach.Goals as goal

pub returns-in_ok-mark : goal.returns-in_ok-mark
returns-in_ok-mark c =
    let t = c.args.trail.now in
    let lit = c.args.lit in
    let old = c.args.self.now in
    let new : Frontier = record old { between = c.mark.new.self } in
    let level : level_at t.entries lit ≡ c.level_of-level.result = level_read t lit c.level_of-level.result c.level_of-level.ensures in
    let other = c.if-level.false in
    let most = level_within t lit c.requires.trail c.requires.may.has_value in
    let between : IsBetween t lit = record { above = omega arith; below = omega (arith, c.level.ensures.level) } in
    let one : MarksOne old.between lit.variable new.between = subst (λ v. MarksOne old.between v new.between) c.variable.ensures.value c.in_ok-mark.ensures.marks in
    reaches_one_itself t lit old new c.requires.frontier refl (notes_one t lit old.between new.between between one) (λ present. absurd (omega (arith, c.level.ensures.level)))
