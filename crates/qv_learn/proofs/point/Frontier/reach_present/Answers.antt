use Rattle.std.proofs.Common.{◌≡◌, false, not, refl, sym, ◌∙◌, ap, subst}
use Rattle.std.proofs.lemmas.Bool.{not-true}
use Rattle.qv_cnf.specs.Literal.{negated}
use Rattle.qv_learn.proofs.Reaching.{reaches_one}
use Rattle.qv_learn.specs.Frontiers.{Places}
use Rattle.qv_learn.specs.Marking.{marked, MarksOne}
use Rattle.qv_learn.specs.declared.point.Frontier.{Frontier}
use Rattle.qv_learn.proofs.point.Frontier.reach_present.Goals as goal

pub returns-in_ok-place : goal.returns-in_ok-place
returns-in_ok-place c =
    let t = c.args.trail.now in
    let old = c.args.self.now in
    let lit = c.args.lit in
    let mid : Frontier = record old { marks = c.mark.new.self } in
    let one : MarksOne old.marks lit.variable mid.marks = subst (λ v. MarksOne old.marks v mid.marks) c.variable.ensures.value c.in_ok-mark.ensures.marks in
    let off : marked old.marks lit.variable ≡ false = not-true (marked old.marks lit.variable) (ap (λ v. not (marked old.marks v)) (sym c.variable.ensures.value) ∙ sym c.in_ok-mark.ensures.new ∙ c.if-branch.true) in
    let placed : Places t (negated lit) mid c.place.new.self = subst (λ l. Places t l mid c.place.new.self) c.negated.ensures c.in_ok-place.ensures in
    reaches_one t lit old mid c.place.new.self c.requires.trail c.requires.frontier c.requires.may c.requires.level one off refl placed
