use Rattle.std.proofs.Common.{◌≡◌, List, sym, ap, ◌∙◌, drop, length, reverse}
use Rattle.qv_rup.specs.Marking.{literals_of}
use Rattle.qv_rup.specs.declared.marks.Marked.{Marked}
use Rattle.qv_rup.proofs.Marked.{literals-none, literals-push, marked-pop}
use Rattle.qv_rup.proofs.marks.Marks.pop.Goals as goal

pub invariant_of-self : goal.invariant_of-self
invariant_of-self c =
    let s = c.self.inside in
    marked-pop s.table.items c.take_back.new.table.items s.others c.take_back.new.others s.set.items c.pop.new.self.items c.in-Some.last c.in-Some.ensures.items c.self.invariant.0 c.self.invariant.1 c.take_back.ensures

pub returns-in-Some : goal.returns-in-Some
returns-in-Some c =
    sym (ap (drop 1) (sym c.self.view_is ∙ ap (λ (ms : List Marked). literals_of (reverse ms)) c.in-Some.ensures.items ∙ literals-push c.pop.new.self.items c.in-Some.last))

pub returns-in_default : goal.returns-in_default
returns-in_default c =
    let none : length c.self.inside.set.items ≡ 0 = sym c.self.inside.set.ok.0 ∙ c.in_default.ensures.cases.0 in
    let left : length c.pop.new.self.items ≡ 0 = sym c.pop.new.self.ok.0 ∙ c.in_default.ensures.cases.1 in
    literals-none c.pop.new.self.items left ∙ sym (ap (drop 1) (sym c.self.view_is ∙ literals-none c.self.inside.set.items none))
