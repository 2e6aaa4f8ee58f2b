use Rattle.std.proofs.Common.{◌≡◌, refl, sym, ap, ◌∙◌, subst, drop, length}
use Rattle.std.specs.Prelude.{IsSome}
use Rattle.qv_elab_items.specs.Bindings.{names_of, AreKept}
use Rattle.qv_elab_items.proofs.NameTables.{names-push, names-empty, found-last, kept-pop}
use Rattle.qv_elab_items.proofs.names.Names.pop.Goals as goal

pub put_back-requires : goal.put_back-requires
put_back-requires c =
    let kept = subst (λ bs. AreKept c.self.inside.newest bs) c.in-Some.ensures.items c.self.invariant in
    subst (λ o. IsSome o) (sym (found-last c.self.inside.newest c.pop.new.self.items c.in-Some.bound kept)) refl

pub invariant_of-self : goal.invariant_of-self
invariant_of-self c =
    let kept = subst (λ bs. AreKept c.self.inside.newest bs) c.in-Some.ensures.items c.self.invariant in
    kept-pop c.self.inside.newest c.put_back.new.newest c.pop.new.self.items c.in-Some.bound kept c.put_back.ensures

pub returns-in-Some : goal.returns-in-Some
returns-in-Some c =
    sym (ap (drop 1) (sym c.self.view_is ∙ ap names_of c.in-Some.ensures.items ∙ names-push c.pop.new.self.items c.in-Some.bound))

pub returns-in_default : goal.returns-in_default
returns-in_default c =
    let none : length c.self.inside.bound.items ≡ 0 = sym c.self.inside.bound.ok.0 ∙ c.in_default.ensures.cases.0 in
    let left : length c.pop.new.self.items ≡ 0 = sym c.pop.new.self.ok.0 ∙ c.in_default.ensures.cases.1 in
    names-empty c.pop.new.self.items left ∙ sym (ap (drop 1) (sym c.self.view_is ∙ names-empty c.self.inside.bound.items none))
