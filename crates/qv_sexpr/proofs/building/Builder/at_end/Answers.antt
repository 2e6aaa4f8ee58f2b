use Rattle.std.proofs.Common.{refl, ap, sym, ◌∙◌}
use Rattle.std.specs.List.{slice_get}
use Rattle.qv_sexpr.proofs.Gathering.{ends_outside, ends_inside}
use Rattle.qv_sexpr.proofs.building.Builder.at_end.Goals as goal

pub returns-in-None : goal.returns-in-None
returns-in-None c = λ lists builds.
    let old = c.args.self.now in
    (tt, ends_outside old.items.items old.text.items old.unclosed.items lists builds (sym (c.in-None.ensures.value ∙ ap (λ xs. slice_get xs 0) c.deref.ensures.value)))

pub returns-in-Some : goal.returns-in-Some
returns-in-Some c = λ lists builds.
    let old = c.args.self.now in
    (refl, ends_inside old.items.items old.text.items old.unclosed.items lists c.in-Some.first.now builds (sym (c.in-Some.ensures.value ∙ ap (λ xs. slice_get xs 0) c.deref.ensures.value)))
