use Rattle.std.proofs.Common.{◌≡◌, List, [], ◌∷◌, ◌++◌, refl, ◌∙◌, ap, subst}
use Rattle.std.proofs.lemmas.List.{map-append}
use Rattle.qv_cnf.specs.LratLine.{LratLine, line_of, lines_of}
use Rattle.qv_cnf.specs.declared.steps.Step.{Step}
use Rattle.qv_gates.specs.Closing.{Closing, GoesOn}
use Rattle.qv_gates.proofs.Checking.{IsChecked-push}
use Rattle.qv_gates.proofs.closing.Closure.take.Goals as goal

pub invariant_of-self-2 : goal.invariant_of-self-2
invariant_of-self-2 c =
    let s = c.self.inside in
    let items : c.push_reserved.new.self.items ≡ s.steps.items ++ c.args.step ∷ [] = c.push_reserved.ensures.items ∙ ap (λ (xs : List Step). xs ++ c.args.step ∷ []) c.reserve.ensures.items in
    IsChecked-push s.base s.checker c.takes.new.checker (lines_of s.steps.items) (lines_of c.push_reserved.new.self.items) (line_of c.args.step)
    c.if-not-takes.ensures.addition c.if-not-takes.ensures.judged c.if-not-takes.ensures.taken
    (ap lines_of items ∙ map-append line_of s.steps.items (c.args.step ∷ [])) c.self.invariant

pub returns : goal.returns
returns c =
    let s = c.self.inside in
    let items : c.push_reserved.new.self.items ≡ s.steps.items ++ c.args.step ∷ [] = c.push_reserved.ensures.items ∙ ap (λ (xs : List Step). xs ++ c.args.step ∷ []) c.reserve.ensures.items in
    let new : Closing = record { base = s.base.live; steps = lines_of c.push_reserved.new.self.items } in
    subst (λ (k : Closing). GoesOn k new) c.self.view_is
    (record { base = refl; more = line_of c.args.step ∷ []; steps = ap lines_of items ∙ map-append line_of s.steps.items (c.args.step ∷ []) })
