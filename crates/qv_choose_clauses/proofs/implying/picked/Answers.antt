use Rattle.std.proofs.Common.{◌≡◌, ◌<◌, ◌+◌, ℕ, Bool, List, [], Some, filter, length, take, slice_get, refl, ap, sym, ◌∙◌, subst, arith}
use Rattle.std.proofs.lemmas.List.{take_all}
use Rattle.std.proofs.lemmas.Option.{slice_get-get_or}
use Rattle.qv_choose_clauses.specs.declared.clauses.Clause.{Clause}
use Rattle.qv_choose_clauses.specs.Implying.{kept, says, AreSaid}
use Rattle.qv_choose_clauses.proofs.PickLaws.{pick-kept, said-there}
use Rattle.qv_choose_clauses.proofs.implying.picked.Goals as goal

pub terms-init : goal.terms-init
terms-init c = λ test said. c.new-picked.ensures.items

pub terms-preserved : goal.terms-preserved
terms-preserved c = λ test said.
    let k = c.terms.number in
    let n = c.index-ids-number.result in
    let low : k < length c.args.ids.now = omega (arith, c.terms-test.true) in
    let at : slice_get c.args.ids.now k ≡ Some n = slice_get-get_or c.args.ids.now k n low ∙ ap (λ m. Some m) (sym c.index-ids-number.is) in
    let is : test n ≡ c.says.result =
    said-there test c.args.ids.now c.args.clauses.now c.args.marks.now k n _ _ c.says.result said at (omega (arith, low, c.requires.clauses)) (omega (arith, low, c.requires.marks)) c.says.ensures in
    c.in_ok-keep.ensures ∙ pick-kept test c.args.ids.now k n c.terms.picked.items c.says.result at is (c.terms.invariant test said)

pub returns : goal.returns
returns c = λ test said. c.terms.invariant test said ∙ ap (filter test) (take_all c.terms.number c.args.ids.now c.terms-test.false)
