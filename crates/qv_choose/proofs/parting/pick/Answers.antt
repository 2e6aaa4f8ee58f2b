use Rattle.std.proofs.Common.{◌≡◌, ◌+◌, ◌++◌, ◌∷◌, [], ℕ, List, take, slice_index_or, refl, sym, subst, ◌∙◌}
use Rattle.qv_choose.specs.Parts.{AreAt}
use Rattle.qv_choose.proofs.PartLaws.{pick-next}
use Rattle.qv_choose.proofs.parting.pick.Goals as goal

pub numbers-preserved : goal.numbers-preserved
numbers-preserved c =
    let ids = c.args.ids.now in
    let ns = c.args.numbers.now in
    let k = c.numbers.number-index in
    let n : ℕ = slice_index_or ns k 0 in
    subst (λ (found : List ℕ). AreAt ids (take (k + 1) ns) found) (sym c.in_ok-push.ensures.items)
    (pick-next ids ns c.numbers.picked.items k n c.index-ids-number.result c.numbers.invariant c.numbers-test.true refl (c.requires.numbers k 0 c.numbers-test.true) c.index-ids-number.is)
