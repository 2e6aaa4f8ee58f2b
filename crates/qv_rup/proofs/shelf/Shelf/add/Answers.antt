use Rattle.std.proofs.Common.{◌≡◌, ℕ, List, ◌++◌, ◌∷◌, [], ap, ◌∙◌, arith}
use Rattle.qv_rup.proofs.Shelved.{shelved_more}
use Rattle.qv_rup.specs.Shelving.{next_after, Shelved}
use Rattle.qv_rup.proofs.shelf.Shelf.add.Goals as goal

pub invariant_of-self-2 : goal.invariant_of-self-2
invariant_of-self-2 c =
    let s = c.self.inside in
    let longer = c.push_reserved.ensures.items ∙ ap (λ (xs : List ℕ). xs ++ c.args.id ∷ []) c.in_ok-reserve.ensures.items in
    let next : next_after s.last ≡ c.args.self.now.next = ap (λ (x : Shelved). x.next) c.self.view_is in
    shelved_more s.list c.add.new.self s.ids.items c.push_reserved.new.self.items (next_after s.last) c.args.id c.args.lits.now (omega (arith, c.requires)) c.in_ok-add.ensures.ok longer c.self.invariant
