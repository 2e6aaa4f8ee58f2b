use Rattle.std.proofs.Common.{◌≡◌, ◌∙◌, ap, sym, subst}
use Rattle.qv_blast.specs.Blasters.{IsListed, Listed}
use Rattle.qv_blast.proofs.FromOne.{back-extends, same-listed}
use Rattle.qv_blast.proofs.lists.Lists.back_to.Goals as goal

pub invariant_of-self : goal.invariant_of-self
invariant_of-self c =
    let r = c.requires in
    let whole = sym c.self.view_is in
    let list = ap (λ (s : Listed). s.list) whole in
    let limit : c.self.inside.limit ≡ r.older.limit = sym (ap (λ (s : Listed). s.limit) whole) ∙ r.grown.limit in
    let back : c.cut.new.self ≡ r.older.list = c.cut.ensures.back r.older.list r.listing (back-extends r.older _ _ _ r.listed r.grown list r.id_is) in
    (c.self.invariant.0, subst IsListed (sym (same-listed r.older c.self.inside.limit c.args.mark.next c.args.mark.id c.cut.new.self limit (sym r.next_is) (sym r.id_is) back)) r.listed)

pub returns : goal.returns
returns c older listing grown next id listed =
    let whole = sym c.self.view_is in
    let list = ap (λ (s : Listed). s.list) whole in
    let limit : c.self.inside.limit ≡ older.limit = sym (ap (λ (s : Listed). s.limit) whole) ∙ grown.limit in
    let back : c.cut.new.self ≡ older.list = c.cut.ensures.back older.list listing (back-extends older _ _ _ listed grown list id) in
    same-listed older c.self.inside.limit c.args.mark.next c.args.mark.id c.cut.new.self limit (sym next) (sym id) back
