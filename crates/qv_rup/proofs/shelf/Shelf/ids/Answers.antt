use Rattle.std.proofs.Common.{◌≡◌, ℕ, List, ap, subst, ◌∙◌}
use Rattle.qv_cnf.specs.Listing.{Numbered}
use Rattle.qv_rup.specs.Shelving.{Shelved, picked}
use Rattle.qv_rup.proofs.Shelved.{picked-all}
use Rattle.qv_rup.proofs.shelf.Shelf.ids.Goals as goal

pub returns : goal.returns
returns c =
    let s = c.self.inside in
    let all : picked c.deref.result.now s.list.live ≡ s.list.live = ap (λ (xs : List ℕ). picked xs s.list.live) c.deref.ensures.value ∙ picked-all 0 s.ids.items s.list.live c.self.invariant.rises c.may_add-listing.ensures.listing.rises c.self.invariant.whole in
    subst (λ (cs : List Numbered). picked c.deref.result.now cs ≡ cs) (ap (λ (x : Shelved). x.live) c.self.view_is) all
