use Rattle.std.proofs.Common.{ℕ, List, ap, subst, sym}
use Rattle.qv_cnf.specs.Listing.{Numbered}
use Rattle.qv_rup.proofs.Shelved.{moved}
use Rattle.qv_rup.specs.Shelving.{next_after, IsShelved, Shelved}
use Rattle.qv_rup.proofs.shelf.Shelf.tidy.Goals as goal

pub invariant_of-self : goal.invariant_of-self
invariant_of-self c =
    let s = c.self.inside in
    (moved s.list c.gather.new.list c.deref.result.now c.gather.new.kept.items (next_after s.last) c.in-Ok.ensures.listing (subst (λ (xs : List ℕ). IsShelved s.list xs (next_after s.last)) (sym c.deref.ensures.value) c.self.invariant) c.in-Ok.ensures.gathered).1

pub returns-in-Ok : goal.returns-in-Ok
returns-in-Ok c =
    let s = c.self.inside in
    rw (← c.self.view_is)
    (ap (λ (live : List Numbered). let x : Shelved = record { live = live; next = next_after s.last } in x) (moved s.list c.gather.new.list c.deref.result.now c.gather.new.kept.items (next_after s.last) c.in-Ok.ensures.listing (subst (λ (xs : List ℕ). IsShelved s.list xs (next_after s.last)) (sym c.deref.ensures.value) c.self.invariant) c.in-Ok.ensures.gathered).0)
