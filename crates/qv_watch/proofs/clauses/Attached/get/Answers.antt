use Rattle.std.proofs.Common.{sym, ◌∙◌, ap}
use Rattle.std.specs.List.{slice_get}
use Rattle.std.specs.Option.{option_copied}
use Rattle.qv_cnf.specs.Listing.{clause_named}
use Rattle.qv_watch.specs.Attaching.{attached_in, lits_in}
use Rattle.qv_watch.specs.Storing.{HoldsId, LacksId}
use Rattle.qv_watch.proofs.Storing.{named-holding, named-lacking}
use Rattle.qv_watch.proofs.clauses.Attached.get.Goals as goal

pub returns-in_err-place : goal.returns-in_err-place
returns-in_err-place c =
    let old = c.self.inside in
    let lacks : LacksId old.slots.items c.args.id = rw c.deref.ensures.value at c.in_err-place.ensures.none in
    ap option_copied c.from_residual.ensures ∙ sym (ap (λ t. clause_named c.args.id (attached_in t)) (sym c.self.view_is) ∙ named-lacking old.lits.items old.slots.items c.args.id lacks)

pub returns : goal.returns
returns c =
    let old = c.self.inside in
    let holds : HoldsId old.slots.items c.args.id c.in_ok-place.place = rw c.deref.ensures.value at c.in_ok-place.ensures.some in
    c.get_at.ensures ∙ ap (λ t. lits_in (slice_get t c.in_ok-place.place)) (sym c.self.view_is) ∙ sym (ap (λ t. clause_named c.args.id (attached_in t)) (sym c.self.view_is) ∙ named-holding old.lits.items old.slots.items old.places c.args.id c.in_ok-place.place c.self.invariant holds)
