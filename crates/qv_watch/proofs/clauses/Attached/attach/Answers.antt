use Rattle.std.proofs.Common.{◌≡◌, ◌+◌, List, [], ◌∷◌, ◌++◌, None, Some, true, refl, ◌∙◌, ap, arith, length-append, length, nat_eq, ◌⊎◌}
use Rattle.std.proofs.lemmas.Bool.{le-leb}
use Rattle.std.specs.HashMap.{get}
use Rattle.qv_cnf.specs.Listing.{clause_named}
use Rattle.qv_watch.specs.Attaching.{Stored, attached_in}
use Rattle.qv_watch.specs.Storing.{is_live, stored_at, first_or}
use Rattle.qv_watch.specs.declared.clauses.Slot.{Slot}
use Rattle.qv_watch.proofs.Lists.{on_err}
use Rattle.qv_watch.proofs.Storing.{lacking-new, stored_at-more, stored_at-push, IsStored-push}
use Rattle.qv_watch.proofs.clauses.Attached.attach.Goals as goal
use Rattle.qv_watch.proofs.clauses.Attached.attach.Goals.{After-push_reserved}

abbrev new_slot : After-push_reserved → Slot
new_slot c = record { id = c.args.id; start = c.in_ok-start.start; end = c.in_ok-end.end }

from : (c : After-push_reserved) → c.in_ok-start.start ≡ length c.self.inside.lits.items
from c = omega (arith, c.in_ok-start.ensures, c.len-before.ensures, c.self.inside.lits.ok.0)

to : (c : After-push_reserved) → c.in_ok-end.end ≡ length (c.self.inside.lits.items ++ c.args.lits.now)
to c = omega (arith, c.in_ok-end.ensures, c.len-before.ensures, c.self.inside.lits.ok.0, length-append c.self.inside.lits.items c.args.lits.now)

live : (c : After-push_reserved) → is_live (new_slot c) ≡ true
live c = le-leb c.in_ok-start.start c.in_ok-end.end (omega (arith, from c, to c, length-append c.self.inside.lits.items c.args.lits.now))

pub returns-in_err-note-clause-err : goal.returns-in_err-note-clause-err
returns-in_err-note-clause-err c =
    let old = c.self.inside in
    on_err c.from_residual-in_err-note.result (rw (c.in_ok-reserve.ensures.items, c.in_ok-extend_from_slice.ensures.items) (stored_at-more old.lits.items c.args.lits.now old.slots.items old.places c.self.invariant ∙ c.self.view_is))

pub invariant_of-self-2 : goal.invariant_of-self-2
invariant_of-self-2 c =
    let old = c.self.inside in
    let all = old.lits.items in
    let slots = old.slots.items in
    let fresh : clause_named c.args.id (attached_in (stored_at all slots)) ≡ None = ap (λ t. clause_named c.args.id (attached_in t)) c.self.view_is ∙ c.requires in
    let own : (c.args.id ≡ first_or slots c.args.id + length slots) ⊎ (get nat_eq c.note.new.places c.args.id ≡ Some (length slots)) = rw (c.deref.ensures.value, c.in_ok-reserve.ensures.items) at c.in_ok-note.ensures.ok in
    rw (c.push_reserved.ensures.items, c.in_ok-reserve.ensures.items, c.in_ok-extend_from_slice.ensures.items)
    (IsStored-push all c.args.lits.now slots old.places c.note.new.places (new_slot c) c.self.invariant (from c) (to c) (live c) (lacking-new all slots old.places c.args.id c.self.invariant fresh) own c.in_ok-note.ensures.others)

pub returns-clause-ok : goal.returns-clause-ok
returns-clause-ok c =
    let old = c.self.inside in
    rw (c.push_reserved.ensures.items, c.in_ok-reserve.ensures.items, c.in_ok-extend_from_slice.ensures.items)
    (stored_at-push old.lits.items c.args.lits.now old.slots.items old.places c.note.new.places (new_slot c) c.self.invariant (from c) (to c) (live c)
    ∙ ap (λ (t : List Stored). t ++ record { id = c.args.id; lits = Some c.args.lits.now } ∷ []) c.self.view_is)
