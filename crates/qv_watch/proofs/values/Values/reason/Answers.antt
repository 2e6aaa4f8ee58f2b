use Rattle.std.proofs.Common.{◌≡◌, None, Some, true, false, sym, refl, ◌∙◌, ap}
use mathlib.Core.Bool.{beq}
use Rattle.std.specs.Option.{option_map}
use Rattle.qv_watch.specs.Entries.{entry_at, reason_of}
use Rattle.qv_watch.specs.Table.{assignment_of, entries_of}
use Rattle.qv_watch.proofs.Entering.{reason_of-none, reason_of-assigned, entry_at-unassigned}
use Rattle.qv_watch.proofs.values.Values.reason.Goals as goal

pub returns-in_err-assigned : goal.returns-in_err-assigned
returns-in_err-assigned c =
    let vars = c.self.inside.vars.items in
    let order = c.self.inside.order.items in
    let none : None ≡ option_map assignment_of (entry_at c.args.lit.variable (entries_of vars order)) = rw (c.deref.ensures.value, c.deref-2.ensures.value) at c.in_err-assigned.ensures in
    c.from_residual.ensures ∙ sym (ap (λ v. reason_of v.entries c.args.lit) (sym c.self.view_is) ∙ reason_of-none (entries_of vars order) c.args.lit (entry_at-unassigned c.args.lit.variable (entries_of vars order) none))

pub returns-then-assigned-is_positive : goal.returns-then-assigned-is_positive
returns-then-assigned-is_positive c =
    let vars = c.self.inside.vars.items in
    let order = c.self.inside.order.items in
    let some : Some c.in_ok-assigned.assigned ≡ option_map assignment_of (entry_at c.args.lit.variable (entries_of vars order)) = rw (c.deref.ensures.value, c.deref-2.ensures.value) at c.in_ok-assigned.ensures in
    let like : beq c.in_ok-assigned.assigned.positive c.args.lit.positive ≡ true = rw c.is_positive.ensures at c.if-assigned-is_positive.true in
    sym (ap (λ v. reason_of v.entries c.args.lit) (sym c.self.view_is) ∙ reason_of-assigned (entries_of vars order) c.args.lit c.in_ok-assigned.assigned c.self.invariant.table.once some ∙ (rw like refl))

pub returns-else-assigned-is_positive : goal.returns-else-assigned-is_positive
returns-else-assigned-is_positive c =
    let vars = c.self.inside.vars.items in
    let order = c.self.inside.order.items in
    let some : Some c.in_ok-assigned.assigned ≡ option_map assignment_of (entry_at c.args.lit.variable (entries_of vars order)) = rw (c.deref.ensures.value, c.deref-2.ensures.value) at c.in_ok-assigned.ensures in
    let unlike : beq c.in_ok-assigned.assigned.positive c.args.lit.positive ≡ false = rw c.is_positive.ensures at c.if-assigned-is_positive.false in
    sym (ap (λ v. reason_of v.entries c.args.lit) (sym c.self.view_is) ∙ reason_of-assigned (entries_of vars order) c.args.lit c.in_ok-assigned.assigned c.self.invariant.table.once some ∙ (rw unlike refl))
