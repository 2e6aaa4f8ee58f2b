use Rattle.std.proofs.Common.{◌≡◌, Some, slice_get}
use Rattle.qv_script_parts.proofs.Parting.{item-there, empty-list, filled-list, other-list}
use Rattle.qv_script_parts.proofs.parts.is_empty_list.Goals as goal

pub returns-then-close-at : goal.returns-then-close-at
returns-then-close-at c = λ e p.
    let there : slice_get c.args.expr.now.items.items c.args.at ≡ Some c.in_ok-close.field-0.now = item-there c.args.expr.now.items.items c.deref.result.now c.args.at c.in_ok-close.field-0.now c.deref.ensures.value c.in_ok-close.ensures.lookup.3.0 c.in_ok-close.ensures.lookup.1 in
    empty-list c.args.expr.now.items.items c.args.expr.now.text.items c.args.at e p.0 c.in_ok-close.field-0.now c.in-Open.close p.1 there c.in-Open.is c.if-close-at.true

pub returns-else-close-at : goal.returns-else-close-at
returns-else-close-at c = λ e p.
    let there : slice_get c.args.expr.now.items.items c.args.at ≡ Some c.in_ok-close.field-0.now = item-there c.args.expr.now.items.items c.deref.result.now c.args.at c.in_ok-close.field-0.now c.deref.ensures.value c.in_ok-close.ensures.lookup.3.0 c.in_ok-close.ensures.lookup.1 in
    filled-list c.args.expr.now.items.items c.args.expr.now.text.items c.args.at e p.0 c.in_ok-close.field-0.now c.in-Open.close p.1 there c.in-Open.is c.if-close-at.false

pub returns-in_default : goal.returns-in_default
returns-in_default c = λ e p.
    let there : slice_get c.args.expr.now.items.items c.args.at ≡ Some c.in_ok-close.field-0.now = item-there c.args.expr.now.items.items c.deref.result.now c.args.at c.in_ok-close.field-0.now c.deref.ensures.value c.in_ok-close.ensures.lookup.3.0 c.in_ok-close.ensures.lookup.1 in
    other-list c.args.expr.now.items.items c.args.expr.now.text.items c.args.at e p.0 c.in_ok-close.field-0.now p.1 there c.in_default.not-Open
