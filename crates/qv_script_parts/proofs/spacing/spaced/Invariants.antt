use Rattle.qv_script_parts.proofs.Spelled.{Spelled}
use Rattle.qv_script_parts.proofs.spacing.spaced.Given as goal

-- the items so far are spelled
abbrev pub invariant-items : goal.invariant-items
invariant-items l = Spelled l.expr.items.items l.expr.text.items l.at l.item-index l.edge l.bytes.items
