use Rattle.qv_sexpr.specs.Copying.{AreCopied}
use Rattle.qv_sexpr.proofs.items.Expr.copy.Given as goal

-- the items so far are copies
abbrev pub invariant-loop-item : goal.invariant-loop-item
invariant-loop-item l = AreCopied l.self.items.items l.self.text.items l.at l.copy.items.items l.copy.text.items l.item-index
