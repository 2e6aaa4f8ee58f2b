-- the children behind the place that is reached wait before the term
use Rattle.std.proofs.Common.{◌≡◌, ◌≤◌, ◌∷◌, ◌++◌, length, map, drop, reverse}
use Rattle.qv_store.specs.declared.walk.Visit.TheVariants.{Enter, Leave}
use Rattle.qv_store.proofs.walk.enter.Given as goal

abbrev pub invariant-kids : goal.invariant-kids
invariant-kids l =
    record { within : l.left ≤ length l.kids; waiting : reverse l.todo.items ≡ map Enter (drop l.left l.kids) ++ Leave l.fn.id ∷ reverse l.fn.todo.items }

abbrev pub decreases-kids : goal.decreases-kids
decreases-kids l = l.left
