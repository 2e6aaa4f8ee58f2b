-- the literals so far
use Rattle.std.proofs.Common.{◌≡◌, ◌∷◌, ◌++◌, [], take}
use Rattle.qv_qdimacs.specs.Outer.{given}
use Rattle.qv_shell_qdimacs.specs.Texts.{literals_text}
use Rattle.qv_shell_qdimacs.proofs.texts.push_values.Given as goal

abbrev pub invariant-literals : goal.invariant-literals
invariant-literals l = l.text.items ≡ (l.fn.text.items ++ 118 ∷ []) ++ literals_text (given (take l.at l.outer) (take l.at l.values))
