-- Terms that have a value where their children do, computed.
use Rattle.std.proofs.Common.{[]}
use Rattle.qv_words.specs.declared.sort.Sort.TheVariants.{Bool}
use Rattle.qv_words.specs.declared.op.Op.TheVariants.{Not}
use Rattle.qv_words.specs.Tree.{Constant, Variable, Apply, ForAll, Cons, Nil}
use Rattle.qv_solve_offer.specs.Valued.{IsValuedIn}

-- a constant needs a word
not_without_a_word : IsValuedIn [] (Constant 0 Bool) → ⊥
not_without_a_word h = h

-- no variable and no quantifier has one
not_a_variable : IsValuedIn [] (Variable 0 Bool) → ⊥
not_a_variable h = h

not_a_quantifier : IsValuedIn [] (ForAll 0 Bool (Variable 0 Bool)) → ⊥
not_a_quantifier h = h

-- of an application only the top counts
only_the_top : IsValuedIn [] (Apply Not (Cons (Constant 0 Bool) Nil))
only_the_top = tt
