-- The problems of formulas with quantifiers at many places, computed; what they are comes from another program.
use Rattle.std.proofs.Common.{◌≡◌, [], ◌∷◌, refl}
use Rattle.qv_words.specs.declared.sort.Sort.{Sort}
use Rattle.qv_words.specs.declared.sort.Sort.TheVariants.{Bool, Bits}
use Rattle.qv_words.specs.declared.op.Op.TheVariants.{And, BvAdd, BvComp, BvNego, BvNot, BvUle, BvUlt, Concat, Equal, Implies, Ite, Not, Or, Xor}
use Rattle.qv_words.specs.Tree.{Constant, Variable, Literal, Apply, ForAll, Exists, Nil, Cons}
use Rattle.qv_words.specs.Prenex.{form_within}
use Rattle.qv_words.specs.Problem.{Place, Existential, Universal, problem_of}

abbrev ex : Sort → Place
ex s = record { quantifier = Existential; sort = s }

abbrev un : Sort → Place
un s = record { quantifier = Universal; sort = s }

problem0 : problem_of ([]) ≡ record { prefix = []; matrix = (Literal Bool 1) }
unfolding problem_of form_within
problem0 = refl

problem1 : problem_of ((Apply BvUlt (Cons (Apply Ite (Cons (ForAll 0 Bool (Variable 0 Bool)) (Cons (Constant 1 (Bits 2)) (Cons (Constant 2 (Bits 2)) Nil)))) (Cons (Apply Ite (Cons (ForAll 0 Bool (Variable 0 Bool)) (Cons (Apply Ite (Cons (ForAll 0 Bool (Variable 0 Bool)) (Cons (Constant 1 (Bits 2)) (Cons (Constant 2 (Bits 2)) Nil)))) (Cons (Constant 2 (Bits 2)) Nil)))) Nil))) ∷ []) ≡ record { prefix = ex (Bits 2) ∷ ex (Bits 2) ∷ ex Bool ∷ ex Bool ∷ ex Bool ∷ un Bool ∷ un Bool ∷ un Bool ∷ []; matrix = (Apply Or (Cons (Apply And (Cons (Variable 5 Bool) (Cons (Apply Or (Cons (Apply And (Cons (Variable 6 Bool) (Cons (Apply BvUlt (Cons (Variable 0 (Bits 2)) (Cons (Variable 0 (Bits 2)) Nil))) Nil))) (Cons (Apply And (Cons (Apply Not (Cons (Variable 2 Bool) Nil)) (Cons (Apply BvUlt (Cons (Variable 0 (Bits 2)) (Cons (Variable 1 (Bits 2)) Nil))) Nil))) Nil))) Nil))) (Cons (Apply And (Cons (Apply Not (Cons (Variable 3 Bool) Nil)) (Cons (Apply Or (Cons (Apply And (Cons (Variable 7 Bool) (Cons (Apply BvUlt (Cons (Variable 1 (Bits 2)) (Cons (Variable 1 (Bits 2)) Nil))) Nil))) (Cons (Apply And (Cons (Apply Not (Cons (Variable 4 Bool) Nil)) (Cons (Apply BvUlt (Cons (Variable 1 (Bits 2)) (Cons (Variable 1 (Bits 2)) Nil))) Nil))) Nil))) Nil))) Nil))) }
unfolding problem_of form_within
problem1 = refl

problem2 : problem_of ((Apply BvUlt (Cons (Apply Ite (Cons (ForAll 0 Bool (Variable 0 Bool)) (Cons (Apply Ite (Cons (ForAll 0 Bool (Variable 0 Bool)) (Cons (Constant 1 (Bits 2)) (Cons (Constant 2 (Bits 2)) Nil)))) (Cons (Constant 2 (Bits 2)) Nil)))) (Cons (Apply Ite (Cons (ForAll 0 Bool (Variable 0 Bool)) (Cons (Constant 1 (Bits 2)) (Cons (Constant 2 (Bits 2)) Nil)))) Nil))) ∷ []) ≡ record { prefix = ex (Bits 2) ∷ ex (Bits 2) ∷ ex Bool ∷ ex Bool ∷ ex Bool ∷ un Bool ∷ un Bool ∷ un Bool ∷ []; matrix = (Apply Or (Cons (Apply And (Cons (Variable 5 Bool) (Cons (Apply Or (Cons (Apply And (Cons (Variable 6 Bool) (Cons (Apply BvUlt (Cons (Variable 0 (Bits 2)) (Cons (Variable 0 (Bits 2)) Nil))) Nil))) (Cons (Apply And (Cons (Apply Not (Cons (Variable 2 Bool) Nil)) (Cons (Apply BvUlt (Cons (Variable 1 (Bits 2)) (Cons (Variable 1 (Bits 2)) Nil))) Nil))) Nil))) Nil))) (Cons (Apply And (Cons (Apply Not (Cons (Variable 3 Bool) Nil)) (Cons (Apply Or (Cons (Apply And (Cons (Variable 7 Bool) (Cons (Apply BvUlt (Cons (Variable 1 (Bits 2)) (Cons (Variable 0 (Bits 2)) Nil))) Nil))) (Cons (Apply And (Cons (Apply Not (Cons (Variable 4 Bool) Nil)) (Cons (Apply BvUlt (Cons (Variable 1 (Bits 2)) (Cons (Variable 1 (Bits 2)) Nil))) Nil))) Nil))) Nil))) Nil))) }
unfolding problem_of form_within
problem2 = refl

problem3 : problem_of ((Apply Equal (Cons (Apply BvAdd (Cons (Apply Ite (Cons (ForAll 0 Bool (Variable 0 Bool)) (Cons (Constant 1 (Bits 2)) (Cons (Constant 2 (Bits 2)) Nil)))) (Cons (Apply Ite (Cons (ForAll 0 Bool (Variable 0 Bool)) (Cons (Constant 1 (Bits 2)) (Cons (Constant 2 (Bits 2)) Nil)))) Nil))) (Cons (Apply BvNot (Cons (Apply Ite (Cons (ForAll 0 Bool (Variable 0 Bool)) (Cons (Constant 1 (Bits 2)) (Cons (Constant 2 (Bits 2)) Nil)))) Nil)) Nil))) ∷ []) ≡ record { prefix = ex (Bits 2) ∷ ex (Bits 2) ∷ ex Bool ∷ un Bool ∷ []; matrix = (Apply Or (Cons (Apply And (Cons (Variable 3 Bool) (Cons (Apply Equal (Cons (Apply BvAdd (Cons (Variable 0 (Bits 2)) (Cons (Variable 0 (Bits 2)) Nil))) (Cons (Apply BvNot (Cons (Variable 0 (Bits 2)) Nil)) Nil))) Nil))) (Cons (Apply And (Cons (Apply Not (Cons (Variable 2 Bool) Nil)) (Cons (Apply Equal (Cons (Apply BvAdd (Cons (Variable 1 (Bits 2)) (Cons (Variable 1 (Bits 2)) Nil))) (Cons (Apply BvNot (Cons (Variable 1 (Bits 2)) Nil)) Nil))) Nil))) Nil))) }
unfolding problem_of form_within
problem3 = refl

problem4 : problem_of ((Apply Not (Cons (Apply Equal (Cons (Apply Ite (Cons (Exists 0 (Bits 2) (Apply BvUlt (Cons (Variable 0 (Bits 2)) (Cons (Constant 3 (Bits 2)) Nil)))) (Cons (Apply Ite (Cons (ForAll 0 Bool (Variable 0 Bool)) (Cons (Constant 1 (Bits 2)) (Cons (Constant 2 (Bits 2)) Nil)))) (Cons (Constant 2 (Bits 2)) Nil)))) (Cons (Apply Ite (Cons (Exists 0 (Bits 2) (Apply BvUlt (Cons (Variable 0 (Bits 2)) (Cons (Constant 3 (Bits 2)) Nil)))) (Cons (Constant 1 (Bits 2)) (Cons (Apply Ite (Cons (ForAll 0 Bool (Variable 0 Bool)) (Cons (Constant 1 (Bits 2)) (Cons (Constant 2 (Bits 2)) Nil)))) Nil)))) Nil))) Nil)) ∷ []) ≡ record { prefix = ex (Bits 2) ∷ ex (Bits 2) ∷ ex (Bits 2) ∷ ex (Bits 2) ∷ ex (Bits 2) ∷ ex Bool ∷ ex (Bits 2) ∷ ex (Bits 2) ∷ ex Bool ∷ un Bool ∷ un (Bits 2) ∷ un (Bits 2) ∷ un (Bits 2) ∷ un (Bits 2) ∷ un Bool ∷ []; matrix = (Apply Or (Cons (Apply And (Cons (Apply BvUlt (Cons (Variable 3 (Bits 2)) (Cons (Variable 2 (Bits 2)) Nil))) (Cons (Apply Or (Cons (Apply And (Cons (Variable 9 Bool) (Cons (Apply Or (Cons (Apply And (Cons (Apply BvUlt (Cons (Variable 4 (Bits 2)) (Cons (Variable 2 (Bits 2)) Nil))) (Cons (Apply Not (Cons (Apply Equal (Cons (Variable 0 (Bits 2)) (Cons (Variable 0 (Bits 2)) Nil))) Nil)) Nil))) (Cons (Apply And (Cons (Apply Not (Cons (Apply BvUlt (Cons (Variable 10 (Bits 2)) (Cons (Variable 2 (Bits 2)) Nil))) Nil)) (Cons (Apply Not (Cons (Apply Equal (Cons (Variable 0 (Bits 2)) (Cons (Variable 0 (Bits 2)) Nil))) Nil)) Nil))) Nil))) Nil))) (Cons (Apply And (Cons (Apply Not (Cons (Variable 5 Bool) Nil)) (Cons (Apply Or (Cons (Apply And (Cons (Apply BvUlt (Cons (Variable 6 (Bits 2)) (Cons (Variable 2 (Bits 2)) Nil))) (Cons (Apply Not (Cons (Apply Equal (Cons (Variable 1 (Bits 2)) (Cons (Variable 0 (Bits 2)) Nil))) Nil)) Nil))) (Cons (Apply And (Cons (Apply Not (Cons (Apply BvUlt (Cons (Variable 11 (Bits 2)) (Cons (Variable 2 (Bits 2)) Nil))) Nil)) (Cons (Apply Not (Cons (Apply Equal (Cons (Variable 1 (Bits 2)) (Cons (Variable 1 (Bits 2)) Nil))) Nil)) Nil))) Nil))) Nil))) Nil))) Nil))) (Cons (Apply And (Cons (Apply Not (Cons (Apply BvUlt (Cons (Variable 12 (Bits 2)) (Cons (Variable 2 (Bits 2)) Nil))) Nil)) (Cons (Apply Or (Cons (Apply And (Cons (Apply BvUlt (Cons (Variable 7 (Bits 2)) (Cons (Variable 2 (Bits 2)) Nil))) (Cons (Apply Not (Cons (Apply Equal (Cons (Variable 1 (Bits 2)) (Cons (Variable 0 (Bits 2)) Nil))) Nil)) Nil))) (Cons (Apply And (Cons (Apply Not (Cons (Apply BvUlt (Cons (Variable 13 (Bits 2)) (Cons (Variable 2 (Bits 2)) Nil))) Nil)) (Cons (Apply Or (Cons (Apply And (Cons (Variable 14 Bool) (Cons (Apply Not (Cons (Apply Equal (Cons (Variable 1 (Bits 2)) (Cons (Variable 0 (Bits 2)) Nil))) Nil)) Nil))) (Cons (Apply And (Cons (Apply Not (Cons (Variable 8 Bool) Nil)) (Cons (Apply Not (Cons (Apply Equal (Cons (Variable 1 (Bits 2)) (Cons (Variable 1 (Bits 2)) Nil))) Nil)) Nil))) Nil))) Nil))) Nil))) Nil))) Nil))) }
unfolding problem_of form_within
problem4 = refl

problem5 : problem_of ((Apply BvUle (Cons (Apply Ite (Cons (Apply Equal (Cons (Apply Ite (Cons (ForAll 0 Bool (Variable 0 Bool)) (Cons (Constant 1 (Bits 2)) (Cons (Constant 2 (Bits 2)) Nil)))) (Cons (Constant 0 (Bits 2)) Nil))) (Cons (Constant 1 (Bits 2)) (Cons (Constant 0 (Bits 2)) Nil)))) (Cons (Apply Ite (Cons (ForAll 0 Bool (Variable 0 Bool)) (Cons (Constant 1 (Bits 2)) (Cons (Constant 2 (Bits 2)) Nil)))) Nil))) ∷ []) ≡ record { prefix = ex (Bits 2) ∷ ex (Bits 2) ∷ ex (Bits 2) ∷ ex Bool ∷ ex Bool ∷ ex Bool ∷ ex Bool ∷ un Bool ∷ un Bool ∷ un Bool ∷ un Bool ∷ []; matrix = (Apply Or (Cons (Apply And (Cons (Apply Or (Cons (Apply And (Cons (Variable 7 Bool) (Cons (Apply Equal (Cons (Variable 1 (Bits 2)) (Cons (Variable 0 (Bits 2)) Nil))) Nil))) (Cons (Apply And (Cons (Apply Not (Cons (Variable 3 Bool) Nil)) (Cons (Apply Equal (Cons (Variable 2 (Bits 2)) (Cons (Variable 0 (Bits 2)) Nil))) Nil))) Nil))) (Cons (Apply Or (Cons (Apply And (Cons (Variable 8 Bool) (Cons (Apply BvUle (Cons (Variable 1 (Bits 2)) (Cons (Variable 1 (Bits 2)) Nil))) Nil))) (Cons (Apply And (Cons (Apply Not (Cons (Variable 4 Bool) Nil)) (Cons (Apply BvUle (Cons (Variable 1 (Bits 2)) (Cons (Variable 2 (Bits 2)) Nil))) Nil))) Nil))) Nil))) (Cons (Apply And (Cons (Apply Or (Cons (Apply And (Cons (Variable 9 Bool) (Cons (Apply Not (Cons (Apply Equal (Cons (Variable 1 (Bits 2)) (Cons (Variable 0 (Bits 2)) Nil))) Nil)) Nil))) (Cons (Apply And (Cons (Apply Not (Cons (Variable 5 Bool) Nil)) (Cons (Apply Not (Cons (Apply Equal (Cons (Variable 2 (Bits 2)) (Cons (Variable 0 (Bits 2)) Nil))) Nil)) Nil))) Nil))) (Cons (Apply Or (Cons (Apply And (Cons (Variable 10 Bool) (Cons (Apply BvUle (Cons (Variable 0 (Bits 2)) (Cons (Variable 1 (Bits 2)) Nil))) Nil))) (Cons (Apply And (Cons (Apply Not (Cons (Variable 6 Bool) Nil)) (Cons (Apply BvUle (Cons (Variable 0 (Bits 2)) (Cons (Variable 2 (Bits 2)) Nil))) Nil))) Nil))) Nil))) Nil))) }
unfolding problem_of form_within
problem5 = refl

problem6 : problem_of ((Apply BvUle (Cons (Apply Ite (Cons (ForAll 0 Bool (Variable 0 Bool)) (Cons (Constant 1 (Bits 2)) (Cons (Constant 2 (Bits 2)) Nil)))) (Cons (Apply Ite (Cons (Apply Equal (Cons (Apply Ite (Cons (ForAll 0 Bool (Variable 0 Bool)) (Cons (Constant 1 (Bits 2)) (Cons (Constant 2 (Bits 2)) Nil)))) (Cons (Constant 0 (Bits 2)) Nil))) (Cons (Constant 1 (Bits 2)) (Cons (Constant 0 (Bits 2)) Nil)))) Nil))) ∷ []) ≡ record { prefix = ex (Bits 2) ∷ ex (Bits 2) ∷ ex (Bits 2) ∷ ex Bool ∷ un Bool ∷ []; matrix = (Apply Or (Cons (Apply And (Cons (Variable 4 Bool) (Cons (Apply BvUle (Cons (Variable 1 (Bits 2)) (Cons (Apply Ite (Cons (Apply Equal (Cons (Variable 1 (Bits 2)) (Cons (Variable 0 (Bits 2)) Nil))) (Cons (Variable 1 (Bits 2)) (Cons (Variable 0 (Bits 2)) Nil)))) Nil))) Nil))) (Cons (Apply And (Cons (Apply Not (Cons (Variable 3 Bool) Nil)) (Cons (Apply BvUle (Cons (Variable 2 (Bits 2)) (Cons (Apply Ite (Cons (Apply Equal (Cons (Variable 2 (Bits 2)) (Cons (Variable 0 (Bits 2)) Nil))) (Cons (Variable 1 (Bits 2)) (Cons (Variable 0 (Bits 2)) Nil)))) Nil))) Nil))) Nil))) }
unfolding problem_of form_within
problem6 = refl

problem7 : problem_of ((Apply Equal (Cons (Apply Ite (Cons (Apply And (Cons (ForAll 0 Bool (Variable 0 Bool)) (Cons (Apply BvUlt (Cons (Apply Ite (Cons (ForAll 0 Bool (Variable 0 Bool)) (Cons (Constant 1 (Bits 2)) (Cons (Constant 2 (Bits 2)) Nil)))) (Cons (Constant 0 (Bits 2)) Nil))) Nil))) (Cons (Constant 1 (Bits 2)) (Cons (Constant 2 (Bits 2)) Nil)))) (Cons (Constant 0 (Bits 2)) Nil))) ∷ []) ≡ record { prefix = ex (Bits 2) ∷ ex (Bits 2) ∷ ex (Bits 2) ∷ ex Bool ∷ ex Bool ∷ ex Bool ∷ un Bool ∷ un Bool ∷ un Bool ∷ []; matrix = (Apply Or (Cons (Apply And (Cons (Apply And (Cons (Variable 6 Bool) (Cons (Apply Or (Cons (Apply And (Cons (Variable 7 Bool) (Cons (Apply BvUlt (Cons (Variable 1 (Bits 2)) (Cons (Variable 0 (Bits 2)) Nil))) Nil))) (Cons (Apply And (Cons (Apply Not (Cons (Variable 3 Bool) Nil)) (Cons (Apply BvUlt (Cons (Variable 2 (Bits 2)) (Cons (Variable 0 (Bits 2)) Nil))) Nil))) Nil))) Nil))) (Cons (Apply Equal (Cons (Variable 1 (Bits 2)) (Cons (Variable 0 (Bits 2)) Nil))) Nil))) (Cons (Apply And (Cons (Apply Or (Cons (Apply Not (Cons (Variable 4 Bool) Nil)) (Cons (Apply Or (Cons (Apply And (Cons (Variable 8 Bool) (Cons (Apply Not (Cons (Apply BvUlt (Cons (Variable 1 (Bits 2)) (Cons (Variable 0 (Bits 2)) Nil))) Nil)) Nil))) (Cons (Apply And (Cons (Apply Not (Cons (Variable 5 Bool) Nil)) (Cons (Apply Not (Cons (Apply BvUlt (Cons (Variable 2 (Bits 2)) (Cons (Variable 0 (Bits 2)) Nil))) Nil)) Nil))) Nil))) Nil))) (Cons (Apply Equal (Cons (Variable 2 (Bits 2)) (Cons (Variable 0 (Bits 2)) Nil))) Nil))) Nil))) }
unfolding problem_of form_within
problem7 = refl

problem8 : problem_of ((ForAll 0 (Bits 2) (Exists 0 (Bits 1) (Apply Equal (Cons (Apply Concat (Cons (Variable 0 (Bits 1)) (Cons (Variable 0 (Bits 1)) Nil))) (Cons (Constant 1 (Bits 2)) Nil))))) ∷ []) ≡ record { prefix = ex (Bits 2) ∷ un (Bits 2) ∷ ex (Bits 1) ∷ []; matrix = (Apply Equal (Cons (Apply Concat (Cons (Variable 2 (Bits 1)) (Cons (Variable 2 (Bits 1)) Nil))) (Cons (Variable 0 (Bits 2)) Nil))) }
unfolding problem_of form_within
problem8 = refl

problem9 : problem_of ((ForAll 0 (Bits 2) (Apply BvUlt (Cons (Apply Ite (Cons (Exists 1 (Bits 2) (Apply Equal (Cons (Variable 1 (Bits 2)) (Cons (Variable 0 (Bits 2)) Nil)))) (Cons (Variable 0 (Bits 2)) (Cons (Constant 1 (Bits 2)) Nil)))) (Cons (Variable 0 (Bits 2)) Nil)))) ∷ []) ≡ record { prefix = ex (Bits 2) ∷ un (Bits 2) ∷ ex (Bits 2) ∷ un (Bits 2) ∷ []; matrix = (Apply Or (Cons (Apply And (Cons (Apply Equal (Cons (Variable 2 (Bits 2)) (Cons (Variable 1 (Bits 2)) Nil))) (Cons (Apply BvUlt (Cons (Variable 1 (Bits 2)) (Cons (Variable 1 (Bits 2)) Nil))) Nil))) (Cons (Apply And (Cons (Apply Not (Cons (Apply Equal (Cons (Variable 3 (Bits 2)) (Cons (Variable 1 (Bits 2)) Nil))) Nil)) (Cons (Apply BvUlt (Cons (Variable 0 (Bits 2)) (Cons (Variable 1 (Bits 2)) Nil))) Nil))) Nil))) }
unfolding problem_of form_within
problem9 = refl

problem10 : problem_of ((ForAll 0 (Bits 2) (Apply BvUlt (Cons (Apply Ite (Cons (Exists 0 (Bits 2) (Apply Equal (Cons (Variable 0 (Bits 2)) (Cons (Constant 1 (Bits 2)) Nil)))) (Cons (Variable 0 (Bits 2)) (Cons (Constant 1 (Bits 2)) Nil)))) (Cons (Variable 0 (Bits 2)) Nil)))) ∷ []) ≡ record { prefix = ex (Bits 2) ∷ un (Bits 2) ∷ ex (Bits 2) ∷ un (Bits 2) ∷ []; matrix = (Apply Or (Cons (Apply And (Cons (Apply Equal (Cons (Variable 2 (Bits 2)) (Cons (Variable 0 (Bits 2)) Nil))) (Cons (Apply BvUlt (Cons (Variable 1 (Bits 2)) (Cons (Variable 1 (Bits 2)) Nil))) Nil))) (Cons (Apply And (Cons (Apply Not (Cons (Apply Equal (Cons (Variable 3 (Bits 2)) (Cons (Variable 0 (Bits 2)) Nil))) Nil)) (Cons (Apply BvUlt (Cons (Variable 0 (Bits 2)) (Cons (Variable 1 (Bits 2)) Nil))) Nil))) Nil))) }
unfolding problem_of form_within
problem10 = refl

problem11 : problem_of ((Apply And (Cons (ForAll 5 (Bits 2) (Apply Equal (Cons (Variable 5 (Bits 2)) (Cons (Constant 1 (Bits 2)) Nil)))) (Cons (Exists 5 (Bits 1) (Apply Equal (Cons (Variable 5 (Bits 1)) (Cons (Constant 7 (Bits 1)) Nil)))) Nil))) ∷ (Exists 0 (Bits 2) (Apply BvUlt (Cons (Variable 0 (Bits 2)) (Cons (Constant 3 (Bits 2)) Nil)))) ∷ (Apply Equal (Cons (Constant 1 (Bits 2)) (Cons (Constant 1 (Bits 2)) Nil))) ∷ []) ≡ record { prefix = ex (Bits 2) ∷ ex (Bits 2) ∷ ex (Bits 1) ∷ ex (Bits 1) ∷ ex (Bits 2) ∷ un (Bits 2) ∷ []; matrix = (Apply And (Cons (Apply And (Cons (Apply And (Cons (Apply Equal (Cons (Variable 5 (Bits 2)) (Cons (Variable 0 (Bits 2)) Nil))) (Cons (Apply Equal (Cons (Variable 3 (Bits 1)) (Cons (Variable 2 (Bits 1)) Nil))) Nil))) (Cons (Apply BvUlt (Cons (Variable 4 (Bits 2)) (Cons (Variable 1 (Bits 2)) Nil))) Nil))) (Cons (Apply Equal (Cons (Variable 0 (Bits 2)) (Cons (Variable 0 (Bits 2)) Nil))) Nil))) }
unfolding problem_of form_within
problem11 = refl

problem12 : problem_of ((Apply BvUle (Cons (Apply Ite (Cons (ForAll 0 Bool (Variable 0 Bool)) (Cons (Constant 1 (Bits 2)) (Cons (Constant 1 (Bits 2)) Nil)))) (Cons (Apply Ite (Cons (ForAll 0 Bool (Variable 0 Bool)) (Cons (Constant 1 (Bits 2)) (Cons (Constant 1 (Bits 2)) Nil)))) Nil))) ∷ []) ≡ record { prefix = ex (Bits 2) ∷ ex Bool ∷ un Bool ∷ []; matrix = (Apply Or (Cons (Apply And (Cons (Variable 2 Bool) (Cons (Apply BvUle (Cons (Variable 0 (Bits 2)) (Cons (Variable 0 (Bits 2)) Nil))) Nil))) (Cons (Apply And (Cons (Apply Not (Cons (Variable 1 Bool) Nil)) (Cons (Apply BvUle (Cons (Variable 0 (Bits 2)) (Cons (Variable 0 (Bits 2)) Nil))) Nil))) Nil))) }
unfolding problem_of form_within
problem12 = refl

problem13 : problem_of ((Apply Ite (Cons (ForAll 0 Bool (Variable 0 Bool)) (Cons (Exists 0 (Bits 2) (Apply BvUlt (Cons (Variable 0 (Bits 2)) (Cons (Constant 3 (Bits 2)) Nil)))) (Cons (ForAll 0 Bool (Variable 0 Bool)) Nil)))) ∷ (Apply Not (Cons (Apply Ite (Cons (Exists 0 (Bits 2) (Apply BvUlt (Cons (Variable 0 (Bits 2)) (Cons (Constant 3 (Bits 2)) Nil)))) (Cons (ForAll 0 Bool (Variable 0 Bool)) (Cons (Exists 0 (Bits 2) (Apply BvUlt (Cons (Variable 0 (Bits 2)) (Cons (Constant 3 (Bits 2)) Nil)))) Nil)))) Nil)) ∷ []) ≡ record { prefix = ex (Bits 2) ∷ ex (Bits 2) ∷ ex Bool ∷ ex (Bits 2) ∷ ex Bool ∷ un Bool ∷ un Bool ∷ un (Bits 2) ∷ un (Bits 2) ∷ []; matrix = (Apply And (Cons (Apply Or (Cons (Apply And (Cons (Variable 5 Bool) (Cons (Apply BvUlt (Cons (Variable 1 (Bits 2)) (Cons (Variable 0 (Bits 2)) Nil))) Nil))) (Cons (Apply And (Cons (Apply Not (Cons (Variable 2 Bool) Nil)) (Cons (Variable 6 Bool) Nil))) Nil))) (Cons (Apply Or (Cons (Apply And (Cons (Apply BvUlt (Cons (Variable 3 (Bits 2)) (Cons (Variable 0 (Bits 2)) Nil))) (Cons (Apply Not (Cons (Variable 4 Bool) Nil)) Nil))) (Cons (Apply And (Cons (Apply Not (Cons (Apply BvUlt (Cons (Variable 7 (Bits 2)) (Cons (Variable 0 (Bits 2)) Nil))) Nil)) (Cons (Apply Not (Cons (Apply BvUlt (Cons (Variable 8 (Bits 2)) (Cons (Variable 0 (Bits 2)) Nil))) Nil)) Nil))) Nil))) Nil))) }
unfolding problem_of form_within
problem13 = refl

problem14 : problem_of ((Apply Implies (Cons (ForAll 0 Bool (Variable 0 Bool)) (Cons (Exists 0 (Bits 2) (Apply BvUlt (Cons (Variable 0 (Bits 2)) (Cons (Constant 3 (Bits 2)) Nil)))) Nil))) ∷ (Apply Not (Cons (Apply Implies (Cons (Exists 0 (Bits 2) (Apply BvUlt (Cons (Variable 0 (Bits 2)) (Cons (Constant 3 (Bits 2)) Nil)))) (Cons (ForAll 0 Bool (Variable 0 Bool)) Nil))) Nil)) ∷ (Apply Implies (Cons (Apply Equal (Cons (Constant 1 (Bits 2)) (Cons (Constant 2 (Bits 2)) Nil))) (Cons (ForAll 0 Bool (Variable 0 Bool)) Nil))) ∷ []) ≡ record { prefix = ex (Bits 2) ∷ ex (Bits 2) ∷ ex (Bits 2) ∷ ex Bool ∷ ex (Bits 2) ∷ ex (Bits 2) ∷ ex Bool ∷ un Bool ∷ []; matrix = (Apply And (Cons (Apply And (Cons (Apply Or (Cons (Apply Not (Cons (Variable 3 Bool) Nil)) (Cons (Apply BvUlt (Cons (Variable 4 (Bits 2)) (Cons (Variable 2 (Bits 2)) Nil))) Nil))) (Cons (Apply And (Cons (Apply BvUlt (Cons (Variable 5 (Bits 2)) (Cons (Variable 2 (Bits 2)) Nil))) (Cons (Apply Not (Cons (Variable 6 Bool) Nil)) Nil))) Nil))) (Cons (Apply Or (Cons (Apply Not (Cons (Apply Equal (Cons (Variable 0 (Bits 2)) (Cons (Variable 1 (Bits 2)) Nil))) Nil)) (Cons (Variable 7 Bool) Nil))) Nil))) }
unfolding problem_of form_within
problem14 = refl

problem15 : problem_of ((Apply Xor (Cons (ForAll 0 Bool (Variable 0 Bool)) (Cons (Apply Equal (Cons (Exists 0 (Bits 2) (Apply BvUlt (Cons (Variable 0 (Bits 2)) (Cons (Constant 3 (Bits 2)) Nil)))) (Cons (Apply Equal (Cons (Constant 1 (Bits 2)) (Cons (Constant 2 (Bits 2)) Nil))) Nil))) Nil))) ∷ (Apply Not (Cons (Apply Equal (Cons (Apply Xor (Cons (ForAll 0 Bool (Variable 0 Bool)) (Cons (Exists 0 (Bits 2) (Apply BvUlt (Cons (Variable 0 (Bits 2)) (Cons (Constant 3 (Bits 2)) Nil)))) Nil))) (Cons (Exists 0 (Bits 2) (Apply BvUlt (Cons (Variable 0 (Bits 2)) (Cons (Constant 3 (Bits 2)) Nil)))) Nil))) Nil)) ∷ []) ≡ record { prefix = ex (Bits 2) ∷ ex (Bits 2) ∷ ex (Bits 2) ∷ ex (Bits 2) ∷ ex Bool ∷ ex (Bits 2) ∷ ex Bool ∷ ex (Bits 2) ∷ ex (Bits 2) ∷ ex Bool ∷ ex (Bits 2) ∷ un Bool ∷ un (Bits 2) ∷ un (Bits 2) ∷ un Bool ∷ un (Bits 2) ∷ un (Bits 2) ∷ un Bool ∷ un (Bits 2) ∷ []; matrix = (Apply And (Cons (Apply Or (Cons (Apply And (Cons (Variable 11 Bool) (Cons (Apply Or (Cons (Apply And (Cons (Apply BvUlt (Cons (Variable 3 (Bits 2)) (Cons (Variable 2 (Bits 2)) Nil))) (Cons (Apply Not (Cons (Apply Equal (Cons (Variable 0 (Bits 2)) (Cons (Variable 1 (Bits 2)) Nil))) Nil)) Nil))) (Cons (Apply And (Cons (Apply Not (Cons (Apply BvUlt (Cons (Variable 12 (Bits 2)) (Cons (Variable 2 (Bits 2)) Nil))) Nil)) (Cons (Apply Equal (Cons (Variable 0 (Bits 2)) (Cons (Variable 1 (Bits 2)) Nil))) Nil))) Nil))) Nil))) (Cons (Apply And (Cons (Apply Not (Cons (Variable 4 Bool) Nil)) (Cons (Apply Or (Cons (Apply And (Cons (Apply BvUlt (Cons (Variable 5 (Bits 2)) (Cons (Variable 2 (Bits 2)) Nil))) (Cons (Apply Equal (Cons (Variable 0 (Bits 2)) (Cons (Variable 1 (Bits 2)) Nil))) Nil))) (Cons (Apply And (Cons (Apply Not (Cons (Apply BvUlt (Cons (Variable 13 (Bits 2)) (Cons (Variable 2 (Bits 2)) Nil))) Nil)) (Cons (Apply Not (Cons (Apply Equal (Cons (Variable 0 (Bits 2)) (Cons (Variable 1 (Bits 2)) Nil))) Nil)) Nil))) Nil))) Nil))) Nil))) (Cons (Apply Or (Cons (Apply And (Cons (Apply Or (Cons (Apply And (Cons (Variable 14 Bool) (Cons (Apply Not (Cons (Apply BvUlt (Cons (Variable 15 (Bits 2)) (Cons (Variable 2 (Bits 2)) Nil))) Nil)) Nil))) (Cons (Apply And (Cons (Apply Not (Cons (Variable 6 Bool) Nil)) (Cons (Apply BvUlt (Cons (Variable 7 (Bits 2)) (Cons (Variable 2 (Bits 2)) Nil))) Nil))) Nil))) (Cons (Apply Not (Cons (Apply BvUlt (Cons (Variable 16 (Bits 2)) (Cons (Variable 2 (Bits 2)) Nil))) Nil)) Nil))) (Cons (Apply And (Cons (Apply Or (Cons (Apply And (Cons (Variable 17 Bool) (Cons (Apply BvUlt (Cons (Variable 8 (Bits 2)) (Cons (Variable 2 (Bits 2)) Nil))) Nil))) (Cons (Apply And (Cons (Apply Not (Cons (Variable 9 Bool) Nil)) (Cons (Apply Not (Cons (Apply BvUlt (Cons (Variable 18 (Bits 2)) (Cons (Variable 2 (Bits 2)) Nil))) Nil)) Nil))) Nil))) (Cons (Apply BvUlt (Cons (Variable 10 (Bits 2)) (Cons (Variable 2 (Bits 2)) Nil))) Nil))) Nil))) Nil))) }
unfolding problem_of form_within
problem15 = refl

problem16 : problem_of ((Apply Equal (Cons (ForAll 0 Bool (Variable 0 Bool)) (Cons (Constant 9 Bool) Nil))) ∷ []) ≡ record { prefix = ex Bool ∷ ex Bool ∷ un Bool ∷ []; matrix = (Apply Or (Cons (Apply And (Cons (Variable 2 Bool) (Cons (Variable 0 Bool) Nil))) (Cons (Apply And (Cons (Apply Not (Cons (Variable 1 Bool) Nil)) (Cons (Apply Not (Cons (Variable 0 Bool) Nil)) Nil))) Nil))) }
unfolding problem_of form_within
problem16 = refl

problem17 : problem_of ((Exists 0 Bool (ForAll 1 Bool (Exists 2 Bool (ForAll 3 Bool (Apply Xor (Cons (Apply And (Cons (Variable 0 Bool) (Cons (Variable 1 Bool) Nil))) (Cons (Apply Or (Cons (Variable 2 Bool) (Cons (Variable 3 Bool) Nil))) Nil))))))) ∷ []) ≡ record { prefix = ex Bool ∷ un Bool ∷ ex Bool ∷ un Bool ∷ []; matrix = (Apply Xor (Cons (Apply And (Cons (Variable 0 Bool) (Cons (Variable 1 Bool) Nil))) (Cons (Apply Or (Cons (Variable 2 Bool) (Cons (Variable 3 Bool) Nil))) Nil))) }
unfolding problem_of form_within
problem17 = refl

problem18 : problem_of ((ForAll 0 Bool (Exists 1 Bool (Variable 0 Bool))) ∷ (Exists 0 Bool (ForAll 1 Bool (Variable 0 Bool))) ∷ []) ≡ record { prefix = ex Bool ∷ un Bool ∷ un Bool ∷ ex Bool ∷ []; matrix = (Apply And (Cons (Variable 1 Bool) (Cons (Variable 0 Bool) Nil))) }
unfolding problem_of form_within
problem18 = refl

problem19 : problem_of ((Apply Not (Cons (Exists 0 (Bits 128) (Apply Equal (Cons (Variable 0 (Bits 128)) (Cons (Literal (Bits 128) 340282366920938463463374607431768211455) Nil)))) Nil)) ∷ []) ≡ record { prefix = un (Bits 128) ∷ []; matrix = (Apply Not (Cons (Apply Equal (Cons (Variable 0 (Bits 128)) (Cons (Literal (Bits 128) 340282366920938463463374607431768211455) Nil))) Nil)) }
unfolding problem_of form_within
problem19 = refl

problem20 : problem_of ((Apply BvNego (Cons (Apply Ite (Cons (ForAll 0 Bool (Variable 0 Bool)) (Cons (Constant 1 (Bits 2)) (Cons (Constant 2 (Bits 2)) Nil)))) Nil)) ∷ []) ≡ record { prefix = ex (Bits 2) ∷ ex (Bits 2) ∷ ex Bool ∷ un Bool ∷ []; matrix = (Apply Or (Cons (Apply And (Cons (Variable 3 Bool) (Cons (Apply BvNego (Cons (Variable 0 (Bits 2)) Nil)) Nil))) (Cons (Apply And (Cons (Apply Not (Cons (Variable 2 Bool) Nil)) (Cons (Apply BvNego (Cons (Variable 1 (Bits 2)) Nil)) Nil))) Nil))) }
unfolding problem_of form_within
problem20 = refl

problem21 : problem_of ((Apply Equal (Cons (Apply BvComp (Cons (Apply Ite (Cons (ForAll 0 Bool (Variable 0 Bool)) (Cons (Constant 1 (Bits 2)) (Cons (Constant 2 (Bits 2)) Nil)))) (Cons (Constant 1 (Bits 2)) Nil))) (Cons (Literal (Bits 1) 1) Nil))) ∷ []) ≡ record { prefix = ex (Bits 2) ∷ ex (Bits 2) ∷ ex Bool ∷ un Bool ∷ []; matrix = (Apply Or (Cons (Apply And (Cons (Variable 3 Bool) (Cons (Apply Equal (Cons (Apply BvComp (Cons (Variable 0 (Bits 2)) (Cons (Variable 0 (Bits 2)) Nil))) (Cons (Literal (Bits 1) 1) Nil))) Nil))) (Cons (Apply And (Cons (Apply Not (Cons (Variable 2 Bool) Nil)) (Cons (Apply Equal (Cons (Apply BvComp (Cons (Variable 1 (Bits 2)) (Cons (Variable 0 (Bits 2)) Nil))) (Cons (Literal (Bits 1) 1) Nil))) Nil))) Nil))) }
unfolding problem_of form_within
problem21 = refl

problem22 : problem_of ((Apply Equal (Cons (Apply Ite (Cons (Apply Equal (Cons (Constant 1 (Bits 2)) (Cons (Constant 2 (Bits 2)) Nil))) (Cons (Apply Ite (Cons (ForAll 0 Bool (Variable 0 Bool)) (Cons (Constant 1 (Bits 2)) (Cons (Constant 2 (Bits 2)) Nil)))) (Cons (Constant 1 (Bits 2)) Nil)))) (Cons (Constant 0 (Bits 2)) Nil))) ∷ []) ≡ record { prefix = ex (Bits 2) ∷ ex (Bits 2) ∷ ex (Bits 2) ∷ ex Bool ∷ un Bool ∷ []; matrix = (Apply Or (Cons (Apply And (Cons (Variable 4 Bool) (Cons (Apply Equal (Cons (Apply Ite (Cons (Apply Equal (Cons (Variable 1 (Bits 2)) (Cons (Variable 2 (Bits 2)) Nil))) (Cons (Variable 1 (Bits 2)) (Cons (Variable 1 (Bits 2)) Nil)))) (Cons (Variable 0 (Bits 2)) Nil))) Nil))) (Cons (Apply And (Cons (Apply Not (Cons (Variable 3 Bool) Nil)) (Cons (Apply Equal (Cons (Apply Ite (Cons (Apply Equal (Cons (Variable 1 (Bits 2)) (Cons (Variable 2 (Bits 2)) Nil))) (Cons (Variable 2 (Bits 2)) (Cons (Variable 1 (Bits 2)) Nil)))) (Cons (Variable 0 (Bits 2)) Nil))) Nil))) Nil))) }
unfolding problem_of form_within
problem22 = refl

problem23 : problem_of ((Apply Equal (Cons (Apply Ite (Cons (Apply Ite (Cons (ForAll 0 Bool (Variable 0 Bool)) (Cons (Exists 0 (Bits 2) (Apply BvUlt (Cons (Variable 0 (Bits 2)) (Cons (Constant 3 (Bits 2)) Nil)))) (Cons (Apply Equal (Cons (Apply Ite (Cons (ForAll 0 Bool (Variable 0 Bool)) (Cons (Constant 1 (Bits 2)) (Cons (Constant 2 (Bits 2)) Nil)))) (Cons (Constant 1 (Bits 2)) Nil))) Nil)))) (Cons (Apply Ite (Cons (ForAll 0 Bool (Variable 0 Bool)) (Cons (Constant 1 (Bits 2)) (Cons (Constant 2 (Bits 2)) Nil)))) (Cons (Constant 1 (Bits 2)) Nil)))) (Cons (Constant 0 (Bits 2)) Nil))) ∷ []) ≡ record { prefix = ex (Bits 2) ∷ ex (Bits 2) ∷ ex (Bits 2) ∷ ex (Bits 2) ∷ ex (Bits 2) ∷ ex Bool ∷ ex Bool ∷ ex Bool ∷ ex Bool ∷ ex Bool ∷ un Bool ∷ un Bool ∷ un Bool ∷ un Bool ∷ un (Bits 2) ∷ un Bool ∷ []; matrix = (Apply Or (Cons (Apply And (Cons (Apply Or (Cons (Apply And (Cons (Variable 10 Bool) (Cons (Apply BvUlt (Cons (Variable 4 (Bits 2)) (Cons (Variable 3 (Bits 2)) Nil))) Nil))) (Cons (Apply And (Cons (Apply Not (Cons (Variable 5 Bool) Nil)) (Cons (Apply Or (Cons (Apply And (Cons (Variable 11 Bool) (Cons (Apply Equal (Cons (Variable 1 (Bits 2)) (Cons (Variable 1 (Bits 2)) Nil))) Nil))) (Cons (Apply And (Cons (Apply Not (Cons (Variable 6 Bool) Nil)) (Cons (Apply Equal (Cons (Variable 2 (Bits 2)) (Cons (Variable 1 (Bits 2)) Nil))) Nil))) Nil))) Nil))) Nil))) (Cons (Apply Or (Cons (Apply And (Cons (Variable 12 Bool) (Cons (Apply Equal (Cons (Variable 1 (Bits 2)) (Cons (Variable 0 (Bits 2)) Nil))) Nil))) (Cons (Apply And (Cons (Apply Not (Cons (Variable 7 Bool) Nil)) (Cons (Apply Equal (Cons (Variable 2 (Bits 2)) (Cons (Variable 0 (Bits 2)) Nil))) Nil))) Nil))) Nil))) (Cons (Apply And (Cons (Apply Or (Cons (Apply And (Cons (Variable 13 Bool) (Cons (Apply Not (Cons (Apply BvUlt (Cons (Variable 14 (Bits 2)) (Cons (Variable 3 (Bits 2)) Nil))) Nil)) Nil))) (Cons (Apply And (Cons (Apply Not (Cons (Variable 8 Bool) Nil)) (Cons (Apply Or (Cons (Apply And (Cons (Variable 15 Bool) (Cons (Apply Not (Cons (Apply Equal (Cons (Variable 1 (Bits 2)) (Cons (Variable 1 (Bits 2)) Nil))) Nil)) Nil))) (Cons (Apply And (Cons (Apply Not (Cons (Variable 9 Bool) Nil)) (Cons (Apply Not (Cons (Apply Equal (Cons (Variable 2 (Bits 2)) (Cons (Variable 1 (Bits 2)) Nil))) Nil)) Nil))) Nil))) Nil))) Nil))) (Cons (Apply Equal (Cons (Variable 1 (Bits 2)) (Cons (Variable 0 (Bits 2)) Nil))) Nil))) Nil))) }
unfolding problem_of form_within
problem23 = refl

problem24 : problem_of ((ForAll 0 (Bits 2) (ForAll 0 (Bits 2) (Apply Equal (Cons (Apply Ite (Cons (ForAll 0 (Bits 2) (Apply Equal (Cons (Variable 0 (Bits 2)) (Cons (Constant 1 (Bits 2)) Nil)))) (Cons (Variable 0 (Bits 2)) (Cons (Constant 2 (Bits 2)) Nil)))) (Cons (Apply Ite (Cons (ForAll 0 (Bits 2) (Apply Equal (Cons (Variable 0 (Bits 2)) (Cons (Constant 1 (Bits 2)) Nil)))) (Cons (Variable 0 (Bits 2)) (Cons (Constant 2 (Bits 2)) Nil)))) Nil))))) ∷ []) ≡ record { prefix = ex (Bits 2) ∷ ex (Bits 2) ∷ un (Bits 2) ∷ un (Bits 2) ∷ ex (Bits 2) ∷ un (Bits 2) ∷ []; matrix = (Apply Or (Cons (Apply And (Cons (Apply Equal (Cons (Variable 5 (Bits 2)) (Cons (Variable 0 (Bits 2)) Nil))) (Cons (Apply Equal (Cons (Variable 3 (Bits 2)) (Cons (Variable 3 (Bits 2)) Nil))) Nil))) (Cons (Apply And (Cons (Apply Not (Cons (Apply Equal (Cons (Variable 4 (Bits 2)) (Cons (Variable 0 (Bits 2)) Nil))) Nil)) (Cons (Apply Equal (Cons (Variable 1 (Bits 2)) (Cons (Variable 1 (Bits 2)) Nil))) Nil))) Nil))) }
unfolding problem_of form_within
problem24 = refl

-- under a minus the left side of an implication keeps both negations
problem25 : problem_of ((Apply Not (Cons (Apply Implies (Cons (Constant 0 Bool) (Cons (ForAll 0 Bool (Variable 0 Bool)) Nil))) Nil)) ∷ []) ≡ record { prefix = ex Bool ∷ ex Bool ∷ []; matrix = (Apply And (Cons (Apply Not (Cons (Apply Not (Cons (Variable 0 Bool) Nil)) Nil)) (Cons (Apply Not (Cons (Variable 1 Bool) Nil)) Nil))) }
unfolding problem_of form_within
problem25 = refl

-- the same choice below a quantifier is not put in, but split there
problem26 : problem_of ((Apply BvUlt (Cons (Apply Ite (Cons (ForAll 0 Bool (Variable 0 Bool)) (Cons (Constant 1 (Bits 2)) (Cons (Constant 2 (Bits 2)) Nil)))) (Cons (Apply Ite (Cons (ForAll 0 (Bits 2) (Apply Equal (Cons (Apply Ite (Cons (ForAll 0 Bool (Variable 0 Bool)) (Cons (Constant 1 (Bits 2)) (Cons (Constant 2 (Bits 2)) Nil)))) (Cons (Variable 0 (Bits 2)) Nil)))) (Cons (Constant 1 (Bits 2)) (Cons (Constant 2 (Bits 2)) Nil)))) Nil))) ∷ []) ≡ record { prefix = ex (Bits 2) ∷ ex (Bits 2) ∷ ex (Bits 2) ∷ ex Bool ∷ ex Bool ∷ ex (Bits 2) ∷ ex Bool ∷ un Bool ∷ un (Bits 2) ∷ un Bool ∷ un (Bits 2) ∷ un Bool ∷ ex Bool ∷ ex Bool ∷ un Bool ∷ un Bool ∷ []; matrix = (Apply Or (Cons (Apply And (Cons (Variable 7 Bool) (Cons (Apply Or (Cons (Apply And (Cons (Apply Or (Cons (Apply And (Cons (Variable 14 Bool) (Cons (Apply Equal (Cons (Variable 0 (Bits 2)) (Cons (Variable 8 (Bits 2)) Nil))) Nil))) (Cons (Apply And (Cons (Apply Not (Cons (Variable 12 Bool) Nil)) (Cons (Apply Equal (Cons (Variable 1 (Bits 2)) (Cons (Variable 8 (Bits 2)) Nil))) Nil))) Nil))) (Cons (Apply BvUlt (Cons (Variable 0 (Bits 2)) (Cons (Variable 0 (Bits 2)) Nil))) Nil))) (Cons (Apply And (Cons (Apply Or (Cons (Apply And (Cons (Variable 9 Bool) (Cons (Apply Not (Cons (Apply Equal (Cons (Variable 0 (Bits 2)) (Cons (Variable 2 (Bits 2)) Nil))) Nil)) Nil))) (Cons (Apply And (Cons (Apply Not (Cons (Variable 3 Bool) Nil)) (Cons (Apply Not (Cons (Apply Equal (Cons (Variable 1 (Bits 2)) (Cons (Variable 2 (Bits 2)) Nil))) Nil)) Nil))) Nil))) (Cons (Apply BvUlt (Cons (Variable 0 (Bits 2)) (Cons (Variable 1 (Bits 2)) Nil))) Nil))) Nil))) Nil))) (Cons (Apply And (Cons (Apply Not (Cons (Variable 4 Bool) Nil)) (Cons (Apply Or (Cons (Apply And (Cons (Apply Or (Cons (Apply And (Cons (Variable 15 Bool) (Cons (Apply Equal (Cons (Variable 0 (Bits 2)) (Cons (Variable 10 (Bits 2)) Nil))) Nil))) (Cons (Apply And (Cons (Apply Not (Cons (Variable 13 Bool) Nil)) (Cons (Apply Equal (Cons (Variable 1 (Bits 2)) (Cons (Variable 10 (Bits 2)) Nil))) Nil))) Nil))) (Cons (Apply BvUlt (Cons (Variable 1 (Bits 2)) (Cons (Variable 0 (Bits 2)) Nil))) Nil))) (Cons (Apply And (Cons (Apply Or (Cons (Apply And (Cons (Variable 11 Bool) (Cons (Apply Not (Cons (Apply Equal (Cons (Variable 0 (Bits 2)) (Cons (Variable 5 (Bits 2)) Nil))) Nil)) Nil))) (Cons (Apply And (Cons (Apply Not (Cons (Variable 6 Bool) Nil)) (Cons (Apply Not (Cons (Apply Equal (Cons (Variable 1 (Bits 2)) (Cons (Variable 5 (Bits 2)) Nil))) Nil)) Nil))) Nil))) (Cons (Apply BvUlt (Cons (Variable 1 (Bits 2)) (Cons (Variable 1 (Bits 2)) Nil))) Nil))) Nil))) Nil))) Nil))) }
unfolding problem_of form_within
problem26 = refl
