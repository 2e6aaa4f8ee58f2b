-- The clauses of two formulas in which one variable stands at two places.
use Rattle.std.proofs.Common.{◌≡◌, ℕ, List, [], ◌∷◌, refl}
use Rattle.qv_words.specs.declared.sort.Sort.TheVariants.{Bits}
use Rattle.qv_words.specs.declared.op.Op.TheVariants.{And, Equal, Extract}
use Rattle.qv_words.specs.Tree.{Tree, Variable, Literal, Apply, Nil, Cons}
use Rattle.qv_words.specs.Prenex.{binary}
use Rattle.qv_words.specs.Gate.{Lit, positive_lit, neg, gates_clauses, ◌>>=◌}
use Rattle.qv_words.specs.Routine.{each, and_all, bits_of_number}
use Rattle.qv_words.specs.OpCircuit.{op_circuit}
use Rattle.qv_words.specs.Clauses.{nodes, cnf, cnf_variables, variables_from}

low_bit : Tree → Tree
low_bit t = Apply (Extract 0 0) (Cons t Nil)

-- (and (= ((_ extract 0 0) x) #b1) (= ((_ extract 0 0) y) #b0))
leaf : Tree → Tree → Tree
leaf x y = binary And (binary Equal (low_bit x) (Literal (Bits 1) 1)) (binary Equal (low_bit y) (Literal (Bits 1) 0))

p : ℕ → Lit
p v = positive_lit v

m : ℕ → Lit
m v = neg (positive_lit v)

clauses : List (List Lit)
clauses =
    (p 1 ∷ [])
    ∷ (m 2 ∷ p 1 ∷ p 1 ∷ []) ∷ (m 2 ∷ m 1 ∷ m 1 ∷ []) ∷ (p 2 ∷ m 1 ∷ p 1 ∷ []) ∷ (p 2 ∷ p 1 ∷ m 1 ∷ [])
    ∷ (m 5 ∷ p 3 ∷ m 1 ∷ []) ∷ (m 5 ∷ m 3 ∷ p 1 ∷ []) ∷ (p 5 ∷ m 3 ∷ m 1 ∷ []) ∷ (p 5 ∷ p 3 ∷ p 1 ∷ [])
    ∷ (m 6 ∷ m 2 ∷ []) ∷ (m 6 ∷ m 5 ∷ []) ∷ (p 6 ∷ p 2 ∷ p 5 ∷ []) ∷ (p 6 ∷ [])
    ∷ (m 7 ∷ p 3 ∷ p 1 ∷ []) ∷ (m 7 ∷ m 3 ∷ m 1 ∷ []) ∷ (p 7 ∷ m 3 ∷ p 1 ∷ []) ∷ (p 7 ∷ p 3 ∷ m 1 ∷ [])
    ∷ (m 10 ∷ p 8 ∷ m 1 ∷ []) ∷ (m 10 ∷ m 8 ∷ p 1 ∷ []) ∷ (p 10 ∷ m 8 ∷ m 1 ∷ []) ∷ (p 10 ∷ p 8 ∷ p 1 ∷ [])
    ∷ (m 11 ∷ m 7 ∷ []) ∷ (m 11 ∷ m 10 ∷ []) ∷ (p 11 ∷ p 7 ∷ p 10 ∷ []) ∷ (p 11 ∷ [])
    ∷ []

-- x is 1 and y the variable 2, and then x is that variable and y the variable 4
siblings : List Tree
siblings = leaf (Literal (Bits 2) 1) (Variable 2 (Bits 2)) ∷ leaf (Variable 2 (Bits 2)) (Variable 4 (Bits 2)) ∷ []

cnf-of-siblings : cnf siblings ≡ clauses
unfolding cnf variables_from bits_of_number op_circuit each and_all gates_clauses ◌>>=◌ siblings leaf low_bit p m clauses
cnf-of-siblings = refl

variables-of-siblings : cnf_variables siblings ≡ 11
unfolding cnf_variables variables_from bits_of_number op_circuit each and_all ◌>>=◌ siblings leaf low_bit
variables-of-siblings = refl

-- their nodes, from the leaves of the first on
nodes-of-siblings : nodes siblings ≡
    Literal (Bits 2) 1
    ∷ low_bit (Literal (Bits 2) 1)
    ∷ Literal (Bits 1) 1
    ∷ binary Equal (low_bit (Literal (Bits 2) 1)) (Literal (Bits 1) 1)
    ∷ Variable 2 (Bits 2)
    ∷ low_bit (Variable 2 (Bits 2))
    ∷ Literal (Bits 1) 0
    ∷ binary Equal (low_bit (Variable 2 (Bits 2))) (Literal (Bits 1) 0)
    ∷ leaf (Literal (Bits 2) 1) (Variable 2 (Bits 2))
    ∷ binary Equal (low_bit (Variable 2 (Bits 2))) (Literal (Bits 1) 1)
    ∷ Variable 4 (Bits 2)
    ∷ low_bit (Variable 4 (Bits 2))
    ∷ binary Equal (low_bit (Variable 4 (Bits 2))) (Literal (Bits 1) 0)
    ∷ leaf (Variable 2 (Bits 2)) (Variable 4 (Bits 2))
    ∷ []
unfolding siblings leaf low_bit
nodes-of-siblings = refl
