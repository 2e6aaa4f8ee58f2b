-- The gates of a shift of four bits, in their order, and of a disjunction of three.
use Rattle.std.proofs.Common.{◌≡◌, ℕ, [], ◌∷◌, refl}
use Rattle.qv_words.specs.declared.op.Op.TheVariants.{BvShl}
use Rattle.qv_words.specs.Gate.{Lit, AndGate, MuxGate, positive_lit, neg, no, ◌>>=◌}
use Rattle.qv_words.specs.Routine.{sel, stages, or_all, disjunction_of}
use Rattle.qv_words.specs.OpCircuit.{op_circuit}
use Rattle.qv_words.specs.Clauses.{variables_from}

abbrev p : ℕ → Lit
p v = positive_lit v

abbrev m : ℕ → Lit
m v = neg (positive_lit v)

-- by one place and by two, then the higher bits of the amount, then zeros where one of these is set
shift-of-four : op_circuit BvShl (variables_from 2 4 ∷ variables_from 6 4 ∷ []) 10 ≡
    record {
      gates =
          MuxGate (p 6) no (p 2) ∷ MuxGate (p 6) (p 2) (p 3) ∷ MuxGate (p 6) (p 3) (p 4) ∷ MuxGate (p 6) (p 4) (p 5)
          ∷ MuxGate (p 7) no (p 10) ∷ MuxGate (p 7) no (p 11) ∷ MuxGate (p 7) (p 10) (p 12) ∷ MuxGate (p 7) (p 11) (p 13)
          ∷ AndGate (m 8) (m 9)
          ∷ MuxGate (m 18) no (p 14) ∷ MuxGate (m 18) no (p 15) ∷ MuxGate (m 18) no (p 16) ∷ MuxGate (m 18) no (p 17) ∷ [];
      result = p 19 ∷ p 20 ∷ p 21 ∷ p 22 ∷ [];
    }
unfolding op_circuit variables_from stages sel or_all ◌>>=◌
shift-of-four = refl

-- from the first on
disjunction-of-three : disjunction_of (p 2 ∷ p 3 ∷ p 4 ∷ []) 5 ≡ record { gates = AndGate (m 2) (m 3) ∷ AndGate (p 5) (m 4) ∷ []; result = m 6 }
unfolding or_all ◌>>=◌
disjunction-of-three = refl
