-- The models of the clauses of gates are the evaluations of the gates.
use Rattle.std.proofs.Common.{◌≡◌, ℕ, suc, Bool, true, false, not, ◌&&◌, ◌||◌, cond, List, [], ◌∷◌, refl, sym, ap, ◌∙◌}
use Rattle.std.proofs.lemmas.List.Folds.{list_all-append}
use Rattle.qv_words.specs.Gate.{Lit, positive_lit, neg, Gate, AndGate, XorGate, MuxGate, MajGate, gate_clauses, gates_clauses, lit_value, gate_value, clause_value, clauses_value, IsEvaluation}
use Rattle.std.proofs.lemmas.Bool.{and_parts}

-- a negated literal has the other value
by-sign : (x positive : Bool) → cond (not positive) x (not x) ≡ not (cond positive x (not x))
by-sign true true = refl
by-sign true false = refl
by-sign false true = refl
by-sign false false = refl

pub neg-value : (v : ℕ → Bool) (l : Lit) → lit_value v (neg l) ≡ not (lit_value v l)
neg-value v l = by-sign (v l.variable) l.positive

-- whether two truth values are the same
abbrev pub alike : Bool → Bool → Bool
alike true b = b
alike false b = not b

alike-is : (a b : Bool) → alike a b ≡ true → a ≡ b
alike-is true true h = refl
alike-is true false h = cc
alike-is false true h = cc
alike-is false false h = refl

alike-refl : (a : Bool) → alike a a ≡ true
alike-refl true = refl
alike-refl false = refl

-- the clauses of each gate, by the values of its variable and its literals
and-table : (g a b : Bool) → ((not g || (a || false)) && ((not g || (b || false)) && ((g || (not a || (not b || false))) && true))) ≡ alike g (a && b)
and-table true true true = refl
and-table true true false = refl
and-table true false true = refl
and-table true false false = refl
and-table false true true = refl
and-table false true false = refl
and-table false false true = refl
and-table false false false = refl

xor-table : (g a b : Bool) → ((not g || (a || (b || false))) && ((not g || (not a || (not b || false))) && ((g || (not a || (b || false))) && ((g || (a || (not b || false))) && true)))) ≡ alike g (cond a (not b) b)
xor-table true true true = refl
xor-table true true false = refl
xor-table true false true = refl
xor-table true false false = refl
xor-table false true true = refl
xor-table false true false = refl
xor-table false false true = refl
xor-table false false false = refl

mux-table : (g c a b : Bool) → ((not c || (not a || (g || false))) && ((not c || (a || (not g || false))) && ((c || (not b || (g || false))) && ((c || (b || (not g || false))) && true)))) ≡ alike g (cond c a b)
mux-table true true true true = refl
mux-table true true true false = refl
mux-table true true false true = refl
mux-table true true false false = refl
mux-table true false true true = refl
mux-table true false true false = refl
mux-table true false false true = refl
mux-table true false false false = refl
mux-table false true true true = refl
mux-table false true true false = refl
mux-table false true false true = refl
mux-table false true false false = refl
mux-table false false true true = refl
mux-table false false true false = refl
mux-table false false false true = refl
mux-table false false false false = refl

maj-table : (g a b c : Bool) → ((not a || (not b || (g || false))) && ((not a || (not c || (g || false))) && ((not b || (not c || (g || false))) && ((a || (b || (not g || false))) && ((a || (c || (not g || false))) && ((b || (c || (not g || false))) && true)))))) ≡ alike g ((a && b) || (a && c) || (b && c))
maj-table true true true true = refl
maj-table true true true false = refl
maj-table true true false true = refl
maj-table true true false false = refl
maj-table true false true true = refl
maj-table true false true false = refl
maj-table true false false true = refl
maj-table true false false false = refl
maj-table false true true true = refl
maj-table false true true false = refl
maj-table false true false true = refl
maj-table false true false false = refl
maj-table false false true true = refl
maj-table false false true false = refl
maj-table false false false true = refl
maj-table false false false false = refl

-- a gate's clauses hold exactly where its variable has the gate's value
gate-clauses : (v : ℕ → Bool) (n : ℕ) (g : Gate) → clauses_value v (gate_clauses (positive_lit n) g) ≡ alike (v n) (gate_value v g)
gate-clauses v n (AndGate a b) = rw (neg-value v a, neg-value v b) (and-table (v n) (lit_value v a) (lit_value v b))
gate-clauses v n (XorGate a b) = rw (neg-value v a, neg-value v b) (xor-table (v n) (lit_value v a) (lit_value v b))
gate-clauses v n (MuxGate c a b) = rw (neg-value v a, neg-value v b, neg-value v c) (mux-table (v n) (lit_value v c) (lit_value v a) (lit_value v b))
gate-clauses v n (MajGate a b c) = rw (neg-value v a, neg-value v b, neg-value v c) (maj-table (v n) (lit_value v a) (lit_value v b) (lit_value v c))

-- two tests that and_parts hold
-- the clauses of a list of gates are those of its first and those of the others
split : (v : ℕ → Bool) (n : ℕ) (g : Gate) (gs : List Gate) → clauses_value v (gates_clauses n (g ∷ gs)) ≡ (alike (v n) (gate_value v g) && clauses_value v (gates_clauses (suc n) gs))
unfolding gates_clauses
split v n g gs =
    list_all-append (clause_value v) (gate_clauses (positive_lit n) g) (gates_clauses (suc n) gs)
    ∙ ap (λ b. b && clauses_value v (gates_clauses (suc n) gs)) (gate-clauses v n g)

-- a model evaluates each gate
pub model-evaluates : (v : ℕ → Bool) (n : ℕ) (gs : List Gate) → clauses_value v (gates_clauses n gs) ≡ true → IsEvaluation v n gs
model-evaluates v n [] h = tt
model-evaluates v n (g ∷ gs) h =
    let parts = and_parts (alike (v n) (gate_value v g)) (clauses_value v (gates_clauses (suc n) gs)) (sym (split v n g gs) ∙ h) in
    (alike-is (v n) (gate_value v g) parts.0, model-evaluates v (suc n) gs parts.1)

-- an evaluation is a model
pub evaluation-models : (v : ℕ → Bool) (n : ℕ) (gs : List Gate) → IsEvaluation v n gs → clauses_value v (gates_clauses n gs) ≡ true
unfolding gates_clauses
evaluation-models v n [] h = refl
evaluation-models v n (g ∷ gs) h =
    let rest : clauses_value v (gates_clauses (suc n) gs) ≡ true = evaluation-models v (suc n) gs h.1 in
    split v n g gs ∙ rw (h.0, alike-refl (gate_value v g), rest) refl
