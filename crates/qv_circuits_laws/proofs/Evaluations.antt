-- Evaluations of gates: that there are some, and what circuits compute under one.
use Rattle.std.proofs.Common.{◌≡◌, ℕ, suc, ◌+◌, ◌<◌, ◌==◌, Bool, true, false, cond, List, [], ◌∷◌, ◌++◌, length, refl, sym, ap, ◌∙◌, subst, arith}
use Rattle.std.specs.List.{AllByRecursion}
use Rattle.std.proofs.lemmas.Bool.Decides.{nat_tests}
use Rattle.qv_words.specs.Gate.{Lit, Gate, AndGate, XorGate, MuxGate, MajGate, Circuit, done, ◌>>=◌, gate, lit_value, gate_value, IsEvaluation}
use Rattle.qv_circuits_laws.specs.CircuitLaws.{IsBefore, inputs, ReadEarlier}

-- values that agree on what a gate reads give it one value
same-literal : (v w : ℕ → Bool) (l : Lit) → w l.variable ≡ v l.variable → lit_value w l ≡ lit_value v l
same-literal v w l e = rw e

same-gate : (v w : ℕ → Bool) (n : ℕ) (g : Gate) → AllByRecursion (IsBefore n) (inputs g) → ((k : ℕ) → k < n → w k ≡ v k) → gate_value w g ≡ gate_value v g
same-gate v w n (AndGate a b) h e =
    rw (same-literal v w a (e a.variable h.0.earlier), same-literal v w b (e b.variable h.1.0.earlier))
same-gate v w n (XorGate a b) h e =
    rw (same-literal v w a (e a.variable h.0.earlier), same-literal v w b (e b.variable h.1.0.earlier))
same-gate v w n (MuxGate c a b) h e =
    rw (same-literal v w c (e c.variable h.0.earlier), same-literal v w a (e a.variable h.1.0.earlier), same-literal v w b (e b.variable h.1.1.0.earlier))
same-gate v w n (MajGate a b c) h e =
    rw (same-literal v w a (e a.variable h.0.earlier), same-literal v w b (e b.variable h.1.0.earlier), same-literal v w c (e c.variable h.1.1.0.earlier))

-- values with one of them set
pub with_value : (ℕ → Bool) → ℕ → Bool → ℕ → Bool
with_value v n b k = cond (k == n) b (v k)

pub at-value : (v : ℕ → Bool) (n : ℕ) (b : Bool) → with_value v n b n ≡ b
unfolding with_value
at-value v n b = let same : (n == n) ≡ true = grind (arith, nat_tests) in ap (λ t. cond t b (v n)) same

pub past-value : (v : ℕ → Bool) (n k : ℕ) (b : Bool) → k < n → with_value v n b k ≡ v k
unfolding with_value
past-value v n k b h = let other : (k == n) ≡ false = grind (arith, nat_tests) in ap (λ t. cond t b (v k)) other

-- gates that read earlier variables have an evaluation, from any values of those before
pub some-evaluation : (v : ℕ → Bool) (n : ℕ) (gs : List Gate) → ReadEarlier n gs → (w : ℕ → Bool) × IsEvaluation w n gs × ((k : ℕ) → k < n → w k ≡ v k)
some-evaluation v n [] h = (v, tt, λ k below. refl)
some-evaluation v n (g ∷ gs) h =
    let rest = some-evaluation (with_value v n (gate_value v g)) (suc n) gs h.1 in
    let before : (k : ℕ) → k < n → rest.0 k ≡ v k = λ k below. rest.2 k (omega (arith, below)) ∙ past-value v n k (gate_value v g) below in
    let here : rest.0 n ≡ gate_value v g = rest.2 n (let low : n < suc n = omega arith in low) ∙ at-value v n (gate_value v g) in
    (rest.0, (here ∙ sym (same-gate v rest.0 n g h.0 before), rest.1), before)

-- under an evaluation of its gates, Q holds of the result
pub record Computes {A : Type 0} (v : ℕ → Bool) (n : ℕ) (m : Circuit A) (Q : A → Type 0) : Type 0 where
  pub holds : IsEvaluation v n (m n).gates → Q (m n).result

front-evaluation : (v : ℕ → Bool) (n : ℕ) (gs hs : List Gate) → IsEvaluation v n (gs ++ hs) → IsEvaluation v n gs
front-evaluation v n [] hs h = tt
front-evaluation v n (g ∷ gs) hs h = (h.0, front-evaluation v (suc n) gs hs h.1)

back-evaluation : (v : ℕ → Bool) (n : ℕ) (gs hs : List Gate) → IsEvaluation v n (gs ++ hs) → IsEvaluation v (n + length gs) hs
back-evaluation v n [] hs h = subst (λ (k : ℕ). IsEvaluation v k hs) (let same : n ≡ n + 0 = omega arith in same) h
back-evaluation v n (g ∷ gs) hs h =
    let same : suc n + length gs ≡ n + length (g ∷ gs) = omega arith in
    subst (λ (k : ℕ). IsEvaluation v k hs) same (back-evaluation v (suc n) gs hs h.1)

pub done-computes : {A : Type 0} {v : ℕ → Bool} {n : ℕ} {Q : A → Type 0} (x : A) → Q x → Computes v n (done x) Q
done-computes x h = record { holds = λ _. h }

pub then-computes : {A B : Type 0} {v : ℕ → Bool} {n : ℕ} {m : Circuit A} {f : A → Circuit B} {Q : A → Type 0} {R : B → Type 0} → Computes v n m Q → ((k : ℕ) (x : A) → Q x → Computes v k (f x) R) → Computes v n (m >>= f) R
unfolding ◌>>=◌
then-computes {A} {B} {v} {n} {m} {f} {Q} {R} g h = record {
  holds = λ e.
      let k = n + length (m n).gates in
      let x = (m n).result in
      let first = front-evaluation v n (m n).gates (f x k).gates e in
      let second = back-evaluation v n (m n).gates (f x k).gates e in
      (h k x (g.holds first)).holds second;
}

pub gate-computes : {v : ℕ → Bool} {n : ℕ} (g : Gate) → Computes v n (gate g) (λ l. lit_value v l ≡ gate_value v g)
gate-computes g = record { holds = λ e. e.0 }

-- a weaker fact of the result
pub weaker : {A : Type 0} {v : ℕ → Bool} {n : ℕ} {m : Circuit A} {Q R : A → Type 0} → Computes v n m Q → ((x : A) → Q x → R x) → Computes v n m R
weaker {A} {v} {n} {m} {Q} {R} g h = record { holds = λ e. h (m n).result (g.holds e) }

-- two facts of the result
pub together : {A : Type 0} {v : ℕ → Bool} {n : ℕ} {m : Circuit A} {Q R : A → Type 0} → Computes v n m Q → Computes v n m R → Computes v n m (λ x. Q x × R x)
together g h = record { holds = λ e. (g.holds e, h.holds e) }
