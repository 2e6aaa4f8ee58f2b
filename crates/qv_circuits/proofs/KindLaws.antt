-- The circuits of kinds of operators.
use Rattle.std.proofs.Common.{◌≡◌, ℕ, zero, suc, ◌++◌, Bool, true, false, List, [], ◌∷◌, refl, sym, ap, ◌∙◌, append_assoc, append-nil}
use Rattle.std.specs.Prelude.{if◌then◌else◌}
use Rattle.qv_words.specs.Gate.{Lit, Circuit, neg}
use Rattle.qv_words.specs.Routine.{copies, each, negs}
use Rattle.qv_circuits.specs.declared.faults.CircuitFault.{CircuitFault}
use Rattle.qv_circuits.specs.Encoding.{Encoding, Ran, Stopped}
use Rattle.qv_circuits.specs.Kinds.{bitwise, tested}
use Rattle.qv_circuits.proofs.Running.{ran-done, ran-then, stopped-first}

pub tested-ran : (negate : Bool) (m : Circuit Lit) {s t : Encoding} {x : Lit} → Ran s m t x → Ran s (tested negate m) t ((if negate then neg x else x) ∷ [])
tested-ran true m h = ran-then _ h (ran-done _ _)
tested-ran false m h = ran-then _ h (ran-done _ _)

pub tested-stopped : (negate : Bool) (m : Circuit Lit) {s t : Encoding} {e : CircuitFault} → Stopped s m t e → Stopped s (tested negate m) t e
tested-stopped true m h = stopped-first _ h
tested-stopped false m h = stopped-first _ h

pub negated-ran : (op : Lit → Lit → Circuit Lit) (a b : List Lit) {s t : Encoding} {x : List Lit} → Ran s (each op a b) t x → Ran s (bitwise true op a b) t (negs x)
negated-ran op a b h = ran-then _ h (ran-done _ _)

pub bitwise-stopped : (negate : Bool) (op : Lit → Lit → Circuit Lit) (a b : List Lit) {s t : Encoding} {e : CircuitFault} → Stopped s (each op a b) t e → Stopped s (bitwise negate op a b) t e
bitwise-stopped true op a b h = stopped-first _ h
bitwise-stopped false op a b h = h

-- one more copy
pub copies-more : (k : ℕ) (bits : List Lit) → copies k bits ++ bits ≡ copies (suc k) bits
unfolding copies
copies-more zero bits = sym (append-nil bits)
copies-more (suc k) bits = append_assoc bits (copies k bits) bits ∙ ap (λ (r : List Lit). bits ++ r) (copies-more k bits)

pub copies-none : (bits : List Lit) → copies 0 bits ≡ []
unfolding copies
copies-none bits = refl
