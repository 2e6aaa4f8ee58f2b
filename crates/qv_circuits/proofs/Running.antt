-- Circuits that run one behind the other.
use Rattle.std.proofs.Common.{◌≡◌, ℕ, ◌+◌, ◌<◌, ◌≤◌, List, [], ◌∷◌, ◌++◌, length, refl, sym, ap, ◌∙◌, subst, arith}
use Rattle.qv_words.specs.Gate.{Gate, Built, Circuit, done, ◌>>=◌, gate, positive_lit, gate_clauses}
use Rattle.qv_cnf.specs.Literal.{Literal}
use Rattle.qv_cnf_bridge_laws.specs.Bridge.{clauses_for}
use Rattle.qv_circuits.specs.declared.faults.CircuitFault.{CircuitFault}
use Rattle.qv_circuits.specs.declared.faults.CircuitFault.TheVariants.{NoMemory}
use Rattle.std.specs.Prelude.{Result, Ok, Err}
use Rattle.std.specs.Result.{IsErrAnd}
use Rattle.std.proofs.lemmas.Result.{err_from_is_err_and}
use Rattle.qv_circuits.specs.Encoding.{Encodes, Encoding, with_one, with_variable, with_each, with_gate, with_gates, run, Ran, Stopped}

-- what clauses leave alone
each-next : (s : Encoding) (cs : List (List Literal)) → (with_each s cs).next ≡ s.next
each-next s [] = refl
each-next s (c ∷ cs) = each-next (with_one s c) cs

each-limit : (s : Encoding) (cs : List (List Literal)) → (with_each s cs).limit ≡ s.limit
each-limit s [] = refl
each-limit s (c ∷ cs) = each-limit (with_one s c) cs

each-base : (s : Encoding) (cs : List (List Literal)) → (with_each s cs).base ≡ s.base
each-base s [] = refl
each-base s (c ∷ cs) = each-base (with_one s c) cs

-- and what gates do
pub gates-next : (s : Encoding) (gs : List Gate) → (with_gates s gs).next ≡ s.next + length gs
unfolding with_gates
gates-next s [] = omega arith
gates-next s (g ∷ gs) =
    let here = each-next (with_variable s) (clauses_for (gate_clauses (positive_lit s.next) g)) in
    let rest = gates-next (with_gate s g) gs in
    omega (arith, here, rest)

pub gates-limit : (s : Encoding) (gs : List Gate) → (with_gates s gs).limit ≡ s.limit
unfolding with_gates
gates-limit s [] = refl
gates-limit s (g ∷ gs) = gates-limit (with_gate s g) gs ∙ each-limit (with_variable s) (clauses_for (gate_clauses (positive_lit s.next) g))

pub gates-base : (s : Encoding) (gs : List Gate) → (with_gates s gs).base ≡ s.base
unfolding with_gates
gates-base s [] = refl
gates-base s (g ∷ gs) = gates-base (with_gate s g) gs ∙ each-base (with_variable s) (clauses_for (gate_clauses (positive_lit s.next) g))

pub gates-append : (s : Encoding) (gs hs : List Gate) → with_gates s (gs ++ hs) ≡ with_gates (with_gates s gs) hs
unfolding with_gates
gates-append s [] hs = refl
gates-append s (g ∷ gs) hs = gates-append (with_gate s g) gs hs

-- one circuit, and from where it leads the next
pub run-bind : {A B : Type 0} (s : Encoding) (m : Circuit A) (f : A → Circuit B) → run s (m >>= f) ≡ run (run s m).0 (f (run s m).1)
unfolding run ◌>>=◌
run-bind {A} {B} s m f =
    let first : Built A = m s.next in
    let at : s.next + length first.gates ≡ (with_gates s first.gates).next = sym (gates-next s first.gates) in
    let P : ℕ → Type 0 = λ n. (with_gates s (first.gates ++ (f first.result n).gates), (f first.result n).result) ≡ run (with_gates s first.gates) (f first.result) in
    let split : (with_gates s (first.gates ++ (f first.result (with_gates s first.gates).next).gates), (f first.result (with_gates s first.gates).next).result) ≡ run (with_gates s first.gates) (f first.result) =
    rw (gates-append s first.gates (f first.result (with_gates s first.gates).next).gates) in
    subst P (sym at) split

pub run-done : {A : Type 0} (s : Encoding) (x : A) → run s (done x) ≡ (s, x)
unfolding run with_gates
run-done s x = refl

-- a circuit goes on, and keeps the limit and the start
pub run-next : {A : Type 0} (s : Encoding) (m : Circuit A) → s.next ≤ (run s m).0.next
unfolding run
run-next s m = omega (arith, gates-next s (m s.next).gates)

pub run-limit : {A : Type 0} (s : Encoding) (m : Circuit A) → (run s m).0.limit ≡ s.limit
unfolding run
run-limit s m = gates-limit s (m s.next).gates

pub run-base : {A : Type 0} (s : Encoding) (m : Circuit A) → (run s m).0.base ≡ s.base
unfolding run
run-base s m = gates-base s (m s.next).gates

-- what ran is the whole
pub ran-done : {A : Type 0} (s : Encoding) (x : A) → Ran s (done x) s x
ran-done s x = record { is = run-done s x }

pub ran-then : {A B : Type 0} (f : A → Circuit B) {s t u : Encoding} {m : Circuit A} {x : A} {y : B} → Ran s m t x → Ran t (f x) u y → Ran s (m >>= f) u y
ran-then {A} {B} f {s} {t} {u} {m} {x} {y} h g =
    let P : Encoding × A → Type 0 = λ p. run s (m >>= f) ≡ run p.0 (f p.1) in
    record { is = subst P h.is (run-bind s m f) ∙ g.is }

-- and what was left off in a part was left off
pub stopped-first : {A B : Type 0} (f : A → Circuit B) {s t : Encoding} {m : Circuit A} {e : CircuitFault} → Stopped s m t e → Stopped s (m >>= f) t e
stopped-first {A} {B} f {s} {t} {m} {e} h = record {
  base = h.base;
  over = λ is.
      let first : s.limit + 1 < (run s m).0.next = h.over is in
      let same : (run s (m >>= f)).0.next ≡ (run (run s m).0 (f (run s m).1)).0.next = ap (λ (p : Encoding × B). p.0.next) (run-bind s m f) in
      omega (arith, same, run-next (run s m).0 (f (run s m).1));
}

pub stopped-then : {A B : Type 0} (f : A → Circuit B) {s t u : Encoding} {m : Circuit A} {x : A} {e : CircuitFault} → Ran s m t x → Stopped t (f x) u e → Stopped s (m >>= f) u e
stopped-then {A} {B} f {s} {t} {u} {m} {x} {e} h g =
    let P : Encoding × A → Type 0 = λ p. run s (m >>= f) ≡ run p.0 (f p.1) in
    let whole : run s (m >>= f) ≡ run t (f x) = subst P h.is (run-bind s m f) in
    let same : (run s (m >>= f)).0.next ≡ (run t (f x)).0.next = ap (λ (p : Encoding × B). p.0.next) whole in
    let limit : t.limit ≡ s.limit = sym (ap (λ (p : Encoding × A). p.0.limit) h.is) ∙ run-limit s m in
    let start : t.base ≡ s.base = sym (ap (λ (p : Encoding × A). p.0.base) h.is) ∙ run-base s m in
    record {
      base = g.base ∙ start;
      over = λ is. let last : t.limit + 1 < (run t (f x)).0.next = g.over is in omega (arith, same, limit);
    }

-- a circuit that is another from here on, with what its result is made to
pub record Continues {A B : Type 0} (s : Encoding) (m : Circuit A) (t : Encoding) (n : Circuit B) (k : B → A) : Type 0 where
  pub is : run s m ≡ ((run t n).0, k (run t n).1)

pub continues-ran : {A B : Type 0} {s t u : Encoding} {m : Circuit A} {n : Circuit B} {k : B → A} {y : B} → Continues s m t n k → Ran t n u y → Ran s m u (k y)
continues-ran {A} {B} {s} {t} {u} {m} {n} {k} {y} h g =
    let P : Encoding × B → Type 0 = λ p. run s m ≡ (p.0, k p.1) in
    record { is = subst P g.is h.is }

pub continues-stopped : {A B : Type 0} {s t u : Encoding} {m : Circuit A} {n : Circuit B} {k : B → A} {e : CircuitFault} → Continues s m t n k → Stopped t n u e → Stopped s m u e
continues-stopped {A} {B} {s} {t} {u} {m} {n} {k} {e} h g =
    let same : (run s m).0.next ≡ (run t n).0.next = ap (λ (p : Encoding × A). p.0.next) h.is in
    let limit : t.limit ≡ s.limit = sym (run-limit t n) ∙ sym (ap (λ (p : Encoding × A). p.0.limit) h.is) ∙ run-limit s m in
    let start : t.base ≡ s.base = sym (run-base t n) ∙ sym (ap (λ (p : Encoding × A). p.0.base) h.is) ∙ run-base s m in
    record {
      base = g.base ∙ start;
      over = λ is. let last : t.limit + 1 < (run t n).0.next = g.over is in omega (arith, same, limit);
    }

pub continues-then : {A B C : Type 0} {s t u : Encoding} {m : Circuit A} {n : Circuit B} {o : Circuit C} {k : B → A} {l : C → B} → Continues s m t n k → Continues t n u o l → Continues s m u o (λ x. k (l x))
continues-then {A} {B} {C} {s} {t} {u} {m} {n} {o} {k} {l} h g =
    let P : Encoding × B → Type 0 = λ p. run s m ≡ (p.0, k p.1) in
    record { is = subst P g.is h.is }

-- a circuit after which another comes
pub continues-bind : {A B : Type 0} (f : A → Circuit B) {s t : Encoding} {m : Circuit A} {x : A} → Ran s m t x → Continues s (m >>= f) t (f x) (λ y. y)
continues-bind {A} {B} f {s} {t} {m} {x} h =
    let P : Encoding × A → Type 0 = λ p. run s (m >>= f) ≡ run p.0 (f p.1) in
    record { is = subst P h.is (run-bind s m f) }

-- one after which its result is made to another
pub continues-map : {A B : Type 0} {s : Encoding} {m : Circuit B} {k : B → A} → Continues s (m >>= λ y. done (k y)) s m k
continues-map {A} {B} {s} {m} {k} = record { is = run-bind s m (λ y. done (k y)) ∙ run-done (run s m).0 (k (run s m).1) }

pub continues-itself : {A : Type 0} {s : Encoding} {m : Circuit A} → Continues s m s m (λ y. y)
continues-itself = record { is = refl }

-- a gate is there with its variable, and wants one
pub gate-ran : (g : Gate) {s t : Encoding} → t ≡ with_gate s g → Ran s (gate g) t (positive_lit s.next)
unfolding run with_gates
gate-ran g {s} {t} h = record { is = ap (λ (u : Encoding). (u, positive_lit s.next)) (sym h) }

pub gate-stopped : (g : Gate) {s t : Encoding} {e : CircuitFault} → t ≡ s → s.limit < s.next → Stopped s (gate g) t e
unfolding run
gate-stopped g {s} {t} {e} h over = record {
  base = ap (λ (u : Encoding). u.base) h;
  over = λ is. omega (arith, gates-next s (g ∷ []));
}

-- a fault that is handed on
pub exits : {A R : Type 0} (r : Result R CircuitFault) (view : R → A) {s t : Encoding} {m : Circuit A} {e : CircuitFault} → IsErrAnd r (λ y. y ≡ e) → Stopped s m t e → Encodes view s m r t
exits {A} {R} r view {s} {t} {m} {e} is h =
    let p = err_from_is_err_and r is in
    rw (p.1, p.2) h

pub continues-same : {A B : Type 0} {s t : Encoding} {m : Circuit A} {n : Circuit B} {k : B → A} (l : B → A) → Continues s m t n k → ((y : B) → k y ≡ l y) → Continues s m t n l
continues-same {A} {B} {s} {t} {m} {n} {k} l h e =
    record { is = h.is ∙ ap (λ (x : A). ((run t n).0, x)) (e (run t n).1) }

-- a circuit that runs as another does
pub record Same {A : Type 0} (m n : Circuit A) : Type 0 where
  pub is : (s : Encoding) → run s m ≡ run s n

pub same-ran : {A : Type 0} {s t : Encoding} {m n : Circuit A} {x : A} → Same n m → Ran s m t x → Ran s n t x
same-ran {A} {s} {t} {m} {n} {x} e h = record { is = e.is s ∙ h.is }

pub same-stopped : {A : Type 0} {s t : Encoding} {m n : Circuit A} {f : CircuitFault} → Same n m → Stopped s m t f → Stopped s n t f
same-stopped {A} {s} {t} {m} {n} {f} e h = record {
  base = h.base;
  over = λ is.
      let last : s.limit + 1 < (run s m).0.next = h.over is in
      let same : (run s n).0.next ≡ (run s m).0.next = ap (λ (p : Encoding × A). p.0.next) (e.is s) in
      omega (arith, same);
}

pub same-bind : {A B : Type 0} (m n : Circuit A) (f g : A → Circuit B) → Same m n → ((x : A) → Same (f x) (g x)) → Same (m >>= f) (n >>= g)
same-bind {A} {B} m n f g e h = record {
  is = λ s.
      let there : run (run s m).0 (f (run s m).1) ≡ run (run s n).0 (f (run s n).1) = ap (λ (p : Encoding × A). run p.0 (f p.1)) (e.is s) in
      run-bind s m f ∙ there ∙ (h (run s n).1).is (run s n).0 ∙ sym (run-bind s n g);
}

-- for want of memory, between two parts
pub unfinished : {A B C : Type 0} {s t u : Encoding} {m : Circuit A} {n : Circuit B} {o : Circuit C} {k : B → A} {x : C} → Continues s m t n k → Ran t o u x → Stopped s m u NoMemory
unfinished {A} {B} {C} {s} {t} {u} {m} {n} {o} {k} {x} h g =
    let start : t.base ≡ s.base = sym (run-base t n) ∙ sym (ap (λ (p : Encoding × A). p.0.base) h.is) ∙ run-base s m in
    let here : u.base ≡ t.base = sym (ap (λ (p : Encoding × C). p.0.base) g.is) ∙ run-base t o in
    record { base = here ∙ start; over = λ is. cc }

-- circuits that run alike, one behind the other
pub same-itself : {A : Type 0} (m : Circuit A) → Same m m
same-itself m = record { is = λ s. refl }

pub same-back : {A : Type 0} {m n : Circuit A} → Same m n → Same n m
same-back {A} {m} {n} e = record { is = λ s. sym (e.is s) }

pub same-then : {A : Type 0} {m n o : Circuit A} → Same m n → Same n o → Same m o
same-then {A} {m} {n} {o} e f = record { is = λ s. e.is s ∙ f.is s }

pub bind-assoc : {A B C : Type 0} (m : Circuit A) (f : A → Circuit B) (g : B → Circuit C) → Same ((m >>= f) >>= g) (m >>= λ x. f x >>= g)
bind-assoc {A} {B} {C} m f g = record {
  is = λ s.
      let first : run (run s (m >>= f)).0 (g (run s (m >>= f)).1) ≡ run (run (run s m).0 (f (run s m).1)).0 (g (run (run s m).0 (f (run s m).1)).1) = ap (λ (p : Encoding × B). run p.0 (g p.1)) (run-bind s m f) in
      run-bind s (m >>= f) g ∙ first ∙ sym (run-bind (run s m).0 (f (run s m).1) g) ∙ sym (run-bind s m (λ x. f x >>= g));
}

pub done-bind : {A B : Type 0} (x : A) (f : A → Circuit B) → Same (done x >>= f) (f x)
done-bind {A} {B} x f = record { is = λ s. run-bind s (done x) f ∙ ap (λ (p : Encoding × A). run p.0 (f p.1)) (run-done s x) }

pub continues-of : {A B : Type 0} {s t : Encoding} {m n : Circuit A} {o : Circuit B} {k : B → A} → Same n m → Continues s n t o k → Continues s m t o k
continues-of {A} {B} {s} {t} {m} {n} {o} {k} e h = record { is = sym (e.is s) ∙ h.is }

-- what is handed on as it came
pub encodes-same : {A R : Type 0} (view : R → A) (r : Result R CircuitFault) (s t : Encoding) {m n : Circuit A} → Same n m → Encodes view s m r t → Encodes view s n r t
encodes-same {A} {R} view (Ok x) s t e h = same-ran e h
encodes-same {A} {R} view (Err f) s t e h = same-stopped e h

pub encodes-then : {A B R : Type 0} (f : A → Circuit B) (view : R → B) (r : Result R CircuitFault) (u : Encoding) {s t : Encoding} {m : Circuit A} {x : A} → Ran s m t x → Encodes view t (f x) r u → Encodes view s (m >>= f) r u
encodes-then {A} {B} {R} f view (Ok y) u h g = ran-then f h g
encodes-then {A} {B} {R} f view (Err e) u h g = stopped-then f h g

pub out-of-memory : {A B : Type 0} {s t : Encoding} {m : Circuit A} {n : Circuit B} {k : B → A} → Continues s m t n k → Stopped s m t NoMemory
out-of-memory {A} {B} {s} {t} {m} {n} {k} h =
    let start : t.base ≡ s.base = sym (run-base t n) ∙ sym (ap (λ (p : Encoding × A). p.0.base) h.is) ∙ run-base s m in
    record { base = start; over = λ is. cc }

pub ran-base : {A : Type 0} {s t : Encoding} {m : Circuit A} {x : A} → Ran s m t x → t.base ≡ s.base
ran-base {A} {s} {t} {m} {x} h = sym (ap (λ (p : Encoding × A). p.0.base) h.is) ∙ run-base s m

pub no-memory : {A : Type 0} {s t : Encoding} {m : Circuit A} → t.base ≡ s.base → Stopped s m t NoMemory
no-memory {A} {s} {t} {m} h = record { base = h; over = λ is. cc }
