-- What was added, as callers see it.
use Rattle.std.proofs.Common.{◌≡◌, ℕ, zero, suc, ◌+◌, ◌<◌, List, [], ◌∷◌, ◌++◌, map, length, refl, sym, ap, ◌∙◌, arith}
use Rattle.std.proofs.lemmas.List.{length-append, map-append}
use Rattle.qv_words.specs.Gate.{Lit, Gate, Circuit, positive_lit, gate_clauses, gates_clauses}
use Rattle.qv_words.specs.Clauses.{variables_from}
use Rattle.qv_cnf.specs.Literal.{Literal}
use Rattle.qv_cnf.specs.Listing.{Listing, with_clause}
use Rattle.qv_cnf_bridge_laws.specs.Bridge.{clauses_for, literal_for}
use Rattle.qv_circuits.specs.declared.faults.CircuitFault.{CircuitFault}
use Rattle.qv_circuits.specs.declared.faults.CircuitFault.TheVariants.{TooManyVariables}
use Rattle.qv_circuits.specs.Adding.{gate_list, with_clauses}
use Rattle.qv_circuits.specs.Encoding.{Encoding, with_each, with_gate, with_gates, with_one, with_variable, run, Ran, Stopped}
use Rattle.qv_circuits.proofs.Running.{gates-next, run-limit}

-- clauses one by one, and all
each-list : (s : Encoding) (cs : List (List Literal)) → (with_each s cs).list ≡ with_clauses s.list s.id cs
each-list s [] = refl
each-list s (c ∷ cs) = each-list (with_one s c) cs

each-id : (s : Encoding) (cs : List (List Literal)) → (with_each s cs).id ≡ s.id + length cs
each-id s [] = omega arith
each-id s (c ∷ cs) = let rest = each-id (with_one s c) cs in omega (arith, rest)

each-next : (s : Encoding) (cs : List (List Literal)) → (with_each s cs).next ≡ s.next
each-next s [] = refl
each-next s (c ∷ cs) = each-next (with_one s c) cs

pub clauses-append : (l : Listing) (id : ℕ) (cs ds : List (List Literal)) → with_clauses l id (cs ++ ds) ≡ with_clauses (with_clauses l id cs) (id + length cs) ds
clauses-append l id [] ds = let same : id + 0 ≡ id = omega arith in rw same refl
clauses-append l id (c ∷ cs) ds =
    let same : suc id + length cs ≡ id + suc (length cs) = omega arith in
    clauses-append (with_clause l id c) (suc id) cs ds ∙ ap (λ (k : ℕ). with_clauses (with_clauses (with_clause l id c) (suc id) cs) k ds) same

-- the clauses of a gate with others behind it
first-gate : (n : ℕ) (g : Gate) (gs : List Gate) → gate_list n (g ∷ gs) ≡ clauses_for (gate_clauses (positive_lit n) g) ++ gate_list (suc n) gs
unfolding gates_clauses
first-gate n g gs = map-append (map literal_for) (gate_clauses (positive_lit n) g) (gates_clauses (suc n) gs)

pub gates-list : (s : Encoding) (gs : List Gate) → (with_gates s gs).list ≡ with_clauses s.list s.id (gate_list s.next gs)
unfolding with_gates gates_clauses
gates-list s [] = refl
gates-list s (g ∷ gs) =
    let first : List (List Literal) = clauses_for (gate_clauses (positive_lit s.next) g) in
    let t : Encoding = with_gate s g in
    let next : t.next ≡ suc s.next = each-next (with_variable s) first in
    let id : t.id ≡ s.id + length first = each-id (with_variable s) first in
    let list : t.list ≡ with_clauses s.list s.id first = each-list (with_variable s) first in
    let rest : (with_gates t gs).list ≡ with_clauses t.list t.id (gate_list t.next gs) = gates-list t gs in
    let there : with_clauses t.list t.id (gate_list t.next gs) ≡ with_clauses (with_clauses s.list s.id first) (s.id + length first) (gate_list (suc s.next) gs) = rw (list, id, next) refl in
    rest ∙ there
    ∙ sym (clauses-append s.list s.id first (gate_list (suc s.next) gs)) ∙ ap (λ (cs : List (List Literal)). with_clauses s.list s.id cs) (sym (first-gate s.next g gs))

pub gates-id : (s : Encoding) (gs : List Gate) → (with_gates s gs).id ≡ s.id + length (gate_list s.next gs)
unfolding with_gates gates_clauses
gates-id s [] = omega arith
gates-id s (g ∷ gs) =
    let first : List (List Literal) = clauses_for (gate_clauses (positive_lit s.next) g) in
    let t : Encoding = with_gate s g in
    let next : t.next ≡ suc s.next = each-next (with_variable s) first in
    let id : t.id ≡ s.id + length first = each-id (with_variable s) first in
    let rest : (with_gates t gs).id ≡ t.id + length (gate_list t.next gs) = gates-id t gs in
    let whole : length (gate_list s.next (g ∷ gs)) ≡ length first + length (gate_list (suc s.next) gs) = ap length (first-gate s.next g gs) ∙ length-append first (gate_list (suc s.next) gs) in
    let same : length (gate_list t.next gs) ≡ length (gate_list (suc s.next) gs) = ap (λ (n : ℕ). length (gate_list n gs)) next in
    omega (arith, id, rest, whole, same)

-- what ran added its gates
pub ran-list : {A : Type 0} (m : Circuit A) {s t : Encoding} {x : A} → Ran s m t x → t.list ≡ with_clauses s.list s.id (gate_list s.next (m s.next).gates)
unfolding run
ran-list {A} m {s} {t} {x} h = sym (ap (λ (p : Encoding × A). p.0.list) h.is) ∙ gates-list s (m s.next).gates

pub ran-id : {A : Type 0} (m : Circuit A) {s t : Encoding} {x : A} → Ran s m t x → t.id ≡ s.id + length (gate_list s.next (m s.next).gates)
unfolding run
ran-id {A} m {s} {t} {x} h = sym (ap (λ (p : Encoding × A). p.0.id) h.is) ∙ gates-id s (m s.next).gates

pub ran-next : {A : Type 0} (m : Circuit A) {s t : Encoding} {x : A} → Ran s m t x → t.next ≡ s.next + length (m s.next).gates
unfolding run
ran-next {A} m {s} {t} {x} h = sym (ap (λ (p : Encoding × A). p.0.next) h.is) ∙ gates-next s (m s.next).gates

pub ran-result : {A : Type 0} (m : Circuit A) {s t : Encoding} {x : A} → Ran s m t x → x ≡ (m s.next).result
unfolding run
ran-result {A} m {s} {t} {x} h = sym (ap (λ (p : Encoding × A). p.1) h.is)

pub run-ends : {A : Type 0} (s : Encoding) (m : Circuit A) → (run s m).0.next ≡ s.next + length (m s.next).gates
unfolding run
run-ends s m = gates-next s (m s.next).gates

-- new variables
pub no-variables : (n : ℕ) → variables_from n 0 ≡ []
unfolding variables_from
no-variables n = refl

pub more-variables : (n k : ℕ) → variables_from n k ++ positive_lit (n + k) ∷ [] ≡ variables_from n (suc k)
unfolding variables_from
more-variables n zero = let same : n + 0 ≡ n = omega arith in rw same refl
more-variables n (suc k) =
    let same : n + suc k ≡ suc n + k = omega arith in
    rw same (ap (λ (r : List Lit). positive_lit n ∷ r) (more-variables (suc n) k))

pub ran-limit : {A : Type 0} (m : Circuit A) {s t : Encoding} {x : A} → Ran s m t x → t.limit ≡ s.limit
ran-limit {A} m {s} {t} {x} h = sym (ap (λ (p : Encoding × A). p.0.limit) h.is) ∙ run-limit s m

-- a variable over the limit was wanted
pub wanted : {A : Type 0} (m : Circuit A) {s t : Encoding} {e : CircuitFault} → Stopped s m t e → e ≡ TooManyVariables → s.limit + 1 < s.next + length (m s.next).gates
wanted {A} m {s} {t} {e} h is = let over : s.limit + 1 < (run s m).0.next = h.over is in omega (arith, over, run-ends s m)
