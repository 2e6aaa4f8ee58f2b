-- What gates make of a clause list.
use Rattle.std.specs.Prelude.{◌≡◌, ℕ, suc, ◌+◌, ◌<◌, List, [], ◌∷◌, Result, MatchResult}
use Rattle.qv_words.specs.Gate.{Lit, Gate, Circuit, done, ◌>>=◌, xor, maj, positive_lit, gate_clauses}
use Rattle.qv_cnf.specs.Literal.{Literal}
use Rattle.qv_cnf.specs.Listing.{Listing}
use Rattle.qv_cnf_bridge_laws.specs.Bridge.{clauses_for}
use Rattle.qv_circuits.specs.Adding.{lit_of, with_clauses}
use Rattle.qv_circuits.specs.declared.faults.CircuitFault.{CircuitFault}
use Rattle.qv_circuits.specs.declared.faults.CircuitFault.TheVariants.{TooManyVariables}

-- where a list stands: the next variable and the greatest that may be taken, the next id, the list,
-- and what it was at the start
pub record Encoding : Type 0 where
  pub next : ℕ
  pub limit : ℕ
  pub id : ℕ
  pub list : Listing
  pub base : Listing

-- one more clause, and one more variable
abbrev pub with_one : Encoding → List Literal → Encoding
with_one s lits = record { next = s.next; limit = s.limit; id = suc s.id; list = with_clauses s.list s.id (lits ∷ []); base = s.base }

abbrev pub with_variable : Encoding → Encoding
with_variable s = record { next = suc s.next; limit = s.limit; id = s.id; list = s.list; base = s.base }

abbrev pub with_each : Encoding → List (List Literal) → Encoding
with_each s [] = s
with_each s (c ∷ cs) = with_each (with_one s c) cs

-- one more gate, and gates in their order
abbrev pub with_gate : Encoding → Gate → Encoding
with_gate s g = with_each (with_variable s) (clauses_for (gate_clauses (positive_lit s.next) g))

unfoldable pub with_gates : Encoding → List Gate → Encoding
with_gates s [] = s
with_gates s (g ∷ gs) = with_gates (with_gate s g) gs

-- what a circuit makes of the list, and its result
unfoldable pub run : {A : Type 0} → Encoding → Circuit A → Encoding × A
run s m = (with_gates s (m s.next).gates, (m s.next).result)

-- the circuit led there, with this result
pub record Ran {A : Type 0} (s : Encoding) (m : Circuit A) (t : Encoding) (x : A) : Type 0 where
  pub is : run s m ≡ (t, x)

-- it was left off: the clauses of the start are still there, and for want of variables alone where
-- it wants one that is over the limit
pub record Stopped {A : Type 0} (s : Encoding) (m : Circuit A) (t : Encoding) (e : CircuitFault) : Type 0 where
  pub base : t.base ≡ s.base
  pub over : e ≡ TooManyVariables → s.limit + 1 < (run s m).0.next

abbrev pub Encodes : {A R : Type 0} → (R → A) → Encoding → Circuit A → Result R CircuitFault → Encoding → Type 0
Encodes view s m r t = MatchResult r (λ x. Ran s m t (view x)) (λ e. Stopped s m t e)

-- the sum of three bits, and its carry
abbrev pub full_adder : Lit → Lit → Lit → Circuit (Lit × Lit)
full_adder a b c = do
  x ← xor a b
  s ← xor x c
  k ← maj a b c
  done (s, k)

abbrev pub lits_of_pair : Literal × Literal → Lit × Lit
lits_of_pair p = (lit_of p.0, lit_of p.1)
