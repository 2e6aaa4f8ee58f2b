-- Gates over literals, and what builds a list of them. Each gate takes the next variable, which has
-- its value, and adds its clauses (Tseitin's encoding, with the clauses in an order of this
-- project's own).
use Rattle.std.specs.Prelude.{ℕ, ◌+◌, Bool, true, not, ◌&&◌, ◌||◌, if◌then◌else◌, List, [], ◌∷◌, ◌++◌, length, suc, ◌≡◌}
use Rattle.std.specs.List.{list_any, list_all}

-- a variable, or its negation
pub record Lit : Type 0 where
  pub variable : ℕ
  pub positive : Bool

abbrev pub positive_lit : ℕ → Lit
positive_lit v = record { variable = v; positive = true }

abbrev pub neg : Lit → Lit
neg l = record { variable = l.variable; positive = not l.positive }

-- variable 1 is true
abbrev pub yes : Lit
yes = positive_lit 1

abbrev pub no : Lit
no = neg yes

pub data Gate : Type 0 where
  AndGate : (a b : Lit) → Gate
  XorGate : (a b : Lit) → Gate
  MuxGate : (c a b : Lit) → Gate
  MajGate : (a b c : Lit) → Gate

-- the clauses of a gate whose variable is g
abbrev pub gate_clauses : Lit → Gate → List (List Lit)
gate_clauses g (AndGate a b) =
    (neg g ∷ a ∷ []) ∷ (neg g ∷ b ∷ []) ∷ (g ∷ neg a ∷ neg b ∷ []) ∷ []
gate_clauses g (XorGate a b) =
    (neg g ∷ a ∷ b ∷ []) ∷ (neg g ∷ neg a ∷ neg b ∷ []) ∷ (g ∷ neg a ∷ b ∷ []) ∷ (g ∷ a ∷ neg b ∷ []) ∷ []
gate_clauses g (MuxGate c a b) =
    (neg c ∷ neg a ∷ g ∷ []) ∷ (neg c ∷ a ∷ neg g ∷ []) ∷ (c ∷ neg b ∷ g ∷ []) ∷ (c ∷ b ∷ neg g ∷ []) ∷ []
gate_clauses g (MajGate a b c) =
    (neg a ∷ neg b ∷ g ∷ []) ∷ (neg a ∷ neg c ∷ g ∷ []) ∷ (neg b ∷ neg c ∷ g ∷ [])
    ∷ (a ∷ b ∷ neg g ∷ []) ∷ (a ∷ c ∷ neg g ∷ []) ∷ (b ∷ c ∷ neg g ∷ []) ∷ []

-- the clauses of gates, the first of which has this variable
unfoldable pub gates_clauses : ℕ → List Gate → List (List Lit)
gates_clauses next [] = []
gates_clauses next (g ∷ gs) = gate_clauses (positive_lit next) g ++ gates_clauses (suc next) gs

-- the value of a literal, and of a gate, under values of the variables
abbrev pub lit_value : (ℕ → Bool) → Lit → Bool
lit_value v l = if l.positive then v l.variable else not (v l.variable)

abbrev pub gate_value : (ℕ → Bool) → Gate → Bool
gate_value v (AndGate a b) = lit_value v a && lit_value v b
gate_value v (XorGate a b) = if lit_value v a then not (lit_value v b) else lit_value v b
gate_value v (MuxGate c a b) = if lit_value v c then lit_value v a else lit_value v b
gate_value v (MajGate a b c) =
    (lit_value v a && lit_value v b) || (lit_value v a && lit_value v c) || (lit_value v b && lit_value v c)

-- whether a clause, or every one of a list, is true
abbrev pub clause_value : (ℕ → Bool) → List Lit → Bool
clause_value v lits = list_any (lit_value v) lits

abbrev pub clauses_value : (ℕ → Bool) → List (List Lit) → Bool
clauses_value v clauses = list_all (clause_value v) clauses

-- each gate's variable has the gate's value; the first of them has this number
abbrev pub IsEvaluation : (ℕ → Bool) → ℕ → List Gate → Type 0
IsEvaluation v next [] = Unit {0}
IsEvaluation v next (g ∷ gs) = (v next ≡ gate_value v g) × IsEvaluation v (suc next) gs

-- what was built: gates, and a result over their variables
pub record Built (A : Type 0) : Type 0 where
  pub gates : List Gate
  pub result : A

-- a circuit is given the next variable
abbrev pub Circuit : Type 0 → Type 0
Circuit A = ℕ → Built A

-- no gate
abbrev pub done : {A : Type 0} → A → Circuit A
done x next = record { gates = []; result = x }

infixl 10 ◌>>=◌
-- one circuit, and behind its gates those of another
unfoldable pub ◌>>=◌ : {A B : Type 0} → Circuit A → (A → Circuit B) → Circuit B
◌>>=◌ m f next =
    let first = m next in
    let second = f first.result (next + length first.gates) in
    record { gates = first.gates ++ second.gates; result = second.result }

-- a gate, whose result is its variable
abbrev pub gate : Gate → Circuit Lit
gate g next = record { gates = g ∷ []; result = positive_lit next }

abbrev pub and : Lit → Lit → Circuit Lit
and a b = gate (AndGate a b)

abbrev pub xor : Lit → Lit → Circuit Lit
xor a b = gate (XorGate a b)

abbrev pub mux : Lit → Lit → Lit → Circuit Lit
mux c a b = gate (MuxGate c a b)

abbrev pub maj : Lit → Lit → Lit → Circuit Lit
maj a b c = gate (MajGate a b c)

-- the negation of the negations' conjunction
abbrev pub or : Lit → Lit → Circuit Lit
or a b = do
  g ← and (neg a) (neg b)
  done (neg g)
