-- What pins circuits down, and the theorem that they are for.
use Rattle.std.specs.Prelude.{◌≡◌, ℕ, suc, ◌+◌, ◌*◌, ◌/◌, ◌%◌, ◌^◌, ◌≤◌, ◌<◌, Bool, true, false, Some, List, [], ◌∷◌, map, length, ◌-◌, nat_lt, if◌then◌else◌}
use Rattle.std.specs.List.{All, AllZip, AllByRecursion}
use Rattle.qv_words.specs.declared.sort.Sort.{Sort}
use Rattle.qv_words.specs.declared.op.Op.{Op}
use Rattle.qv_words.specs.Sort.{IsLawful, width_of}
use Rattle.qv_words.specs.Rank.{result_sort}
use Rattle.qv_words.specs.Op.{op_value, truth, quotient, remainder, shifted_left, shifted_right, shifted_signed}
use Rattle.qv_words.specs.Gate.{Lit, Gate, AndGate, XorGate, MuxGate, MajGate, Built, no, lit_value, gates_clauses, clauses_value, IsEvaluation}
use Rattle.qv_words.specs.Routine.{top, add, sub, sel, ult, mul, shift, div}
use Rattle.qv_words.specs.OpCircuit.{op_circuit}

-- the models of the clauses of gates are the evaluations of the gates
abbrev pub ModelsAreEvaluations : Type 0
ModelsAreEvaluations =
    (v : ℕ → Bool) (next : ℕ) (gates : List Gate) →
    (clauses_value v (gates_clauses next gates) ≡ true → IsEvaluation v next gates)
    × (IsEvaluation v next gates → clauses_value v (gates_clauses next gates) ≡ true)

-- a literal of a variable before this one
pub record IsBefore (next : ℕ) (l : Lit) : Type 0 where
  pub some : 1 ≤ l.variable
  pub earlier : l.variable < next

-- what a gate reads
abbrev pub inputs : Gate → List Lit
inputs (AndGate a b) = a ∷ b ∷ []
inputs (XorGate a b) = a ∷ b ∷ []
inputs (MuxGate c a b) = c ∷ a ∷ b ∷ []
inputs (MajGate a b c) = a ∷ b ∷ c ∷ []

-- each gate reads variables before its own; the first of them has this number
abbrev pub ReadEarlier : ℕ → List Gate → Type 0
ReadEarlier next [] = Unit {0}
ReadEarlier next (g ∷ gs) = AllByRecursion (IsBefore next) (inputs g) × ReadEarlier (suc next) gs

-- so many bits, of variables before this one
pub record IsWord (width next : ℕ) (bits : List Lit) : Type 0 where
  pub bit_count : length bits ≡ width
  pub earlier : AllByRecursion (IsBefore next) bits

-- gates in order, and a result of so many bits over their variables and those before
pub record IsWellFormed (width next : ℕ) (built : Built (List Lit)) : Type 0 where
  pub gates : ReadEarlier next built.gates
  pub result : IsWord width (next + length built.gates) built.result

-- an operator's circuit at bits of its rank is well formed
abbrev pub CircuitsAreWellFormed : Type 0
CircuitsAreWellFormed =
    (o : Op) (sorts : List Sort) (s : Sort) (args : List (List Lit)) (next : ℕ) → 2 ≤ next → All IsLawful sorts → result_sort o sorts ≡ Some s →
    AllZip (λ bits sort. IsWord (width_of sort) next bits) args sorts → IsWellFormed (width_of s) next (op_circuit o args next)

-- gates that read earlier variables have an evaluation, whatever those are
abbrev pub GatesHaveEvaluations : Type 0
GatesHaveEvaluations =
    (v : ℕ → Bool) (next : ℕ) (gates : List Gate) → ReadEarlier next gates →
    (w : ℕ → Bool) × IsEvaluation w next gates × ((k : ℕ) → k < next → w k ≡ v k)

-- the number of some bits under values of the variables
abbrev pub number_of : (ℕ → Bool) → List Lit → ℕ
number_of v [] = 0
number_of v (l ∷ ls) = truth (lit_value v l) + 2 * number_of v ls

-- the bits of a sum are those of the sum of the numbers, and its carry is what is left over
abbrev pub SumsAreSums : Type 0
SumsAreSums =
    (v : ℕ → Bool) (next : ℕ) (a b : List Lit) (c : Lit) → length a ≡ length b → IsEvaluation v next (add a b c next).gates →
    (number_of v (add a b c next).result.0 ≡ (number_of v a + number_of v b + truth (lit_value v c)) % 2 ^ length a)
    × (truth (lit_value v (add a b c next).result.1) ≡ (number_of v a + number_of v b + truth (lit_value v c)) / 2 ^ length a)

-- the bits of a difference are those of the difference of the numbers
abbrev pub DifferencesSubtract : Type 0
DifferencesSubtract =
    (v : ℕ → Bool) (next : ℕ) (a b : List Lit) → v 1 ≡ true → length a ≡ length b → IsEvaluation v next (sub a b next).gates →
    number_of v (sub a b next).result.0 ≡ (number_of v a + 2 ^ length a - number_of v b) % 2 ^ length a

-- the bits of a choice are those of the list that is chosen
abbrev pub ChoicesChoose : Type 0
ChoicesChoose =
    (v : ℕ → Bool) (next : ℕ) (c : Lit) (a b : List Lit) → length a ≡ length b → IsEvaluation v next (sel c a b next).gates →
    number_of v (sel c a b next).result ≡ (if lit_value v c then number_of v a else number_of v b)

-- a comparison is that of the numbers
abbrev pub ComparisonsCompare : Type 0
ComparisonsCompare =
    (v : ℕ → Bool) (next : ℕ) (a b : List Lit) → v 1 ≡ true → length a ≡ length b → IsEvaluation v next (ult a b next).gates →
    lit_value v (ult a b next).result ≡ nat_lt (number_of v a) (number_of v b)

-- the bits of a product are those of the product of the numbers
abbrev pub ProductsMultiply : Type 0
ProductsMultiply =
    (v : ℕ → Bool) (next : ℕ) (a b : List Lit) → v 1 ≡ true → IsEvaluation v next (mul a b next).gates →
    number_of v (mul a b next).result ≡ number_of v a * number_of v b % 2 ^ length a

-- the bits of a logical shift to the left are those of the number that is shifted by the other
abbrev pub LeftShiftsShift : Type 0
LeftShiftsShift =
    (v : ℕ → Bool) (next : ℕ) (a b : List Lit) → v 1 ≡ true → IsEvaluation v next (shift true no a b next).gates →
    number_of v (shift true no a b next).result ≡ shifted_left (length a) (number_of v a) (number_of v b)

-- so are those of a logical shift to the right
abbrev pub RightShiftsShift : Type 0
RightShiftsShift =
    (v : ℕ → Bool) (next : ℕ) (a b : List Lit) → v 1 ≡ true → IsEvaluation v next (shift false no a b next).gates →
    number_of v (shift false no a b next).result ≡ shifted_right (length a) (number_of v a) (number_of v b)

-- and, filled with the top bit, those of a shift to the right that keeps the sign
abbrev pub SignedShiftsShift : Type 0
SignedShiftsShift =
    (v : ℕ → Bool) (next : ℕ) (a b : List Lit) → v 1 ≡ true → IsEvaluation v next (shift false (top a) a b next).gates →
    number_of v (shift false (top a) a b next).result ≡ shifted_signed (length a) (number_of v a) (number_of v b)

-- the bits of a division are those of the quotient and of the remainder: by zero, all ones and the
-- first number
abbrev pub DivisionsDivide : Type 0
DivisionsDivide =
    (v : ℕ → Bool) (next : ℕ) (a b : List Lit) → v 1 ≡ true → length a ≡ length b → IsEvaluation v next (div a b next).gates →
    (number_of v (div a b next).result.0 ≡ quotient (length a) (number_of v a) (number_of v b))
    × (number_of v (div a b next).result.1 ≡ remainder (number_of v a) (number_of v b))

-- the theorem of circuits: under each evaluation of its gates an operator's circuit has the
-- operator's value
abbrev pub CircuitTheorem : Type 0
CircuitTheorem =
    (o : Op) (sorts : List Sort) (s : Sort) (args : List (List Lit)) (next : ℕ) (v : ℕ → Bool) → v 1 ≡ true → All IsLawful sorts → result_sort o sorts ≡ Some s →
    AllZip (λ bits sort. length bits ≡ width_of sort) args sorts → IsEvaluation v next (op_circuit o args next).gates →
    number_of v (op_circuit o args next).result ≡ op_value o sorts (map (number_of v) args)
