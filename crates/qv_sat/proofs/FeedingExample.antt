-- Feedings without a step, with one step, and with a clause behind the first step, computed.
use Rattle.std.proofs.Common.{ℕ, Bool, true, false, List, [], ◌∷◌, pos, refl, arith}
use Rattle.std.proofs.lemmas.Bool.{false≢true}
use Rattle.qv_cnf.specs.Listing.{Numbered}
use Rattle.qv_cnf.specs.Literal.{Literal}
use Rattle.qv_cnf.specs.LratLine.{LratLine, Addition}
use Rattle.qv_cnf.specs.Refutation.{Refutes}
use Rattle.qv_sat.specs.Feeding.{ComesFirst, IsAccepted, IsRefuted}

abbrev lit : Bool → Literal
lit sign = record { variable = 1; positive = sign }

abbrev clause : ℕ → Bool → Numbered
clause id sign = record { id = id; lits = lit sign ∷ [] }

-- the clauses [1] and [-1]
abbrev base : List Numbered
base = clause 1 true ∷ clause 2 false ∷ []

abbrev one_step : List LratLine
one_step = Addition 3 [] (pos 1 ∷ pos 2 ∷ []) ∷ []

-- without a step they are taken, come first, and aren't refuted
taken : IsAccepted base []
taken = (omega arith, (omega arith, tt))

not_refuted : IsRefuted base [] → ⊥
not_refuted r = false≢true r

-- one step refutes them
first : ComesFirst base one_step
first = refl

accepted : IsAccepted base one_step
accepted = ((omega arith, (omega arith, tt)), refl, tt)

refuted : IsRefuted base one_step
refuted = refl

refutes : Refutes base one_step
refutes = refl

-- a clause that comes behind the first step: both steps are accepted and refute, but not where all clauses are given first
abbrev late : List Numbered
late = clause 1 true ∷ clause 3 false ∷ []

abbrev two_steps : List LratLine
two_steps = Addition 2 (lit true ∷ lit true ∷ []) (pos 1 ∷ []) ∷ Addition 4 [] (pos 1 ∷ pos 3 ∷ []) ∷ []

late_not_first : ComesFirst late two_steps → ⊥
late_not_first f = false≢true f

late_accepted : IsAccepted late two_steps
late_accepted = ((omega arith, tt), refl, ((omega arith, tt), refl, tt))

late_refuted : IsRefuted late two_steps
late_refuted = refl

late_alone : Refutes late two_steps → ⊥
late_alone r = false≢true r
