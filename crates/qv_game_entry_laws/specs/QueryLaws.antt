-- What an answer about the clauses of formulas says of these.
use Rattle.std.specs.Prelude.{◌≡◌, ◌≢◌, ℕ, ◌<◌, ◌^◌, ◌==◌, Bool, true, if◌then◌else◌, Some, List, [], length, slice_get, All}
use Rattle.std.specs.Int.{bit_at}
use Rattle.qv_words.specs.declared.sort.Sort.{Sort}
use Rattle.qv_words.specs.declared.sort.Sort.TheVariants.{Bool as BoolSort}
use Rattle.qv_words.specs.Tree.{Tree, Variable, IsQuantifierFree}
use Rattle.qv_words.specs.Sorted.{free_levels}
use Rattle.qv_words.specs.Skolem.{IsTermOf}
use Rattle.qv_words.specs.Gate.{Lit, neg, lit_value, clauses_value}
use Rattle.qv_words.specs.Clauses.{bits_of, cnf}
use Rattle.qv_words.specs.Choice.{IsTrueAt, is_in}
use Rattle.qv_circuits_laws.specs.CircuitLaws.{number_of}
use Rattle.qv_circuits_laws.specs.ClauseLaws.{blasted}

-- the clauses of formulas have literals
abbrev pub ClausesHaveLiterals : Type 0
ClausesHaveLiterals = (formulas : List Tree) → All (λ t. IsTermOf t BoolSort) formulas → All (λ c. c ≢ []) (cnf formulas)

-- a place occurs in one of the formulas
abbrev pub OccursIn : List Tree → ℕ → Type 0
OccursIn formulas place = (t : Tree) × (k : ℕ) × (slice_get formulas k ≡ Some t) × (is_in place t ≡ true)

-- a place whose variable has bits does
abbrev pub PlacesWithBitsOccur : Type 0
PlacesWithBitsOccur =
    (formulas : List Tree) (place : ℕ) (s : Sort) (bits : List Lit) → All IsQuantifierFree formulas →
    bits_of (blasted formulas) (Variable place s) ≡ Some bits → OccursIn formulas place

-- a bit of a number, or its negation, as the number has it
abbrev pub as_in : ℕ → ℕ → Lit → Lit
as_in n index bit = if bit_at n index == 1 then bit else neg bit

-- bits that are each as in a number are that number
abbrev pub FixedBitsGiveTheirValue : Type 0
FixedBitsGiveTheirValue =
    (v : ℕ → Bool) (bits : List Lit) (n : ℕ) → n < 2 ^ length bits →
    ((index : ℕ) (bit : Lit) → slice_get bits index ≡ Some bit → lit_value v (as_in n index bit) ≡ true) → number_of v bits ≡ n

-- each variable of the formulas is that of a place, with its sort
abbrev pub AreOver : List Sort → List Tree → Type 0
AreOver sorts formulas = All (λ t. All (λ leaf. slice_get sorts leaf.0 ≡ Some leaf.1) (free_levels t)) formulas

-- values that have, at each place whose variable has bits, the number of these
abbrev pub HavePlaceValues : (ℕ → Bool) → List Sort → List Tree → List ℕ → Type 0
HavePlaceValues v sorts formulas values =
    (place : ℕ) (s : Sort) (bits : List Lit) → slice_get sorts place ≡ Some s → bits_of (blasted formulas) (Variable place s) ≡ Some bits →
    slice_get values place ≡ Some (number_of v bits)

-- they make all formulas true where the assignment makes the clauses true
abbrev pub ModelsMakeTrue : Type 0
ModelsMakeTrue =
    (formulas : List Tree) (sorts : List Sort) (v : ℕ → Bool) (values : List ℕ) → All (λ t. IsTermOf t BoolSort) formulas → AreOver sorts formulas →
    HavePlaceValues v sorts formulas values → clauses_value v (cnf formulas) ≡ true → All (IsTrueAt values) formulas
