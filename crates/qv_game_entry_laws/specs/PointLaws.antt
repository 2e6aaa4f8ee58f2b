-- What a model and a core say where a point's bits are assumed.
use Rattle.std.specs.Prelude.{◌≡◌, ℕ, suc, ◌≤◌, ◌<◌, Bool, true, IsSomeAnd, List, [], ◌∷◌, ◌++◌, map, take, drop, length, slice_get, All, AllPairs, Contains}
use Rattle.std.specs.List.{AllZip, list_all}
use Rattle.qv_words.specs.declared.sort.Sort.{Sort}
use Rattle.qv_words.specs.declared.sort.Sort.TheVariants.{Bool as BoolSort}
use Rattle.qv_words.specs.Sort.{IsValueOf, width_of}
use Rattle.qv_words.specs.Tree.{Tree, Variable}
use Rattle.qv_words.specs.Skolem.{IsTermOf}
use Rattle.qv_words.specs.Gate.{Lit, lit_value, clauses_value}
use Rattle.qv_words.specs.Clauses.{Blasted, cnf}
use Rattle.qv_words.specs.Choice.{IsTrueAt}
use Rattle.qv_words.specs.Linked.{Run, AreApart}
use Rattle.qv_circuits_laws.specs.CircuitLaws.{number_of}
use Rattle.qv_circuits_laws.specs.ClauseLaws.{blasted}
use Rattle.qv_game_entry_laws.specs.BuildingLaws.{IsAssumed}
use Rattle.qv_game_entry_laws.specs.QueryLaws.{AreOver, OccursIn}
use Rattle.qv_game_entry_laws.specs.Fixings.{bits_found, fixings, named_runs}

-- the variables of places from this one on
abbrev pub places_from : ℕ → List Sort → List Tree
places_from place [] = []
places_from place (s ∷ sorts) = Variable place s ∷ places_from (suc place) sorts

-- the values of terms under an assignment: the numbers of their bits
abbrev pub values_under : (ℕ → Bool) → List Blasted → List Tree → List ℕ
values_under v known terms = map (λ t. number_of v (bits_found known t)) terms

-- a point of the first places
abbrev pub IsTyped : List Sort → List ℕ → Type 0
IsTyped sorts point = AllZip IsValueOf point (take (length point) sorts)

-- where an assignment makes the formulas' clauses true and the point's bits are as assumed, the
-- point and the values of the other places make all formulas true
abbrev pub ModelsLeadOn : Type 0
ModelsLeadOn =
    (formulas : List Tree) (sorts : List Sort) (point : List ℕ) (v : ℕ → Bool) → All (λ t. IsTermOf t BoolSort) formulas → AreOver sorts formulas → IsTyped sorts point →
    clauses_value v (cnf formulas) ≡ true → list_all (lit_value v) (fixings (blasted formulas) (places_from 0 sorts) point) ≡ true →
    All (IsTrueAt (point ++ values_under v (blasted formulas) (drop (length point) (places_from 0 sorts)))) formulas

-- a run within the bits of one of the point's places
pub record IsRunOf (sorts : List Sort) (point : List ℕ) (r : Run) : Type 0 where
  pub before : r.place < length point
  pub ordered : r.low ≤ r.high
  pub within : IsSomeAnd (slice_get sorts r.place) (λ s. r.high < width_of s)

-- runs of the point's bits, of places that occur in the formulas, apart from each other, by which
-- all of these literals are assumed
pub record AssumeAll (formulas : List Tree) (sorts : List Sort) (point : List ℕ) (runs : List Run) (core : List Lit) : Type 0 where
  pub each : All (IsRunOf sorts point) runs
  pub occurs : All (λ r. OccursIn formulas r.place) runs
  pub apart : AllPairs AreApart runs
  pub assumed : All (IsAssumed formulas point runs) core

-- the runs of bits whose literals are named assume all literals of a core that are
abbrev pub NamedRunsAssumeAll : Type 0
NamedRunsAssumeAll =
    (formulas : List Tree) (sorts : List Sort) (point : List ℕ) (named : Lit → Bool) (core : List Lit) → All (λ t. IsTermOf t BoolSort) formulas →
    All (λ l. Contains (fixings (blasted formulas) (places_from 0 sorts) point) l) core → All (λ l. named l ≡ true) core →
    AssumeAll formulas sorts point (named_runs named (blasted formulas) 0 (places_from 0 sorts) point) core
