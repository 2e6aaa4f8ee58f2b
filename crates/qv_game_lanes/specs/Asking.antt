-- What a lane is asked, and what it answers.
use Rattle.std.specs.Prelude.{◌≡◌, ℕ, ◌<◌, Bool, true, List, ◌++◌, take, drop, length, All, Contains}
use Rattle.std.specs.List.{list_all}
use Rattle.qv_words.specs.declared.sort.Sort.{Sort}
use Rattle.qv_words.specs.declared.word.Word.{Word}
use Rattle.qv_words.specs.Word.{sorts_of, values_of}
use Rattle.qv_words.specs.Tree.{Tree}
use Rattle.qv_words.specs.Gate.{Lit, lit_value, clauses_value}
use Rattle.qv_words.specs.Clauses.{cnf}
use Rattle.qv_words.specs.Choice.{IsTrueAt}
use Rattle.qv_circuits_laws.specs.ClauseLaws.{blasted}
use Rattle.qv_circuits.specs.Adding.{lits_of}
use Rattle.qv_game_entry_laws.specs.Fixings.{fixings}
use Rattle.qv_game_entry_laws.specs.PointLaws.{places_from}
use Rattle.qv_store.specs.Walks.{named}
use Rattle.qv_game_lanes.specs.declared.asking.Answer.{Answer}
use Rattle.qv_game_lanes.specs.declared.asking.Answer.TheVariants.{Values, Core}

-- ids of the variables of all places, which have these sorts, and a point of the first ones
pub record ArePlaces (trees : List Tree) (ids : List ℕ) (sorts : List Sort) (point : List Word) : Type 0 where
  pub low : All (λ n. n < length trees) ids
  pub variables : named trees ids ≡ places_from 0 sorts
  pub typed : sorts_of point ≡ take (length point) sorts

-- values of the other places with which the point makes all formulas true
pub record MakeTrue (formulas : List Tree) (sorts : List Sort) (point values : List Word) : Type 0 where
  pub sorts_are : sorts_of values ≡ drop (length point) sorts
  pub each : All (IsTrueAt (values_of point ++ values_of values)) formulas

-- literals that each fix a bit of the point as it is there, and with which no assignment makes the
-- formulas' clauses true
pub record LeavesNone (formulas : List Tree) (sorts : List Sort) (point : List Word) (core : List Lit) : Type 0 where
  pub each : All (Contains (fixings (blasted formulas) (places_from 0 sorts) (values_of point))) core
  pub no_model : (v : ℕ → Bool) → clauses_value v (cnf formulas) ≡ true → list_all (lit_value v) core ≡ true → ⊥

abbrev pub IsAnswer : List Tree → List Sort → List Word → Answer → Type 0
IsAnswer formulas sorts point (Values values) = MakeTrue formulas sorts point values.items
IsAnswer formulas sorts point (Core core) = LeavesNone formulas sorts point (lits_of core.items)
