-- What final lists are for: their clauses have no model, and their refutation is charged.
use Rattle.std.specs.Prelude.{◌≡◌, ℕ, ◌<◌, ◌≤◌, Bool, true, Option, List, [], ◌++◌, All}
use Rattle.qv_words.specs.declared.sort.Sort.{Sort}
use Rattle.qv_words.specs.declared.sort.Sort.TheVariants.{Bool as BoolSort}
use Rattle.qv_words.specs.Tree.{Tree}
use Rattle.qv_words.specs.Sorted.{free_levels}
use Rattle.qv_words.specs.Skolem.{IsTermOf}
use Rattle.qv_words.specs.Gate.{clauses_value}
use Rattle.qv_words.specs.Clauses.{cnf, cnf_variables}
use Rattle.qv_words.specs.Problem.{Problem, Quantifier}
use Rattle.qv_words.specs.Linked.{Entry, IsLinked}
use Rattle.qv_words.specs.GameLaws.{IsProblem, HasWon, MakesAllTrue}
use Rattle.qv_rewrite_passes.specs.declared.pass.Pass.{Pass}
use Rattle.qv_rewrite_passes.specs.Passes.{behind_all}
use Rattle.qv_cnf.specs.Listing.{Numbered}
use Rattle.qv_meter.specs.Bases.{IsBaseOf}
use Rattle.qv_meter.specs.Played.{IsPlayed}
use Rattle.qv_meter.specs.Finals.{IsFinalList, instances_of}
use Rattle.qv_meter.specs.Units.{Final, IsOverLarge, MayGoOn}

-- each variable of the formulas has its level's sort
abbrev pub HaveLevelSorts : (ℕ → Sort) → List Tree → Type 0
HaveLevelSorts sorts formulas = All (λ t. All (λ leaf. leaf.1 ≡ sorts leaf.0) (free_levels t)) formulas

-- no assignment makes all clauses of these formulas true
abbrev pub HaveNoModel : List Tree → Type 0
HaveNoModel formulas = (v : ℕ → Bool) → clauses_value v (cnf formulas) ≡ true → ⊥

-- formulas without quantifiers and constants that no values make all true have clauses without a
-- model, also behind passes
abbrev pub FalseListsHaveNoModel : Type 0
FalseListsHaveNoModel =
    (passes : List Pass) (formulas : List Tree) (sorts : ℕ → Sort) → All (λ t. IsTermOf t BoolSort) formulas → HaveLevelSorts sorts formulas →
    ((e : ℕ → Option ℕ) → MakesAllTrue e formulas → ⊥) → HaveNoModel (behind_all passes formulas)

-- so it is with a final list
abbrev pub FinalListsHaveNoModel : Type 0
FinalListsHaveNoModel =
    (p : Problem) (winner : Quantifier) (entries : List Entry) (formulas : List Tree) → IsProblem p → IsLinked p entries → HasWon p winner entries →
    IsFinalList p winner entries formulas → HaveNoModel formulas

-- its formulas are boolean terms
abbrev pub FinalListsAreTerms : Type 0
FinalListsAreTerms =
    (p : Problem) (winner : Quantifier) (entries : List Entry) (formulas : List Tree) → IsProblem p → IsLinked p entries → HasWon p winner entries →
    IsFinalList p winner entries formulas → All (λ t. IsTermOf t BoolSort) formulas

-- a base with its clauses may be charged to the final lane, where no conflict was charged to it
abbrev pub FinalListsMayBeCharged : Type 0
FinalListsMayBeCharged =
    (p : Problem) (winner : Quantifier) (entries : List Entry) (formulas : List Tree) (base : List Numbered) → IsPlayed p entries → HasWon p winner entries →
    IsFinalList p winner entries formulas → IsBaseOf base formulas → MayGoOn p (instances_of p winner entries) Final 0 base []

-- a list with further formulas behind takes no fewer variables
abbrev pub LongerListsTakeMore : Type 0
LongerListsTakeMore = (formulas more : List Tree) → cnf_variables formulas ≤ cnf_variables (formulas ++ more)

-- so a final list is over-large where formulas in its front take too many
abbrev pub OverLargeFinalLists : Type 0
OverLargeFinalLists =
    (p : Problem) (winner : Quantifier) (entries : List Entry) (limit : ℕ) (formulas more : List Tree) → IsPlayed p entries → HasWon p winner entries →
    IsFinalList p winner entries (formulas ++ more) → limit < cnf_variables formulas → IsOverLarge p (instances_of p winner entries) entries limit (formulas ++ more)
