-- What the formula of a file means.
use Rattle.std.specs.Prelude.{◌≡◌, ◌↔◌, Bool, true, false, List, [], ◌∷◌, length, map}
use Rattle.qv_cnf.specs.Literal.{Literal}
use Rattle.qv_words.specs.Op.{truth}
use Rattle.qv_words.specs.Sorted.{no_levels}
use Rattle.qv_words.specs.Meaning.{Means}
use Rattle.qv_words.specs.Truth.{AreTrue, IsAssertion, HaveOneSort}
use Rattle.qv_qdimacs.specs.declared.files.Quantified.{Quantified}
use Rattle.qv_qdimacs.specs.Outer.{AreOnce, variables_of, outer_of, holds_under, IsTrueFile}
use Rattle.qv_qdimacs.specs.Translation.{formula_of}

-- under values of the outer variables it means 1 exactly where the file holds under them, and 0
-- exactly where it doesn't
pub record IsKept (prefix : List Quantified) (clauses : List (List Literal)) (values : List Bool) : Type 0 where
  pub holds : Means (map truth values) no_levels (formula_of prefix clauses) 1 ↔ (holds_under prefix clauses values ≡ true)
  pub fails : Means (map truth values) no_levels (formula_of prefix clauses) 0 ↔ (holds_under prefix clauses values ≡ false)

-- where no variable is quantified twice
abbrev pub TranslationKeepsMeaning : Type 0
TranslationKeepsMeaning =
    (prefix : List Quantified) (clauses : List (List Literal)) (values : List Bool) → AreOnce (variables_of prefix) →
    length values ≡ length (outer_of prefix clauses) → IsKept prefix clauses values

-- the formula of a file can be asserted, and its constants have one sort each
abbrev pub FormulaIsAssertion : Type 0
FormulaIsAssertion =
    (prefix : List Quantified) (clauses : List (List Literal)) → IsAssertion (formula_of prefix clauses) × HaveOneSort (formula_of prefix clauses ∷ [])

-- where no variable is quantified twice, it is true for some values of its constants exactly where
-- the file is true
abbrev pub TranslationKeepsTruth : Type 0
TranslationKeepsTruth =
    (prefix : List Quantified) (clauses : List (List Literal)) → AreOnce (variables_of prefix) →
    (AreTrue (formula_of prefix clauses ∷ []) ↔ IsTrueFile prefix clauses)
