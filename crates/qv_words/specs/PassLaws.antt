-- What pins rewriting passes and simple formulas down.
use Rattle.std.specs.Prelude.{◌≡◌, ℕ, Option, List, All}
use Rattle.std.specs.List.{AllZip, Contains}
use Rattle.qv_words.specs.Tree.{Tree, tree_sort, IsQuantifierFree}
use Rattle.qv_words.specs.Sorted.{IsSorted, HasValues, constants_of, free_levels}
use Rattle.qv_words.specs.Meaning.{Means}
use Rattle.qv_words.specs.declared.rule.Rule.{Rule}
use Rattle.qv_words.specs.Passes.{passed, pass, passes_by, passes, IsSimple}
use Rattle.qv_words.specs.Sums.{sum_pass}

-- a sorted tree without quantifiers
pub record IsPlain (t : Tree) : Type 0 where
  pub sorted : IsSorted t
  pub free : IsQuantifierFree t

-- u stands for t: a plain tree of the same sort, whose constants and variables are among t's, each
-- with its sort, and which under all values for t means the same
pub record StandsFor (u t : Tree) : Type 0 where
  pub plain : IsPlain u
  pub sort : tree_sort u ≡ tree_sort t
  pub constants : All (Contains (constants_of t)) (constants_of u)
  pub variables : All (Contains (free_levels t)) (free_levels u)
  pub values : (c : List ℕ) (e : ℕ → Option ℕ) → HasValues c e t → HasValues c e u
  pub keeps : (c : List ℕ) (e : ℕ → Option ℕ) (v : ℕ) → HasValues c e t → Means c e t v → Means c e u v
  pub gains : (c : List ℕ) (e : ℕ → Option ℕ) (v : ℕ) → HasValues c e t → Means c e u v → Means c e t v

-- a pass keeps the value of each formula
abbrev pub PassesKeepValues : Type 0
PassesKeepValues = (r : Rule) (formulas : List Tree) → All IsPlain formulas → AllZip StandsFor (pass r formulas) formulas

-- so do all ten in order
abbrev pub AllPassesKeepValues : Type 0
AllPassesKeepValues = (formulas : List Tree) → All IsPlain formulas → AllZip StandsFor (passes formulas) formulas

-- so does the pass of sums
abbrev pub SumsKeepValues : Type 0
SumsKeepValues = (formulas : List Tree) → All IsPlain formulas → AllZip StandsFor (sum_pass formulas) formulas

-- a formula is simple exactly where every pass leaves it as it is
abbrev pub SimpleFormulasStay : Type 0
SimpleFormulasStay = (t : Tree) → (IsSimple t → (r : Rule) → passed r t ≡ t) × (((r : Rule) → passed r t ≡ t) → IsSimple t)

-- passes in a row keep the values of formulas
abbrev pub PassesInARowKeepValues : Type 0
PassesInARowKeepValues = (rules : List Rule) (formulas : List Tree) → All IsPlain formulas → AllZip StandsFor (passes_by rules formulas) formulas

-- formulas are simple exactly where all ten in order leave them as they are
abbrev pub FixedFormulasAreSimple : Type 0
FixedFormulasAreSimple = (formulas : List Tree) → (passes formulas ≡ formulas → All IsSimple formulas) × (All IsSimple formulas → passes formulas ≡ formulas)
