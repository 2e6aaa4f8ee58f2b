-- Passes over lists of formulas, one after the other.
use Rattle.std.specs.Prelude.{◌≡◌, ◌≢◌, List, [], ◌∷◌}
use Rattle.qv_words.specs.Tree.{Tree}
use Rattle.qv_words.specs.Passes.{pass}
use Rattle.qv_words.specs.Sums.{sum_pass}
use Rattle.qv_rewrite_passes.specs.declared.pass.Pass.{Pass}
use Rattle.qv_rewrite_passes.specs.declared.pass.Pass.TheVariants.{By, Sum, Xor, Simp}
use Rattle.qv_rewrite_passes.specs.Xors.{xor_pass}
use Rattle.qv_rewrite_passes.specs.Simps.{simp_pass}

-- what one pass makes of a list, and what passes make of it one after the other
abbrev pub behind : Pass → List Tree → List Tree
behind (By rule) formulas = pass rule formulas
behind Sum formulas = sum_pass formulas
behind Xor formulas = xor_pass formulas
behind Simp formulas = simp_pass formulas

abbrev pub behind_all : List Pass → List Tree → List Tree
behind_all [] formulas = formulas
behind_all (p ∷ ps) formulas = behind_all ps (behind p formulas)

-- a list behind some passes
abbrev pub IsBehind : List Tree → List Tree → Type 0
IsBehind first formulas = (passes : List Pass) × (formulas ≡ behind_all passes first)

-- each of these passes changes the list that the passes before it leave
abbrev pub EachChanges : List Pass → List Tree → Type 0
EachChanges [] formulas = Unit {0}
EachChanges (p ∷ ps) formulas = (behind p formulas ≢ formulas) × EachChanges ps (behind p formulas)
