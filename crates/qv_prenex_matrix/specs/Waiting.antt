-- Parts that wait, the next one first, and what is left of them.
use Rattle.std.specs.Prelude.{ℕ, zero, suc, ◌+◌, ◌*◌, ◌<◌, Bool, true, ◌&&◌, if◌then◌else◌, List, [], ◌∷◌, map, sum}
use Rattle.std.specs.List.{AllByRecursion}
use Rattle.qv_words.specs.Tree.{Tree}
use Rattle.qv_words.specs.Prenex.{tree_size}
use Rattle.qv_prenex_laws.specs.FormLaws.{lengths_under}
use Rattle.qv_prenex_laws.specs.MatrixLaws.{starts_empty}
use Rattle.qv_prenex_laws.specs.RuleLaws.{Part as PlainPart}
use Rattle.qv_prenex_matrix.specs.declared.rules.Part.{Part}
use Rattle.qv_prenex_matrix.specs.Rules.{part_in}

-- a formula as it is asserted
abbrev pub under_plus : ℕ → Part
under_plus n = record { plus = true; term = n }

-- their trees, each under its sign
abbrev pub parts_in : List Tree → List Part → List PlainPart
parts_in trees = map (part_in trees)

-- their terms stand below this number
abbrev pub AreBelow : ℕ → List Part → Type 0
AreBelow n = AllByRecursion (λ p. p.term < n)

-- how many variables their forms have
unfoldable pub variables_of : List PlainPart → ℕ
variables_of [] = 0
variables_of (p ∷ ps) = sum (lengths_under p.plus p.tree) + variables_of ps

abbrev pub number_of : Bool → ℕ
number_of one = if one then 1 else 0

-- whether the first block of each form is empty
unfoldable pub all_start_empty : List PlainPart → Bool
all_start_empty [] = true
all_start_empty (p ∷ ps) = starts_empty (lengths_under p.plus p.tree) && all_start_empty ps

-- more than the work that four smaller trees make
unfoldable pub weight : ℕ → ℕ
weight zero = 1
weight (suc n) = 5 * weight n

-- how much is left to do at most
unfoldable pub work : List PlainPart → ℕ
work [] = 0
work (p ∷ ps) = weight (tree_size p.tree) + work ps
