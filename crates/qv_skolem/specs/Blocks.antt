-- The first block of some places.
use Rattle.std.specs.Prelude.{ℕ, suc, if◌then◌else◌, List, [], ◌∷◌, map}
use Rattle.qv_words.specs.declared.sort.Sort.{Sort}
use Rattle.qv_words.specs.Problem.{Place, Quantifier}
use Rattle.qv_words.specs.Linked.{same_quantifier}

-- how many places from the first on have this quantifier
abbrev pub run_length : Quantifier → List Place → ℕ
run_length q [] = 0
run_length q (p ∷ ps) = if same_quantifier q p.quantifier then suc (run_length q ps) else 0

abbrev pub sorts_of : List Place → List Sort
sorts_of places = map (λ p. p.sort) places
