-- The places of a prefix.
use Rattle.std.specs.Prelude.{ℕ, ◌+◌, List, [], ◌∷◌}
use Rattle.qv_words.specs.declared.sort.Sort.{Sort}
use Rattle.qv_words.specs.Problem.{Existential}
use Rattle.qv_words.specs.Problem.{Place as PlainPlace}
use Rattle.qv_store.specs.declared.problem.Quant.{Quant}
use Rattle.qv_store.specs.declared.problem.Quant.TheVariants.{Exists, Forall}
use Rattle.qv_store.specs.declared.problem.Place.{Place}
use Rattle.qv_prenex.specs.declared.constants.Constant.{Constant}

-- the place of a constant
abbrev pub constant_place : Constant → PlainPlace
constant_place c = record { quantifier = Existential; sort = c.sort }

abbrev pub place_with : Quant → Sort → Place
place_with q s = record { quant = q; sort = s }

abbrev pub other_quant : Quant → Quant
other_quant Exists = Forall
other_quant Forall = Exists

-- where each block begins, where the first one begins here
abbrev pub starts_from : ℕ → List ℕ → List ℕ
starts_from n [] = []
starts_from n (k ∷ ks) = n ∷ starts_from (n + k) ks
