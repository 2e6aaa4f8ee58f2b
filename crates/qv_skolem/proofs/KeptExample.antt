-- Terms as they are kept, and the first run of some places.
use Rattle.std.proofs.Common.{◌≡◌, ℕ, Some, None, List, [], ◌∷◌, refl}
use Rattle.qv_words.specs.declared.sort.Sort.TheVariants.{Bits}
use Rattle.qv_words.specs.Tree.{Tree, Variable, Literal}
use Rattle.qv_words.specs.Problem.{Place, Existential, Universal}
use Rattle.qv_skolem.specs.Blocks.{run_length, sorts_of}
use Rattle.qv_skolem.specs.Skolems.{skolems_in}
use Rattle.qv_skolem.specs.Slots.{slot_terms}

x : Tree
x = Variable 0 (Bits 2)

one : Tree
one = Literal (Bits 2) 1

-- the second and the fifth of five places have terms
slots : slot_terms (x ∷ one ∷ []) 0 (None ∷ Some 1 ∷ None ∷ None ∷ Some 0 ∷ []) ≡ record { place = 1; term = one } ∷ record { place = 4; term = x } ∷ []
slots = refl

kept : skolems_in (x ∷ one ∷ []) (record { place = 1; term = 1 } ∷ record { place = 4; term = 0 } ∷ []) ≡ record { place = 1; term = one } ∷ record { place = 4; term = x } ∷ []
kept = refl

abbrev ex : Place
ex = record { quantifier = Existential; sort = Bits 2 }

abbrev un : Place
un = record { quantifier = Universal; sort = Bits 3 }

runs : run_length Existential (ex ∷ ex ∷ un ∷ ex ∷ []) ∷ run_length Universal (ex ∷ ex ∷ un ∷ ex ∷ []) ∷ run_length Universal (un ∷ []) ∷ [] ≡ 2 ∷ 0 ∷ 1 ∷ []
runs = refl
