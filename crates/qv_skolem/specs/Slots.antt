-- Terms by their places: of each place its term, if it has one.
use Rattle.std.specs.Prelude.{ℕ, suc, Option, Some, None, List, [], ◌∷◌}
use Rattle.qv_words.specs.Tree.{Tree}
use Rattle.qv_words.specs.Skolem.{SkolemTerm}
use Rattle.qv_store.specs.Nodes.{tree_at}

-- the terms of places, the first of which has this number
abbrev pub slot_terms : List Tree → ℕ → List (Option ℕ) → List SkolemTerm
slot_terms trees n [] = []
slot_terms trees n (None ∷ slots) = slot_terms trees (suc n) slots
slot_terms trees n (Some id ∷ slots) = record { place = n; term = tree_at trees id } ∷ slot_terms trees (suc n) slots
