-- Skolem terms as they are kept, beside a store.
use Rattle.std.specs.Prelude.{ℕ, Option, List, [], map}
use Rattle.qv_words.specs.Tree.{Tree}
use Rattle.qv_words.specs.Sorted.{HasValues}
use Rattle.qv_words.specs.Meaning.{Means}
use Rattle.qv_words.specs.Skolem.{SkolemTerm}
use Rattle.qv_store.specs.Nodes.{tree_at}
use Rattle.qv_skolem.specs.declared.skolem.Skolem.{Skolem}

-- the terms that they are in a store
abbrev pub skolem_in : List Tree → Skolem → SkolemTerm
skolem_in trees s = record { place = s.place; term = tree_at trees s.term }

abbrev pub skolems_in : List Tree → List Skolem → List SkolemTerm
skolems_in trees = map (skolem_in trees)

-- no values make a formula true
abbrev pub IsNeverTrue : Tree → Type 0
IsNeverTrue t = (e : ℕ → Option ℕ) → HasValues [] e t → Means [] e t 1 → ⊥
