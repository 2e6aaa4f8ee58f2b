-- What is shown of terms whose values are asked for.
use Rattle.std.specs.Prelude.{◌≡◌, ℕ, zero, suc, ◌<◌, List, [], ◌∷◌, ◌++◌, map, length}
use Rattle.qv_words.specs.declared.word.Word.{Word}
use Rattle.qv_words.specs.Tree.{Tree, IsQuantifierFree}
use Rattle.qv_words.specs.Sorted.{no_levels}
use Rattle.qv_words.specs.Meaning.{Means}
use Rattle.qv_words.specs.Values.{HasWords}
use Rattle.qv_store.specs.Nodes.{tree_at}
use Rattle.qv_script_defs.specs.declared.effects.ValueTerm.{ValueTerm as Asked}
use Rattle.qv_script_defs.specs.Moves.{ValueTerm}
use Rattle.qv_script_texts.specs.Printing.{value_pair}

-- the terms that are asked for
abbrev pub told : List Tree → List Asked → List ValueTerm
told trees asked = map (λ a. record { text = a.text.items; tree = tree_at trees a.id }) asked

-- a term that has a value under these words
pub record CanShow (trees : List Tree) (consts : List Word) (a : Asked) : Type 0 where
  pub below : a.id < length trees
  pub quantifier_free : IsQuantifierFree (tree_at trees a.id)
  pub words : HasWords consts [] (tree_at trees a.id)

-- it was added with its value
pub record IsPair (trees : List Tree) (c : List ℕ) (a : Asked) (old new : List ℕ) : Type 0 where
  pub value : ℕ
  pub means : Means c no_levels (tree_at trees a.id) value
  pub added : new ≡ old ++ value_pair (record { text = a.text.items; tree = tree_at trees a.id }) value

-- the space before a term that isn't the first
abbrev pub gap_at : ℕ → List ℕ
gap_at zero = []
gap_at (suc i) = 32 ∷ []
