-- A region has no constants.
use Rattle.std.proofs.Common.{◌≡◌, ℕ, ◌<◌, List, [], ◌∷◌, length, Some, refl}
use Rattle.std.specs.Prelude.{All}
use Rattle.std.proofs.lemmas.List.Elements.{All-head}
use Rattle.qv_words.specs.declared.sort.Sort.{Sort}
use Rattle.qv_words.specs.declared.sort.Sort.TheVariants.{Bool as BoolSort}
use Rattle.qv_words.specs.declared.word.Word.{Word}
use Rattle.qv_words.specs.Tree.{Tree, tree_sort, IsQuantifierFree}
use Rattle.qv_words.specs.Sorted.{constants_of}
use Rattle.qv_words.specs.Skolem.{IsTermOf}
use Rattle.qv_store.specs.Nodes.{tree_at}
use Rattle.qv_store.specs.Stores.{AreShared}
use Rattle.qv_cases_terms.specs.Leaves.{AreFitBelow, IsWordAt}
use Rattle.qv_cases_terms.proofs.Leaves.{has-words}

no-constants : (leaves : List (ℕ × Sort)) → All (IsWordAt []) leaves → leaves ≡ []
no-constants [] h = refl
no-constants (leaf ∷ leaves) h = absurd (All-head (IsWordAt []) leaf leaves h)

pub region-formula : (point : List Word) (trees : List Tree) (n : ℕ) → AreShared trees → AreFitBelow (IsWordAt []) (IsWordAt point) trees (length trees) → n < length trees → IsQuantifierFree (tree_at trees n) → tree_sort (tree_at trees n) ≡ Some BoolSort
    → IsTermOf (tree_at trees n) BoolSort
region-formula point trees n shared fit low free sort =
    let words = has-words [] point trees n shared fit low free in
    record { sorted = shared.sorted n low; sort = sort; quantifier_free = free; constant_free = no-constants (constants_of (tree_at trees n)) words.constants }
