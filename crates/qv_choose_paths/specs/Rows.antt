-- What rows of inverse terms give.
use Rattle.std.specs.Prelude.{ℕ, ◌==◌, Bool, true, false, not, unwrap_or, List, []}
use Rattle.qv_words.specs.declared.sort.Sort.{Sort}
use Rattle.qv_words.specs.declared.sort.Sort.TheVariants.{Bool as BoolSort}
use Rattle.qv_words.specs.declared.op.Op.{Op}
use Rattle.qv_words.specs.declared.op.Op.TheVariants.{BvXor, BvXnor, BvAdd, BvSub, BvUdiv, BvUrem, BvShl, BvLshr, BvAshr}
use Rattle.qv_words.specs.declared.word.Word.{Word}
use Rattle.qv_words.specs.Tree.{Tree, tree_sort}
use Rattle.qv_words.specs.Choice.{put_in_row}
use Rattle.qv_store.specs.Nodes.{tree_at}
use Rattle.qv_store.specs.Evaluating.{IsWordOf}

-- whether the other argument stands in the row for the argument at a position
abbrev pub uses_other : Op → ℕ → Bool
uses_other BvXor position = true
uses_other BvXnor position = true
uses_other BvAdd position = true
uses_other BvSub position = true
uses_other BvUdiv position = true
uses_other BvUrem position = not (position == 0)
uses_other BvShl position = true
uses_other BvLshr position = true
uses_other BvAshr position = true
uses_other _ position = false

-- a term's sort
abbrev pub sort_of : Tree → Sort
sort_of t = unwrap_or (tree_sort t) BoolSort

abbrev pub sort_at : List Tree → ℕ → Sort
sort_at trees n = sort_of (tree_at trees n)

-- the word of a row at any terms for the other argument and the target that have these words
abbrev pub IsRowWord : Tree → (other target : Word) → Word → Type 0
IsRowWord row other target w =
    (point : List Word) (s t : Tree) → IsWordOf [] point s other → IsWordOf [] point t target → IsWordOf [] point (put_in_row s t row) w
