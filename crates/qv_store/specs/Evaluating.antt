-- What a pass that evaluates a walk's terms has found.
use Rattle.std.specs.Prelude.{◌≡◌, ℕ, List, Some, slice_get, length}
use Rattle.std.specs.List.{AllZip}
use Rattle.qv_words.specs.declared.op.Op.{Op}
use Rattle.qv_words.specs.declared.word.Word.{Word}
use Rattle.qv_words.specs.Word.{word_sort, word_value, sorts_of, values_of}
use Rattle.qv_words.specs.Op.{op_value}
use Rattle.qv_words.specs.Rank.{result_sort}
use Rattle.qv_words.specs.Tree.{Tree, tree_sort, IsQuantifierFree}
use Rattle.qv_words.specs.Values.{HasWords, MeansUnder}
use Rattle.qv_store.specs.Nodes.{tree_at}
use Rattle.qv_store.specs.Walks.{IsWalk, IsFound}

-- the word that a tree means
pub record IsWordOf (consts places : List Word) (t : Tree) (w : Word) : Type 0 where
  pub sort : tree_sort t ≡ Some (word_sort w)
  pub value : MeansUnder consts places t (word_value w)

-- a tree that has a value
pub record HasValue (consts places : List Word) (t : Tree) : Type 0 where
  pub quantifier_free : IsQuantifierFree t
  pub words : HasWords consts places t

-- each term of a walk has one
abbrev pub HaveValues : List Word → List Word → List Tree → List ℕ → Type 0
HaveValues consts places trees ids = (k n : ℕ) → slice_get ids k ≡ Some n → HasValue consts places (tree_at trees n)

-- the words found for the first terms of a walk
abbrev pub AreWords : List Word → List Word → List Tree → List ℕ → List Word → Type 0
AreWords consts places trees ids words =
    (k n : ℕ) (w : Word) → slice_get ids k ≡ Some n → slice_get words k ≡ Some w → IsWordOf consts places (tree_at trees n) w

-- the words found for an operator's arguments
abbrev pub AreFound : List ℕ → List Word → List ℕ → List Word → Type 0
AreFound ids words kids found = AllZip (IsFound ids words) kids found

-- what an operator gives at the words found for its arguments
pub record IsApplied (op : Op) (ids : List ℕ) (words : List Word) (kids : List ℕ) (w : Word) : Type 0 where
  pub args : List Word
  pub found : AreFound ids words kids args
  pub sort : result_sort op (sorts_of args) ≡ Some (word_sort w)
  pub value : word_value w ≡ op_value op (sorts_of args) (values_of args)

-- the next term of a walk, over the words found for those before
pub record IsNext (consts places : List Word) (trees : List Tree) (ids : List ℕ) (words : List Word) (n : ℕ) : Type 0 where
  pub walk : IsWalk trees ids
  pub at : slice_get ids (length words) ≡ Some n
  pub found : AreWords consts places trees ids words
  pub value : HasValue consts places (tree_at trees n)
