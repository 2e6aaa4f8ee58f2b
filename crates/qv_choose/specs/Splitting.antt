-- A formula that is being split: some conjuncts, and formulas that wait to be split.
use Rattle.std.specs.Prelude.{◌≡◌, ℕ, ◌<◌, List, [], ◌∷◌, ◌++◌, length}
use Rattle.std.specs.List.{AllByRecursion}
use Rattle.qv_words.specs.declared.op.Op.TheVariants.{And}
use Rattle.qv_words.specs.Tree.{Tree}
use Rattle.qv_words.specs.Prenex.{binary}
use Rattle.qv_store.specs.Nodes.{tree_at}
use Rattle.qv_store.specs.Walks.{named}
use Rattle.qv_choose.specs.Conjuncts.{AreConjuncts}

-- conjuncts of each of some formulas, one after another
pub data AreOfEach : List Tree → List Tree → Type 0 where
  of_none : AreOfEach [] []
  one_more : (t : Tree) (ts ks ls : List Tree) → AreConjuncts t ks → AreOfEach ts ls → AreOfEach (t ∷ ts) (ks ++ ls)

-- with any conjuncts of those that wait behind them, the parts are conjuncts of the whole
pub record IsSplit (trees : List Tree) (whole : Tree) (waiting parts : List ℕ) : Type 0 where
  pub waiting_below : AllByRecursion (λ id. id < length trees) waiting
  pub parts_below : AllByRecursion (λ id. id < length trees) parts
  pub leads : (more : List Tree) → AreOfEach (named trees waiting) more → AreConjuncts whole (named trees parts ++ more)

-- an `and` of the store, with its sides
pub record IsAnd (trees : List Tree) (id a b : ℕ) : Type 0 where
  pub tree : tree_at trees id ≡ binary And (tree_at trees a) (tree_at trees b)
  pub a_below : a < id
  pub b_below : b < id
