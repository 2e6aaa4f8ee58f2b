-- Formulas as statements.
use Rattle.std.specs.Prelude.{◌≡◌, ℕ, ◌<◌, true, Some, List, ◌++◌, Contains}
use Rattle.qv_words.specs.declared.sort.Sort.{Sort}
use Rattle.qv_words.specs.declared.op.Op.TheVariants.{And, Equal}
use Rattle.qv_words.specs.Tree.{Tree, Literal, tree_sort}
use Rattle.qv_words.specs.Meaning.{Means}
use Rattle.qv_words.specs.Prenex.{binary}
use Rattle.qv_words.specs.Choice.{IsTrueAt, is_in}
use Rattle.qv_store.specs.Nodes.{tree_at}
use Rattle.qv_game_links.specs.declared.saying.Statement.{Statement}
use Rattle.std.specs.Prelude.{slice_get, []}

-- a statement at a point: its term has its value there
abbrev pub IsSo : List Tree → List ℕ → Statement → Type 0
IsSo trees point s = Means [] (slice_get point) (tree_at trees s.id) s.value

abbrev pub AreSo : List Tree → List ℕ → List Statement → Type 0
AreSo trees point said = (s : Statement) → Contains said s → IsSo trees point s

-- a place occurs in the term of one of the statements
abbrev pub IsNamed : List Tree → List Statement → ℕ → Type 0
IsNamed trees said x = (s : Statement) × Contains said s × (is_in x (tree_at trees s.id) ≡ true)

-- statements of a formula's places that are all so where it is true, and there alone
pub record AreSaid (trees : List Tree) (id : ℕ) (said : List Statement) : Type 0 where
  pub there : (point : List ℕ) → IsTrueAt point (tree_at trees id) → AreSo trees point said
  pub back : (point : List ℕ) → AreSo trees point said → IsTrueAt point (tree_at trees id)
  pub occurs : (x : ℕ) → is_in x (tree_at trees id) ≡ true → IsNamed trees said x
  pub within : (x : ℕ) → IsNamed trees said x → is_in x (tree_at trees id) ≡ true

-- what a part says stands behind other statements
pub record IsSaidBehind (trees : List Tree) (part : ℕ) (old new : List Statement) : Type 0 where
  pub more : List Statement
  pub behind : new ≡ old ++ more
  pub said : AreSaid trees part more

-- a term of the store that is the conjunction of two that stand before it
pub record IsConjunction (trees : List Tree) (id front part : ℕ) : Type 0 where
  pub tree : tree_at trees id ≡ binary And (tree_at trees front) (tree_at trees part)
  pub front_before : front < id
  pub part_before : part < id

-- one that says that another one has the value of a literal
pub record IsEquation (trees : List Tree) (id term value : ℕ) : Type 0 where
  pub literal_sort : Sort
  pub tree : tree_at trees id ≡ binary Equal (tree_at trees term) (Literal literal_sort value)
  pub sort : Sort
  pub sorted : tree_sort (tree_at trees term) ≡ Some sort
