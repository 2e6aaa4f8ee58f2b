-- How a matrix is built: tasks that wait, and the matrices that are built so far.
use Rattle.std.specs.Prelude.{◌≡◌, ℕ, zero, suc, ◌+◌, ◌*◌, ◌<◌, ◌==◌, Bool, if◌then◌else◌, Option, Some, None, IfSome, option_and_then, List, [], ◌∷◌, map, length, cond, nat_eq}
use Rattle.std.specs.List.{AllByRecursion}
use Rattle.qv_words.specs.declared.sort.Sort.{Sort}
use Rattle.qv_words.specs.declared.sort.Sort.TheVariants.{Bool as BoolSort}
use Rattle.qv_words.specs.declared.op.Op.{Op}
use Rattle.qv_words.specs.Rank.{result_sort}
use Rattle.qv_words.specs.Tree.{Tree, Variable, tree_sort}
use Rattle.qv_words.specs.Sorted.{IsSortedBelow}
use Rattle.qv_words.specs.Prenex.{tree_size, binary}
use Rattle.qv_store.specs.Nodes.{tree_at}
use Rattle.std.specs.HashMap.{get}
use Rattle.qv_store.specs.Stores.{AreShared, StandsAt}
use Rattle.qv_prenex_matrix.specs.declared.matrix.Quantifier.{Quantifier}
use Rattle.qv_prenex_laws.specs.FormLaws.{lengths_under}
use Rattle.qv_prenex_laws.specs.MatrixLaws.{Cursor, matrix_under, advanced, raised, starts_empty, ArePlaces}
use Rattle.qv_prenex_matrix.specs.declared.matrix.Task.{Task}
use Rattle.qv_prenex_matrix.specs.declared.matrix.Task.TheVariants.{Build, Join, Back, Free}
use Rattle.qv_prenex_splits.specs.declared.memo.Memo.{Memo}
use Rattle.qv_prenex_splits.specs.declared.naming.Names.{Names}
use Rattle.qv_prenex_matrix.specs.declared.levels.Levels.{Levels}
use Rattle.qv_prenex_splits.specs.Naming.{place_of, outer_of, AreTermsOf, renaming}
use Rattle.qv_prenex_splits.specs.Rebuilding.{AreRebuilt}
use Rattle.qv_prenex_matrix.specs.NextLevels.{next_of}

-- the matrix of a part is built, where its form's first block is this one; the last two matrices
-- are joined; or what stood for a level before a quantifier stands for it again
pub data PlainTask : Type 0 where
  Building : (plus : Bool) → (t : Tree) → (block : ℕ) → PlainTask
  Joining : (o : Op) → PlainTask
  Leaving : (level : ℕ) → (before : Option Tree) → PlainTask

abbrev pub task_in : List Tree → Task → PlainTask
task_in trees (Build p block) = Building p.plus (tree_at trees p.term) block
task_in trees (Join o) = Joining o
task_in trees (Back level id) = Leaving level (Some (tree_at trees id))
task_in trees (Free level) = Leaving level None

-- what waits behind a quantifier, where this stood for its level
abbrev pub leaving : ℕ → Option ℕ → Task
leaving level None = Free level
leaving level (Some id) = Back level id

-- the last two matrices joined; there are two
abbrev pub last_joined : Op → List Tree → List Tree
last_joined o [] = []
last_joined o (b ∷ []) = []
last_joined o (b ∷ a ∷ rest) = binary o a b ∷ rest

-- a map from levels, where this stands for one again
abbrev pub restored : (ℕ → Option Tree) → ℕ → Option Tree → ℕ → Option Tree
restored outer l before k = if k == l then before else outer k

abbrev pub cursor_at : (ℕ → Option Tree) → (ℕ → ℕ) → ℕ → Cursor
cursor_at outer next block = record { outer = outer; next = next; block = block }

-- the matrices that are built in the end, the last one first
unfoldable pub built : (ℕ → ℕ) → List PlainTask → List Tree → (ℕ → Option Tree) → (ℕ → ℕ) → List Tree
built place [] results outer next = results
built place (Building plus t block ∷ todo) results outer next =
    built place todo (matrix_under place plus t (cursor_at outer next block) ∷ results) outer (advanced next block (lengths_under plus t))
built place (Joining o ∷ todo) results outer next = built place todo (last_joined o results) outer next
built place (Leaving l before ∷ todo) results outer next = built place todo results (restored outer l before) next

-- the sorts of what stands for levels
abbrev pub sorts_of : (ℕ → Option Tree) → ℕ → Option Sort
sorts_of outer l = option_and_then (λ t. tree_sort t) (outer l)

-- a formula that is sorted below what stands for levels
pub record IsFormula (outer : ℕ → Option Tree) (t : Tree) : Type 0 where
  pub sorted : IsSortedBelow (sorts_of outer) t
  pub bool : tree_sort t ≡ Some BoolSort

abbrev pub IsPlace : Option Tree → Type 0
IsPlace o = IfSome o (λ put. (level : ℕ) × (s : Sort) × (put ≡ Variable level s))

-- an operator that joins formulas
abbrev pub IsJunction : Op → Type 0
IsJunction o = result_sort o (BoolSort ∷ BoolSort ∷ []) ≡ Some BoolSort

-- what waits can be done
unfoldable pub AreFit : List PlainTask → (ℕ → Option Tree) → Type 0
AreFit [] outer = Unit {0}
AreFit (Building plus t block ∷ todo) outer = IsFormula outer t × AreFit todo outer
AreFit (Joining o ∷ todo) outer = IsJunction o × AreFit todo outer
AreFit (Leaving l before ∷ todo) outer = IsPlace before × AreFit todo (restored outer l before)

-- how much is left to be done
unfoldable pub eightfold : ℕ → ℕ
eightfold zero = 1
eightfold (suc n) = 8 * eightfold n

abbrev pub task_work : PlainTask → ℕ
task_work (Building plus t block) = eightfold (tree_size t)
task_work (Joining o) = 1
task_work (Leaving l before) = 1

unfoldable pub tasks_work : List PlainTask → ℕ
tasks_work [] = 0
tasks_work (task ∷ todo) = task_work task + tasks_work todo

-- the terms of tasks stand below this number
abbrev pub IsTaskBelow : ℕ → Task → Type 0
IsTaskBelow n (Build p block) = p.term < n
IsTaskBelow n (Join o) = Unit {0}
IsTaskBelow n (Back level id) = id < n
IsTaskBelow n (Free level) = Unit {0}

-- a matrix that is built
pub record IsResult (trees : List Tree) (n : ℕ) : Type 0 where
  pub below : n < length trees
  pub bool : tree_sort (tree_at trees n) ≡ Some BoolSort

-- what stands for variables, and what was made that is right under these names
pub record AreNamed (trees : List Tree) (names : Names) (made : Memo) : Type 0 where
  pub shared : AreShared trees
  pub outer : AreTermsOf trees names.outer
  pub places : ArePlaces (outer_of trees names.outer)
  pub renamed : AreRebuilt (renaming trees names) trees made

-- what is built in the end
abbrev pub end_of : List Tree → List Task → List ℕ → Names → Levels → List Tree
end_of trees todo results names levels =
    built (place_of names.constants.keys) (map (task_in trees) todo) (map (tree_at trees) results) (outer_of trees names.outer) (next_of levels.next.items levels.total)

-- a state of the machine, the next task and the last result first
pub record IsRunning (trees : List Tree) (todo : List Task) (results : List ℕ) (names : Names) (made : Memo) : Type 0 where
  pub named : AreNamed trees names made
  pub tasks : AllByRecursion (IsTaskBelow (length trees)) todo
  pub fit : AreFit (map (task_in trees) todo) (outer_of trees names.outer)
  pub right : AllByRecursion (IsResult trees) results

-- a step of the machine
pub record IsNext (old new : List Tree) (todo todo' : List Task) (results results' : List ℕ) (names names' : Names) (made' : Memo) (levels levels' : Levels) : Type 0 where
  pub running : IsRunning new todo' results' names' made'
  pub end : end_of new todo' results' names' levels' ≡ end_of old todo results names levels
  pub fewer : tasks_work (map (task_in new) todo') < tasks_work (map (task_in old) todo)

-- the last two matrices joined, and the others
pub record IsJoined (old new : List Tree) (o : Op) (results rest : List ℕ) (id : ℕ) : Type 0 where
  pub a : ℕ
  pub b : ℕ
  pub were : results ≡ b ∷ a ∷ rest
  pub joined : StandsAt new id (binary o (tree_at old a) (tree_at old b))

-- a quantifier is entered: its variable, and what comes first
pub record IsBound (old new : List Tree) (q : Quantifier) (block : ℕ) (todo todo' : List Task) (names names' : Names) (levels levels' : Levels) : Type 0 where
  pub variable : ℕ
  pub inner : ℕ
  pub is : StandsAt new variable (Variable (next_of levels.next.items levels.total (if q.existential then block else suc block)) q.sort)
  pub inner_is : inner ≡ (if q.existential then block else (if starts_empty (lengths_under q.plus (tree_at old q.body)) then block else block + 2))
  pub constants : names'.constants.keys ≡ names.constants.keys
  pub outer : (l : ℕ) → get nat_eq names'.outer l ≡ cond (nat_eq q.level l) (Some variable) (get nat_eq names.outer l)
  pub next : (k : ℕ) → next_of levels'.next.items levels'.total k ≡ raised (next_of levels.next.items levels.total) (if q.existential then block else suc block) 1 k
  pub tasks : todo' ≡ Build (record { plus = q.plus; term = q.body }) inner ∷ leaving q.level (get nat_eq names.outer q.level) ∷ todo
