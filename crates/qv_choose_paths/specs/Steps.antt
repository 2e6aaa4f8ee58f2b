-- Steps down from a term to a place.
use Rattle.std.specs.Prelude.{◌≡◌, ℕ, ◌<◌, Option, Some, None, IfSome, List, [], length}
use Rattle.qv_words.specs.declared.sort.Sort.{Sort}
use Rattle.std.specs.List.{AllByRecursion}
use Rattle.qv_words.specs.declared.op.Op.{Op}
use Rattle.qv_words.specs.declared.word.Word.{Word}
use Rattle.qv_words.specs.Word.{word_sort}
use Rattle.qv_words.specs.Tree.{Tree, Variable, Apply, tree_sort, IsQuantifierFree}
use Rattle.qv_words.specs.Sorted.{IsSorted}
use Rattle.qv_words.specs.InverseLaws.{IsOver}
use Rattle.qv_words.specs.Choice.{descend, put_in_row}
use Rattle.qv_terms.specs.View.{tree}
use Rattle.qv_store.specs.Nodes.{tree_at, trees_at}
use Rattle.qv_store.specs.Stores.{StandsAt}
use Rattle.qv_store.specs.Walks.{IsEarlier, IsFound}
use Rattle.qv_store.specs.Evaluating.{IsWordOf, AreWords}
use Rattle.qv_choose_paths.specs.declared.ways.Place.{Place}
use Rattle.qv_choose_paths.specs.declared.ways.Step.{Step}
use Rattle.qv_choose_paths.specs.declared.ways.Way.TheVariants.{Open}
use Rattle.qv_choose_paths.specs.Rows.{sort_of}
use Rattle.qv_choose_paths.specs.Looks.{way_of}

-- the other argument of a step, or the target where there is none
abbrev pub other_or : List Tree → Option ℕ → Tree → Tree
other_or trees None t = t
other_or trees (Some n) t = tree_at trees n

-- from a term down to an argument
pub record StepsDown (p : Place) (trees : List Tree) (ids : List ℕ) (id : ℕ) (step : Step) : Type 0 where
  pub lower : step.next < id
  pub next : IsEarlier ids (length ids) step.next
  pub other : IfSome step.other (IsEarlier ids (length ids))
  pub way : way_of p (tree_at trees step.next) ≡ Open
  pub sorted : IsSorted (tree step.row)
  pub over : IsOver (sort_of (other_or trees step.other (tree_at trees id))) (sort_of (tree_at trees id)) (tree step.row)
  pub sort : tree_sort (tree step.row) ≡ tree_sort (tree_at trees step.next)
  pub descends : (t : Tree) → descend p.level (tree_at trees id) t ≡ descend p.level (tree_at trees step.next) (put_in_row (other_or trees step.other t) t (tree step.row))

-- the arguments of a term that is an operator's application
pub record AreKids (trees : List Tree) (ids : List ℕ) (id : ℕ) (o : Op) (kids : List ℕ) : Type 0 where
  pub below : id < length trees
  pub free : IsQuantifierFree (tree_at trees id)
  pub tree_is : tree_at trees id ≡ Apply o (trees_at trees kids)
  pub lower : AllByRecursion (λ kid. kid < id) kids
  pub there : AllByRecursion (IsEarlier ids (length ids)) kids

-- there is a step, or the term is the place
abbrev pub IsStep : Place → List Tree → List ℕ → ℕ → Option Step → Type 0
IsStep p trees ids id None = (s : Sort) × (tree_at trees id ≡ Variable p.level s)
IsStep p trees ids id (Some step) = StepsDown p trees ids id step

-- its word, or that of the target where there is none
abbrev pub IsOtherWord : List ℕ → List Word → Option ℕ → (target word : Word) → Type 0
IsOtherWord ids words None target w = w ≡ target
IsOtherWord ids words (Some n) target w = IsFound ids words n w

-- what is made of a row, where there is one
abbrev pub MakesStep : Option Tree → Option ℕ → ℕ → Option Step → Type 0
MakesStep row other next None = row ≡ None
MakesStep row other next (Some step) = (row ≡ Some (tree step.row)) × (step.other ≡ other) × (step.next ≡ next)

-- what arrives at the place down from a term, as a term of a longer store
pub record Arrives (p : Place) (old : List Tree) (id target : ℕ) (new : List Tree) (made : ℕ) : Type 0 where
  pub term : Tree
  pub is : descend p.level (tree_at old id) (tree_at old target) ≡ Some term
  pub stands : StandsAt new made term

-- and as its word at each point at which the target has this one
pub record HasArrived (p : Place) (trees : List Tree) (id : ℕ) (point : List Word) (t : Tree) (w : Word) : Type 0 where
  pub term : Tree
  pub is : descend p.level (tree_at trees id) t ≡ Some term
  pub word : IsWordOf [] point term w

abbrev pub ArrivesAs : Place → List Tree → List ℕ → List Word → ℕ → (word arrived : Word) → Type 0
ArrivesAs p trees ids words id word w =
    (point : List Word) (t : Tree) → AreWords [] point trees ids words → IsWordOf [] point t word → HasArrived p trees id point t w

-- a word has the sort that the place has in a walk
pub record IsPlaceWord (p : Place) (trees : List Tree) (ids : List ℕ) (w : Word) : Type 0 where
  pub number : ℕ
  pub there : IsEarlier ids (length ids) number
  pub is : tree_at trees number ≡ Variable p.level (word_sort w)

-- on the way down, from one term to another
pub record IsOnTheWay (p : Place) (trees : List Tree) (from to : ℕ) (point : List Word) (t : Tree) (w : Word) : Type 0 where
  pub term : Tree
  pub goes : descend p.level (tree_at trees from) t ≡ descend p.level (tree_at trees to) term
  pub word : IsWordOf [] point term w
