-- Candidates by how they are found, and the first that passes a test.
use Rattle.std.specs.Prelude.{◌≡◌, ℕ, Bool, true, false, Option, Some, None, IsSomeAnd, List, ◌∷◌, ◌++◌, length, map, filter, slice_get}
use Rattle.std.specs.List.{AllByRecursion}
use Rattle.qv_words.specs.declared.sort.Sort.{Sort}
use Rattle.qv_words.specs.declared.sort.Sort.TheVariants.{Bits, Bool as BoolSort}
use Rattle.qv_words.specs.declared.word.Word.{Word}
use Rattle.qv_words.specs.Word.{word_sort, values_of}
use Rattle.qv_words.specs.declared.op.Op.{Op}
use Rattle.qv_words.specs.Tree.{Tree, Variable, Apply, Nil, Cons, tree_sort, IsQuantifierFree}
use Rattle.qv_words.specs.Sorted.{IsSorted}
use Rattle.qv_words.specs.Passes.{truth_literal}
use Rattle.qv_words.specs.Choice.{descend, is_outside, with_term, IsTrueAt}
use Rattle.qv_store.specs.Nodes.{tree_at}
use Rattle.qv_store.specs.Walks.{IsEarlier}
use Rattle.qv_choose_paths.specs.declared.ways.Place.{Place}
use Rattle.qv_choose_candidates.specs.declared.offers.Offer.{Offer}
use Rattle.qv_choose_candidates.specs.declared.offers.Offer.TheVariants.{Truth, Down}
use Rattle.qv_choose_paths.specs.declared.ways.Way.{Way}
use Rattle.qv_choose_paths.specs.declared.ways.Way.TheVariants.{Absent, Open}
use Rattle.qv_choose_candidates.specs.declared.offers.Side.{Side}
use Rattle.qv_choose_candidates.specs.declared.offers.Side.TheVariants.{First, Second, Neither}
use Rattle.qv_choose_paths.specs.Rows.{sort_at}
use Rattle.qv_choose_paths.specs.Looks.{way_of}
use Rattle.qv_choose_candidates.specs.Targets.{target_tree}

-- the candidate
abbrev pub offered : Place → List Tree → Offer → Option Tree
offered p trees (Truth b) = Some (truth_literal b)
offered p trees (Down side other target) = descend p.level (tree_at trees side) (target_tree target (sort_at trees other) (tree_at trees other))

-- with a term for the place a region stays true
abbrev pub StaysTrue : List ℕ → Tree → ℕ → Tree → Type 0
StaysTrue point region x u = IsTrueAt point (with_term x u region)

abbrev pub Fails : (Tree → Type 0) → Tree → Type 0
Fails P u = P u → ⊥

-- this is the first that passes
pub record IsFound (P : Tree → Type 0) (all : List Tree) (o : Option Tree) : Type 0 where
  pub term : Tree
  pub is : o ≡ Some term
  pub before : List Tree
  pub behind : List Tree
  pub stands : all ≡ before ++ term ∷ behind
  pub holds : P term
  pub others : AllByRecursion (Fails P) before

-- down a side the way is open, and the other side has the same sort, one of bits
pub record IsAim (p : Place) (trees : List Tree) (ids : List ℕ) (side other : ℕ) : Type 0 where
  pub side_there : IsEarlier ids (length ids) side
  pub other_there : IsEarlier ids (length ids) other
  pub way : way_of p (tree_at trees side) ≡ Open
  pub width : ℕ
  pub side_sort : tree_sort (tree_at trees side) ≡ Some (Bits width)
  pub other_sort : tree_sort (tree_at trees other) ≡ Some (Bits width)

-- the place itself is a truth value
pub record IsTruthPlace (p : Place) (trees : List Tree) (ids : List ℕ) : Type 0 where
  pub number : ℕ
  pub there : IsEarlier ids (length ids) number
  pub is : tree_at trees number ≡ Variable p.level BoolSort

abbrev pub IsReady : Place → List Tree → List ℕ → Offer → Type 0
IsReady p trees ids (Truth b) = IsTruthPlace p trees ids
IsReady p trees ids (Down side other target) = IsAim p trees ids side other

-- the offers of a list of candidates: those that stand outside the block, in order
pub record AreOffers (p : Place) (trees : List Tree) (ids : List ℕ) (all : List Tree) (offers : List Offer) : Type 0 where
  pub terms : map (offered p trees) offers ≡ map Some (filter (is_outside p.first p.end) all)
  pub ready : AllByRecursion (IsReady p trees ids) offers

-- behind those of any others come those of these
abbrev pub AddsOffers : Place → List Tree → List ℕ → (more : List Tree) → (old new : List Offer) → Type 0
AddsOffers p trees ids more old new = (all : List Tree) → AreOffers p trees ids all old → AreOffers p trees ids (all ++ more) new

-- no term of an offer passes
abbrev pub FailsAt : (Tree → Type 0) → Place → List Tree → Offer → Type 0
FailsAt P p trees o = (u : Tree) → offered p trees o ≡ Some u → P u → ⊥

-- it is the first offer whose term passes
pub record IsFirstOf (P : Tree → Type 0) (p : Place) (trees : List Tree) (ids : List ℕ) (offers : List Offer) (o : Offer) : Type 0 where
  pub before : List Offer
  pub behind : List Offer
  pub stands : offers ≡ before ++ o ∷ behind
  pub ready : IsReady p trees ids o
  pub holds : (u : Tree) → offered p trees o ≡ Some u → P u
  pub others : AllByRecursion (FailsAt P p trees) before

-- it is, or none passes
abbrev pub Finds : (Tree → Type 0) → Place → List Tree → List ℕ → List Offer → Option Offer → Type 0
Finds P p trees ids offers None = AllByRecursion (FailsAt P p trees) offers
Finds P p trees ids offers (Some o) = IsFirstOf P p trees ids offers o

-- whether a test holds of each term with this word
abbrev pub Decides : (Tree → Type 0) → (Tree → Type 0) → Bool → Type 0
Decides P Q held = (u : Tree) → Q u → (held ≡ true → P u) × (held ≡ false → P u → ⊥)

-- the place's word at the point has this sort
abbrev pub HasPlaceSort : List Word → ℕ → Sort → Type 0
HasPlaceSort point x s = IsSomeAnd (slice_get point x) (λ own. word_sort own ≡ s)

-- the test of a region at a point
abbrev pub Stays : List Word → List Tree → ℕ → Place → Tree → Type 0
Stays point trees region p = StaysTrue (values_of point) (tree_at trees region) p.level

-- the side to which the way is open, where the place doesn't stand in the other
abbrev pub open_side : Way → Way → Side
open_side Open Absent = First
open_side Absent Open = Second
open_side left right = Neither

-- the arguments of an operator in a walk
pub record AreSides (trees : List Tree) (ids : List ℕ) (o : Op) (a b : ℕ) : Type 0 where
  pub first : IsEarlier ids (length ids) a
  pub second : IsEarlier ids (length ids) b
  pub sorted : IsSorted (Apply o (Cons (tree_at trees a) (Cons (tree_at trees b) Nil)))
  pub free : IsQuantifierFree (Apply o (Cons (tree_at trees a) (Cons (tree_at trees b) Nil)))
