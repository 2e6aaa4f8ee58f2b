-- Marks of those terms below a region that are its conjuncts.
use Rattle.std.specs.Prelude.{◌≡◌, ℕ, suc, ◌<◌, ◌≤◌, ◌⊎◌, Bool, true, Some, List, [], ◌∷◌, set, slice_get}
use Rattle.qv_words.specs.Tree.{Tree}
use Rattle.qv_words.specs.Clauses.{is_among}
use Rattle.qv_words.specs.Choice.{is_and, joined}
use Rattle.qv_store.specs.Nodes.{tree_at}

-- a conjunct of a tree
abbrev pub IsConjunct : Tree → Tree → Type 0
IsConjunct t c = is_among (joined is_and t) c ≡ true

abbrev pub JoinsNone : Tree → Type 0
JoinsNone t = joined is_and t ≡ t ∷ []

-- a marked term of which a tree is a conjunct, which has a smaller number or joins none
pub record IsLeft (trees : List Tree) (ids : List ℕ) (marks : List Bool) (number : ℕ) (c : Tree) : Type 0 where
  pub place : ℕ
  pub id : ℕ
  pub at : slice_get ids place ≡ Some id
  pub marked : slice_get marks place ≡ Some true
  pub has : IsConjunct (tree_at trees id) c
  pub waits : (place < number) ⊎ JoinsNone (tree_at trees id)

-- the marked terms have the region's conjuncts alone, and all of them where those of this number
-- and more made way for their sides
pub record AreMarks (trees : List Tree) (region : Tree) (ids : List ℕ) (marks : List Bool) (number : ℕ) : Type 0 where
  pub right : (k n : ℕ) (c : Tree) → slice_get ids k ≡ Some n → slice_get marks k ≡ Some true → IsConjunct (tree_at trees n) c → IsConjunct region c
  pub all : (c : Tree) → IsConjunct region c → IsLeft trees ids marks number c

-- two terms of a walk are marked, where they first stand
pub record AreMarked (ids : List ℕ) (a b : ℕ) (old new : List Bool) : Type 0 where
  pub first : ℕ
  pub second : ℕ
  pub at_first : slice_get ids first ≡ Some a
  pub at_second : slice_get ids second ≡ Some b
  pub first_lowest : (k : ℕ) → slice_get ids k ≡ Some a → first ≤ k
  pub second_lowest : (k : ℕ) → slice_get ids k ≡ Some b → second ≤ k
  pub is : new ≡ set (set old first true) second true

-- the term of this number makes way for its sides
abbrev pub MarksSides : List Tree → List ℕ → ℕ → (old new : List Bool) → Type 0
MarksSides trees ids number old new = (region : Tree) → AreMarks trees region ids old (suc number) → AreMarks trees region ids new number

-- of those that join none, the conjuncts are marked
abbrev pub AreConjuncts : List Tree → Tree → List ℕ → List Bool → Type 0
AreConjuncts trees region ids marks =
    (k n : ℕ) (b : Bool) → slice_get ids k ≡ Some n → slice_get marks k ≡ Some b → JoinsNone (tree_at trees n) → b ≡ is_among (joined is_and region) (tree_at trees n)
