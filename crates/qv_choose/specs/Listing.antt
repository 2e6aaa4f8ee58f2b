-- For each place of a block the numbers of the formulas in which it stands. No public contract
-- cites this.
use Rattle.std.specs.Prelude.{◌≡◌, ℕ, ◌+◌, ◌-◌, ◌<◌, ◌⊎◌, Option, Some, None, List, [], ◌∷◌, ◌++◌, Vec, map, length, slice_get}
use Rattle.std.specs.List.{AllByRecursion}
use Rattle.std.specs.declared.alloc.Global.{Global}
use Rattle.qv_words.specs.declared.sort.Sort.{Sort}
use Rattle.qv_words.specs.Tree.{Tree, Variable}
use Rattle.qv_choose.specs.Conjuncts.{ArePicked}

-- the numbers in vectors of them
abbrev pub numbers_in : List (Vec ℕ Global) → List (List ℕ)
numbers_in lists = map (λ list. list.items) lists

-- those of each place, of which the first has this level
abbrev pub AreListed : ℕ → List Tree → List (List ℕ) → Type 0
AreListed first ts lists = (j : ℕ) (own : List ℕ) → slice_get lists j ≡ Some own → ArePicked (first + j) 0 ts own

-- all are less than n
abbrev pub AreLess : ℕ → List (List ℕ) → Type 0
AreLess n lists = (j : ℕ) (own : List ℕ) → slice_get lists j ≡ Some own → AllByRecursion (λ m. m < n) own

-- a number stands at the end
abbrev pub EndsWith : ℕ → List ℕ → Type 0
EndsWith n own = slice_get own (length own - 1) ≡ Some n

-- it is put at the end, unless it is there
abbrev pub IsNoted : ℕ → (old new : List ℕ) → Type 0
IsNoted n old new = ((new ≡ old ++ n ∷ []) × (EndsWith n old → ⊥)) ⊎ ((new ≡ old) × EndsWith n old)

-- the place of a block of so many places, the first of this level, that has a level
abbrev pub IsPlaceAt : (first many level : ℕ) → Option ℕ → Type 0
IsPlaceAt first many level None = (j : ℕ) → j < many → level ≡ first + j → ⊥
IsPlaceAt first many level (Some j) = (j < many) × (level ≡ first + j)

-- the same of one whose variable a tree is
abbrev pub IsPlaceOf : (first many : ℕ) → Tree → Option ℕ → Type 0
IsPlaceOf first many t None = (j : ℕ) (s : Sort) → j < many → t ≡ Variable (first + j) s → ⊥
IsPlaceOf first many t (Some j) = (j < many) × ((s : Sort) × (t ≡ Variable (first + j) s))

-- a number is put into the list of the place whose variable a tree is
abbrev pub NotesTree : (first n : ℕ) → Tree → (old new : List (List ℕ)) → Type 0
NotesTree first n t old new =
    (length new ≡ length old) × ((j : ℕ) (before own : List ℕ) → slice_get old j ≡ Some before → slice_get new j ≡ Some own →
    ((own ≡ before) × ((s : Sort) → t ≡ Variable (first + j) s → ⊥)) ⊎ IsNoted n before own)

-- one more formula is listed
abbrev pub ListsOne : (first n : ℕ) → Tree → (old new : List (List ℕ)) → Type 0
ListsOne first n t old new =
    (length new ≡ length old) × ((ts : List Tree) → length ts ≡ n → AreListed first ts old → AreListed first (ts ++ t ∷ []) new)
