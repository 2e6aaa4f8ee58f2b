-- The conjuncts of a formula, and the choice for a place by those in which it stands.
use Rattle.std.specs.Prelude.{◌≡◌, ℕ, suc, false, List, [], ◌∷◌, ◌++◌, map}
use Rattle.qv_words.specs.declared.sort.Sort.{Sort}
use Rattle.qv_words.specs.declared.sort.Sort.TheVariants.{Bool as BoolSort}
use Rattle.qv_words.specs.declared.op.Op.TheVariants.{And}
use Rattle.qv_words.specs.Tree.{Tree, Literal}
use Rattle.qv_words.specs.Prenex.{binary}
use Rattle.qv_words.specs.Skolem.{IsTermOf}
use Rattle.qv_words.specs.Choice.{is_in, with_term, IsTrueAt, IsChosen}
use Rattle.qv_words.specs.ChoiceLaws.{HasSortAt}

-- conjuncts of a formula: itself, or those of both sides of an `and`, in order; true may have none
pub data AreConjuncts : Tree → List Tree → Type 0 where
  of_true : AreConjuncts (Literal BoolSort 1) []
  alone : (t : Tree) → AreConjuncts t (t ∷ [])
  of_both : (a b : Tree) (ks ls : List Tree) → AreConjuncts a ks → AreConjuncts b ls → AreConjuncts (binary And a b) (ks ++ ls)

-- a list without some members in which a variable doesn't stand
pub data LeavesOut (x : ℕ) : List Tree → List Tree → Type 0 where
  nothing : LeavesOut x [] []
  kept : (t : Tree) (ts left : List Tree) → LeavesOut x ts left → LeavesOut x (t ∷ ts) (t ∷ left)
  left_out : (t : Tree) (ts left : List Tree) → is_in x t ≡ false → LeavesOut x ts left → LeavesOut x (t ∷ ts) left

-- numbers of members, in order, of a list whose first member has number n: of all in which a
-- variable stands
pub data ArePicked (x : ℕ) : ℕ → List Tree → List ℕ → Type 0 where
  at_end : (n : ℕ) → ArePicked x n [] []
  picked : (n : ℕ) (t : Tree) (ts : List Tree) (numbers : List ℕ) → ArePicked x (suc n) ts numbers → ArePicked x n (t ∷ ts) (n ∷ numbers)
  passed : (n : ℕ) (t : Tree) (ts : List Tree) (numbers : List ℕ) → is_in x t ≡ false → ArePicked x (suc n) ts numbers → ArePicked x n (t ∷ ts) numbers

-- the choice for a place by the conjuncts in which it stands is the choice by the whole region
abbrev pub ConjunctsDecideChoices : Type 0
ConjunctsDecideChoices =
    (first end : ℕ) (point : List ℕ) (region : Tree) (conjuncts : List Tree) (x : ℕ) (s : Sort) (part : Tree) (parts : List Tree) (t : Tree) →
    IsTermOf region BoolSort → HasSortAt x s region → IsTrueAt point region →
    AreConjuncts region conjuncts → AreConjuncts part parts → LeavesOut x conjuncts parts →
    IsChosen first end point part x s t → IsChosen first end point region x s t

-- with a term put in, a formula has its conjuncts with the term put in
abbrev pub ConjunctsTakeTerms : Type 0
ConjunctsTakeTerms =
    (region : Tree) (conjuncts : List Tree) (x : ℕ) (t : Tree) →
    AreConjuncts region conjuncts → AreConjuncts (with_term x t region) (map (with_term x t) conjuncts)
