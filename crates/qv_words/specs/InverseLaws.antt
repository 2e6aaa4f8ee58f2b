-- What pins inverse terms down.
use Rattle.std.specs.Prelude.{◌≡◌, ℕ, zero, suc, ◌-◌, ◌<◌, ◌==◌, Bool, true, false, not, Option, Some, None, is_some, unwrap_or, List, length, All, slice_get}
use Rattle.qv_words.specs.declared.sort.Sort.{Sort}
use Rattle.qv_words.specs.declared.sort.Sort.TheVariants.{Bool as BoolSort}
use Rattle.qv_words.specs.declared.op.Op.{Op}
use Rattle.qv_words.specs.declared.op.Op.TheVariants.{BvNot, BvNeg, BvAnd, BvOr, BvXor, BvNand, BvNor, BvXnor, BvAdd, BvSub, BvMul, BvUdiv, BvUrem, BvShl, BvLshr, BvAshr, Concat, Extract, Repeat, ZeroExtend, SignExtend, RotateLeft, RotateRight}
use Rattle.qv_words.specs.Sort.{IsLawful}
use Rattle.qv_words.specs.Rank.{result_sort}
use Rattle.qv_words.specs.Tree.{Tree, Trees, Variable, Literal, Apply, Nil, Cons, tree_sort}
use Rattle.qv_words.specs.Sorted.{IsSorted}
use Rattle.qv_words.specs.Inverse.{inverse_term, Solves}

-- the operators that have a row, for each of their arguments; a product has one with a literal that
-- isn't 0
abbrev pub has_row : Op → Option ℕ → Bool
has_row BvNot value = true
has_row BvNeg value = true
has_row BvAnd value = true
has_row BvOr value = true
has_row BvXor value = true
has_row BvNand value = true
has_row BvNor value = true
has_row BvXnor value = true
has_row BvAdd value = true
has_row BvSub value = true
has_row BvMul None = false
has_row BvMul (Some s) = not (s == 0)
has_row BvUdiv value = true
has_row BvUrem value = true
has_row BvShl value = true
has_row BvLshr value = true
has_row BvAshr value = true
has_row Concat value = true
has_row (Extract i j) value = true
has_row (Repeat k) value = true
has_row (ZeroExtend k) value = true
has_row (SignExtend k) value = true
has_row (RotateLeft k) value = true
has_row (RotateRight k) value = true
has_row _ value = false

-- these have one wherever the arguments have a rank, and no others
abbrev pub RowsAreThere : Type 0
RowsAreThere =
    (o : Op) (position : ℕ) (sorts : List Sort) (r : Sort) (value : Option ℕ) → result_sort o sorts ≡ Some r → position < length sorts →
    is_some (inverse_term o position sorts value) ≡ has_row o value

-- a tree without quantifiers whose leaves are literals, the other argument of sort q at level 0,
-- and the target of sort r at level 1
abbrev mutual
  pub IsOver : (q r : Sort) → Tree → Type 0
  IsOver q r (Variable zero s) = s ≡ q
  IsOver q r (Variable (suc zero) s) = s ≡ r
  IsOver q r (Literal s n) = Unit {0}
  IsOver q r (Apply o args) = AreOver q r args
  IsOver q r _ = ⊥

  pub AreOver : (q r : Sort) → Trees → Type 0
  AreOver q r Nil = Unit {0}
  AreOver q r (Cons t ts) = IsOver q r t × AreOver q r ts

-- a row is a sorted tree over the other argument and the target, of the sort of the argument that
-- it is for
pub record FitsArgument (position : ℕ) (sorts : List Sort) (r : Sort) (row : Tree) : Type 0 where
  pub sorted : IsSorted row
  pub sort : tree_sort row ≡ slice_get sorts position
  pub leaves : IsOver (unwrap_or (slice_get sorts (1 - position)) BoolSort) r row

abbrev pub RowsFit : Type 0
RowsFit =
    (o : Op) (position : ℕ) (sorts : List Sort) (r : Sort) (value : Option ℕ) (row : Tree) → All IsLawful sorts →
    result_sort o sorts ≡ Some r → inverse_term o position sorts value ≡ Some row → FitsArgument position sorts r row

-- every row solves its operator
abbrev pub RowsSolve : Type 0
RowsSolve =
    (o : Op) (position : ℕ) (sorts : List Sort) (value : Option ℕ) (row : Tree) → All IsLawful sorts →
    inverse_term o position sorts value ≡ Some row → Solves o position sorts value row
