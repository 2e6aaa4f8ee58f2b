-- Inverse terms: what to put for one argument of an operator so that the result is a target. The
-- method is that of Niemetz, Preiner, Reynolds, Barrett and Tinelli (CAV 2018); the rows are this
-- project's own.
use Rattle.std.specs.Prelude.{◌≡◌, ℕ, zero, suc, ◌+◌, ◌-◌, ◌*◌, ◌/◌, ◌%◌, ◌^◌, ◌==◌, if◌then◌else◌, Option, Some, None, option_and_then, unwrap_or, List, [], ◌∷◌, slice_get}
use Rattle.qv_words.specs.declared.sort.Sort.{Sort}
use Rattle.qv_words.specs.declared.sort.Sort.TheVariants.{Bits}
use Rattle.qv_words.specs.declared.sort.Sort.TheVariants.{Bool as BoolSort}
use Rattle.qv_words.specs.declared.op.Op.{Op}
use Rattle.qv_words.specs.declared.op.Op.TheVariants.{Equal, BvNot, BvNeg, BvAnd, BvOr, BvXor, BvNand, BvNor, BvXnor, BvAdd, BvSub, BvMul, BvUdiv, BvUrem, BvShl, BvLshr, BvAshr, BvUlt, Concat, Extract, Repeat, ZeroExtend, SignExtend, RotateLeft, RotateRight}
use Rattle.qv_words.specs.Sort.{IsValueOf}
use Rattle.qv_words.specs.Rank.{result_sort}
use Rattle.qv_words.specs.Op.{op_value}
use Rattle.qv_words.specs.Tree.{Tree, Variable, Literal, Apply, Nil, Cons}
use Rattle.qv_words.specs.Sorted.{no_levels, with_level}
use Rattle.qv_words.specs.Meaning.{Means}
use Rattle.qv_words.specs.Prenex.{binary, ite}

abbrev pub unary : Op → Tree → Tree
unary o a = Apply o (Cons a Nil)

-- the bit-vector of a number
abbrev pub number : ℕ → ℕ → Tree
number w n = Literal (Bits w) n

-- the other argument s, and the target t
abbrev pub other_term : Sort → Tree
other_term s = Variable 0 s

abbrev pub target_term : Sort → Tree
target_term s = Variable 1 s

-- how many zeros end the digits of a number that isn't 0, among at most so many
abbrev pub trailing_zeros : ℕ → ℕ → ℕ
trailing_zeros zero n = 0
trailing_zeros (suc k) n = if n % 2 == 0 then suc (trailing_zeros k (n / 2)) else 0

-- the inverse of an odd number modulo m = 2^w, w at most 128: each step of Newton's method doubles
-- the digits that are right, 3 at first
abbrev pub newton : ℕ → (m a x : ℕ) → ℕ
newton zero m a x = x
newton (suc n) m a x = newton n m a (x * (2 + m - a * x % m) % m)

unfoldable pub inverse_modulo : ℕ → ℕ → ℕ
inverse_modulo w a = newton 6 (2 ^ w) a (a % 2 ^ w)

-- of a product with a literal that isn't 0
abbrev pub product_row : ℕ → Tree → Option ℕ → Option Tree
product_row w t None = None
product_row w t (Some s) =
    if s == 0 then None
    else Some (binary BvMul (binary BvLshr t (number w (trailing_zeros w s))) (number w (inverse_modulo w (s / 2 ^ trailing_zeros w s))))

-- the amounts from i on, of which there are n before the width
abbrev pub amount_chain : Op → ℕ → Tree → Tree → ℕ → ℕ → Tree
amount_chain shift w s t i zero = number w w
amount_chain shift w s t i (suc n) =
    ite (binary Equal (binary shift s (number w i)) t) (number w i) (amount_chain shift w s t (suc i) n)

abbrev pub amount_row : Op → ℕ → Tree → Tree → Tree
amount_row shift w s t = amount_chain shift w s t 0 w

-- zeros before and behind a tree, where there are any
abbrev pub zeros_before : ℕ → Tree → Tree
zeros_before zero t = t
zeros_before (suc n) t = binary Concat (number (suc n) 0) t

abbrev pub zeros_behind : ℕ → Tree → Tree
zeros_behind zero t = t
zeros_behind (suc n) t = binary Concat t (number (suc n) 0)

-- the row of an operator of one argument, of w bits
abbrev pub unary_row : Op → ℕ → Tree → Option Tree
unary_row BvNot w t = Some (unary BvNot t)
unary_row BvNeg w t = Some (unary BvNeg t)
unary_row (Extract i j) w t = Some (zeros_before (w - 1 - i) (zeros_behind j t))
unary_row (Repeat k) w t = Some (unary (Extract (w - 1) 0) t)
unary_row (ZeroExtend k) w t = Some (unary (Extract (w - 1) 0) t)
unary_row (SignExtend k) w t = Some (unary (Extract (w - 1) 0) t)
unary_row (RotateLeft k) w t = Some (unary (RotateRight k) t)
unary_row (RotateRight k) w t = Some (unary (RotateLeft k) t)
unary_row _ w t = None

-- the row for the first of two arguments, of w bits, where s is the second, of v bits
abbrev pub first_row : Op → (w v : ℕ) → Tree → Tree → Option ℕ → Option Tree
first_row BvAdd w v s t value = Some (binary BvSub t s)
first_row BvSub w v s t value = Some (binary BvAdd t s)
first_row BvXor w v s t value = Some (binary BvXor t s)
first_row BvXnor w v s t value = Some (binary BvXnor t s)
first_row BvAnd w v s t value = Some t
first_row BvOr w v s t value = Some t
first_row BvNand w v s t value = Some (unary BvNot t)
first_row BvNor w v s t value = Some (unary BvNot t)
first_row BvMul w v s t value = product_row w t value
first_row BvUdiv w v s t value = Some (binary BvMul s t)
first_row BvUrem w v s t value = Some t
first_row BvShl w v s t value = Some (binary BvLshr t s)
first_row BvLshr w v s t value = Some (binary BvShl t s)
first_row BvAshr w v s t value = Some (ite (binary BvUlt s (number w w)) (binary BvShl t s) t)
first_row Concat w v s t value = Some (unary (Extract (w + v - 1) v) t)
first_row _ w v s t value = None

-- the row for the second, where s is the first
abbrev pub second_row : Op → (w v : ℕ) → Tree → Tree → Option ℕ → Option Tree
second_row BvAdd w v s t value = Some (binary BvSub t s)
second_row BvSub w v s t value = Some (binary BvSub s t)
second_row BvXor w v s t value = Some (binary BvXor t s)
second_row BvXnor w v s t value = Some (binary BvXnor t s)
second_row BvAnd w v s t value = Some t
second_row BvOr w v s t value = Some t
second_row BvNand w v s t value = Some (unary BvNot t)
second_row BvNor w v s t value = Some (unary BvNot t)
second_row BvMul w v s t value = product_row w t value
second_row BvUdiv w v s t value = Some (binary BvUdiv s t)
second_row BvUrem w v s t value = Some (ite (binary Equal s t) (number w 0) (binary BvSub s t))
second_row BvShl w v s t value = Some (amount_row BvShl w s t)
second_row BvLshr w v s t value = Some (amount_row BvLshr w s t)
second_row BvAshr w v s t value = Some (amount_row BvAshr w s t)
second_row Concat w v s t value = Some (unary (Extract (w - 1) 0) t)
second_row _ w v s t value = None

-- the row by the sorts of the arguments and of the result; the value is that of the other argument,
-- where it is a literal
abbrev pub row_at : Op → ℕ → List Sort → Sort → Option ℕ → Option Tree
row_at o zero (Bits w ∷ []) r value = unary_row o w (target_term r)
row_at o zero (Bits w ∷ Bits v ∷ []) r value = first_row o w v (other_term (Bits v)) (target_term r) value
row_at o (suc zero) (Bits v ∷ Bits w ∷ []) r value = second_row o w v (other_term (Bits v)) (target_term r) value
row_at o position sorts r value = None

-- the inverse term for the argument at a position, over the variables of level 0 and 1
unfoldable pub inverse_term : Op → ℕ → List Sort → Option ℕ → Option Tree
inverse_term o position sorts value = option_and_then (λ r. row_at o position sorts r value) (result_sort o sorts)

-- the values s of the other argument and t of the target
abbrev pub solving : (s t : ℕ) → ℕ → Option ℕ
solving s t = with_level (with_level no_levels 0 s) 1 t

-- the arguments in their order, x at the position and s at the other, if there is one
abbrev pub arguments : ℕ → List Sort → (x s : ℕ) → List ℕ
arguments position (a ∷ []) x s = x ∷ []
arguments zero sorts x s = x ∷ s ∷ []
arguments (suc n) sorts x s = s ∷ x ∷ []

-- wherever some value of the argument gives the target, the row's value does
abbrev pub Solves : Op → ℕ → List Sort → Option ℕ → Tree → Type 0
Solves o position sorts value row =
    (s t x y : ℕ) → unwrap_or value s ≡ s → op_value o sorts (arguments position sorts x s) ≡ t →
    IsValueOf x (unwrap_or (slice_get sorts position) BoolSort) → IsValueOf s (unwrap_or (slice_get sorts (1 - position)) BoolSort) →
    Means [] (solving s t) row y → op_value o sorts (arguments position sorts y s) ≡ t
