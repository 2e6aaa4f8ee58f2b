-- Inverse terms have no quantifiers.
use Rattle.std.proofs.Common.{ℕ, zero, suc, ◌-◌, ◌==◌, Bool, true, false, cond, Option, Some, None, List, [], ◌∷◌}
use Rattle.std.specs.Prelude.{IfSome, option_and_then}
use Rattle.qv_words.specs.declared.sort.Sort.{Sort}
use Rattle.qv_words.specs.declared.sort.Sort.TheVariants.{Bits}
use Rattle.qv_words.specs.declared.op.Op.{Op}
use Rattle.qv_words.specs.declared.op.Op.TheVariants.{BvNot, BvNeg, BvAnd, BvOr, BvXor, BvNand, BvNor, BvXnor, BvAdd, BvSub, BvMul, BvUdiv, BvUrem, BvShl, BvLshr, BvAshr, Concat, Extract, Repeat, ZeroExtend, SignExtend, RotateLeft, RotateRight}
use Rattle.qv_words.specs.Rank.{result_sort}
use Rattle.qv_words.specs.Tree.{Tree, IsQuantifierFree}
use Rattle.qv_words.specs.Inverse.{inverse_term, row_at, unary_row, first_row, second_row, product_row, amount_chain, other_term, target_term, zeros_before, zeros_behind}

before-free : (n : ℕ) (t : Tree) → IsQuantifierFree t → IsQuantifierFree (zeros_before n t)
before-free zero t h = h
before-free (suc n) t h = (tt, (h, tt))

behind-free : (n : ℕ) (t : Tree) → IsQuantifierFree t → IsQuantifierFree (zeros_behind n t)
behind-free zero t h = h
behind-free (suc n) t h = (h, (tt, tt))

product-free : (w : ℕ) (t : Tree) (value : Option ℕ) → IsQuantifierFree t → IfSome (product_row w t value) IsQuantifierFree
product-free w t None h = tt
product-free w t (Some s) h = go (s == 0) _ ((h, (tt, tt)), (tt, tt))
  where
    go : (b : Bool) (row : Tree) → IsQuantifierFree row → IfSome (cond b None (Some row)) IsQuantifierFree
    go true row k = tt
    go false row k = k

amounts-free : (shift : Op) (w : ℕ) (s t : Tree) (i n : ℕ) → IsQuantifierFree s → IsQuantifierFree t → IsQuantifierFree (amount_chain shift w s t i n)
amounts-free shift w s t i zero g h = tt
amounts-free shift w s t i (suc n) g h = (((g, (tt, tt)), (h, tt)), (tt, (amounts-free shift w s t (suc i) n g h, tt)))

one-free : (o : Op) (w : ℕ) (t : Tree) → IsQuantifierFree t → IfSome (unary_row o w t) IsQuantifierFree
one-free BvNot w t h = (h, tt)
one-free BvNeg w t h = (h, tt)
one-free (Extract i j) w t h = before-free (w - 1 - i) (zeros_behind j t) (behind-free j t h)
one-free (Repeat k) w t h = (h, tt)
one-free (ZeroExtend k) w t h = (h, tt)
one-free (SignExtend k) w t h = (h, tt)
one-free (RotateLeft k) w t h = (h, tt)
one-free (RotateRight k) w t h = (h, tt)
one-free _ w t h = tt

first-free : (o : Op) (w v : ℕ) (s t : Tree) (value : Option ℕ) → IsQuantifierFree s → IsQuantifierFree t → IfSome (first_row o w v s t value) IsQuantifierFree
first-free BvAdd w v s t value g h = (h, (g, tt))
first-free BvSub w v s t value g h = (h, (g, tt))
first-free BvXor w v s t value g h = (h, (g, tt))
first-free BvXnor w v s t value g h = (h, (g, tt))
first-free BvAnd w v s t value g h = h
first-free BvOr w v s t value g h = h
first-free BvNand w v s t value g h = (h, tt)
first-free BvNor w v s t value g h = (h, tt)
first-free BvMul w v s t value g h = product-free w t value h
first-free BvUdiv w v s t value g h = (g, (h, tt))
first-free BvUrem w v s t value g h = h
first-free BvShl w v s t value g h = (h, (g, tt))
first-free BvLshr w v s t value g h = (h, (g, tt))
first-free BvAshr w v s t value g h = ((g, (tt, tt)), ((h, (g, tt)), (h, tt)))
first-free Concat w v s t value g h = (h, tt)
first-free _ w v s t value g h = tt

second-free : (o : Op) (w v : ℕ) (s t : Tree) (value : Option ℕ) → IsQuantifierFree s → IsQuantifierFree t → IfSome (second_row o w v s t value) IsQuantifierFree
second-free BvAdd w v s t value g h = (h, (g, tt))
second-free BvSub w v s t value g h = (g, (h, tt))
second-free BvXor w v s t value g h = (h, (g, tt))
second-free BvXnor w v s t value g h = (h, (g, tt))
second-free BvAnd w v s t value g h = h
second-free BvOr w v s t value g h = h
second-free BvNand w v s t value g h = (h, tt)
second-free BvNor w v s t value g h = (h, tt)
second-free BvMul w v s t value g h = product-free w t value h
second-free BvUdiv w v s t value g h = (g, (h, tt))
second-free BvUrem w v s t value g h = ((g, (h, tt)), (tt, ((g, (h, tt)), tt)))
second-free BvShl w v s t value g h = amounts-free BvShl w s t 0 w g h
second-free BvLshr w v s t value g h = amounts-free BvLshr w s t 0 w g h
second-free BvAshr w v s t value g h = amounts-free BvAshr w s t 0 w g h
second-free Concat w v s t value g h = (h, tt)
second-free _ w v s t value g h = tt

row-free : (o : Op) (position : ℕ) (sorts : List Sort) (r : Sort) (value : Option ℕ) → IfSome (row_at o position sorts r value) IsQuantifierFree
row-free o zero (Bits w ∷ []) r value = one-free o w (target_term r) tt
row-free o zero (Bits w ∷ Bits v ∷ []) r value = first-free o w v (other_term (Bits v)) (target_term r) value tt tt
row-free o (suc zero) (Bits v ∷ Bits w ∷ []) r value = second-free o w v (other_term (Bits v)) (target_term r) value tt tt
row-free o _ _ r value = tt

pub inverse-free : (o : Op) (position : ℕ) (sorts : List Sort) (value : Option ℕ) → IfSome (inverse_term o position sorts value) IsQuantifierFree
unfolding inverse_term
inverse-free o position sorts value = go (result_sort o sorts)
  where
    go : (p : Option Sort) → IfSome (option_and_then (λ r. row_at o position sorts r value) p) IsQuantifierFree
    go None = tt
    go (Some r) = row-free o position sorts r value
