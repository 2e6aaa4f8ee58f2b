-- Sums of products modulo 2^w, and the pass that writes each term as such a sum.
use Rattle.std.specs.Prelude.{ℕ, ◌+◌, ◌-◌, ◌*◌, ◌%◌, ◌^◌, ◌==◌, nat_lt, nat_le, Bool, true, false, not, ◌&&◌, ◌||◌, if◌then◌else◌, Option, Some, None, unwrap_or, option_map, option_and_then, is_none, List, [], ◌∷◌, ◌++◌, map, length, filter, find, fold, count_ones}
use Rattle.qv_words.specs.declared.sort.Sort.{Sort}
use Rattle.qv_words.specs.declared.sort.Sort.TheVariants.{Bits}
use Rattle.qv_words.specs.declared.sort.Sort.TheVariants.{Bool as BoolSort}
use Rattle.qv_words.specs.declared.op.Op.{Op}
use Rattle.qv_words.specs.declared.op.Op.TheVariants.{Equal, BvNot, BvNeg, BvAdd, BvSub, BvMul, BvShl}
use Rattle.qv_words.specs.Sort.{width_of}
use Rattle.qv_words.specs.Signed.{negated}
use Rattle.qv_words.specs.Tree.{Tree, Trees, Constant, Variable, Literal, Apply, ForAll, Exists, Nil, Cons, tree_sort}
use Rattle.qv_words.specs.Equality.{tree_eq}
use Rattle.qv_words.specs.Prenex.{binary}
use Rattle.qv_words.specs.Inverse.{unary, number}
use Rattle.qv_words.specs.Passes.{truth_literal}

-- a product: its coefficient, and the trees that are its other factors
pub record Monomial : Type 0 where
  pub coefficient : ℕ
  pub factors : List Tree

-- a sum of monomials
abbrev pub Polynomial : Type 0
Polynomial = List Monomial

abbrev pub constant : ℕ → Monomial
constant c = record { coefficient = c; factors = [] }

-- a tree as a sum of itself alone
abbrev pub atom : Tree → Polynomial
atom t = record { coefficient = 1; factors = t ∷ [] } ∷ []

abbrev pub has_factors : Monomial → Bool
has_factors m = nat_lt 0 (length m.factors)

abbrev pub scaled : ℕ → Monomial → Monomial
scaled c m = record { coefficient = c * m.coefficient; factors = m.factors }

abbrev pub times : Monomial → Monomial → Monomial
times k m = record { coefficient = k.coefficient * m.coefficient; factors = k.factors ++ m.factors }

-- a sum by a number, the opposite of a sum modulo 2^w, and a sum by a sum
abbrev pub multiple : ℕ → Polynomial → Polynomial
multiple c p = map (scaled c) p

abbrev pub opposite : ℕ → Polynomial → Polynomial
opposite w p = multiple (2 ^ w - 1) p

abbrev pub products : Polynomial → Polynomial → Polynomial
products [] q = []
products (m ∷ p) q = map (times m) q ++ products p q

-- a list without its first tree that is t, where t is in it
abbrev pub without : Tree → List Tree → Option (List Tree)
without t [] = None
without t (u ∷ us) = if tree_eq t u then Some us else option_map (λ rest. u ∷ rest) (without t us)

-- whether two lists have the same trees, each as often
abbrev pub same_factors : List Tree → List Tree → Bool
same_factors [] [] = true
same_factors [] (u ∷ us) = false
same_factors (t ∷ ts) us = unwrap_or (option_map (same_factors ts) (without t us)) false

-- a monomial with its coefficient modulo n, and none where that is 0
abbrev pub reduced : ℕ → ℕ → List Tree → Polynomial
reduced n c factors = if c % n == 0 then [] else record { coefficient = c % n; factors = factors } ∷ []

-- one monomial more: its coefficient goes to the one with the same factors, or it comes last
abbrev pub plus : ℕ → Polynomial → Monomial → Polynomial
plus n [] m = reduced n m.coefficient m.factors
plus n (k ∷ p) m =
    if same_factors k.factors m.factors then reduced n (k.coefficient + m.coefficient) k.factors ++ p
    else k ∷ plus n p m

-- a sum with like monomials put together, modulo 2^w
abbrev pub collected : ℕ → Polynomial → Polynomial
collected w p = fold (plus (2 ^ w)) [] p

-- the number that a sum without factors is
abbrev pub number_of : Polynomial → Option ℕ
number_of [] = Some 0
number_of (m ∷ []) = if has_factors m then None else Some m.coefficient
number_of (m ∷ k ∷ p) = None

-- a sum shifted left by k bits
abbrev pub shifted : ℕ → Polynomial → ℕ → Option Polynomial
shifted w p k = if nat_lt k w then Some (multiple (2 ^ k) p) else None

-- an application of width w as a sum, where its arguments are these sums: -p - 1 is `bvnot`
abbrev pub combined : Op → ℕ → List Polynomial → Option Polynomial
combined BvAdd w (p ∷ q ∷ []) = Some (p ++ q)
combined BvSub w (p ∷ q ∷ []) = Some (p ++ opposite w q)
combined BvNeg w (p ∷ []) = Some (opposite w p)
combined BvNot w (p ∷ []) = Some (opposite w (p ++ constant 1 ∷ []))
combined BvMul w (p ∷ q ∷ []) = Some (products p q)
combined BvShl w (p ∷ q ∷ []) = option_and_then (shifted w p) (number_of q)
combined _ w ps = None

-- at most 24 monomials of at most 4 factors, and at most 48 before like ones are put together
abbrev pub is_short : Polynomial → Polynomial → Bool
is_short raw p =
    nat_le (length raw) 48 && nat_le (length p) 24 && is_none (find (λ m. nat_lt 4 (length m.factors)) p)

-- a sum that is short, or else the tree itself
abbrev pub short_or_atom : Polynomial → Polynomial → Tree → Polynomial
short_or_atom raw p t = if is_short raw p then p else atom t

abbrev pub sum_or_atom : ℕ → Option Polynomial → Tree → Polynomial
sum_or_atom w None t = atom t
sum_or_atom w (Some raw) t = short_or_atom raw (collected w raw) t

-- constants come first, by their indices, then variables, by their levels, then all other trees
abbrev pub comes_before : Tree → Tree → Bool
comes_before (Constant i s) (Constant j t) = nat_lt i j
comes_before (Constant i s) u = true
comes_before (Variable l s) (Constant j t) = false
comes_before (Variable l s) (Variable k t) = nat_lt l k
comes_before (Variable l s) u = true
comes_before t u = false

-- products by their first factors that differ, a longer one before its beginning
abbrev pub factors_before : List Tree → List Tree → Bool
factors_before [] us = false
factors_before (t ∷ ts) [] = true
factors_before (t ∷ ts) (u ∷ us) = comes_before t u || not (comes_before u t) && factors_before ts us

-- a list in order: what neither of two comes before the other stays as it stands
abbrev pub put_in : {X : Type 0} → (X → X → Bool) → X → List X → List X
put_in before x [] = x ∷ []
put_in before x (y ∷ ys) = if before y x then y ∷ put_in before x ys else x ∷ y ∷ ys

abbrev pub in_order : {X : Type 0} → (X → X → Bool) → List X → List X
in_order before [] = []
in_order before (x ∷ xs) = put_in before x (in_order before xs)

abbrev pub with_order : Polynomial → Polynomial
with_order p =
    in_order (λ k m. factors_before k.factors m.factors)
    (map (λ m. record { coefficient = m.coefficient; factors = in_order comes_before m.factors }) p)

-- trees joined by an operator from the left
abbrev pub joined : Op → Tree → List Tree → Tree
joined o none [] = none
joined o none (t ∷ ts) = fold (binary o) t ts

abbrev pub product_term : ℕ → Monomial → Tree
product_term w m =
    if has_factors m then
    (if m.coefficient == 1 then joined BvMul (number w 1) m.factors
    else binary BvMul (joined BvMul (number w 1) m.factors) (number w m.coefficient))
    else number w m.coefficient

abbrev pub sum_term : ℕ → Polynomial → Tree
sum_term w p = joined BvAdd (number w 0) (map (product_term w) p)

-- a monomial is subtracted where its coefficient has more one bits than the opposite one
abbrev pub is_subtracted : ℕ → Monomial → Bool
is_subtracted w m = nat_lt (count_ones (negated w m.coefficient)) (count_ones m.coefficient)

-- what is added in a sum, and what is subtracted
abbrev pub added : ℕ → Polynomial → Polynomial
added w p = filter (λ m. not (is_subtracted w m)) p

abbrev pub subtracted : ℕ → Polynomial → Polynomial
subtracted w p =
    map (λ m. record { coefficient = negated w m.coefficient; factors = m.factors }) (filter (is_subtracted w) p)

-- the opposite of a sum: of one that ends in 1 the complement of the others
abbrev pub opposite_term : ℕ → Polynomial → Tree
opposite_term w p =
    if unwrap_or (number_of (filter (λ m. not (has_factors m)) p)) 0 == 1 then unary BvNot (sum_term w (filter has_factors p))
    else unary BvNeg (sum_term w p)

abbrev pub difference_term : ℕ → Polynomial → Polynomial → Tree
difference_term w p [] = sum_term w p
difference_term w [] (m ∷ q) = opposite_term w (m ∷ q)
difference_term w (k ∷ p) (m ∷ q) = binary BvSub (sum_term w (k ∷ p)) (sum_term w (m ∷ q))

-- the term of a sum: a number, or what is added less what is subtracted
abbrev pub term_from : ℕ → Polynomial → Option ℕ → Tree
term_from w p (Some n) = number w n
term_from w p None = difference_term w (added w p) (subtracted w p)

abbrev pub term_of : ℕ → Polynomial → Tree
term_of w p = term_from w (with_order p) (number_of p)

-- a sum is odd, whatever its factors: those have even coefficients, and the numbers make an odd one
abbrev pub is_odd : Polynomial → Bool
is_odd p =
    is_none (find (λ m. has_factors m && m.coefficient % 2 == 1) p) && fold (λ n m. n + m.coefficient) 0 p % 2 == 1

-- what is added equals what is subtracted, turned so that the first monomial is on the left
abbrev pub sides_equal : ℕ → Polynomial → Tree
sides_equal w [] = binary Equal (sum_term w []) (sum_term w [])
sides_equal w (m ∷ p) =
    if is_subtracted w m then binary Equal (sum_term w (subtracted w (m ∷ p))) (sum_term w (added w (m ∷ p)))
    else binary Equal (sum_term w (added w (m ∷ p))) (sum_term w (subtracted w (m ∷ p)))

-- that a sum is 0: known where it is a number or odd
abbrev pub zero_from : ℕ → Polynomial → Option ℕ → Tree
zero_from w p (Some n) = truth_literal (n == 0)
zero_from w p None = if is_odd p then truth_literal false else sides_equal w (with_order p)

abbrev pub is_zero : ℕ → Polynomial → Tree
is_zero w p = zero_from w p (number_of p)

-- the width of a word
abbrev pub word_width : Option Sort → Option ℕ
word_width (Some (Bits w)) = Some w
word_width (Some BoolSort) = None
word_width None = None

-- an equation of words by the difference of its sides, an equation of truth values as it stands
abbrev pub equation : Option ℕ → Polynomial → Polynomial → Tree → Tree
equation None p q t = t
equation (Some w) p q t = is_zero w (collected w (p ++ opposite w q))

-- the bits of a tree
abbrev pub bits_in : Tree → ℕ
bits_in t = width_of (unwrap_or (tree_sort t) BoolSort)

-- trees as the terms of their sums
abbrev pub terms_of : Trees → List Polynomial → Trees
terms_of Nil ps = Nil
terms_of (Cons t ts) [] = Nil
terms_of (Cons t ts) (p ∷ ps) = Cons (term_of (bits_in t) p) (terms_of ts ps)

-- an application with its arguments as such terms
abbrev pub rebuilt : Op → Trees → List Polynomial → Tree
rebuilt Equal (Cons a (Cons b Nil)) (p ∷ q ∷ []) =
    equation (word_width (tree_sort a)) p q (binary Equal (term_of (bits_in a) p) (term_of (bits_in b) q))
rebuilt o ts ps = Apply o (terms_of ts ps)

-- an application as a sum, where its arguments are these
abbrev pub applied : Op → Trees → List Polynomial → Polynomial
applied o ts ps = sum_or_atom (bits_in (Apply o ts)) (combined o (bits_in (Apply o ts)) ps) (rebuilt o ts ps)

-- each tree as a sum, from its leaves up
abbrev mutual
  pub polynomial : Tree → Polynomial
  polynomial (Constant i s) = atom (Constant i s)
  polynomial (Variable l s) = atom (Variable l s)
  polynomial (Literal BoolSort n) = atom (Literal BoolSort n)
  polynomial (Literal (Bits w) n) = collected w (constant n ∷ [])
  polynomial (Apply o ts) = applied o ts (polynomials ts)
  polynomial (ForAll l s body) = atom (ForAll l s body)
  polynomial (Exists l s body) = atom (Exists l s body)

  pub polynomials : Trees → List Polynomial
  polynomials Nil = []
  polynomials (Cons t ts) = polynomial t ∷ polynomials ts

-- a tree as the term of its sum, and a list of formulas
abbrev pub summed : Tree → Tree
summed t = term_of (bits_in t) (polynomial t)

abbrev pub sum_pass : List Tree → List Tree
sum_pass formulas = map summed formulas
