-- The terms that sums become: their sorts, their leaves and their values.
use Rattle.std.proofs.Common.{◌≡◌, ℕ, ◌+◌, ◌-◌, ◌*◌, ◌%◌, ◌^◌, ◌<◌, ◌==◌, Bool, true, false, cond, not, Option, Some, None, List, [], ◌∷◌, ◌++◌, map, refl, sym, ap, ◌∙◌, subst, arith, fold}
use Rattle.std.specs.Prelude.{unwrap_or, option_map, filter, IsSome}
use Rattle.std.specs.List.{AllByRecursion, Contains}
use Rattle.std.proofs.lemmas.Bool.{eqb-true}
use Rattle.std.proofs.lemmas.Nat.{mod_below, pow_pos}
use Rattle.std.proofs.Math.Nat.{mod-mod, zero-mod}
use Rattle.qv_words.specs.declared.sort.Sort.{Sort}
use Rattle.qv_words.specs.declared.sort.Sort.TheVariants.{Bits}
use Rattle.qv_words.specs.declared.op.Op.{Op}
use Rattle.qv_words.specs.declared.op.Op.TheVariants.{BvNot, BvNeg, BvAdd, BvSub, BvMul}
use Rattle.qv_words.specs.Sort.{IsLawful}
use Rattle.qv_words.specs.Signed.{negated}
use Rattle.qv_words.specs.Rank.{result_sort}
use Rattle.qv_words.specs.Op.{op_value}
use Rattle.qv_words.specs.Tree.{Tree, tree_sort}
use Rattle.qv_words.specs.Sorted.{constants_of, free_levels}
use Rattle.qv_words.specs.Prenex.{binary}
use Rattle.qv_words.specs.Inverse.{unary, number}
use Rattle.qv_words.proofs.Equals.{test-refl}
use Rattle.qv_words.proofs.Leaves.{both}
use Rattle.qv_words.proofs.TwosComplement.{halves}
use Rattle.qv_words.specs.Sums.{Monomial, Polynomial, has_factors, comes_before, factors_before, put_in, in_order, with_order, joined, product_term, sum_term, is_subtracted, added, subtracted, number_of, opposite_term, difference_term, term_from, term_of}
use Rattle.qv_rewrite_passes.proofs.Congruent.{add-like, add-like_left, add-like_right, mul-like, rest-below, add-cancel, more-whole, complement}
use Rattle.qv_rewrite_passes.proofs.Valuing.{product_value, monomial_value, value, number-value, value-with_order, value-parts, value-number, value-split, value-one}
use Rattle.qv_rewrite_passes.proofs.Meanings.{meaning, HaveValues, IsOver, over-meaning}

-- a word over these leaves
abbrev pub IsWord : List (ℕ × Sort) → List (ℕ × Sort) → ℕ → Tree → Type 0
IsWord cs vs w = IsOver cs vs (Bits w)

-- a monomial of words, with a coefficient of w bits
pub record Fits (cs vs : List (ℕ × Sort)) (w : ℕ) (m : Monomial) : Type 0 where
  pub coefficient : m.coefficient < 2 ^ w
  pub factors : AllByRecursion (IsWord cs vs w) m.factors

abbrev pub AllFit : List (ℕ × Sort) → List (ℕ × Sort) → ℕ → Polynomial → Type 0
AllFit cs vs w p = AllByRecursion (Fits cs vs w) p

pub word-below : (c : List ℕ) (e : ℕ → Option ℕ) (cs vs : List (ℕ × Sort)) (w : ℕ) (u : Tree) → IsWord cs vs w u → HaveValues c e cs vs → meaning c e u < 2 ^ w
word-below c e cs vs w u k h = (over-meaning c e cs vs (Bits w) u k h).0

pub word-number : (cs vs : List (ℕ × Sort)) (w n : ℕ) → IsLawful (Bits w) → n < 2 ^ w → IsWord cs vs w (number w n)
word-number cs vs w n lawful h = record { sorted = (lawful, h); free = tt; sort = refl; leaves = record { constants_in = tt; variables_in = tt } }

-- the rank of two words of one width
two-alike_rank : (w : ℕ) → option_map Bits (cond (w == w) (Some w) None) ≡ Some (Bits w)
two-alike_rank w = rw (test-refl w) refl

-- an operator of two words whose result is a word
abbrev IsOfWords : Op → ℕ → Type 0
IsOfWords o w = result_sort o (Bits w ∷ Bits w ∷ []) ≡ Some (Bits w)

-- an application of two trees, and of one
pub over-two : (cs vs : List (ℕ × Sort)) (o : Op) (x y s : Sort) (a b : Tree) → result_sort o (x ∷ y ∷ []) ≡ Some s → IsOver cs vs x a → IsOver cs vs y b → IsOver cs vs s (binary o a b)
over-two cs vs o x y s a b rank f g =
    let is : tree_sort (binary o a b) ≡ Some s = rw (f.sort, g.sort) rank in
    record {
      sorted = ((f.sorted, (g.sorted, tt)), subst IsSome (sym is) refl);
      free = (f.free, (g.free, tt));
      sort = is;
      leaves = record {
        constants_in = both (Contains cs) (constants_of a) (constants_of b ++ []) f.leaves.constants_in (both (Contains cs) (constants_of b) [] g.leaves.constants_in tt);
        variables_in = both (Contains vs) (free_levels a) (free_levels b ++ []) f.leaves.variables_in (both (Contains vs) (free_levels b) [] g.leaves.variables_in tt);
      };
    }

pub over-one : (cs vs : List (ℕ × Sort)) (o : Op) (x s : Sort) (a : Tree) → result_sort o (x ∷ []) ≡ Some s → IsOver cs vs x a → IsOver cs vs s (unary o a)
over-one cs vs o x s a rank f =
    let is : tree_sort (unary o a) ≡ Some s = rw f.sort rank in
    record {
      sorted = ((f.sorted, tt), subst IsSome (sym is) refl);
      free = (f.free, tt);
      sort = is;
      leaves = record {
        constants_in = both (Contains cs) (constants_of a) [] f.leaves.constants_in tt;
        variables_in = both (Contains vs) (free_levels a) [] f.leaves.variables_in tt;
      };
    }

pub over-binary : (cs vs : List (ℕ × Sort)) (o : Op) (w : ℕ) (s : Sort) (a b : Tree) → result_sort o (Bits w ∷ Bits w ∷ []) ≡ Some s → IsWord cs vs w a → IsWord cs vs w b → IsOver cs vs s (binary o a b)
over-binary cs vs o w s a b rank f g = over-two cs vs o (Bits w) (Bits w) s a b rank f g

pub meaning-binary : (c : List ℕ) (e : ℕ → Option ℕ) (o : Op) (s t : Sort) (a b : Tree) → tree_sort a ≡ Some s → tree_sort b ≡ Some t → meaning c e (binary o a b) ≡ op_value o (s ∷ t ∷ []) (meaning c e a ∷ meaning c e b ∷ [])
meaning-binary c e o s t a b f g = rw (f, g) refl

pub over-unary : (cs vs : List (ℕ × Sort)) (o : Op) (w : ℕ) (a : Tree) → result_sort o (Bits w ∷ []) ≡ Some (Bits w) → IsWord cs vs w a → IsWord cs vs w (unary o a)
over-unary cs vs o w a rank f = over-one cs vs o (Bits w) (Bits w) a rank f

pub meaning-unary : (c : List ℕ) (e : ℕ → Option ℕ) (o : Op) (s : Sort) (a : Tree) → tree_sort a ≡ Some s → meaning c e (unary o a) ≡ op_value o (s ∷ []) (meaning c e a ∷ [])
meaning-unary c e o s a f = rw f refl

-- a product from the left
word-product_from : (cs vs : List (ℕ × Sort)) (w : ℕ) (t : Tree) (ts : List Tree) → IsWord cs vs w t → AllByRecursion (IsWord cs vs w) ts → IsWord cs vs w (fold (binary BvMul) t ts)
word-product_from cs vs w t [] f g = f
word-product_from cs vs w t (u ∷ us) f g = word-product_from cs vs w (binary BvMul t u) us (over-binary cs vs BvMul w (Bits w) t u (two-alike_rank w) f g.0) g.1

value-product_from : (c : List ℕ) (e : ℕ → Option ℕ) (cs vs : List (ℕ × Sort)) (w : ℕ) (t : Tree) (ts : List Tree) → HaveValues c e cs vs → IsWord cs vs w t → AllByRecursion (IsWord cs vs w) ts → meaning c e (fold (binary BvMul) t ts) ≡ meaning c e t * product_value (meaning c e) ts % 2 ^ w
value-product_from c e cs vs w t [] h f g =
    sym (ap (λ x. x % 2 ^ w) (let one : meaning c e t * 1 ≡ meaning c e t = omega arith in one) ∙ rest-below (2 ^ w) (meaning c e t) (word-below c e cs vs w t f h))
value-product_from c e cs vs w t (u ∷ us) h f g =
    let v = meaning c e in
    value-product_from c e cs vs w (binary BvMul t u) us h (over-binary cs vs BvMul w (Bits w) t u (two-alike_rank w) f g.0) g.1
    ∙ ap (λ x. x * product_value v us % 2 ^ w) (meaning-binary c e BvMul (Bits w) (Bits w) t u f.sort g.0.sort)
    ∙ mul-like (2 ^ w) (v t * v u % 2 ^ w) (v t * v u) (product_value v us) (product_value v us) (mod-mod (v t * v u) (2 ^ w)) refl
    ∙ ap (λ x. x % 2 ^ w) (let turned : v t * v u * product_value v us ≡ v t * (v u * product_value v us) = omega arith in turned)

-- one is a word's value
pub one-below : (w : ℕ) → IsLawful (Bits w) → 1 < 2 ^ w
one-below w lawful = let twice = halves w lawful.0 in let some = pow_pos (w - 1) in omega (arith, twice, some)

word-product : (cs vs : List (ℕ × Sort)) (w : ℕ) (ts : List Tree) → IsLawful (Bits w) → AllByRecursion (IsWord cs vs w) ts → IsWord cs vs w (joined BvMul (number w 1) ts)
word-product cs vs w [] lawful g = word-number cs vs w 1 lawful (one-below w lawful)
word-product cs vs w (t ∷ ts) lawful g = word-product_from cs vs w t ts g.0 g.1

value-product : (c : List ℕ) (e : ℕ → Option ℕ) (cs vs : List (ℕ × Sort)) (w : ℕ) (ts : List Tree) → IsLawful (Bits w) → HaveValues c e cs vs → AllByRecursion (IsWord cs vs w) ts → meaning c e (joined BvMul (number w 1) ts) ≡ product_value (meaning c e) ts % 2 ^ w
value-product c e cs vs w [] lawful h g = sym (rest-below (2 ^ w) 1 (one-below w lawful))
value-product c e cs vs w (t ∷ ts) lawful h g = value-product_from c e cs vs w t ts h g.0 g.1

-- a monomial's term
pub word-monomial : (cs vs : List (ℕ × Sort)) (w : ℕ) (m : Monomial) → IsLawful (Bits w) → Fits cs vs w m → IsWord cs vs w (product_term w m)
word-monomial cs vs w m lawful f = go (has_factors m) (m.coefficient == 1)
  where
    product : IsWord cs vs w (joined BvMul (number w 1) m.factors)
    product = word-product cs vs w m.factors lawful f.factors

    go : (a b : Bool) → IsWord cs vs w (cond a (cond b (joined BvMul (number w 1) m.factors) (binary BvMul (joined BvMul (number w 1) m.factors) (number w m.coefficient))) (number w m.coefficient))
    go true true = product
    go true false = over-binary cs vs BvMul w (Bits w) (joined BvMul (number w 1) m.factors) (number w m.coefficient) (two-alike_rank w) product (word-number cs vs w m.coefficient lawful f.coefficient)
    go false b = word-number cs vs w m.coefficient lawful f.coefficient

pub value-monomial : (c : List ℕ) (e : ℕ → Option ℕ) (cs vs : List (ℕ × Sort)) (w : ℕ) (m : Monomial) → IsLawful (Bits w) → HaveValues c e cs vs → Fits cs vs w m → meaning c e (product_term w m) ≡ monomial_value (meaning c e) m % 2 ^ w
value-monomial c e cs vs w m lawful h f = go (has_factors m) (m.coefficient == 1) refl refl
  where
    v : Tree → ℕ
    v = meaning c e

    product : IsWord cs vs w (joined BvMul (number w 1) m.factors)
    product = word-product cs vs w m.factors lawful f.factors

    is : meaning c e (joined BvMul (number w 1) m.factors) ≡ product_value (meaning c e) m.factors % 2 ^ w
    is = value-product c e cs vs w m.factors lawful h f.factors

    go : (a b : Bool) → has_factors m ≡ a → (m.coefficient == 1) ≡ b → meaning c e (cond a (cond b (joined BvMul (number w 1) m.factors) (binary BvMul (joined BvMul (number w 1) m.factors) (number w m.coefficient))) (number w m.coefficient)) ≡ m.coefficient * product_value (meaning c e) m.factors % 2 ^ w
    go true true some one =
        is ∙ ap (λ x. x % 2 ^ w) (let single : product_value (meaning c e) m.factors ≡ 1 * product_value (meaning c e) m.factors = omega arith in single)
        ∙ ap (λ k. k * product_value (meaning c e) m.factors % 2 ^ w) (sym (eqb-true m.coefficient 1 one))
    go true false some other =
        meaning-binary c e BvMul (Bits w) (Bits w) (joined BvMul (number w 1) m.factors) (number w m.coefficient) product.sort refl
        ∙ mul-like (2 ^ w) (meaning c e (joined BvMul (number w 1) m.factors)) (product_value (meaning c e) m.factors) m.coefficient m.coefficient
        (ap (λ x. x % 2 ^ w) is ∙ mod-mod (product_value (meaning c e) m.factors) (2 ^ w)) refl
        ∙ ap (λ x. x % 2 ^ w) (let turned : product_value (meaning c e) m.factors * m.coefficient ≡ m.coefficient * product_value (meaning c e) m.factors = omega arith in turned)
    go false b none other =
        sym (ap (λ x. x % 2 ^ w) (number-value (meaning c e) m.coefficient m.factors none) ∙ rest-below (2 ^ w) m.coefficient f.coefficient)

-- a sum from the left
word-sum_from : (cs vs : List (ℕ × Sort)) (w : ℕ) (t : Tree) (p : Polynomial) → IsLawful (Bits w) → IsWord cs vs w t → AllFit cs vs w p → IsWord cs vs w (fold (binary BvAdd) t (map (product_term w) p))
word-sum_from cs vs w t [] lawful f g = f
word-sum_from cs vs w t (m ∷ p) lawful f g =
    word-sum_from cs vs w (binary BvAdd t (product_term w m)) p lawful
    (over-binary cs vs BvAdd w (Bits w) t (product_term w m) (two-alike_rank w) f (word-monomial cs vs w m lawful g.0)) g.1

value-sum_from : (c : List ℕ) (e : ℕ → Option ℕ) (cs vs : List (ℕ × Sort)) (w : ℕ) (t : Tree) (p : Polynomial) → IsLawful (Bits w) → HaveValues c e cs vs → IsWord cs vs w t → AllFit cs vs w p → meaning c e (fold (binary BvAdd) t (map (product_term w) p)) ≡ (meaning c e t + value (meaning c e) p) % 2 ^ w
value-sum_from c e cs vs w t [] lawful h f g =
    sym (ap (λ x. x % 2 ^ w) (let none : meaning c e t + 0 ≡ meaning c e t = omega arith in none) ∙ rest-below (2 ^ w) (meaning c e t) (word-below c e cs vs w t f h))
value-sum_from c e cs vs w t (m ∷ p) lawful h f g =
    let v = meaning c e in
    let first = word-monomial cs vs w m lawful g.0 in
    value-sum_from c e cs vs w (binary BvAdd t (product_term w m)) p lawful h (over-binary cs vs BvAdd w (Bits w) t (product_term w m) (two-alike_rank w) f first) g.1
    ∙ ap (λ x. (x + value v p) % 2 ^ w) (meaning-binary c e BvAdd (Bits w) (Bits w) t (product_term w m) f.sort first.sort)
    ∙ add-like_left (2 ^ w) ((v t + v (product_term w m)) % 2 ^ w) (v t + monomial_value v m) (value v p)
    (mod-mod (v t + v (product_term w m)) (2 ^ w)
    ∙ add-like_right (2 ^ w) (v t) (v (product_term w m)) (monomial_value v m)
    (ap (λ x. x % 2 ^ w) (value-monomial c e cs vs w m lawful h g.0) ∙ mod-mod (monomial_value v m) (2 ^ w)))
    ∙ ap (λ x. x % 2 ^ w) (let turned : v t + monomial_value v m + value v p ≡ v t + (monomial_value v m + value v p) = omega arith in turned)

pub word-sum : (cs vs : List (ℕ × Sort)) (w : ℕ) (p : Polynomial) → IsLawful (Bits w) → AllFit cs vs w p → IsWord cs vs w (sum_term w p)
word-sum cs vs w [] lawful g = word-number cs vs w 0 lawful (pow_pos w)
word-sum cs vs w (m ∷ p) lawful g = word-sum_from cs vs w (product_term w m) p lawful (word-monomial cs vs w m lawful g.0) g.1

pub value-sum : (c : List ℕ) (e : ℕ → Option ℕ) (cs vs : List (ℕ × Sort)) (w : ℕ) (p : Polynomial) → IsLawful (Bits w) → HaveValues c e cs vs → AllFit cs vs w p → meaning c e (sum_term w p) ≡ value (meaning c e) p % 2 ^ w
value-sum c e cs vs w [] lawful h g = sym (zero-mod (2 ^ w))
value-sum c e cs vs w (m ∷ p) lawful h g =
    let v = meaning c e in
    value-sum_from c e cs vs w (product_term w m) p lawful h (word-monomial cs vs w m lawful g.0) g.1
    ∙ add-like_left (2 ^ w) (v (product_term w m)) (monomial_value v m) (value v p)
    (ap (λ x. x % 2 ^ w) (value-monomial c e cs vs w m lawful h g.0) ∙ mod-mod (monomial_value v m) (2 ^ w))

-- what fits in order and in parts
all-put_in : {X : Type 0} (P : X → Type 0) (before : X → X → Bool) (x : X) (xs : List X) → P x → AllByRecursion P xs → AllByRecursion P (put_in before x xs)
all-put_in P before x [] h k = (h, tt)
all-put_in P before x (y ∷ ys) h k = go (all-put_in P before x ys h k.1) (before y x)
  where
    go : AllByRecursion P (put_in before x ys) → (b : Bool) → AllByRecursion P (cond b (y ∷ put_in before x ys) (x ∷ y ∷ ys))
    go others true = (k.0, others)
    go others false = (h, k)

all-in_order : {X : Type 0} (P : X → Type 0) (before : X → X → Bool) (xs : List X) → AllByRecursion P xs → AllByRecursion P (in_order before xs)
all-in_order P before [] h = tt
all-in_order P before (x ∷ xs) h = all-put_in P before x (in_order before xs) h.0 (all-in_order P before xs h.1)

fit-factors : (cs vs : List (ℕ × Sort)) (w : ℕ) (p : Polynomial) → AllFit cs vs w p → AllFit cs vs w (map (λ m. record { coefficient = m.coefficient; factors = in_order comes_before m.factors }) p)
fit-factors cs vs w [] h = tt
fit-factors cs vs w (m ∷ p) h =
    (record { coefficient = h.0.coefficient; factors = all-in_order (IsWord cs vs w) comes_before m.factors h.0.factors }, fit-factors cs vs w p h.1)

pub fit-with_order : (cs vs : List (ℕ × Sort)) (w : ℕ) (p : Polynomial) → AllFit cs vs w p → AllFit cs vs w (with_order p)
fit-with_order cs vs w p h =
    all-in_order (Fits cs vs w) (λ k m. factors_before k.factors m.factors) (map (λ m. record { coefficient = m.coefficient; factors = in_order comes_before m.factors }) p) (fit-factors cs vs w p h)

all-filter : {X : Type 0} (P : X → Type 0) (test : X → Bool) (xs : List X) → AllByRecursion P xs → AllByRecursion P (filter test xs)
all-filter P test [] h = tt
all-filter P test (x ∷ xs) h = go (all-filter P test xs h.1) (test x)
  where
    go : AllByRecursion P (filter test xs) → (b : Bool) → AllByRecursion P (cond b (x ∷ filter test xs) (filter test xs))
    go others true = (h.0, others)
    go others false = others

pub fit-added : (cs vs : List (ℕ × Sort)) (w : ℕ) (p : Polynomial) → AllFit cs vs w p → AllFit cs vs w (added w p)
fit-added cs vs w p h = all-filter (Fits cs vs w) (λ m. not (is_subtracted w m)) p h

fit-opposites : (cs vs : List (ℕ × Sort)) (w : ℕ) (p : Polynomial) → AllFit cs vs w p → AllFit cs vs w (map (λ m. record { coefficient = negated w m.coefficient; factors = m.factors }) p)
fit-opposites cs vs w [] h = tt
fit-opposites cs vs w (m ∷ p) h =
    (record { coefficient = mod_below (2 ^ w - m.coefficient) (2 ^ w) (pow_pos w); factors = h.0.factors }, fit-opposites cs vs w p h.1)

pub fit-subtracted : (cs vs : List (ℕ × Sort)) (w : ℕ) (p : Polynomial) → AllFit cs vs w p → AllFit cs vs w (subtracted w p)
fit-subtracted cs vs w p h = fit-opposites cs vs w (filter (is_subtracted w) p) (all-filter (Fits cs vs w) (is_subtracted w) p h)

coefficients-fit : (cs vs : List (ℕ × Sort)) (w : ℕ) (p : Polynomial) → AllFit cs vs w p → AllByRecursion (λ m. m.coefficient < 2 ^ w) p
coefficients-fit cs vs w [] h = tt
coefficients-fit cs vs w (m ∷ p) h = (h.0.coefficient, coefficients-fit cs vs w p h.1)

-- the two sides of a sum: it and what is subtracted make what is added
pub value-sides : (f : Tree → ℕ) (cs vs : List (ℕ × Sort)) (w : ℕ) (p : Polynomial) → AllFit cs vs w p → (value f p + value f (subtracted w (with_order p))) % 2 ^ w ≡ value f (added w (with_order p)) % 2 ^ w
value-sides f cs vs w p h =
    ap (λ x. (x + value f (subtracted w (with_order p))) % 2 ^ w) (sym (value-with_order f p))
    ∙ value-parts f w (with_order p) (coefficients-fit cs vs w (with_order p) (fit-with_order cs vs w p h))

-- the difference of sums
less : (n a b x : ℕ) → 0 < n → (x + b) % n ≡ a % n → (a % n + n - b % n) % n ≡ x % n
less n a b x pos h =
    let low : b % n < n = mod_below b n pos in
    add-cancel n (a % n + n - b % n) x (b % n) pos (
    ap (λ y. y % n) (let whole : a % n + n - b % n + b % n ≡ a % n + n * 1 = omega arith in whole)
    ∙ add-like n (a % n) a (n * 1) 0 (mod-mod a n) (let none : n * 1 % n ≡ 0 % n = ap (λ y. y % n) (let single : n * 1 ≡ 0 + n * 1 = omega arith in single) ∙ more-whole n 0 1 in none)
    ∙ ap (λ y. y % n) (let flat : a + 0 ≡ a = omega arith in flat)
    ∙ sym h
    ∙ add-like_right n x b (b % n) (sym (mod-mod b n)))

-- the opposite of a sum
pub word-opposite : (cs vs : List (ℕ × Sort)) (w : ℕ) (p : Polynomial) → IsLawful (Bits w) → AllFit cs vs w p → IsWord cs vs w (opposite_term w p)
word-opposite cs vs w p lawful h = go (unwrap_or (number_of (filter (λ m. not (has_factors m)) p)) 0 == 1)
  where
    go : (b : Bool) → IsWord cs vs w (cond b (unary BvNot (sum_term w (filter has_factors p))) (unary BvNeg (sum_term w p)))
    go true = over-unary cs vs BvNot w (sum_term w (filter has_factors p)) refl (word-sum cs vs w (filter has_factors p) lawful (all-filter (Fits cs vs w) has_factors p h))
    go false = over-unary cs vs BvNeg w (sum_term w p) refl (word-sum cs vs w p lawful h)

pub value-opposite : (c : List ℕ) (e : ℕ → Option ℕ) (cs vs : List (ℕ × Sort)) (w x : ℕ) (p : Polynomial) → IsLawful (Bits w) → HaveValues c e cs vs → AllFit cs vs w p → (x + value (meaning c e) p) % 2 ^ w ≡ 0 % 2 ^ w → meaning c e (opposite_term w p) ≡ x % 2 ^ w
value-opposite c e cs vs w x p lawful g h is = go (unwrap_or (number_of (filter (λ m. not (has_factors m)) p)) 0 == 1) refl
  where
    others : AllFit cs vs w (filter has_factors p)
    others = all-filter (Fits cs vs w) has_factors p h

    go : (b : Bool) → (unwrap_or (number_of (filter (λ m. not (has_factors m)) p)) 0 == 1) ≡ b → meaning c e (cond b (unary BvNot (sum_term w (filter has_factors p))) (unary BvNeg (sum_term w p))) ≡ x % 2 ^ w
    go true one =
        let f = meaning c e in
        let single = value-one f (filter (λ m. not (has_factors m)) p) (number_of (filter (λ m. not (has_factors m)) p)) refl (eqb-true (unwrap_or (number_of (filter (λ m. not (has_factors m)) p)) 0) 1 one) in
        let parts = value-split f has_factors p in
        let whole : x + (value f (filter has_factors p) + 1) ≡ x + value f p = ap (λ n. x + (value f (filter has_factors p) + n)) (sym single) ∙ ap (λ n. x + n) parts in
        meaning-unary c e BvNot (Bits w) (sum_term w (filter has_factors p)) (word-sum cs vs w (filter has_factors p) lawful others).sort
        ∙ ap (λ y. 2 ^ w - 1 - y) (value-sum c e cs vs w (filter has_factors p) lawful g others)
        ∙ complement (2 ^ w) x (value f (filter has_factors p)) (pow_pos w) (ap (λ y. y % 2 ^ w) whole ∙ is)
    go false other =
        meaning-unary c e BvNeg (Bits w) (sum_term w p) (word-sum cs vs w p lawful h).sort
        ∙ ap (negated w) (value-sum c e cs vs w p lawful g h)
        ∙ ap (λ y. y % 2 ^ w) (let flat : 2 ^ w - value (meaning c e) p % 2 ^ w ≡ 0 + 2 ^ w - value (meaning c e) p % 2 ^ w = omega arith in flat)
        ∙ ap (λ y. (y + 2 ^ w - value (meaning c e) p % 2 ^ w) % 2 ^ w) (sym (zero-mod (2 ^ w)))
        ∙ less (2 ^ w) 0 (value (meaning c e) p) x (pow_pos w) is

pub word-difference : (cs vs : List (ℕ × Sort)) (w : ℕ) (p q : Polynomial) → IsLawful (Bits w) → AllFit cs vs w p → AllFit cs vs w q → IsWord cs vs w (difference_term w p q)
word-difference cs vs w p [] lawful f g = word-sum cs vs w p lawful f
word-difference cs vs w [] (m ∷ q) lawful f g = word-opposite cs vs w (m ∷ q) lawful g
word-difference cs vs w (k ∷ p) (m ∷ q) lawful f g =
    over-binary cs vs BvSub w (Bits w) (sum_term w (k ∷ p)) (sum_term w (m ∷ q)) (two-alike_rank w) (word-sum cs vs w (k ∷ p) lawful f) (word-sum cs vs w (m ∷ q) lawful g)

pub value-difference : (c : List ℕ) (e : ℕ → Option ℕ) (cs vs : List (ℕ × Sort)) (w x : ℕ) (p q : Polynomial) → IsLawful (Bits w) → HaveValues c e cs vs → AllFit cs vs w p → AllFit cs vs w q → (x + value (meaning c e) q) % 2 ^ w ≡ value (meaning c e) p % 2 ^ w → meaning c e (difference_term w p q) ≡ x % 2 ^ w
value-difference c e cs vs w x p [] lawful h f g is =
    value-sum c e cs vs w p lawful h f ∙ sym is ∙ ap (λ y. y % 2 ^ w) (let flat : x + 0 ≡ x = omega arith in flat)
value-difference c e cs vs w x [] (m ∷ q) lawful h f g is = value-opposite c e cs vs w x (m ∷ q) lawful h g is
value-difference c e cs vs w x (k ∷ p) (m ∷ q) lawful h f g is =
    let first = word-sum cs vs w (k ∷ p) lawful f in
    let second = word-sum cs vs w (m ∷ q) lawful g in
    meaning-binary c e BvSub (Bits w) (Bits w) (sum_term w (k ∷ p)) (sum_term w (m ∷ q)) first.sort second.sort
    ∙ ap (λ y. (y + 2 ^ w - meaning c e (sum_term w (m ∷ q))) % 2 ^ w) (value-sum c e cs vs w (k ∷ p) lawful h f)
    ∙ ap (λ y. (value (meaning c e) (k ∷ p) % 2 ^ w + 2 ^ w - y) % 2 ^ w) (value-sum c e cs vs w (m ∷ q) lawful h g)
    ∙ less (2 ^ w) (value (meaning c e) (k ∷ p)) (value (meaning c e) (m ∷ q)) x (pow_pos w) is

-- the number that a sum is
pub fit-number : (cs vs : List (ℕ × Sort)) (w : ℕ) (p : Polynomial) (k : ℕ) → AllFit cs vs w p → number_of p ≡ Some k → k < 2 ^ w
fit-number cs vs w [] k f h = let none : 0 ≡ k = cc in subst (λ (n : ℕ). n < 2 ^ w) none (pow_pos w)
fit-number cs vs w (m ∷ []) k f h = go (has_factors m) h
  where
    go : (b : Bool) → cond b None (Some m.coefficient) ≡ Some k → k < 2 ^ w
    go true e = cc
    go false e = let same : m.coefficient ≡ k = cc in subst (λ (n : ℕ). n < 2 ^ w) same f.0.coefficient
fit-number cs vs w (m ∷ n ∷ p) k f h = cc

-- the term of a sum
pub word-term : (cs vs : List (ℕ × Sort)) (w : ℕ) (p : Polynomial) → IsLawful (Bits w) → AllFit cs vs w p → IsWord cs vs w (term_of w p)
word-term cs vs w p lawful h = go (number_of p) refl
  where
    go : (n : Option ℕ) → number_of p ≡ n → IsWord cs vs w (term_from w (with_order p) n)
    go (Some k) is = word-number cs vs w k lawful (fit-number cs vs w p k h is)
    go None is =
        let k = fit-with_order cs vs w p h in
        word-difference cs vs w (added w (with_order p)) (subtracted w (with_order p)) lawful (fit-added cs vs w (with_order p) k) (fit-subtracted cs vs w (with_order p) k)

pub value-term : (c : List ℕ) (e : ℕ → Option ℕ) (cs vs : List (ℕ × Sort)) (w : ℕ) (p : Polynomial) → IsLawful (Bits w) → HaveValues c e cs vs → AllFit cs vs w p → meaning c e (term_of w p) ≡ value (meaning c e) p % 2 ^ w
value-term c e cs vs w p lawful g h = go (number_of p) refl
  where
    go : (n : Option ℕ) → number_of p ≡ n → meaning c e (term_from w (with_order p) n) ≡ value (meaning c e) p % 2 ^ w
    go (Some k) is = sym (ap (λ x. x % 2 ^ w) (value-number (meaning c e) p k is) ∙ rest-below (2 ^ w) k (fit-number cs vs w p k h is))
    go None is =
        let k = fit-with_order cs vs w p h in
        value-difference c e cs vs w (value (meaning c e) p) (added w (with_order p)) (subtracted w (with_order p)) lawful g (fit-added cs vs w (with_order p) k) (fit-subtracted cs vs w (with_order p) k) (value-sides (meaning c e) cs vs w p h)
