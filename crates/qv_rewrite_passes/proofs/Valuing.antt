-- The value of a sum of products, where each tree has a number.
use Rattle.std.proofs.Common.{◌≡◌, ℕ, zero, suc, ◌+◌, ◌-◌, ◌*◌, ◌%◌, ◌^◌, ◌≤◌, ◌<◌, ◌==◌, Bool, true, false, cond, not, ◌&&◌, Option, Some, None, List, [], ◌∷◌, ◌++◌, map, length, sym, ap, ◌∙◌, refl, arith, fold}
use Rattle.std.specs.Prelude.{filter, find, unwrap_or, option_map, nat_lt, is_none}
use Rattle.std.proofs.lemmas.Bool.{eqb-true, ltb-false}
use Rattle.std.proofs.Math.Nat.{mod-mod, add-mod-mod, mod_self, zero-mod}
use Rattle.std.specs.List.{AllByRecursion}
use Rattle.qv_words.specs.Signed.{negated}
use Rattle.qv_words.specs.Tree.{Tree}
use Rattle.qv_words.specs.Equality.{tree_eq}
use Rattle.qv_words.proofs.Equals.{tree_eq-is}
use Rattle.qv_words.specs.Sums.{Monomial, Polynomial, constant, atom, has_factors, times, multiple, products, without, same_factors, reduced, plus, collected, number_of, factors_before, comes_before, put_in, in_order, with_order, is_subtracted, added, subtracted, is_odd}
use Rattle.qv_rewrite_passes.proofs.Congruent.{add-like, add-like_left, add-like_right, mul-like}

abbrev pub product_value : (Tree → ℕ) → List Tree → ℕ
product_value f [] = 1
product_value f (t ∷ ts) = f t * product_value f ts

abbrev pub monomial_value : (Tree → ℕ) → Monomial → ℕ
monomial_value f m = m.coefficient * product_value f m.factors

abbrev pub value : (Tree → ℕ) → Polynomial → ℕ
value f [] = 0
value f (m ∷ p) = monomial_value f m + value f p

pub value-append : (f : Tree → ℕ) (p q : Polynomial) → value f (p ++ q) ≡ value f p + value f q
value-append f [] q = omega arith
value-append f (m ∷ p) q = ap (λ n. monomial_value f m + n) (value-append f p q) ∙ omega arith

pub product-append : (f : Tree → ℕ) (ts us : List Tree) → product_value f (ts ++ us) ≡ product_value f ts * product_value f us
product-append f [] us = omega arith
product-append f (t ∷ ts) us = ap (λ n. f t * n) (product-append f ts us) ∙ omega arith

pub value-multiple : (f : Tree → ℕ) (c : ℕ) (p : Polynomial) → value f (multiple c p) ≡ c * value f p
value-multiple f c [] = omega arith
value-multiple f c (m ∷ p) =
    ap (λ n. c * m.coefficient * product_value f m.factors + n) (value-multiple f c p) ∙ omega arith

value-times : (f : Tree → ℕ) (m : Monomial) (q : Polynomial) → value f (map (times m) q) ≡ monomial_value f m * value f q
value-times f m [] = omega arith
value-times f m (k ∷ q) =
    let v = product_value f m.factors in
    let u = product_value f k.factors in
    ap (λ n. m.coefficient * k.coefficient * n + value f (map (times m) q)) (product-append f m.factors k.factors)
    ∙ ap (λ n. m.coefficient * k.coefficient * (v * u) + n) (value-times f m q)
    ∙ (let turned : m.coefficient * k.coefficient * (v * u) + m.coefficient * v * value f q ≡ m.coefficient * v * (k.coefficient * u + value f q) = omega arith in turned)

pub value-products : (f : Tree → ℕ) (p q : Polynomial) → value f (products p q) ≡ value f p * value f q
value-products f [] q = omega arith
value-products f (m ∷ p) q =
    value-append f (map (times m) q) (products p q)
    ∙ ap (λ n. n + value f (products p q)) (value-times f m q)
    ∙ ap (λ n. monomial_value f m * value f q + n) (value-products f p q)
    ∙ (let turned : monomial_value f m * value f q + value f p * value f q ≡ (monomial_value f m + value f p) * value f q = omega arith in turned)

pub value-atom : (f : Tree → ℕ) (t : Tree) → value f (atom t) ≡ f t
value-atom f t = omega arith

pub value-constant : (f : Tree → ℕ) (n : ℕ) → value f (constant n ∷ []) ≡ n
value-constant f n = omega arith

-- a list without one of its trees
product-without : (f : Tree → ℕ) (t : Tree) (us rest : List Tree) → without t us ≡ Some rest → product_value f us ≡ f t * product_value f rest
product-without f t [] rest h = cc
product-without f t (u ∷ us) rest h = go (λ xs is. product-without f t us xs is) (tree_eq t u) refl h
  where
    inner : ((xs : List Tree) → without t us ≡ Some xs → product_value f us ≡ f t * product_value f xs) → (q : Option (List Tree)) → without t us ≡ q → option_map (λ xs. u ∷ xs) q ≡ Some rest → product_value f (u ∷ us) ≡ f t * product_value f rest
    inner others None is e = cc
    inner others (Some xs) is e =
        let same : u ∷ xs ≡ rest = cc in
        ap (λ n. f u * n) (others xs is) ∙ (let swap : f u * (f t * product_value f xs) ≡ f t * (f u * product_value f xs) = omega arith in swap) ∙ ap (λ ts. f t * product_value f ts) same

    go : ((xs : List Tree) → without t us ≡ Some xs → product_value f us ≡ f t * product_value f xs) → (b : Bool) → tree_eq t u ≡ b → cond b (Some us) (option_map (λ xs. u ∷ xs) (without t us)) ≡ Some rest → product_value f (u ∷ us) ≡ f t * product_value f rest
    go others true is e =
        let same : us ≡ rest = cc in
        ap (λ x. f x * product_value f us) (sym (tree_eq-is t u is)) ∙ ap (λ ts. f t * product_value f ts) same
    go others false is e = inner others (without t us) refl e

pub product-same : (f : Tree → ℕ) (ts us : List Tree) → same_factors ts us ≡ true → product_value f ts ≡ product_value f us
product-same f [] [] h = refl
product-same f [] (u ∷ us) h = cc
product-same f (t ∷ ts) us h = go (λ rest e. product-same f ts rest e) (without t us) refl h
  where
    go : ((rest : List Tree) → same_factors ts rest ≡ true → product_value f ts ≡ product_value f rest) → (q : Option (List Tree)) → without t us ≡ q → unwrap_or (option_map (same_factors ts) q) false ≡ true → product_value f (t ∷ ts) ≡ product_value f us
    go others None is e = cc
    go others (Some rest) is e = ap (λ n. f t * n) (others rest e) ∙ sym (product-without f t us rest is)

-- like monomials put together
value-reduced : (f : Tree → ℕ) (n c : ℕ) (ts : List Tree) → value f (reduced n c ts) % n ≡ (c * product_value f ts) % n
value-reduced f n c ts = go (c % n == 0) refl
  where
    at : (c % n * product_value f ts) % n ≡ (c * product_value f ts) % n
    at = mul-like n (c % n) c (product_value f ts) (product_value f ts) (mod-mod c n) refl

    go : (b : Bool) → (c % n == 0) ≡ b → value f (cond b [] (record { coefficient = c % n; factors = ts } ∷ [])) % n ≡ (c * product_value f ts) % n
    go true is =
        ap (λ x. x % n) (let none : 0 ≡ 0 * product_value f ts = omega arith in none)
        ∙ ap (λ x. x * product_value f ts % n) (sym (eqb-true (c % n) 0 is)) ∙ at
    go false is = ap (λ x. x % n) (let flat : c % n * product_value f ts + 0 ≡ c % n * product_value f ts = omega arith in flat) ∙ at

pub value-plus : (f : Tree → ℕ) (n : ℕ) (p : Polynomial) (m : Monomial) → value f (plus n p m) % n ≡ (value f p + monomial_value f m) % n
value-plus f n [] m = value-reduced f n m.coefficient m.factors ∙ ap (λ x. x % n) (let flat : m.coefficient * product_value f m.factors ≡ 0 + m.coefficient * product_value f m.factors = omega arith in flat)
value-plus f n (k ∷ p) m = go (value-plus f n p m) (same_factors k.factors m.factors) refl
  where
    go : value f (plus n p m) % n ≡ (value f p + monomial_value f m) % n → (b : Bool) → same_factors k.factors m.factors ≡ b → value f (cond b (reduced n (k.coefficient + m.coefficient) k.factors ++ p) (k ∷ plus n p m)) % n ≡ (value f (k ∷ p) + monomial_value f m) % n
    go others true is =
        let alike : product_value f k.factors ≡ product_value f m.factors = product-same f k.factors m.factors is in
        ap (λ x. x % n) (value-append f (reduced n (k.coefficient + m.coefficient) k.factors) p)
        ∙ add-like_left n (value f (reduced n (k.coefficient + m.coefficient) k.factors)) ((k.coefficient + m.coefficient) * product_value f k.factors) (value f p) (value-reduced f n (k.coefficient + m.coefficient) k.factors)
        ∙ ap (λ x. x % n) (let whole : (k.coefficient + m.coefficient) * product_value f k.factors + value f p ≡ k.coefficient * product_value f k.factors + value f p + m.coefficient * product_value f k.factors = omega arith in whole)
        ∙ ap (λ y. (k.coefficient * product_value f k.factors + value f p + m.coefficient * y) % n) alike
    go others false is =
        add-like_right n (monomial_value f k) (value f (plus n p m)) (value f p + monomial_value f m) others
        ∙ ap (λ x. x % n) (let turned : monomial_value f k + (value f p + monomial_value f m) ≡ monomial_value f k + value f p + monomial_value f m = omega arith in turned)

value-fold : (f : Tree → ℕ) (n : ℕ) (q p : Polynomial) → value f (fold (plus n) q p) % n ≡ (value f q + value f p) % n
value-fold f n q [] = ap (λ x. x % n) (let flat : value f q ≡ value f q + 0 = omega arith in flat)
value-fold f n q (m ∷ p) =
    value-fold f n (plus n q m) p
    ∙ add-like_left n (value f (plus n q m)) (value f q + monomial_value f m) (value f p) (value-plus f n q m)
    ∙ ap (λ x. x % n) (let turned : value f q + monomial_value f m + value f p ≡ value f q + (monomial_value f m + value f p) = omega arith in turned)

pub value-collected : (f : Tree → ℕ) (w : ℕ) (p : Polynomial) → value f (collected w p) % 2 ^ w ≡ value f p % 2 ^ w
value-collected f w p = value-fold f (2 ^ w) [] p ∙ ap (λ x. x % 2 ^ w) (let flat : 0 + value f p ≡ value f p = omega arith in flat)

-- the order of monomials and factors doesn't matter
product-put_in : (f : Tree → ℕ) (before : Tree → Tree → Bool) (t : Tree) (ts : List Tree) → product_value f (put_in before t ts) ≡ f t * product_value f ts
product-put_in f before t [] = refl
product-put_in f before t (u ∷ us) = go (product-put_in f before t us) (before u t)
  where
    go : product_value f (put_in before t us) ≡ f t * product_value f us → (b : Bool) → product_value f (cond b (u ∷ put_in before t us) (t ∷ u ∷ us)) ≡ f t * (f u * product_value f us)
    go others true = ap (λ n. f u * n) others ∙ (let turned : f u * (f t * product_value f us) ≡ f t * (f u * product_value f us) = omega arith in turned)
    go others false = refl

product-in_order : (f : Tree → ℕ) (before : Tree → Tree → Bool) (ts : List Tree) → product_value f (in_order before ts) ≡ product_value f ts
product-in_order f before [] = refl
product-in_order f before (t ∷ ts) = product-put_in f before t (in_order before ts) ∙ ap (λ n. f t * n) (product-in_order f before ts)

value-put_in : (f : Tree → ℕ) (before : Monomial → Monomial → Bool) (m : Monomial) (p : Polynomial) → value f (put_in before m p) ≡ monomial_value f m + value f p
value-put_in f before m [] = refl
value-put_in f before m (k ∷ p) = go (value-put_in f before m p) (before k m)
  where
    go : value f (put_in before m p) ≡ monomial_value f m + value f p → (b : Bool) → value f (cond b (k ∷ put_in before m p) (m ∷ k ∷ p)) ≡ monomial_value f m + (monomial_value f k + value f p)
    go others true = ap (λ n. monomial_value f k + n) others ∙ (let turned : monomial_value f k + (monomial_value f m + value f p) ≡ monomial_value f m + (monomial_value f k + value f p) = omega arith in turned)
    go others false = refl

value-in_order : (f : Tree → ℕ) (before : Monomial → Monomial → Bool) (p : Polynomial) → value f (in_order before p) ≡ value f p
value-in_order f before [] = refl
value-in_order f before (m ∷ p) = value-put_in f before m (in_order before p) ∙ ap (λ n. monomial_value f m + n) (value-in_order f before p)

value-factors : (f : Tree → ℕ) (p : Polynomial) → value f (map (λ m. record { coefficient = m.coefficient; factors = in_order comes_before m.factors }) p) ≡ value f p
value-factors f [] = refl
value-factors f (m ∷ p) =
    ap (λ n. m.coefficient * n + value f (map (λ m. record { coefficient = m.coefficient; factors = in_order comes_before m.factors }) p)) (product-in_order f comes_before m.factors)
    ∙ ap (λ n. monomial_value f m + n) (value-factors f p)

pub value-with_order : (f : Tree → ℕ) (p : Polynomial) → value f (with_order p) ≡ value f p
value-with_order f p =
    value-in_order f (λ k m. factors_before k.factors m.factors) (map (λ m. record { coefficient = m.coefficient; factors = in_order comes_before m.factors }) p)
    ∙ value-factors f p

-- a coefficient and the opposite one
opposites : (w c : ℕ) → c < 2 ^ w → (c + negated w c) % 2 ^ w ≡ 0
opposites w c h =
    add-mod-mod c (2 ^ w - c) (2 ^ w)
    ∙ ap (λ x. x % 2 ^ w) (let whole : c + (2 ^ w - c) ≡ 2 ^ w = omega arith in whole)
    ∙ mod_self (2 ^ w)

-- what is added is the sum and what is subtracted
pub value-parts : (f : Tree → ℕ) (w : ℕ) (p : Polynomial) → AllByRecursion (λ m. m.coefficient < 2 ^ w) p → (value f p + value f (subtracted w p)) % 2 ^ w ≡ value f (added w p) % 2 ^ w
value-parts f w [] h = refl
value-parts f w (m ∷ p) h = go (value-parts f w p h.1) (is_subtracted w m)
  where
    gone : ((m.coefficient + negated w m.coefficient) * product_value f m.factors) % 2 ^ w ≡ 0 % 2 ^ w
    gone =
        mul-like (2 ^ w) (m.coefficient + negated w m.coefficient) 0 (product_value f m.factors) (product_value f m.factors) (opposites w m.coefficient h.0 ∙ sym (zero-mod (2 ^ w))) refl
        ∙ ap (λ x. x % 2 ^ w) (let none : 0 * product_value f m.factors ≡ 0 = omega arith in none)

    go : (value f p + value f (subtracted w p)) % 2 ^ w ≡ value f (added w p) % 2 ^ w → (b : Bool) → (monomial_value f m + value f p + value f (map (λ k. record { coefficient = negated w k.coefficient; factors = k.factors }) (cond b (m ∷ filter (is_subtracted w) p) (filter (is_subtracted w) p)))) % 2 ^ w ≡ value f (cond (not b) (m ∷ added w p) (added w p)) % 2 ^ w
    go others true =
        ap (λ x. x % 2 ^ w) (let turned : m.coefficient * product_value f m.factors + value f p + (negated w m.coefficient * product_value f m.factors + value f (subtracted w p)) ≡ (m.coefficient + negated w m.coefficient) * product_value f m.factors + (value f p + value f (subtracted w p)) = omega arith in turned)
        ∙ add-like (2 ^ w) ((m.coefficient + negated w m.coefficient) * product_value f m.factors) 0 (value f p + value f (subtracted w p)) (value f (added w p)) gone others
        ∙ ap (λ x. x % 2 ^ w) (let flat : 0 + value f (added w p) ≡ value f (added w p) = omega arith in flat)
    go others false =
        ap (λ x. x % 2 ^ w) (let turned : monomial_value f m + value f p + value f (subtracted w p) ≡ monomial_value f m + (value f p + value f (subtracted w p)) = omega arith in turned)
        ∙ add-like_right (2 ^ w) (monomial_value f m) (value f p + value f (subtracted w p)) (value f (added w p)) others

-- without factors a monomial is its coefficient
pub number-value : (f : Tree → ℕ) (c : ℕ) (ts : List Tree) → nat_lt 0 (length ts) ≡ false → c * product_value f ts ≡ c
number-value f c [] h = omega arith
number-value f c (t ∷ ts) h = let short : length (t ∷ ts) ≤ 0 = ltb-false 0 (length (t ∷ ts)) h in absurd (omega (arith, short))

pub value-number : (f : Tree → ℕ) (p : Polynomial) (k : ℕ) → number_of p ≡ Some k → value f p ≡ k
value-number f [] k h = cc
value-number f (m ∷ []) k h = go (has_factors m) refl h
  where
    go : (b : Bool) → has_factors m ≡ b → cond b None (Some m.coefficient) ≡ Some k → m.coefficient * product_value f m.factors + 0 ≡ k
    go true is e = cc
    go false is e =
        let same : m.coefficient ≡ k = cc in
        (let flat : m.coefficient * product_value f m.factors + 0 ≡ m.coefficient * product_value f m.factors = omega arith in flat)
        ∙ number-value f m.coefficient m.factors is ∙ same
value-number f (m ∷ k ∷ p) n h = cc

-- the parity of a sum whose monomials with factors are even
parity : (f : Tree → ℕ) (m : Monomial) → has_factors m && m.coefficient % 2 == 1 ≡ false → monomial_value f m % 2 ≡ m.coefficient % 2
parity f m h = go (has_factors m) refl h
  where
    even : (r : ℕ) → r < 2 → (r == 1) ≡ false → r ≡ 0
    even zero l e = refl
    even (suc zero) l e = cc
    even (suc (suc r)) l e = absurd (omega (arith, l))

    go : (b : Bool) → has_factors m ≡ b → b && m.coefficient % 2 == 1 ≡ false → m.coefficient * product_value f m.factors % 2 ≡ m.coefficient % 2
    go true is e =
        let none : m.coefficient % 2 ≡ 0 = even (m.coefficient % 2) (omega arith) e in
        mul-like 2 m.coefficient 0 (product_value f m.factors) (product_value f m.factors) none refl
        ∙ ap (λ x. x % 2) (let zero_times : 0 * product_value f m.factors ≡ 0 = omega arith in zero_times) ∙ sym none
    go false is e = ap (λ x. x % 2) (number-value f m.coefficient m.factors is)

parities : (f : Tree → ℕ) (n : ℕ) (p : Polynomial) → is_none (find (λ m. has_factors m && m.coefficient % 2 == 1) p) ≡ true → (n + value f p) % 2 ≡ fold (λ x m. x + m.coefficient) n p % 2
parities f n [] h = ap (λ x. x % 2) (let flat : n + 0 ≡ n = omega arith in flat)
parities f n (m ∷ p) h = go (λ k e. parities f k p e) (has_factors m && m.coefficient % 2 == 1) refl h
  where
    go : ((k : ℕ) → is_none (find (λ k. has_factors k && k.coefficient % 2 == 1) p) ≡ true → (k + value f p) % 2 ≡ fold (λ x m. x + m.coefficient) k p % 2) → (b : Bool) → has_factors m && m.coefficient % 2 == 1 ≡ b → is_none (cond b (Some m) (find (λ k. has_factors k && k.coefficient % 2 == 1) p)) ≡ true → (n + (monomial_value f m + value f p)) % 2 ≡ fold (λ x k. x + k.coefficient) (n + m.coefficient) p % 2
    go others true is e = cc
    go others false is e =
        ap (λ x. x % 2) (let turned : n + (monomial_value f m + value f p) ≡ monomial_value f m + (n + value f p) = omega arith in turned)
        ∙ add-like_left 2 (monomial_value f m) m.coefficient (n + value f p) (parity f m is)
        ∙ ap (λ x. x % 2) (let turned : m.coefficient + (n + value f p) ≡ n + m.coefficient + value f p = omega arith in turned)
        ∙ others (n + m.coefficient) e

pub value-odd : (f : Tree → ℕ) (p : Polynomial) → is_odd p ≡ true → value f p % 2 ≡ 1
value-odd f p h =
    let parts = and-true (is_none (find (λ m. has_factors m && m.coefficient % 2 == 1) p)) (fold (λ x m. x + m.coefficient) 0 p % 2 == 1) h in
    ap (λ x. x % 2) (let flat : value f p ≡ 0 + value f p = omega arith in flat)
    ∙ parities f 0 p parts.0 ∙ eqb-true (fold (λ x m. x + m.coefficient) 0 p % 2) 1 parts.1
  where
    and-true : (a b : Bool) → a && b ≡ true → (a ≡ true) × (b ≡ true)
    and-true true b h = (refl, h)
    and-true false b h = cc

-- a sum in two parts
pub value-split : (f : Tree → ℕ) (test : Monomial → Bool) (p : Polynomial) → value f (filter test p) + value f (filter (λ m. not (test m)) p) ≡ value f p
value-split f test [] = refl
value-split f test (m ∷ p) = go (value-split f test p) (test m)
  where
    go : value f (filter test p) + value f (filter (λ k. not (test k)) p) ≡ value f p → (b : Bool) → value f (cond b (m ∷ filter test p) (filter test p)) + value f (cond (not b) (m ∷ filter (λ k. not (test k)) p) (filter (λ k. not (test k)) p)) ≡ monomial_value f m + value f p
    go others true = omega (arith, others)
    go others false = omega (arith, others)

-- a number that is 1
pub value-one : (f : Tree → ℕ) (p : Polynomial) (n : Option ℕ) → number_of p ≡ n → unwrap_or n 0 ≡ 1 → value f p ≡ 1
value-one f p None is h = cc
value-one f p (Some k) is h = value-number f p k is ∙ h
