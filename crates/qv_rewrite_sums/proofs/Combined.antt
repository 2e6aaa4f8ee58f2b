-- Sums of applications, before and after like monomials are put together.
use Rattle.std.proofs.Common.{◌≡◌, ℕ, suc, ◌+◌, ◌-◌, ◌*◌, ◌%◌, ◌^◌, ◌<◌, ◌==◌, Bool, true, false, cond, not, ◌&&◌, ◌||◌, Option, Some, None, List, [], ◌∷◌, ◌++◌, map, length, get_or, drop, refl, ap, sym, ◌∙◌, arith, fold}
use Rattle.std.specs.Prelude.{unwrap_or, option_map, nat_le, nat_lt, find, is_none}
use Rattle.std.specs.List.{list_any}
use Rattle.std.proofs.lemmas.List.{drop_more, map-append, append_assoc, length-map, length-append}
use Rattle.std.proofs.Math.Nat.{mod-mod, add-mod-mod, mod-eq_of_lt}
use Rattle.qv_words.specs.Tree.{Tree}
use Rattle.qv_store.specs.Nodes.{tree_at}
use Rattle.qv_words.specs.Sums.{Monomial, Polynomial, constant, atom, scaled, times, multiple, opposite, products, same_factors, reduced, plus, collected, sum_or_atom}
use Rattle.qv_rewrite_sums.specs.declared.product.Product.{Product}
use Rattle.qv_rewrite_sums.specs.Held.{monomial_at, sum_at, rest_of, modulo, short_raw, kept}
use Rattle.qv_rewrite_sums.proofs.Lists.{some-step}

-- the monomial of a product
pub monomial-is : (trees : List Tree) (y : Product) (c : ℕ) (ids : List ℕ) → y.coefficient ≡ c → y.factors.items ≡ ids → monomial_at trees y ≡ record { coefficient = c; factors = map (tree_at trees) ids }
monomial-is trees y c ids p q =
    ap (λ (k : ℕ). record { coefficient = k; factors = map (tree_at trees) y.factors.items }) p
    ∙ ap (λ (l : List ℕ). record { coefficient = c; factors = map (tree_at trees) l }) q

-- one product more of a multiple, and of a sum times a product
pub multiple-more : (trees : List Tree) (n f : ℕ) (raw new sum : List Product) (k : ℕ) (x y : Product) → k < length sum → x ≡ get_or sum k x → y.coefficient ≡ f * x.coefficient % n → y.factors.items ≡ x.factors.items → new ≡ raw ++ y ∷ []
    → sum_at trees new ++ modulo n (multiple f (sum_at trees (drop (k + 1) sum))) ≡ sum_at trees raw ++ modulo n (multiple f (sum_at trees (drop k sum)))
multiple-more trees n f raw new sum k x y low at c is e =
    some-step (λ (ps : List Product). modulo n (multiple f (sum_at trees ps))) (sum_at trees raw) (sum_at trees new) true (rest_of n (scaled f (monomial_at trees x))) sum k x low at
    (ap (sum_at trees) e ∙ map-append (monomial_at trees) raw (y ∷ []) ∙ ap (λ (m : Monomial). sum_at trees raw ++ m ∷ []) (monomial-is trees y (f * x.coefficient % n) x.factors.items c is)) refl

pub times-more : (trees : List Tree) (n : ℕ) (m : Monomial) (raw new sum : List Product) (k : ℕ) (x y : Product) → k < length sum → x ≡ get_or sum k x → monomial_at trees y ≡ rest_of n (times m (monomial_at trees x)) → new ≡ raw ++ y ∷ []
    → sum_at trees new ++ modulo n (map (times m) (sum_at trees (drop (k + 1) sum))) ≡ sum_at trees raw ++ modulo n (map (times m) (sum_at trees (drop k sum)))
times-more trees n m raw new sum k x y low at is e =
    some-step (λ (ps : List Product). modulo n (map (times m) (sum_at trees ps))) (sum_at trees raw) (sum_at trees new) true (rest_of n (times m (monomial_at trees x))) sum k x low at
    (ap (sum_at trees) e ∙ map-append (monomial_at trees) raw (y ∷ []) ∙ ap (λ (k : Monomial). sum_at trees raw ++ k ∷ []) is) refl

-- once a sum is the sum
pub once : (n : ℕ) (p : Polynomial) → modulo n (multiple 1 p) ≡ modulo n p
once n [] = refl
once n (m ∷ p) =
    let one : 1 * m.coefficient ≡ m.coefficient = omega arith in
    ap (λ (c : ℕ). record { coefficient = c % n; factors = m.factors } ∷ modulo n (multiple 1 p)) one
    ∙ ap (λ (l : Polynomial). rest_of n m ∷ l) (once n p)

pub modulo-append : (n : ℕ) (p q : Polynomial) → modulo n (p ++ q) ≡ modulo n p ++ modulo n q
modulo-append n p q = map-append (rest_of n) p q

-- the opposite of a sum and 1
pub opposite-one : (w k : ℕ) (p : Polynomial) → k + 1 ≡ 2 ^ w → modulo (2 ^ w) (opposite w (p ++ constant 1 ∷ [])) ≡ modulo (2 ^ w) (opposite w p) ++ constant k ∷ []
opposite-one w k p e =
    ap (modulo (2 ^ w)) (map-append (scaled (2 ^ w - 1)) p (constant 1 ∷ []))
    ∙ modulo-append (2 ^ w) (multiple (2 ^ w - 1) p) (multiple (2 ^ w - 1) (constant 1 ∷ []))
    ∙ ap (λ (c : ℕ). modulo (2 ^ w) (opposite w p) ++ constant c ∷ [])
    (let own : (2 ^ w - 1) * 1 ≡ k = omega (arith, e) in ap (λ (x : ℕ). x % 2 ^ w) own ∙ mod-eq_of_lt (let low : k < 2 ^ w = omega (arith, e) in low))

pub ones-are : (k n : ℕ) → k + 1 ≡ n → k ≡ n - 1
ones-are k n e = omega (arith, e)

-- monomials count modulo n
reduced-rest : (n c : ℕ) (ts : List Tree) → reduced n (c % n) ts ≡ reduced n c ts
reduced-rest n c ts = ap (λ (r : ℕ). cond (r == 0) [] (record { coefficient = r; factors = ts } ∷ [])) (mod-mod c n)

reduced-added : (n a c : ℕ) (ts : List Tree) → reduced n (a + c % n) ts ≡ reduced n (a + c) ts
reduced-added n a c ts = ap (λ (r : ℕ). cond (r == 0) [] (record { coefficient = r; factors = ts } ∷ [])) (add-mod-mod a c n)

plus-rest : (n : ℕ) (p : Polynomial) (m : Monomial) → plus n p (rest_of n m) ≡ plus n p m
plus-rest n [] m = reduced-rest n m.coefficient m.factors
plus-rest n (k ∷ p) m =
    ap (λ (l : Polynomial). cond (same_factors k.factors m.factors) (l ++ p) (k ∷ plus n p (rest_of n m))) (reduced-added n k.coefficient m.coefficient k.factors)
    ∙ ap (λ (l : Polynomial). cond (same_factors k.factors m.factors) (reduced n (k.coefficient + m.coefficient) k.factors ++ p) (k ∷ l)) (plus-rest n p m)

fold-rest : (n : ℕ) (q p : Polynomial) → fold (plus n) q (modulo n p) ≡ fold (plus n) q p
fold-rest n q [] = refl
fold-rest n q (m ∷ p) = ap (λ (s : Polynomial). fold (plus n) s (modulo n p)) (plus-rest n q m) ∙ fold-rest n (plus n q m) p

pub collected-rest : (w : ℕ) (p : Polynomial) → collected w (modulo (2 ^ w) p) ≡ collected w p
collected-rest w p = fold-rest (2 ^ w) [] p

-- how many products two sums have
pub length-products : (p q : Polynomial) → length (products p q) ≡ length p * length q
length-products [] q = omega arith
length-products (m ∷ p) q =
    let first : length (map (times m) q) ≡ length q = length-map q (times m) in
    let rest = length-products p q in
    let turned : suc (length p) * length q ≡ length q + length p * length q = omega arith in
    length-append (map (times m) q) (products p q) ∙ ap (λ (k : ℕ). k + length (products p q)) first ∙ ap (λ (k : ℕ). length q + k) rest ∙ sym turned

-- what of a sum is kept
pub kept-or_atom : (w : ℕ) (q : Option Polynomial) (t : Tree) → unwrap_or (kept (option_map (collected w) (short_raw q))) (atom t) ≡ sum_or_atom w q t
kept-or_atom w None t = refl
kept-or_atom w (Some raw) t = first (nat_le (length raw) 48)
  where
    rest : (b c : Bool) → unwrap_or (cond (b && c) (Some (collected w raw)) None) (atom t) ≡ cond (b && c) (collected w raw) (atom t)
    rest true true = refl
    rest true false = refl
    rest false c = refl

    first : (a : Bool) → unwrap_or (kept (option_map (collected w) (cond a (Some raw) None))) (atom t) ≡ cond (a && nat_le (length (collected w raw)) 24 && is_none (find (λ (m : Monomial). nat_lt 4 (length m.factors)) (collected w raw))) (collected w raw) (atom t)
    first true = rest (nat_le (length (collected w raw)) 24) (is_none (find (λ (m : Monomial). nat_lt 4 (length m.factors)) (collected w raw)))
    first false = refl

-- a monomial that passes a test
pub found-any : {X Y : Type 0} (test : Y → Bool) (f : X → Y) (xs : List X) → is_none (find test (map f xs)) ≡ not (list_any (λ x. test (f x)) xs)
found-any test f [] = refl
found-any {X} {Y} test f (x ∷ xs) = go (test (f x)) (found-any test f xs)
  where
    go : (b : Bool) → is_none (find test (map f xs)) ≡ not (list_any (λ (z : X). test (f z)) xs) → is_none (cond b (Some (f x)) (find test (map f xs))) ≡ not (b || (list_any (λ (z : X). test (f z)) xs))
    go true e = refl
    go false e = e

-- the products with one more
pub products-more : (trees : List Tree) (n : ℕ) (raw new a b : List Product) (k : ℕ) (x : Product) → k < length a → x ≡ get_or a k x → sum_at trees new ≡ sum_at trees raw ++ modulo n (map (times (monomial_at trees x)) (sum_at trees b))
    → sum_at trees new ++ modulo n (products (sum_at trees (drop (k + 1) a)) (sum_at trees b)) ≡ sum_at trees raw ++ modulo n (products (sum_at trees (drop k a)) (sum_at trees b))
products-more trees n raw new a b k x low at e =
    let first : Polynomial = modulo n (map (times (monomial_at trees x)) (sum_at trees b)) in
    let rest : Polynomial = modulo n (products (sum_at trees (drop (k + 1) a)) (sum_at trees b)) in
    ap (λ (l : Polynomial). l ++ rest) e ∙ append_assoc (sum_at trees raw) first rest
    ∙ ap (λ (l : Polynomial). sum_at trees raw ++ l)
    (sym (modulo-append n (map (times (monomial_at trees x)) (sum_at trees b)) (products (sum_at trees (drop (k + 1) a)) (sum_at trees b)))
    ∙ sym (ap (λ (ps : List Product). modulo n (products (sum_at trees ps) (sum_at trees b))) (drop_more a k x low ∙ ap (λ (z : Product). z ∷ drop (k + 1) a) (sym at))))
