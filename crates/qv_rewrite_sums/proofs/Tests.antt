-- Tests of a sum's products, and lengths of sums.
use Rattle.std.proofs.Common.{◌≡◌, ℕ, ◌*◌, ◌%◌, ◌<◌, ◌≤◌, ◌==◌, Bool, true, false, cond, not, ◌&&◌, Some, None, List, [], ◌∷◌, map, length, refl, ap, sym, ◌∙◌, subst}
use Rattle.std.specs.Prelude.{nat_le, nat_lt, find, is_none, option_map}
use Rattle.std.specs.List.{list_any}
use Rattle.std.proofs.lemmas.Bool.{le-leb, lt-leb, ltb-true}
use Rattle.std.proofs.lemmas.List.{length-map}
use Rattle.qv_words.specs.Tree.{Tree}
use Rattle.qv_words.specs.declared.op.Op.TheVariants.{Equal}
use Rattle.qv_words.specs.Prenex.{binary}
use Rattle.qv_words.specs.Sums.{Monomial, Polynomial, has_factors, products, is_odd, sum_term, added, subtracted, sides_equal}
use Rattle.qv_store.specs.Nodes.{tree_at}
use Rattle.qv_rewrite_sums.specs.declared.product.Product.{Product}
use Rattle.qv_rewrite_sums.specs.Held.{monomial_at, sum_at, modulo, short_raw, is_first_subtracted}
use Rattle.qv_rewrite_sums.proofs.Combined.{found-any, length-products}
use Rattle.qv_rewrite_sums.proofs.Odd.{total, odd-parts}

-- tests that say the same
any-same : {X : Type 0} (f g : X → Bool) → ((x : X) → f x ≡ g x) → (xs : List X) → list_any f xs ≡ list_any g xs
any-same f g same [] = refl
any-same {X} f g same (x ∷ xs) =
    let first : f x ≡ g x = same x in
    let rest : list_any f xs ≡ list_any g xs = any-same f g same xs in
    cc

-- a collected sum is kept by its length and by a test of each product
pub short-parts : (trees : List Tree) (p : List Product) (long : Bool) → length p ≤ 24 → long ≡ list_any (λ (m : Product). nat_lt 4 (length m.factors.items)) p
    → not long ≡ (nat_le (length (sum_at trees p)) 24 && is_none (find (λ (m : Monomial). nat_lt 4 (length m.factors)) (sum_at trees p)))
short-parts trees p long short is =
    let few : nat_le (length (sum_at trees p)) 24 ≡ true = le-leb (length (sum_at trees p)) 24 (subst (λ (n : ℕ). n ≤ 24) (sym (length-map p (monomial_at trees))) short) in
    let each : (m : Product) → nat_lt 4 (length m.factors.items) ≡ nat_lt 4 (length (map (tree_at trees) m.factors.items)) = λ m. ap (nat_lt 4) (sym (length-map m.factors.items (tree_at trees))) in
    let tested : is_none (find (λ (m : Monomial). nat_lt 4 (length m.factors)) (sum_at trees p)) ≡ not long =
    found-any (λ (m : Monomial). nat_lt 4 (length m.factors)) (monomial_at trees) p
    ∙ ap not (sym (is ∙ any-same (λ (m : Product). nat_lt 4 (length m.factors.items)) (λ (m : Product). nat_lt 4 (length (map (tree_at trees) m.factors.items))) each p)) in
    sym (ap (λ (b : Bool). b && is_none (find (λ (m : Monomial). nat_lt 4 (length m.factors)) (sum_at trees p))) few ∙ tested)

-- a sum is odd by a test of each product, and the total
pub odd-tests : (trees : List Tree) (p : List Product) (some odd : Bool) → some ≡ list_any (λ (m : Product). nat_lt 0 (length m.factors.items) && (m.coefficient % 2 == 1)) p → odd ≡ (total trees p % 2 == 1) → (not some && odd) ≡ is_odd (sum_at trees p)
odd-tests trees p some odd is whole =
    let test : Product → Bool = λ m. nat_lt 0 (length m.factors.items) && (m.coefficient % 2 == 1) in
    let each : (m : Product) → test m ≡ (has_factors (monomial_at trees m) && (m.coefficient % 2 == 1)) = λ m. ap (λ (n : ℕ). nat_lt 0 n && (m.coefficient % 2 == 1)) (sym (length-map m.factors.items (tree_at trees))) in
    odd-parts trees p some odd (is ∙ any-same test (λ (m : Product). has_factors (monomial_at trees m) && (m.coefficient % 2 == 1)) each p) whole

-- coefficients modulo n leave the length of a sum
pub short-modulo : (n : ℕ) (p : Polynomial) → short_raw (Some (modulo n p)) ≡ option_map (modulo n) (short_raw (Some p))
short-modulo n p = ap (λ (k : ℕ). cond (nat_le k 48) (Some (modulo n p)) None) (length-map p _) ∙ go (nat_le (length p) 48)
  where
    go : (b : Bool) → cond b (Some (modulo n p)) None ≡ option_map (modulo n) (cond b (Some p) None)
    go true = refl
    go false = refl

-- sums with too many products
pub many-products : (trees : List Tree) (n : ℕ) (a b : List Product) → nat_lt 48 (length a * length b) ≡ true → None ≡ option_map (modulo n) (short_raw (Some (products (sum_at trees a) (sum_at trees b))))
many-products trees n a b many =
    let P = products (sum_at trees a) (sum_at trees b) in
    let long : length P ≡ length a * length b =
    length-products (sum_at trees a) (sum_at trees b) ∙ ap (λ (k : ℕ). k * length (sum_at trees b)) (length-map a (monomial_at trees)) ∙ ap (λ (k : ℕ). length a * k) (length-map b (monomial_at trees)) in
    let over : nat_le (length P) 48 ≡ false = lt-leb (length P) 48 (subst (λ (k : ℕ). 48 < k) (sym long) (ltb-true 48 (length a * length b) many)) in
    sym (ap (λ (c : Bool). option_map (modulo n) (cond c (Some P) None)) over)

-- the equation of a sum's sides, by its first product
pub sides-turned : (w : ℕ) (p : Polynomial) (b : Bool) → b ≡ is_first_subtracted w p
    → sides_equal w p ≡ cond b (binary Equal (sum_term w (subtracted w p)) (sum_term w (added w p))) (binary Equal (sum_term w (added w p)) (sum_term w (subtracted w p)))
sides-turned w p b is = rest p ∙ ap (λ (t : Bool). cond t (binary Equal (sum_term w (subtracted w p)) (sum_term w (added w p))) (binary Equal (sum_term w (added w p)) (sum_term w (subtracted w p)))) (sym is)
  where
    rest : (q : Polynomial) → sides_equal w q ≡ cond (is_first_subtracted w q) (binary Equal (sum_term w (subtracted w q)) (sum_term w (added w q))) (binary Equal (sum_term w (added w q)) (sum_term w (subtracted w q)))
    rest [] = refl
    rest (m ∷ q) = refl
