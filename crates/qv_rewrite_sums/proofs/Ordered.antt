-- Factors and monomials in order.
use Rattle.std.proofs.Common.{◌≡◌, ℕ, zero, suc, ◌+◌, ◌<◌, ◌≤◌, ◌==◌, Bool, true, false, cond, not, ◌&&◌, ◌||◌, List, [], ◌∷◌, map, length, get_or, drop, refl, ap, sym, ◌∙◌}
use Rattle.std.specs.Prelude.{nat_lt}
use Rattle.std.specs.List.{AllByRecursion, insert}
use Rattle.std.proofs.lemmas.List.{drop_more, drop_all}
use Rattle.qv_words.specs.Tree.{Tree, Constant, Variable}
use Rattle.qv_words.specs.Sums.{Monomial, Polynomial, comes_before, factors_before, put_in, in_order, with_order}
use Rattle.qv_store.specs.Nodes.{tree_at}
use Rattle.qv_rewrite_sums.specs.declared.product.Product.{Product}
use Rattle.qv_rewrite_sums.specs.Held.{monomial_at, sum_at, class_of, number_in, product_before, place_or_end, IsWord, IsOfWords, AreOfWords}
use Rattle.qv_rewrite_sums.proofs.Lists.{put-at_place}

-- by classes, and by numbers in a class
pub before-ranked : (t u : Tree) → (nat_lt (class_of t) (class_of u) || class_of t == class_of u && nat_lt (number_in t) (number_in u)) ≡ comes_before t u
before-ranked (Constant i s) (Constant j r) = refl
before-ranked (Constant i s) u = refl
before-ranked (Variable l s) (Constant j r) = refl
before-ranked (Variable l s) (Variable k r) = refl
before-ranked (Variable l s) u = refl
before-ranked t (Constant j r) = refl
before-ranked t (Variable k r) = refl
before-ranked t u = refl

pub ranked : (t u : Tree) (a b c d : ℕ) → a ≡ class_of t → c ≡ number_in t → b ≡ class_of u → d ≡ number_in u → (nat_lt a b || a == b && nat_lt c d) ≡ comes_before t u
ranked t u a b c d p q r s = rw (p, q, r, s) (before-ranked t u)

-- one factor on, where neither comes before the other
pub factors-on : (trees : List Tree) (a b : List ℕ) (k x y : ℕ) → k < length a → k < length b → x ≡ get_or a k x → y ≡ get_or b k y → comes_before (tree_at trees x) (tree_at trees y) ≡ false → comes_before (tree_at trees y) (tree_at trees x) ≡ false
    → factors_before (map (tree_at trees) (drop (k + 1) a)) (map (tree_at trees) (drop (k + 1) b)) ≡ factors_before (map (tree_at trees) (drop k a)) (map (tree_at trees) (drop k b))
factors-on trees a b k x y la lb ax by p q =
    let F : List ℕ → List ℕ → Bool = λ ns ms. factors_before (map (tree_at trees) ns) (map (tree_at trees) ms) in
    sym (ap (λ (ns : List ℕ). F ns (drop k b)) (first a k x la ax)
    ∙ ap (λ (ms : List ℕ). F (x ∷ drop (k + 1) a) ms) (first b k y lb by)
    ∙ ap (λ (z : Bool). z || not (comes_before (tree_at trees y) (tree_at trees x)) && F (drop (k + 1) a) (drop (k + 1) b)) p
    ∙ ap (λ (z : Bool). not z && F (drop (k + 1) a) (drop (k + 1) b)) q)
  where
    first : (ns : List ℕ) (i z : ℕ) → i < length ns → z ≡ get_or ns i z → drop i ns ≡ z ∷ drop (i + 1) ns
    first ns i z low at = drop_more ns i z low ∙ ap (λ (m : ℕ). m ∷ drop (i + 1) ns) (sym at)

-- and where the first list is longer, or the first factor decides
pub factors-longer : (trees : List Tree) (a b : List ℕ) (k : ℕ) → k < length a → length b ≤ k → factors_before (map (tree_at trees) (drop k a)) (map (tree_at trees) (drop k b)) ≡ true
factors-longer trees a b k la lb =
    ap (λ (ns : List ℕ). factors_before (map (tree_at trees) ns) (map (tree_at trees) (drop k b))) (drop_more a k 0 la)
    ∙ ap (λ (ms : List ℕ). factors_before (map (tree_at trees) (get_or a k 0 ∷ drop (k + 1) a)) (map (tree_at trees) ms)) (drop_all k b lb)

-- what stands in order has the same elements
all-put : {X : Type 0} (P : X → Type 0) (before : X → X → Bool) (x : X) (xs : List X) → P x → AllByRecursion P xs → AllByRecursion P (put_in before x xs)
all-put P before x [] h k = (h, tt)
all-put {X} P before x (y ∷ ys) h k = go (before y x) (all-put P before x ys h k.1)
  where
    go : (b : Bool) → AllByRecursion P (put_in before x ys) → AllByRecursion P (cond b (y ∷ put_in before x ys) (x ∷ y ∷ ys))
    go true rest = (k.0, rest)
    go false rest = (h, k)

pub all-in_order : {X : Type 0} (P : X → Type 0) (before : X → X → Bool) (xs : List X) → AllByRecursion P xs → AllByRecursion P (in_order before xs)
all-in_order P before [] h = tt
all-in_order P before (x ∷ xs) h = all-put P before x (in_order before xs) h.0 (all-in_order P before xs h.1)

pub order-fits : (w : ℕ) (p : Polynomial) → AreOfWords w p → AreOfWords w (with_order p)
order-fits w p h = all-in_order (IsOfWords w) product_before (map (λ (m : Monomial). record { coefficient = m.coefficient; factors = in_order comes_before m.factors }) p) (each p h)
  where
    each : (q : Polynomial) → AreOfWords w q → AreOfWords w (map (λ (m : Monomial). record { coefficient = m.coefficient; factors = in_order comes_before m.factors }) q)
    each [] h = tt
    each (m ∷ q) h = (record { coefficient = h.0.coefficient; factors = all-in_order (IsWord w) comes_before m.factors h.0.factors }, each q h.1)

-- one factor more in order, and one monomial
pub factor-more : (trees : List Tree) (factors ordered new : List ℕ) (left : ℕ) → left < length factors → map (tree_at trees) ordered ≡ in_order comes_before (map (tree_at trees) (drop (left + 1) factors))
    → (x : ℕ) → x ≡ get_or factors left x → new ≡ insert ordered (place_or_end (λ other. not (comes_before (tree_at trees other) (tree_at trees x))) ordered) x
    → map (tree_at trees) new ≡ in_order comes_before (map (tree_at trees) (drop left factors))
factor-more trees factors ordered new left low so x at is =
    ap (map (tree_at trees)) is
    ∙ put-at_place comes_before (tree_at trees) x ordered
    ∙ ap (put_in comes_before (tree_at trees x)) so
    ∙ sym (ap (λ (ns : List ℕ). in_order comes_before (map (tree_at trees) ns)) (drop_more factors left x low ∙ ap (λ (z : ℕ). z ∷ drop (left + 1) factors) (sym at)))

pub product-more : (trees : List Tree) (sum ordered new : List Product) (left : ℕ) → left < length sum → sum_at trees ordered ≡ with_order (sum_at trees (drop (left + 1) sum))
    → (x y : Product) → x ≡ get_or sum left x → y.coefficient ≡ x.coefficient → map (tree_at trees) y.factors.items ≡ in_order comes_before (map (tree_at trees) x.factors.items)
    → new ≡ insert ordered (place_or_end (λ other. not (product_before (monomial_at trees other) (monomial_at trees y))) ordered) y → sum_at trees new ≡ with_order (sum_at trees (drop left sum))
product-more trees sum ordered new left low so x y at c f is =
    let own : monomial_at trees y ≡ record { coefficient = x.coefficient; factors = in_order comes_before (map (tree_at trees) x.factors.items) } =
    ap (λ (k : ℕ). record { coefficient = k; factors = map (tree_at trees) y.factors.items }) c
    ∙ ap (λ (ts : List Tree). record { coefficient = x.coefficient; factors = ts }) f in
    ap (sum_at trees) is
    ∙ put-at_place product_before (monomial_at trees) y ordered
    ∙ ap (put_in product_before (monomial_at trees y)) so
    ∙ ap (λ (m : Monomial). put_in product_before m (with_order (sum_at trees (drop (left + 1) sum)))) own
    ∙ sym (ap (λ (ps : List Product). with_order (sum_at trees ps)) (drop_more sum left x low ∙ ap (λ (z : Product). z ∷ drop (left + 1) sum) (sym at)))

-- what is put in has its elements from the list and the new one
pub inserted : {X : Type 0} (P : X → Type 0) (xs : List X) (k : ℕ) (x : X) → AllByRecursion P xs → P x → AllByRecursion P (insert xs k x)
inserted P [] zero x h k = (k, tt)
inserted P [] (suc n) x h k = (k, tt)
inserted P (y ∷ xs) zero x h k = (k, h)
inserted P (y ∷ xs) (suc n) x h k = (h.0, inserted P xs n x h.1 k)

-- and where the first factor decides
pub factors-decided : (trees : List Tree) (a b : List ℕ) (k x y : ℕ) → k < length a → k < length b → x ≡ get_or a k x → y ≡ get_or b k y → comes_before (tree_at trees x) (tree_at trees y) ≡ true → factors_before (map (tree_at trees) (drop k a)) (map (tree_at trees) (drop k b)) ≡ true
factors-decided trees a b k x y la lb ax by p =
    ap (λ (ns : List ℕ). factors_before (map (tree_at trees) ns) (map (tree_at trees) (drop k b))) (drop_more a k x la ∙ ap (λ (m : ℕ). m ∷ drop (k + 1) a) (sym ax))
    ∙ ap (λ (ms : List ℕ). factors_before (map (tree_at trees) (x ∷ drop (k + 1) a)) (map (tree_at trees) ms)) (drop_more b k y lb ∙ ap (λ (m : ℕ). m ∷ drop (k + 1) b) (sym by))
    ∙ ap (λ (z : Bool). z || not (comes_before (tree_at trees y) (tree_at trees x)) && factors_before (map (tree_at trees) (drop (k + 1) a)) (map (tree_at trees) (drop (k + 1) b))) p
