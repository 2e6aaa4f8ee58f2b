-- One monomial more, by the first place with the same factors.
use Rattle.std.proofs.Common.{◌≡◌, ℕ, zero, suc, ◌+◌, ◌%◌, ◌<◌, ◌==◌, Bool, true, false, cond, Option, Some, None, List, [], ◌∷◌, ◌++◌, map, length, get_or, drop, refl, ap, sym, ◌∙◌, subst, arith, fold}
use Rattle.std.specs.Prelude.{unwrap_or, option_map}
use Rattle.std.specs.List.{AllByRecursion, insert, remove}
use Rattle.std.proofs.lemmas.Bool.{ne_eqb}
use Rattle.std.proofs.lemmas.List.{drop_more}
use Rattle.qv_words.specs.Tree.{Tree}
use Rattle.qv_words.proofs.Leaves.{both}
use Rattle.qv_store.specs.Nodes.{tree_at}
use Rattle.qv_store.specs.Stores.{AreShared}
use Rattle.qv_words.specs.Sums.{Monomial, Polynomial, without, same_factors, reduced, plus}
use Rattle.qv_rewrite_sums.specs.declared.product.Product.{Product}
use Rattle.qv_rewrite_sums.specs.Held.{monomial_at, sum_at, first_place, raised, IsWord, AreWords, HaveWords}
use Rattle.qv_rewrite_sums.proofs.Held.{same-number}

-- a list of words without one of them
pub without-first : (trees : List Tree) (w n : ℕ) (ids : List ℕ) → AreShared trees → IsWord w (tree_at trees n) → AreWords w (map (tree_at trees) ids) → without (tree_at trees n) (map (tree_at trees) ids) ≡ option_map (λ k. map (tree_at trees) (remove ids k)) (first_place (λ m. m == n) ids)
without-first trees w n [] shared h k = refl
without-first trees w n (m ∷ ids) shared h k =
    ap (λ (b : Bool). cond b (Some (map (tree_at trees) ids)) (option_map (λ rest. tree_at trees m ∷ rest) (without (tree_at trees n) (map (tree_at trees) ids)))) (same-number trees w m n shared k.0 h)
    ∙ go (m == n) (without-first trees w n ids shared h k.1)
  where
    behind : (q : Option ℕ) → option_map (λ rest. tree_at trees m ∷ rest) (option_map (λ j. map (tree_at trees) (remove ids j)) q) ≡ option_map (λ j. map (tree_at trees) (remove (m ∷ ids) j)) (option_map suc q)
    behind None = refl
    behind (Some j) = refl

    go : (b : Bool) → without (tree_at trees n) (map (tree_at trees) ids) ≡ option_map (λ j. map (tree_at trees) (remove ids j)) (first_place (λ j. j == n) ids)
        → cond b (Some (map (tree_at trees) ids)) (option_map (λ rest. tree_at trees m ∷ rest) (without (tree_at trees n) (map (tree_at trees) ids)))
        ≡ option_map (λ j. map (tree_at trees) (remove (m ∷ ids) j)) (cond b (Some 0) (option_map suc (first_place (λ j. j == n) ids)))
    go true e = refl
    go false e = ap (option_map (λ rest. tree_at trees m ∷ rest)) e ∙ behind (first_place (λ j. j == n) ids)

-- lists with the same trees, where the first of one list is taken out of the other
pub same-taken : (trees : List Tree) (w n k : ℕ) (ids left : List ℕ) → AreShared trees → IsWord w (tree_at trees n) → AreWords w (map (tree_at trees) left) → first_place (λ m. m == n) left ≡ Some k → same_factors (map (tree_at trees) (n ∷ ids)) (map (tree_at trees) left) ≡ same_factors (map (tree_at trees) ids) (map (tree_at trees) (remove left k))
same-taken trees w n k ids left shared h words at =
    ap (λ (q : Option (List Tree)). unwrap_or (option_map (same_factors (map (tree_at trees) ids)) q) false)
    (without-first trees w n left shared h words ∙ ap (option_map (λ j. map (tree_at trees) (remove left j))) at)

pub same-missing : (trees : List Tree) (w n : ℕ) (ids left : List ℕ) → AreShared trees → IsWord w (tree_at trees n) → AreWords w (map (tree_at trees) left) → first_place (λ m. m == n) left ≡ None → same_factors (map (tree_at trees) (n ∷ ids)) (map (tree_at trees) left) ≡ false
same-missing trees w n ids left shared h words none =
    ap (λ (q : Option (List Tree)). unwrap_or (option_map (same_factors (map (tree_at trees) ids)) q) false)
    (without-first trees w n left shared h words ∙ ap (option_map (λ j. map (tree_at trees) (remove left j))) none)

-- what is taken out leaves words
pub removed-words : {X : Type 0} (P : X → Type 0) (xs : List X) (k : ℕ) → AllByRecursion P xs → AllByRecursion P (remove xs k)
removed-words P [] zero h = tt
removed-words P [] (suc k) h = tt
removed-words P (x ∷ xs) zero h = h.1
removed-words P (x ∷ xs) (suc k) h = (h.0, removed-words P xs k h.1)

pub removed-mapped : {X Y : Type 0} (P : Y → Type 0) (f : X → Y) (xs : List X) (k : ℕ) → AllByRecursion P (map f xs) → AllByRecursion P (map f (remove xs k))
removed-mapped P f [] zero h = tt
removed-mapped P f [] (suc k) h = tt
removed-mapped P f (x ∷ xs) zero h = h.1
removed-mapped P f (x ∷ xs) (suc k) h = (h.0, removed-mapped P f xs k h.1)

-- a monomial that is like none before comes last, and else it is added to the first like it
pub plus-last : (trees : List Tree) (n : ℕ) (m : Monomial) (p : List Product) → first_place (λ k. same_factors (map (tree_at trees) k.factors.items) m.factors) p ≡ None → plus n (sum_at trees p) m ≡ sum_at trees p ++ reduced n m.coefficient m.factors
plus-last trees n m [] h = refl
plus-last trees n m (k ∷ p) h = go (same_factors (map (tree_at trees) k.factors.items) m.factors) h (plus-last trees n m p)
  where
    go : (b : Bool) → cond b (Some 0) (option_map suc (first_place (λ j. same_factors (map (tree_at trees) j.factors.items) m.factors) p)) ≡ None
        → (first_place (λ j. same_factors (map (tree_at trees) j.factors.items) m.factors) p ≡ None → plus n (sum_at trees p) m ≡ sum_at trees p ++ reduced n m.coefficient m.factors)
        → cond b (reduced n (k.coefficient + m.coefficient) (map (tree_at trees) k.factors.items) ++ sum_at trees p) (monomial_at trees k ∷ plus n (sum_at trees p) m) ≡ monomial_at trees k ∷ (sum_at trees p ++ reduced n m.coefficient m.factors)
    go true e others = absurd (cc)
    go false e others = ap (λ (l : Polynomial). monomial_at trees k ∷ l) (others (unmapped (first_place (λ j. same_factors (map (tree_at trees) j.factors.items) m.factors) p) e))
      where
        unmapped : (q : Option ℕ) → option_map suc q ≡ None → q ≡ None
        unmapped None z = refl
        unmapped (Some j) z = absurd (cc)

pub plus-raised : (trees : List Tree) (n : ℕ) (m : Monomial) (p : List Product) (place : ℕ) → first_place (λ k. same_factors (map (tree_at trees) k.factors.items) m.factors) p ≡ Some place → plus n (sum_at trees p) m ≡ raised n m.coefficient place (sum_at trees p)
plus-raised trees n m [] place h = absurd (cc)
plus-raised trees n m (k ∷ p) place h = go (same_factors (map (tree_at trees) k.factors.items) m.factors) h (plus-raised trees n m p)
  where
    Test : Product → Bool
    Test = λ j. same_factors (map (tree_at trees) j.factors.items) m.factors

    behind : (q : Option ℕ) → option_map suc q ≡ Some place → ((j : ℕ) → q ≡ Some j → plus n (sum_at trees p) m ≡ raised n m.coefficient j (sum_at trees p)) → monomial_at trees k ∷ plus n (sum_at trees p) m ≡ raised n m.coefficient place (monomial_at trees k ∷ sum_at trees p)
    behind None z others = absurd (cc)
    behind (Some j) z others =
        let next : suc j ≡ place = cc in
        ap (λ (l : Polynomial). monomial_at trees k ∷ l) (others j refl) ∙ ap (λ (i : ℕ). raised n m.coefficient i (monomial_at trees k ∷ sum_at trees p)) next

    go : (b : Bool) → cond b (Some 0) (option_map suc (first_place Test p)) ≡ Some place
        → ((j : ℕ) → first_place Test p ≡ Some j → plus n (sum_at trees p) m ≡ raised n m.coefficient j (sum_at trees p))
        → cond b (reduced n (k.coefficient + m.coefficient) (map (tree_at trees) k.factors.items) ++ sum_at trees p) (monomial_at trees k ∷ plus n (sum_at trees p) m) ≡ raised n m.coefficient place (monomial_at trees k ∷ sum_at trees p)
    go true e others =
        let first : 0 ≡ place = cc in
        ap (λ (i : ℕ). raised n m.coefficient i (monomial_at trees k ∷ sum_at trees p)) first
    go false e others = behind (first_place Test p) e others

-- what is left where a coefficient is raised
reduced-none : (n c : ℕ) (ts : List Tree) → c % n ≡ 0 → reduced n c ts ≡ []
reduced-none n c ts e = ap (λ (r : ℕ). cond (r == 0) [] (record { coefficient = r; factors = ts } ∷ [])) e

reduced-some : (n c : ℕ) (ts : List Tree) → (c % n ≡ 0 → ⊥) → reduced n c ts ≡ record { coefficient = c % n; factors = ts } ∷ []
reduced-some n c ts e = ap (λ (b : Bool). cond b [] (record { coefficient = c % n; factors = ts } ∷ [])) (ne_eqb (c % n) 0 e)

pub raised-gone : (trees : List Tree) (n more : ℕ) (p : List Product) (place : ℕ) (x : Product) → place < length p → x ≡ get_or p place x → (x.coefficient + more) % n ≡ 0 → sum_at trees (remove p place) ≡ raised n more place (sum_at trees p)
raised-gone trees n more [] place x low at none = absurd (omega (arith, low))
raised-gone trees n more (m ∷ p) zero x low at none =
    sym (ap (λ (l : Polynomial). l ++ sum_at trees p) (reduced-none n (m.coefficient + more) (map (tree_at trees) m.factors.items) (subst (λ (y : Product). (y.coefficient + more) % n ≡ 0) at none)))
raised-gone trees n more (m ∷ p) (suc place) x low at none = ap (λ (l : Polynomial). monomial_at trees m ∷ l) (raised-gone trees n more p place x (omega (arith, low)) at none)

pub raised-kept : (trees : List Tree) (n more : ℕ) (p : List Product) (place : ℕ) (x y : Product) → place < length p → x ≡ get_or p place x → ((x.coefficient + more) % n ≡ 0 → ⊥) → y.coefficient ≡ (x.coefficient + more) % n → y.factors ≡ x.factors → sum_at trees (insert (remove p place) place y) ≡ raised n more place (sum_at trees p)
raised-kept trees n more [] place x y low at some is same = absurd (omega (arith, low))
raised-kept trees n more (m ∷ p) zero x y low at some is same =
    let own : monomial_at trees y ≡ record { coefficient = (m.coefficient + more) % n; factors = map (tree_at trees) m.factors.items } =
    ap (λ (c : ℕ). record { coefficient = c; factors = map (tree_at trees) y.factors.items }) is
    ∙ ap (λ f. record { coefficient = (x.coefficient + more) % n; factors = map (tree_at trees) f.items }) same
    ∙ ap (λ (z : Product). record { coefficient = (z.coefficient + more) % n; factors = map (tree_at trees) z.factors.items }) at in
    ap (λ (k : Monomial). k ∷ sum_at trees p) own
    ∙ sym (ap (λ (l : Polynomial). l ++ sum_at trees p) (reduced-some n (m.coefficient + more) (map (tree_at trees) m.factors.items) (subst (λ (z : Product). (z.coefficient + more) % n ≡ 0 → ⊥) at some)))
raised-kept trees n more (m ∷ p) (suc place) x y low at some is same = ap (λ (l : Polynomial). monomial_at trees m ∷ l) (raised-kept trees n more p place x y (omega (arith, low)) at some is same)

-- words stay words
pub plus-words : (w n : ℕ) (p : Polynomial) (m : Monomial) → HaveWords w p → AreWords w m.factors → HaveWords w (plus n p m)
plus-words w n [] m h k = go (m.coefficient % n == 0)
  where
    go : (b : Bool) → HaveWords w (cond b [] (record { coefficient = m.coefficient % n; factors = m.factors } ∷ []))
    go true = tt
    go false = (k, tt)
plus-words w n (j ∷ p) m h k = go (same_factors j.factors m.factors) (plus-words w n p m h.1 k)
  where
    least : (b : Bool) → HaveWords w (cond b [] (record { coefficient = (j.coefficient + m.coefficient) % n; factors = j.factors } ∷ []))
    least true = tt
    least false = (h.0, tt)

    go : (b : Bool) → HaveWords w (plus n p m) → HaveWords w (cond b (reduced n (j.coefficient + m.coefficient) j.factors ++ p) (j ∷ plus n p m))
    go true others = both (λ q. AreWords w q.factors) (reduced n (j.coefficient + m.coefficient) j.factors) p (least ((j.coefficient + m.coefficient) % n == 0)) h.1
    go false others = (h.0, others)

-- one product on, and the end
pub fold-on : (trees : List Tree) (n : ℕ) (sum new : Polynomial) (raw : List Product) (k : ℕ) (x : Product) → k < length raw → x ≡ get_or raw k x → new ≡ plus n sum (monomial_at trees x) → fold (plus n) new (sum_at trees (drop (k + 1) raw)) ≡ fold (plus n) sum (sum_at trees (drop k raw))
fold-on trees n sum new raw k x low at is =
    ap (λ (s : Polynomial). fold (plus n) s (sum_at trees (drop (k + 1) raw))) is
    ∙ sym (ap (λ (ps : List Product). fold (plus n) sum (sum_at trees ps)) (drop_more raw k x low ∙ ap (λ (z : Product). z ∷ drop (k + 1) raw) (sym at)))

pub same-on : (trees : List Tree) (a left : List ℕ) (k x : ℕ) → k < length a → x ≡ get_or a k x → same_factors (map (tree_at trees) (x ∷ drop (k + 1) a)) (map (tree_at trees) left) ≡ same_factors (map (tree_at trees) (drop k a)) (map (tree_at trees) left)
same-on trees a left k x low at = sym (ap (λ (ns : List ℕ). same_factors (map (tree_at trees) ns) (map (tree_at trees) left)) (drop_more a k x low ∙ ap (λ (z : ℕ). z ∷ drop (k + 1) a) (sym at)))
