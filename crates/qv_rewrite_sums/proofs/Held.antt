-- Words among the terms of a store, and sums whose factors are words.
use Rattle.std.proofs.Common.{◌≡◌, ℕ, zero, suc, ◌+◌, ◌^◌, ◌<◌, ◌==◌, inl, inr, Bool as Truth, true, false, Some, List, [], ◌∷◌, map, length, get_or, drop, refl, ap, sym, ◌∙◌, subst, arith}
use Rattle.std.specs.Prelude.{Result, Ok, Err, OnOk}
use Rattle.std.specs.List.{AllByRecursion}
use Rattle.std.proofs.lemmas.Bool.{cases_lt}
use Rattle.std.proofs.lemmas.List.{drop_more, get_or_past}
use Rattle.qv_words.specs.declared.sort.Sort.TheVariants.{Bool, Bits}
use Rattle.qv_words.specs.Tree.{Tree, Literal, tree_sort}
use Rattle.qv_words.specs.Equality.{tree_eq}
use Rattle.qv_words.proofs.Equals.{tree_eq-refl, tree_eq-is, test-refl, eq-from_test}
use Rattle.qv_store.specs.Nodes.{tree_at}
use Rattle.qv_store.specs.Stores.{AreShared, Grows}
use Rattle.qv_store.proofs.Replacement.{grown-tree}
use Rattle.qv_words.specs.Sums.{Polynomial}
use Rattle.qv_rewrite_sums.specs.declared.product.Product.{Product}
use Rattle.qv_rewrite_sums.specs.Held.{monomial_at, sum_at, IsWord, AreWords, HaveWords, AreOfWords, AreBelow}

-- a word stands below the number of terms
pub word-below : (trees : List Tree) (w n : ℕ) → IsWord w (tree_at trees n) → n < length trees
word-below trees w n h = elim (cases_lt n (length trees)) [ inl low ↦ low | inr past ↦ absurd (apart (sym (ap tree_sort (get_or_past trees n (Literal Bool 0) past)) ∙ h)) ]
  where
    apart : Some Bool ≡ Some (Bits w) → ⊥
    apart e = cc

-- what holds of an element of a list
pub at-place : {X : Type 0} (P : X → Type 0) (xs : List X) (k : ℕ) (x : X) → AllByRecursion P xs → k < length xs → x ≡ get_or xs k x → P x
at-place P [] k x h low at = absurd (omega (arith, low))
at-place P (y ∷ xs) zero x h low at = subst P (sym at) h.0
at-place P (y ∷ xs) (suc k) x h low at = at-place P xs k x h.1 (omega (arith, low)) at

-- and of one that is mapped
pub at-mapped : {X Y : Type 0} (P : Y → Type 0) (f : X → Y) (xs : List X) (k : ℕ) (x : X) → AllByRecursion P (map f xs) → k < length xs → x ≡ get_or xs k x → P (f x)
at-mapped P f [] k x h low at = absurd (omega (arith, low))
at-mapped P f (y ∷ xs) zero x h low at = subst (λ z. P (f z)) (sym at) h.0
at-mapped P f (y ∷ xs) (suc k) x h low at = at-mapped P f xs k x h.1 (omega (arith, low)) at

-- what holds of all that are mapped
pub of-mapped : {X Y : Type 0} (P : Y → Type 0) (f : X → Y) (xs : List X) → AllByRecursion P (map f xs) → AllByRecursion (λ x. P (f x)) xs
of-mapped P f [] h = tt
of-mapped P f (x ∷ xs) h = (h.0, of-mapped P f xs h.1)

pub to-mapped : {X Y : Type 0} (P : Y → Type 0) (f : X → Y) (xs : List X) → AllByRecursion (λ x. P (f x)) xs → AllByRecursion P (map f xs)
to-mapped P f [] h = tt
to-mapped P f (x ∷ xs) h = (h.0, to-mapped P f xs h.1)

-- what is left of a list, one element on
pub left-first : {X : Type 0} (P : X → Type 0) (xs : List X) (k : ℕ) (x : X) → AllByRecursion P (drop k xs) → k < length xs → x ≡ get_or xs k x → P x × AllByRecursion P (drop (k + 1) xs)
left-first {X} P xs k x h low at = subst (AllByRecursion P) (drop_more xs k x low ∙ ap (λ (z : X). z ∷ drop (k + 1) xs) (sym at)) h

-- equal terms have one number
pub same-number : (trees : List Tree) (w m n : ℕ) → AreShared trees → IsWord w (tree_at trees m) → IsWord w (tree_at trees n) → tree_eq (tree_at trees n) (tree_at trees m) ≡ (m == n)
same-number trees w m n shared h k = go (tree_eq (tree_at trees n) (tree_at trees m)) refl (m == n) refl
  where
    go : (a : Truth) → tree_eq (tree_at trees n) (tree_at trees m) ≡ a → (b : Truth) → (m == n) ≡ b → a ≡ b
    go true is true e = refl
    go false is false e = refl
    go true is false e =
        let same : m ≡ n = shared.once m n (word-below trees w m h) (word-below trees w n k) (sym (tree_eq-is (tree_at trees n) (tree_at trees m) is)) in
        let one : (m == n) ≡ true = ap (λ (x : ℕ). m == x) (sym same) ∙ test-refl m in
        sym one ∙ e
    go false is true e =
        let same : m ≡ n = eq-from_test m n e in
        sym is ∙ ap (λ (x : ℕ). tree_eq (tree_at trees n) (tree_at trees x)) same ∙ tree_eq-refl (tree_at trees n)

-- sums of words stand below the number of terms
pub words-factors_below : (trees : List Tree) (w : ℕ) (ids : List ℕ) → AreWords w (map (tree_at trees) ids) → AllByRecursion (λ id. id < length trees) ids
words-factors_below trees w [] h = tt
words-factors_below trees w (n ∷ ids) h = (word-below trees w n h.0, words-factors_below trees w ids h.1)

pub words-below : (trees : List Tree) (w : ℕ) (p : List Product) → HaveWords w (sum_at trees p) → AreBelow (length trees) p
words-below trees w [] h = tt
words-below trees w (m ∷ p) h = (words-factors_below trees w m.factors.items h.0, words-below trees w p h.1)

pub fit-words : (w : ℕ) (p : Polynomial) → AreOfWords w p → HaveWords w p
fit-words w [] h = tt
fit-words w (m ∷ p) h = (h.0.factors, fit-words w p h.1)

-- more terms leave sums as they are
pub grown-ids : (old new : List Tree) (ids : List ℕ) → Grows old new → AllByRecursion (λ id. id < length old) ids → map (tree_at new) ids ≡ map (tree_at old) ids
grown-ids old new [] grows h = refl
grown-ids old new (n ∷ ids) grows h =
    let first : tree_at new n ≡ tree_at old n = grown-tree old new grows n h.0 in
    let rest : map (tree_at new) ids ≡ map (tree_at old) ids = grown-ids old new ids grows h.1 in
    cc

pub grown-monomial : (old new : List Tree) (m : Product) → Grows old new → AllByRecursion (λ id. id < length old) m.factors.items → monomial_at new m ≡ monomial_at old m
grown-monomial old new m grows h = ap (λ (ts : List Tree). record { coefficient = m.coefficient; factors = ts }) (grown-ids old new m.factors.items grows h)

pub grown-sum : (old new : List Tree) (p : List Product) → Grows old new → AreBelow (length old) p → sum_at new p ≡ sum_at old p
grown-sum old new [] grows h = refl
grown-sum old new (m ∷ p) grows h =
    let first : monomial_at new m ≡ monomial_at old m = grown-monomial old new m grows h.0 in
    let rest : sum_at new p ≡ sum_at old p = grown-sum old new p grows h.1 in
    cc

-- the first product that is left, and the others
pub words-left : (trees : List Tree) (w : ℕ) (p : List Product) (k : ℕ) (x : Product) → HaveWords w (sum_at trees (drop k p)) → k < length p → x ≡ get_or p k x → AreWords w (map (tree_at trees) x.factors.items) × HaveWords w (sum_at trees (drop (k + 1) p))
words-left trees w p k x h low at = subst (λ (ps : List Product). HaveWords w (sum_at trees ps)) (drop_more p k x low ∙ ap (λ (z : Product). z ∷ drop (k + 1) p) (sym at)) h

-- what follows where a call ends well
pub on-ok : {A E : Type 0} (r : Result A E) {P Q : Type 0} → (P → Q) → OnOk r P → OnOk r Q
on-ok (Ok x) go h = go h
on-ok (Err e) go h = h

-- the coefficients of a sum of words
pub values-below : (trees : List Tree) (w : ℕ) (p : List Product) → AreOfWords w (sum_at trees p) → AllByRecursion (λ m. m.coefficient < 2 ^ w) p
values-below trees w [] h = tt
values-below trees w (m ∷ p) h = (h.0.coefficient, values-below trees w p h.1)
