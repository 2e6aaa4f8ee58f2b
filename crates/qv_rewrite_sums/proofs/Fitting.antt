-- The sorts of the factors of trees' sums, and of the terms that these become.
use Rattle.std.proofs.Common.{◌≡◌, ℕ, ◌+◌, ◌-◌, ◌%◌, ◌^◌, ◌<◌, ◌==◌, Bool as Truth, true, false, cond, not, Option, Some, None, List, [], ◌∷◌, ◌++◌, map, fold, refl, sym, ap, ◌∙◌, subst, arith}
use Rattle.std.specs.Prelude.{unwrap_or, option_map, option_and_then, nat_lt, filter, IsSome}
use Rattle.std.specs.List.{AllByRecursion}
use Rattle.std.proofs.lemmas.Nat.{pow_pos, mod_below}
use Rattle.qv_words.specs.declared.sort.Sort.{Sort}
use Rattle.qv_words.specs.declared.sort.Sort.TheVariants.{Bool, Bits}
use Rattle.qv_words.specs.declared.op.Op.{Op}
use Rattle.qv_words.specs.declared.op.Op.TheVariants.{Equal, BvNot, BvNeg, BvAdd, BvSub, BvMul, BvShl}
use Rattle.qv_words.specs.Sort.{IsLawful, width_of}
use Rattle.qv_words.specs.Signed.{negated}
use Rattle.qv_words.specs.Rank.{result_sort, one_width, two_widths, two_alike}
use Rattle.qv_words.specs.Tree.{Tree, Trees, Constant, Variable, Literal, Apply, ForAll, Exists, Nil, Cons, tree_sort, tree_sorts}
use Rattle.qv_words.specs.Sorted.{no_levels, IsSorted, AreSortedBelow}
use Rattle.qv_words.specs.Prenex.{binary}
use Rattle.qv_words.specs.Inverse.{unary, number}
use Rattle.qv_words.specs.Passes.{truth_literal}
use Rattle.qv_words.proofs.Equals.{test-refl}
use Rattle.qv_words.proofs.TwosComplement.{halves}
use Rattle.qv_words.proofs.Leaves.{both}
use Rattle.qv_words.proofs.InSort.{one_width-parts, two_widths-parts, two_alike-parts}
use Rattle.qv_words.proofs.Existing.{has_sort, lawful_sort}
use Rattle.qv_words.proofs.Passing.{one-sorts, two-sorts, some-same}
use Rattle.qv_words.specs.Sums.{Monomial, Polynomial, constant, atom, has_factors, times, multiple, opposite, products, same_factors, reduced, plus, collected, number_of, shifted, combined, is_short, sum_or_atom, with_order, joined, product_term, sum_term, is_subtracted, added, subtracted, opposite_term, difference_term, term_from, term_of, is_odd, sides_equal, zero_from, is_zero, word_width, equation, bits_in, terms_of, rebuilt, applied, polynomial, polynomials, summed}
use Rattle.qv_rewrite_sums.specs.Held.{IsWord, AreWords, HaveWords, IsOfWords, AreOfWords, IsSumFor}
use Rattle.qv_rewrite_sums.proofs.Held.{fit-words}
use Rattle.qv_rewrite_sums.proofs.Ordered.{order-fits}

-- the ranks of two words
pub alike-rank : (w : ℕ) → option_map Bits (cond (w == w) (Some w) None) ≡ Some (Bits w)
alike-rank w = rw (test-refl w) refl

pub equal-rank : (w : ℕ) → result_sort Equal (Bits w ∷ Bits w ∷ []) ≡ Some Bool
equal-rank w = rw (test-refl w) refl

pub sort-binary : (o : Op) (w : ℕ) (s : Sort) (a b : Tree) → IsWord w a → IsWord w b → result_sort o (Bits w ∷ Bits w ∷ []) ≡ Some s → tree_sort (binary o a b) ≡ Some s
sort-binary o w s a b f g rank = rw (f, g) rank

pub sort-unary : (o : Op) (w : ℕ) (a : Tree) → IsWord w a → result_sort o (Bits w ∷ []) ≡ Some (Bits w) → IsWord w (unary o a)
sort-unary o w a f rank = rw f rank

pub sorted-binary : (o : Op) (a b : Tree) (s : Sort) → IsSorted a → IsSorted b → tree_sort (binary o a b) ≡ Some s → IsSorted (binary o a b)
sorted-binary o a b s f g is = ((f, (g, tt)), subst IsSome (sym is) refl)

pub sorted-unary : (o : Op) (a : Tree) (s : Sort) → IsSorted a → tree_sort (unary o a) ≡ Some s → IsSorted (unary o a)
sorted-unary o a s f is = ((f, tt), subst IsSome (sym is) refl)

-- words joined from the left
pub word-joined : (o : Op) (w : ℕ) (t : Tree) (ts : List Tree) → result_sort o (Bits w ∷ Bits w ∷ []) ≡ Some (Bits w) → IsWord w t → AreWords w ts → IsWord w (fold (binary o) t ts)
word-joined o w t [] rank h k = h
word-joined o w t (u ∷ us) rank h k = word-joined o w (binary o t u) us rank (sort-binary o w (Bits w) t u h k.0 rank) k.1

pub word-product : (w : ℕ) (m : Monomial) → AreWords w m.factors → IsWord w (product_term w m)
word-product w m h = go (has_factors m) (m.coefficient == 1)
  where
    factors : (ts : List Tree) → AreWords w ts → IsWord w (joined BvMul (number w 1) ts)
    factors [] k = refl
    factors (t ∷ ts) k = word-joined BvMul w t ts (alike-rank w) k.0 k.1

    go : (a b : Truth) → IsWord w (cond a (cond b (joined BvMul (number w 1) m.factors) (binary BvMul (joined BvMul (number w 1) m.factors) (number w m.coefficient))) (number w m.coefficient))
    go true true = factors m.factors h
    go true false = sort-binary BvMul w (Bits w) (joined BvMul (number w 1) m.factors) (number w m.coefficient) (factors m.factors h) refl (alike-rank w)
    go false b = refl

pub words-products : (w : ℕ) (p : Polynomial) → HaveWords w p → AreWords w (map (product_term w) p)
words-products w [] h = tt
words-products w (m ∷ p) h = (word-product w m h.0, words-products w p h.1)

pub word-sum : (w : ℕ) (p : Polynomial) → HaveWords w p → IsWord w (sum_term w p)
word-sum w [] h = refl
word-sum w (m ∷ p) h = word-joined BvAdd w (product_term w m) (map (product_term w) p) (alike-rank w) (word-product w m h.0) (words-products w p h.1)

-- parts of sums
pub all-filter : {X : Type 0} (P : X → Type 0) (test : X → Truth) (xs : List X) → AllByRecursion P xs → AllByRecursion P (filter test xs)
all-filter P test [] h = tt
all-filter P test (x ∷ xs) h = go (all-filter P test xs h.1) (test x)
  where
    go : AllByRecursion P (filter test xs) → (b : Truth) → AllByRecursion P (cond b (x ∷ filter test xs) (filter test xs))
    go others true = (h.0, others)
    go others false = others

pub added-fits : (w : ℕ) (p : Polynomial) → AreOfWords w p → AreOfWords w (added w p)
added-fits w p h = all-filter (IsOfWords w) (λ m. not (is_subtracted w m)) p h

pub subtracted-fits : (w : ℕ) (p : Polynomial) → AreOfWords w p → AreOfWords w (subtracted w p)
subtracted-fits w p h = turned (filter (is_subtracted w) p) (all-filter (IsOfWords w) (is_subtracted w) p h)
  where
    turned : (q : Polynomial) → AreOfWords w q → AreOfWords w (map (λ m. record { coefficient = negated w m.coefficient; factors = m.factors }) q)
    turned [] k = tt
    turned (m ∷ q) k = (record { coefficient = mod_below (2 ^ w - m.coefficient) (2 ^ w) (pow_pos w); factors = k.0.factors }, turned q k.1)

pub others-fit : (w : ℕ) (p : Polynomial) → AreOfWords w p → AreOfWords w (filter has_factors p)
others-fit w p h = all-filter (IsOfWords w) has_factors p h

-- the term of a sum
word-opposite : (w : ℕ) (p : Polynomial) → AreOfWords w p → IsWord w (opposite_term w p)
word-opposite w p h = go (unwrap_or (number_of (filter (λ m. not (has_factors m)) p)) 0 == 1)
  where
    go : (b : Truth) → IsWord w (cond b (unary BvNot (sum_term w (filter has_factors p))) (unary BvNeg (sum_term w p)))
    go true = sort-unary BvNot w (sum_term w (filter has_factors p)) (word-sum w (filter has_factors p) (fit-words w (filter has_factors p) (others-fit w p h))) refl
    go false = sort-unary BvNeg w (sum_term w p) (word-sum w p (fit-words w p h)) refl

word-difference : (w : ℕ) (p q : Polynomial) → AreOfWords w p → AreOfWords w q → IsWord w (difference_term w p q)
word-difference w p [] f g = word-sum w p (fit-words w p f)
word-difference w [] (m ∷ q) f g = word-opposite w (m ∷ q) g
word-difference w (k ∷ p) (m ∷ q) f g =
    sort-binary BvSub w (Bits w) (sum_term w (k ∷ p)) (sum_term w (m ∷ q)) (word-sum w (k ∷ p) (fit-words w (k ∷ p) f)) (word-sum w (m ∷ q) (fit-words w (m ∷ q) g)) (alike-rank w)

pub word-term : (w : ℕ) (p : Polynomial) → AreOfWords w p → IsWord w (term_of w p)
word-term w p h = go (number_of p)
  where
    ordered : AreOfWords w (with_order p)
    ordered = order-fits w p h

    go : (n : Option ℕ) → IsWord w (term_from w (with_order p) n)
    go (Some n) = refl
    go None = word-difference w (added w (with_order p)) (subtracted w (with_order p)) (added-fits w (with_order p) ordered) (subtracted-fits w (with_order p) ordered)

-- the number that a sum is
pub number-fits : (w : ℕ) (p : Polynomial) (n : ℕ) → AreOfWords w p → number_of p ≡ Some n → n < 2 ^ w
number-fits w [] n h is = let none : 0 ≡ n = cc in subst (λ (k : ℕ). k < 2 ^ w) none (pow_pos w)
number-fits w (m ∷ []) n h is = go (has_factors m) is
  where
    go : (b : Truth) → cond b None (Some m.coefficient) ≡ Some n → n < 2 ^ w
    go true e = cc
    go false e = let same : m.coefficient ≡ n = cc in subst (λ (k : ℕ). k < 2 ^ w) same h.0.coefficient
number-fits w (m ∷ k ∷ p) n h is = cc

-- that a sum is 0
sort-equation : (w : ℕ) (p q : Polynomial) → AreOfWords w p → AreOfWords w q → tree_sort (binary Equal (sum_term w p) (sum_term w q)) ≡ Some Bool
sort-equation w p q f g = sort-binary Equal w Bool (sum_term w p) (sum_term w q) (word-sum w p (fit-words w p f)) (word-sum w q (fit-words w q g)) (equal-rank w)

sort-sides : (w : ℕ) (p : Polynomial) → AreOfWords w p → tree_sort (sides_equal w p) ≡ Some Bool
sort-sides w [] h = sort-equation w [] [] tt tt
sort-sides w (m ∷ p) h = go (is_subtracted w m)
  where
    plus-part : AreOfWords w (added w (m ∷ p))
    plus-part = added-fits w (m ∷ p) h

    minus-part : AreOfWords w (subtracted w (m ∷ p))
    minus-part = subtracted-fits w (m ∷ p) h

    go : (b : Truth) → tree_sort (cond b (binary Equal (sum_term w (subtracted w (m ∷ p))) (sum_term w (added w (m ∷ p)))) (binary Equal (sum_term w (added w (m ∷ p))) (sum_term w (subtracted w (m ∷ p))))) ≡ Some Bool
    go true = sort-equation w (subtracted w (m ∷ p)) (added w (m ∷ p)) minus-part plus-part
    go false = sort-equation w (added w (m ∷ p)) (subtracted w (m ∷ p)) plus-part minus-part

pub sort-zero : (w : ℕ) (p : Polynomial) → AreOfWords w p → tree_sort (is_zero w p) ≡ Some Bool
sort-zero w p h = go (number_of p)
  where
    either : (b : Truth) → tree_sort (cond b (truth_literal false) (sides_equal w (with_order p))) ≡ Some Bool
    either true = refl
    either false = sort-sides w (with_order p) (order-fits w p h)

    go : (n : Option ℕ) → tree_sort (zero_from w p n) ≡ Some Bool
    go (Some n) = refl
    go None = either (is_odd p)

-- like monomials put together
reduced-fits : (w c : ℕ) (ts : List Tree) → AreWords w ts → AreOfWords w (reduced (2 ^ w) c ts)
reduced-fits w c ts h = go (c % 2 ^ w == 0)
  where
    go : (b : Truth) → AreOfWords w (cond b [] (record { coefficient = c % 2 ^ w; factors = ts } ∷ []))
    go true = tt
    go false = (record { coefficient = mod_below c (2 ^ w) (pow_pos w); factors = h }, tt)

plus-fits : (w : ℕ) (p : Polynomial) (m : Monomial) → AreOfWords w p → AreWords w m.factors → AreOfWords w (plus (2 ^ w) p m)
plus-fits w [] m f h = reduced-fits w m.coefficient m.factors h
plus-fits w (k ∷ p) m f h = go (plus-fits w p m f.1 h) (same_factors k.factors m.factors)
  where
    go : AreOfWords w (plus (2 ^ w) p m) → (b : Truth) → AreOfWords w (cond b (reduced (2 ^ w) (k.coefficient + m.coefficient) k.factors ++ p) (k ∷ plus (2 ^ w) p m))
    go others true = both (IsOfWords w) (reduced (2 ^ w) (k.coefficient + m.coefficient) k.factors) p (reduced-fits w (k.coefficient + m.coefficient) k.factors f.0.factors) f.1
    go others false = (f.0, others)

fold-fits : (w : ℕ) (q p : Polynomial) → AreOfWords w q → HaveWords w p → AreOfWords w (fold (plus (2 ^ w)) q p)
fold-fits w q [] f h = f
fold-fits w q (m ∷ p) f h = fold-fits w (plus (2 ^ w) q m) p (plus-fits w q m f h.0) h.1

pub collected-fits : (w : ℕ) (p : Polynomial) → HaveWords w p → AreOfWords w (collected w p)
collected-fits w p h = fold-fits w [] p tt h

-- words in sums of sums
words-append : (w : ℕ) (p q : Polynomial) → HaveWords w p → HaveWords w q → HaveWords w (p ++ q)
words-append w p q f g = both (λ m. AreWords w m.factors) p q f g

words-multiple : (w k : ℕ) (p : Polynomial) → HaveWords w p → HaveWords w (multiple k p)
words-multiple w k [] h = tt
words-multiple w k (m ∷ p) h = (h.0, words-multiple w k p h.1)

words-times : (w : ℕ) (m : Monomial) (q : Polynomial) → AreWords w m.factors → HaveWords w q → HaveWords w (map (times m) q)
words-times w m [] f g = tt
words-times w m (k ∷ q) f g = (both (IsWord w) m.factors k.factors f g.0, words-times w m q f g.1)

words-all_products : (w : ℕ) (p q : Polynomial) → HaveWords w p → HaveWords w q → HaveWords w (products p q)
words-all_products w [] q f g = tt
words-all_products w (m ∷ p) q f g = words-append w (map (times m) q) (products p q) (words-times w m q f.0 g) (words-all_products w p q f.1 g)

pub words-difference : (w : ℕ) (p q : Polynomial) → HaveWords w p → HaveWords w q → HaveWords w (p ++ opposite w q)
words-difference w p q f g = words-append w p (opposite w q) f (words-multiple w (2 ^ w - 1) q g)

-- sums for the trees of a list
abbrev pub FitEach : Trees → List Polynomial → Type 0
FitEach Nil [] = Unit {0}
FitEach Nil (p ∷ ps) = ⊥
FitEach (Cons t ts) [] = ⊥
FitEach (Cons t ts) (p ∷ ps) = ((s : Sort) → tree_sort t ≡ Some s → IsSumFor s p) × FitEach ts ps

-- an application that is a word, and its sum before like monomials are put together
abbrev pub RawFits : Tree → Polynomial → Type 0
RawFits t raw = (w : ℕ) × IsWord w t × HaveWords w raw

pub bits-are : (t : Tree) (s : Sort) → tree_sort t ≡ Some s → bits_in t ≡ width_of s
bits-are t s is = ap (λ (q : Option Sort). width_of (unwrap_or q Bool)) is

one-word : (o : Op) (a : Tree) → ((ss : List Sort) → result_sort o ss ≡ option_map Bits (one_width ss)) → IsSorted (unary o a) → (w : ℕ) × IsWord w a × IsWord w (unary o a)
one-word o a of h =
    let k = one-sorts o a h in
    go k.0 k.1 k.2 k.4 (one_width (k.0 ∷ [])) refl (sym (of (k.0 ∷ [])) ∙ k.3)
  where
    go : (s r : Sort) → tree_sort a ≡ Some s → tree_sort (unary o a) ≡ Some r → (q : Option ℕ) → one_width (s ∷ []) ≡ q → option_map Bits q ≡ Some r → (w : ℕ) × IsWord w a × IsWord w (unary o a)
    go s r sa whole None is e = cc
    go s r sa whole (Some w) is e =
        let shape = one_width-parts (s ∷ []) w is in
        let first : s ≡ Bits w = cc in
        let result : r ≡ Bits w = cc in
        (w, sa ∙ ap Some first, whole ∙ ap Some result)

two-words : (o : Op) (a b : Tree) → ((ss : List Sort) → result_sort o ss ≡ option_map Bits (two_widths ss)) → IsSorted (binary o a b) → (w : ℕ) × IsWord w a × IsWord w b × IsWord w (binary o a b)
two-words o a b of h =
    let k = two-sorts o a b h in
    go k.0 k.1 k.2 k.3 k.4 k.6 (two_widths (k.0 ∷ k.1 ∷ [])) refl (sym (of (k.0 ∷ k.1 ∷ [])) ∙ k.5)
  where
    go : (s t r : Sort) → tree_sort a ≡ Some s → tree_sort b ≡ Some t → tree_sort (binary o a b) ≡ Some r → (q : Option ℕ) → two_widths (s ∷ t ∷ []) ≡ q → option_map Bits q ≡ Some r → (w : ℕ) × IsWord w a × IsWord w b × IsWord w (binary o a b)
    go s t r sa sb whole None is e = cc
    go s t r sa sb whole (Some w) is e =
        let shape = two_widths-parts (s ∷ t ∷ []) w is in
        let first : s ≡ Bits w = cc in
        let second : t ≡ Bits w = cc in
        let result : r ≡ Bits w = cc in
        (w, sa ∙ ap Some first, sb ∙ ap Some second, whole ∙ ap Some result)

-- of two arguments, and of one
of-two : (o : Op) (a b : Tree) (p q raw : Polynomial) (make : ℕ → Polynomial) → ((ss : List Sort) → result_sort o ss ≡ option_map Bits (two_widths ss)) → IsSorted (binary o a b) → FitEach (Cons a (Cons b Nil)) (p ∷ q ∷ [])
    → ((w : ℕ) → HaveWords w p → HaveWords w q → HaveWords w (make w)) → make (bits_in (binary o a b)) ≡ raw → RawFits (binary o a b) raw
of-two o a b p q raw make of h r each e =
    let k = two-words o a b of h in
    let is = each k.0 (fit-words k.0 p (r.0 (Bits k.0) k.1)) (fit-words k.0 q (r.1.0 (Bits k.0) k.2)) in
    (k.0, k.3, subst (HaveWords k.0) (ap make (sym (bits-are (binary o a b) (Bits k.0) k.3)) ∙ e) is)

of-one : (o : Op) (a : Tree) (p raw : Polynomial) (make : ℕ → Polynomial) → ((ss : List Sort) → result_sort o ss ≡ option_map Bits (one_width ss)) → IsSorted (unary o a) → FitEach (Cons a Nil) (p ∷ [])
    → ((w : ℕ) → HaveWords w p → HaveWords w (make w)) → make (bits_in (unary o a)) ≡ raw → RawFits (unary o a) raw
of-one o a p raw make of h r each e =
    let k = one-word o a of h in
    let is = each k.0 (fit-words k.0 p (r.0 (Bits k.0) k.1)) in
    (k.0, k.2, subst (HaveWords k.0) (ap make (sym (bits-are (unary o a) (Bits k.0) k.2)) ∙ e) is)

of-shift : (a b : Tree) (p q raw : Polynomial) → IsSorted (binary BvShl a b) → FitEach (Cons a (Cons b Nil)) (p ∷ q ∷ []) → option_and_then (shifted (bits_in (binary BvShl a b)) p) (number_of q) ≡ Some raw → RawFits (binary BvShl a b) raw
of-shift a b p q raw h r e =
    let k = two-words BvShl a b (λ ss. refl) h in
    go k.0 k.3 (fit-words k.0 p (r.0 (Bits k.0) k.1)) (bits_in (binary BvShl a b)) (number_of q) e
  where
    inner : (w v n : ℕ) → IsWord w (binary BvShl a b) → HaveWords w p → (l : Truth) → cond l (Some (multiple (2 ^ n) p)) None ≡ Some raw → RawFits (binary BvShl a b) raw
    inner w v n st f true x = (w, st, subst (HaveWords w) (some-same _ _ x) (words-multiple w (2 ^ n) p f))
    inner w v n st f false x = cc

    go : (w : ℕ) → IsWord w (binary BvShl a b) → HaveWords w p → (v : ℕ) (n : Option ℕ) → option_and_then (shifted v p) n ≡ Some raw → RawFits (binary BvShl a b) raw
    go w st f v None x = cc
    go w st f v (Some n) x = inner w v n st f (nat_lt n v) x

two-arguments : (P : Trees → Type 0) (ts : Trees) (p q : Polynomial) → FitEach ts (p ∷ q ∷ []) → ((a b : Tree) → FitEach (Cons a (Cons b Nil)) (p ∷ q ∷ []) → P (Cons a (Cons b Nil))) → P ts
two-arguments P Nil p q r each = absurd r
two-arguments P (Cons a Nil) p q r each = absurd r.1
two-arguments P (Cons a (Cons b Nil)) p q r each = each a b r
two-arguments P (Cons a (Cons b (Cons t ts))) p q r each = absurd r.1.1

one-argument : (P : Trees → Type 0) (ts : Trees) (p : Polynomial) → FitEach ts (p ∷ []) → ((a : Tree) → FitEach (Cons a Nil) (p ∷ []) → P (Cons a Nil)) → P ts
one-argument P Nil p r each = absurd r
one-argument P (Cons a Nil) p r each = each a r
one-argument P (Cons a (Cons t ts)) p r each = absurd r.1

pub combined-fits : (o : Op) (ts : Trees) (ps : List Polynomial) (raw : Polynomial) → FitEach ts ps → IsSorted (Apply o ts) → combined o (bits_in (Apply o ts)) ps ≡ Some raw → RawFits (Apply o ts) raw
combined-fits BvAdd ts (p ∷ q ∷ []) raw r h e =
    two-arguments (λ us. IsSorted (Apply BvAdd us) → combined BvAdd (bits_in (Apply BvAdd us)) (p ∷ q ∷ []) ≡ Some raw → RawFits (Apply BvAdd us) raw) ts p q r
    (λ a b k g x. of-two BvAdd a b p q raw (λ w. p ++ q) (λ ss. refl) g k (λ w f i. words-append w p q f i) (some-same _ _ x)) h e
combined-fits BvSub ts (p ∷ q ∷ []) raw r h e =
    two-arguments (λ us. IsSorted (Apply BvSub us) → combined BvSub (bits_in (Apply BvSub us)) (p ∷ q ∷ []) ≡ Some raw → RawFits (Apply BvSub us) raw) ts p q r
    (λ a b k g x. of-two BvSub a b p q raw (λ w. p ++ opposite w q) (λ ss. refl) g k (λ w f i. words-difference w p q f i) (some-same _ _ x)) h e
combined-fits BvMul ts (p ∷ q ∷ []) raw r h e =
    two-arguments (λ us. IsSorted (Apply BvMul us) → combined BvMul (bits_in (Apply BvMul us)) (p ∷ q ∷ []) ≡ Some raw → RawFits (Apply BvMul us) raw) ts p q r
    (λ a b k g x. of-two BvMul a b p q raw (λ w. products p q) (λ ss. refl) g k (λ w f i. words-all_products w p q f i) (some-same _ _ x)) h e
combined-fits BvShl ts (p ∷ q ∷ []) raw r h e =
    two-arguments (λ us. IsSorted (Apply BvShl us) → combined BvShl (bits_in (Apply BvShl us)) (p ∷ q ∷ []) ≡ Some raw → RawFits (Apply BvShl us) raw) ts p q r
    (λ a b k g x. of-shift a b p q raw g k x) h e
combined-fits BvNeg ts (p ∷ []) raw r h e =
    one-argument (λ us. IsSorted (Apply BvNeg us) → combined BvNeg (bits_in (Apply BvNeg us)) (p ∷ []) ≡ Some raw → RawFits (Apply BvNeg us) raw) ts p r
    (λ a k g x. of-one BvNeg a p raw (λ w. opposite w p) (λ ss. refl) g k (λ w f. words-multiple w (2 ^ w - 1) p f) (some-same _ _ x)) h e
combined-fits BvNot ts (p ∷ []) raw r h e =
    one-argument (λ us. IsSorted (Apply BvNot us) → combined BvNot (bits_in (Apply BvNot us)) (p ∷ []) ≡ Some raw → RawFits (Apply BvNot us) raw) ts p r
    (λ a k g x. of-one BvNot a p raw (λ w. opposite w (p ++ constant 1 ∷ [])) (λ ss. refl) g k (λ w f. words-multiple w (2 ^ w - 1) (p ++ constant 1 ∷ []) (words-append w p (constant 1 ∷ []) f (tt, tt))) (some-same _ _ x)) h e
combined-fits _ ts ps raw r h e = cc

-- one is a number of each width
one-below : (w : ℕ) → IsLawful (Bits w) → 1 < 2 ^ w
one-below w lawful = let twice = halves w lawful.0 in let some = pow_pos (w - 1) in omega (arith, twice, some)

-- a tree alone
alone : (u : Tree) (s : Sort) → IsLawful s → tree_sort u ≡ Some s → IsSumFor s (atom u)
alone u Bool lawful is = (u, refl, is)
alone u (Bits w) lawful is = (record { coefficient = one-below w lawful; factors = (is, tt) }, tt)

-- the term of a sum has the tree's sort
atom-term : (u : Tree) → term_of 1 (atom u) ≡ u
unfolding lib.Count.ones
atom-term u = refl

pub term-sort : (s : Sort) (p : Polynomial) → IsSumFor s p → tree_sort (term_of (width_of s) p) ≡ Some s
term-sort Bool p r = ap (λ (q : Polynomial). tree_sort (term_of 1 q)) r.1 ∙ ap tree_sort (atom-term r.0) ∙ r.2
term-sort (Bits w) p r = word-term w p r

-- and a truth value's is the factor
pub atom-stands : (p : Polynomial) (u : Tree) → p ≡ atom u → term_of 1 p ≡ u
atom-stands p u e = ap (term_of 1) e ∙ atom-term u

terms-sorts : (ts : Trees) (ps : List Polynomial) → AreSortedBelow no_levels ts → FitEach ts ps → tree_sorts (terms_of ts ps) ≡ tree_sorts ts
terms-sorts Nil [] h r = refl
terms-sorts Nil (p ∷ ps) h r = absurd r
terms-sorts (Cons t ts) [] h r = absurd r
terms-sorts (Cons t ts) (p ∷ ps) h r =
    let at = has_sort t no_levels h.0 in
    let own : tree_sort (term_of (bits_in t) p) ≡ tree_sort t =
    ap (λ (w : ℕ). tree_sort (term_of w p)) (bits-are t at.0 at.1) ∙ term-sort at.0 p (r.0 at.0 at.1) ∙ sym at.1 in
    let others : tree_sorts (terms_of ts ps) ≡ tree_sorts ts = terms-sorts ts ps h.1 r.1 in
    ap (λ (q : Option Sort). option_and_then (λ s. option_map (λ sorts. s ∷ sorts) (tree_sorts (terms_of ts ps))) q) own
    ∙ ap (λ (q : Option (List Sort)). option_and_then (λ s. option_map (λ sorts. s ∷ sorts) q) (tree_sort t)) others

pub with-terms_sort : (o : Op) (ts : Trees) (ps : List Polynomial) → AreSortedBelow no_levels ts → FitEach ts ps → tree_sort (Apply o (terms_of ts ps)) ≡ tree_sort (Apply o ts)
with-terms_sort o ts ps h r = ap (option_and_then (result_sort o)) (terms-sorts ts ps h r)

-- the two sides of an equation have one sort
pub alike-sorts : (b : Tree) (s t x : Sort) → tree_sort b ≡ Some t → result_sort Equal (s ∷ t ∷ []) ≡ Some x → tree_sort b ≡ Some s
alike-sorts b s t x sb rank = go (two_alike (s ∷ t ∷ [])) refl rank
  where
    go : (q : Option Sort) → two_alike (s ∷ t ∷ []) ≡ q → option_map (λ _. Bool) q ≡ Some x → tree_sort b ≡ Some s
    go None is e = cc
    go (Some y) is e =
        let shape = two_alike-parts (s ∷ t ∷ []) y is in
        let alike : t ≡ s = cc in
        sb ∙ ap Some alike

-- an application rebuilt
pub rebuilt-sort : (o : Op) (ts : Trees) (ps : List Polynomial) → IsSorted (Apply o ts) → FitEach ts ps → tree_sort (rebuilt o ts ps) ≡ tree_sort (Apply o ts)
rebuilt-sort Equal (Cons a (Cons b Nil)) (p ∷ q ∷ []) h r =
    let k = two-sorts Equal a b h in
    go k.0 k.3 (alike-sorts b k.0 k.1 k.2 k.4 k.5) (word_width (tree_sort a)) refl
  where
    go : (s : Sort) → tree_sort a ≡ Some s → tree_sort b ≡ Some s → (n : Option ℕ) → word_width (tree_sort a) ≡ n → tree_sort (equation n p q (binary Equal (term_of (bits_in a) p) (term_of (bits_in b) q))) ≡ tree_sort (binary Equal a b)
    go s sa sb None is = with-terms_sort Equal (Cons a (Cons b Nil)) (p ∷ q ∷ []) h.0 r
    go Bool sa sb (Some w) is = let none : word_width (tree_sort a) ≡ None = ap word_width sa in cc
    go (Bits v) sa sb (Some w) is =
        let some : word_width (tree_sort a) ≡ Some v = ap word_width sa in
        let same : v ≡ w = cc in
        let first : IsWord w a = sa ∙ ap (λ n. Some (Bits n)) same in
        let second : IsWord w b = sb ∙ ap (λ n. Some (Bits n)) same in
        let words = words-difference w p q (fit-words w p (r.0 (Bits w) first)) (fit-words w q (r.1.0 (Bits w) second)) in
        sort-zero w (collected w (p ++ opposite w q)) (collected-fits w (p ++ opposite w q) words) ∙ sym (sort-binary Equal w Bool a b first second (equal-rank w))
rebuilt-sort o ts ps h r = with-terms_sort o ts ps h.0 r

applied-fits : (o : Op) (ts : Trees) (ps : List Polynomial) (s : Sort) → IsSorted (Apply o ts) → FitEach ts ps → tree_sort (Apply o ts) ≡ Some s → IsSumFor s (applied o ts ps)
applied-fits o ts ps s h r is = go (combined o (bits_in (Apply o ts)) ps) refl
  where
    lawful : IsLawful s
    lawful = lawful_sort (Apply o ts) no_levels s h is

    single : IsSumFor s (atom (rebuilt o ts ps))
    single = alone (rebuilt o ts ps) s lawful (rebuilt-sort o ts ps h r ∙ is)

    go : (q : Option Polynomial) → combined o (bits_in (Apply o ts)) ps ≡ q → IsSumFor s (sum_or_atom (bits_in (Apply o ts)) q (rebuilt o ts ps))
    go None e = single
    go (Some raw) e =
        let k = combined-fits o ts ps raw r h e in
        let same : Bits k.0 ≡ s = some-same _ _ (sym k.1 ∙ is) in
        let here : IsSumFor (Bits k.0) (sum_or_atom k.0 (Some raw) (rebuilt o ts ps)) = short k.0 raw k.2 (subst (λ (x : Sort). IsSumFor x (atom (rebuilt o ts ps))) (sym same) single) in
        let at : IsSumFor (Bits k.0) (sum_or_atom (bits_in (Apply o ts)) (Some raw) (rebuilt o ts ps)) = subst (λ (n : ℕ). AreOfWords k.0 (sum_or_atom n (Some raw) (rebuilt o ts ps))) (sym (bits-are (Apply o ts) (Bits k.0) k.1)) here in
        subst (λ (x : Sort). IsSumFor x (sum_or_atom (bits_in (Apply o ts)) (Some raw) (rebuilt o ts ps))) same at
      where
        short : (w : ℕ) (raw : Polynomial) → HaveWords w raw → AreOfWords w (atom (rebuilt o ts ps)) → AreOfWords w (sum_or_atom w (Some raw) (rebuilt o ts ps))
        short w raw words other = either (is_short raw (collected w raw))
          where
            either : (b : Truth) → AreOfWords w (cond b (collected w raw) (atom (rebuilt o ts ps)))
            either true = collected-fits w raw words
            either false = other

-- each tree's sum
mutual
  pub sum-fits : (t : Tree) (s : Sort) → IsSorted t → tree_sort t ≡ Some s → IsSumFor s (polynomial t)
  sum-fits (Constant i x) s h is = alone (Constant i x) s (lawful_sort (Constant i x) no_levels s h is) is
  sum-fits (Variable l x) s h is = alone (Variable l x) s (lawful_sort (Variable l x) no_levels s h is) is
  sum-fits (Literal Bool n) s h is = alone (Literal Bool n) s (lawful_sort (Literal Bool n) no_levels s h is) is
  sum-fits (Literal (Bits w) n) s h is = subst (λ (x : Sort). IsSumFor x (collected w (constant n ∷ []))) (some-same _ _ is) (collected-fits w (constant n ∷ []) (tt, tt))
  sum-fits (Apply o ts) s h is = applied-fits o ts (polynomials ts) s h (sums-fit ts h.0) is
  sum-fits (ForAll l x t) s h is = alone (ForAll l x t) s (lawful_sort (ForAll l x t) no_levels s h is) is
  sum-fits (Exists l x t) s h is = alone (Exists l x t) s (lawful_sort (Exists l x t) no_levels s h is) is

  pub sums-fit : (ts : Trees) → AreSortedBelow no_levels ts → FitEach ts (polynomials ts)
  sums-fit Nil h = tt
  sums-fit (Cons t ts) h = (λ s is. sum-fits t s h.0 is, sums-fit ts h.1)

pub summed-sort : (t : Tree) → IsSorted t → tree_sort (summed t) ≡ tree_sort t
summed-sort t h =
    let at = has_sort t no_levels h in
    ap (λ (w : ℕ). tree_sort (term_of w (polynomial t))) (bits-are t at.0 at.1) ∙ term-sort at.0 (polynomial t) (sum-fits t at.0 h at.1) ∙ sym at.1
