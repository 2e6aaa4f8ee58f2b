-- Applications as sums, and rebuilt over the terms of their arguments' sums.
use Rattle.std.proofs.Common.{◌≡◌, ℕ, suc, ◌+◌, ◌^◌, ◌<◌, Bool as Truth, true, false, cond, ◌&&◌, Option, Some, None, List, [], ◌∷◌, ◌++◌, map, length, get_or, take, refl, ap, sym, ◌∙◌, subst}
use Rattle.std.specs.Prelude.{unwrap_or, option_map, nat_le, nat_lt, find, is_none}
use Rattle.std.specs.List.{AllByRecursion, AllZip}
use Rattle.std.proofs.lemmas.List.{take_more}
use Rattle.qv_words.specs.declared.sort.Sort.{Sort}
use Rattle.qv_words.specs.declared.sort.Sort.TheVariants.{Bool, Bits}
use Rattle.qv_words.specs.declared.op.Op.{Op}
use Rattle.qv_words.specs.declared.op.Op.TheVariants.{Equal}
use Rattle.qv_words.specs.Sort.{width_of}
use Rattle.qv_words.specs.Tree.{Tree, Trees, Literal, Apply, Nil, Cons, tree_sort}
use Rattle.qv_words.specs.Sorted.{IsSorted}
use Rattle.qv_words.proofs.Elements.{zip-more, zip-append}
use Rattle.qv_words.proofs.Passing.{two-sorts, some-same}
use Rattle.qv_words.specs.Sums.{Monomial, Polynomial, constant, atom, collected, combined, terms_of, rebuilt, polynomial, polynomials, summed, bits_in, equation, word_width, is_zero, opposite}
use Rattle.qv_store.specs.Nodes.{tree_at, trees_at}
use Rattle.qv_store.specs.Stores.{Grows, StandsAt}
use Rattle.qv_store.proofs.Replacement.{grown-tree, grown-within}
use Rattle.qv_rewrite_sums.specs.declared.product.Product.{Product}
use Rattle.qv_rewrite_sums.specs.Held.{sum_at, modulo, short_raw, kept, short_sum, IsWord, HaveWords, IsSumOf, AreBelow}
use Rattle.qv_rewrite_sums.proofs.Held.{words-below, fit-words}
use Rattle.qv_rewrite_sums.proofs.Combined.{kept-or_atom, collected-rest}
use Rattle.qv_rewrite_sums.proofs.Fitting.{alike-sorts, words-difference, combined-fits, collected-fits, sum-fits, sums-fit}

-- the terms of sums, one by one
abbrev pub IsTermOf : List Tree → List Tree → ℕ → ℕ → Type 0
IsTermOf old now kid term = StandsAt now term (summed (tree_at old kid))

pub zip-terms : (old now : List Tree) (kids terms : List ℕ) → AllZip (IsTermOf old now) kids terms → trees_at now terms ≡ terms_of (trees_at old kids) (polynomials (trees_at old kids))
zip-terms old now [] [] h = refl
zip-terms old now [] (t ∷ ts) h = absurd h
zip-terms old now (k ∷ ks) [] h = absurd h
zip-terms old now (k ∷ ks) (t ∷ ts) h =
    let first : tree_at now t ≡ summed (tree_at old k) = h.0.tree in
    let rest : trees_at now ts ≡ terms_of (trees_at old ks) (polynomials (trees_at old ks)) = zip-terms old now ks ts h.1 in
    ap (λ (u : Tree). Cons u (trees_at now ts)) first ∙ ap (λ (us : Trees). Cons (summed (tree_at old k)) us) rest

pub zip-below : (old now : List Tree) (kids terms : List ℕ) → AllZip (IsTermOf old now) kids terms → AllByRecursion (λ t. t < length now) terms
zip-below old now [] [] h = tt
zip-below old now [] (t ∷ ts) h = absurd h
zip-below old now (k ∷ ks) [] h = tt
zip-below old now (k ∷ ks) (t ∷ ts) h = (h.0.below, zip-below old now ks ts h.1)

pub zip-grown : (old now new : List Tree) (kids terms : List ℕ) → Grows now new → AllZip (IsTermOf old now) kids terms → AllZip (IsTermOf old new) kids terms
zip-grown old now new kids terms grows h =
    zip-more (IsTermOf old now) (IsTermOf old new) (λ k t s. record { below = grown-within now new grows t s.below; tree = grown-tree now new grows t s.below ∙ s.tree }) kids terms h

-- an equation of truth values and other applications are rebuilt over these terms
pub bool-rebuilt : (a b : Tree) (ps : List Polynomial) → tree_sort a ≡ Some Bool → length ps ≡ 2 → rebuilt Equal (Cons a (Cons b Nil)) ps ≡ Apply Equal (terms_of (Cons a (Cons b Nil)) ps)
bool-rebuilt a b [] is two = refl
bool-rebuilt a b (p ∷ []) is two = refl
bool-rebuilt a b (p ∷ q ∷ []) is two = ap (λ (n : Option Sort). equation (word_width n) p q (Apply Equal (terms_of (Cons a (Cons b Nil)) (p ∷ q ∷ [])))) is
bool-rebuilt a b (p ∷ q ∷ r ∷ ps) is two = refl

pub other-rebuilt : (o : Op) (ts : Trees) (ps : List Polynomial) → (o ≡ Equal → ⊥) → rebuilt o ts ps ≡ Apply o (terms_of ts ps)
other-rebuilt Equal ts ps other = absurd (other refl)
other-rebuilt o ts ps other = refl

-- an equation of words
pub word-rebuilt : (a b : Tree) (w : ℕ) → IsWord w a → rebuilt Equal (Cons a (Cons b Nil)) (polynomial a ∷ polynomial b ∷ []) ≡ is_zero w (collected w (polynomial a ++ opposite w (polynomial b)))
word-rebuilt a b w is = ap (λ (n : Option Sort). equation (word_width n) (polynomial a) (polynomial b) (Apply Equal (terms_of (Cons a (Cons b Nil)) (polynomial a ∷ polynomial b ∷ [])))) is

-- a short sum is the application's, and where there is none it is rebuilt
pub short-is_sum : (o : Op) (ts : Trees) (w : ℕ) (p : Polynomial) → bits_in (Apply o ts) ≡ w → short_sum o w (polynomials ts) ≡ Some p → p ≡ polynomial (Apply o ts)
short-is_sum o ts w p bits is =
    ap (λ (q : Option Polynomial). unwrap_or q (atom (rebuilt o ts (polynomials ts)))) (sym is ∙ ap (λ (n : ℕ). short_sum o n (polynomials ts)) (sym bits))
    ∙ kept-or_atom (bits_in (Apply o ts)) (combined o (bits_in (Apply o ts)) (polynomials ts)) (rebuilt o ts (polynomials ts))

pub none-is_atom : (o : Op) (ts : Trees) (w : ℕ) → bits_in (Apply o ts) ≡ w → short_sum o w (polynomials ts) ≡ None → atom (rebuilt o ts (polynomials ts)) ≡ polynomial (Apply o ts)
none-is_atom o ts w bits is =
    ap (λ (q : Option Polynomial). unwrap_or q (atom (rebuilt o ts (polynomials ts)))) (sym is ∙ ap (λ (n : ℕ). short_sum o n (polynomials ts)) (sym bits))
    ∙ kept-or_atom (bits_in (Apply o ts)) (combined o (bits_in (Apply o ts)) (polynomials ts)) (rebuilt o ts (polynomials ts))

-- the factors of a sum of numbers modulo n
pub modulo-words : (w n : ℕ) (p : Polynomial) → HaveWords w p → HaveWords w (modulo n p)
modulo-words w n [] h = tt
modulo-words w n (m ∷ p) h = (h.0, modulo-words w n p h.1)

-- an application that has a sum before like monomials are put together is a word
bits-of : (t : Tree) (w : ℕ) → IsWord w t → bits_in t ≡ w
bits-of t w is = ap (λ (q : Option Sort). width_of (unwrap_or q Bool)) is

pub raw-words : (o : Op) (ts : Trees) (w : ℕ) (raw : Polynomial) → IsSorted (Apply o ts) → bits_in (Apply o ts) ≡ w → short_raw (combined o w (polynomials ts)) ≡ Some raw → IsWord w (Apply o ts) × HaveWords w raw
raw-words o ts w raw sorted bits is = go (combined o w (polynomials ts)) refl is
  where
    short : (q : Polynomial) → cond (nat_le (length q) 48) (Some q) None ≡ Some raw → q ≡ raw
    short q e = inner (nat_le (length q) 48) e
      where
        inner : (b : Truth) → cond b (Some q) None ≡ Some raw → q ≡ raw
        inner true x = cc
        inner false x = absurd (cc)

    go : (q : Option Polynomial) → combined o w (polynomials ts) ≡ q → short_raw q ≡ Some raw → IsWord w (Apply o ts) × HaveWords w raw
    go None e x = absurd (cc)
    go (Some own) e x =
        let k = combined-fits o ts (polynomials ts) own (sums-fit ts sorted.0) sorted (ap (λ (n : ℕ). combined o n (polynomials ts)) bits ∙ e) in
        let width : k.0 ≡ w = sym (bits-of (Apply o ts) k.0 k.1) ∙ bits in
        (subst (λ (n : ℕ). IsWord n (Apply o ts)) width k.1, subst (HaveWords w) (short own x) (subst (λ (n : ℕ). HaveWords n own) width k.2))

-- a word's sum in a store
pub word-held : (trees : List Tree) (t : Tree) (w : ℕ) (p : List Product) → IsSorted t → IsWord w t → sum_at trees p ≡ polynomial t → IsSumOf trees t p
word-held trees t w p sorted is e = record {
  sum = e;
  below = words-below trees w p (subst (HaveWords w) (sym e) (fit-words w (polynomial t) (sum-fits t (Bits w) sorted is)));
}

-- an equation of other than two terms has no rank, and is rebuilt like the others
pub not-two : (trees : List Tree) (kids : List ℕ) (ps : List Polynomial) → (length kids ≡ 2 → ⊥) → rebuilt Equal (trees_at trees kids) ps ≡ Apply Equal (terms_of (trees_at trees kids) ps)
not-two trees [] ps h = refl
not-two trees (a ∷ []) ps h = refl
not-two trees (a ∷ b ∷ []) ps h = absurd (h refl)
not-two trees (a ∷ b ∷ k ∷ ks) ps h = refl

-- as many sums as terms
pub length-sums : (trees : List Tree) (kids : List ℕ) → length (polynomials (trees_at trees kids)) ≡ length kids
length-sums trees [] = refl
length-sums trees (k ∷ ks) = ap suc (length-sums trees ks)

-- the one product of a tree alone, and its one factor
pub record IsSingle (trees : List Tree) (p : List Product) (t : Tree) : Type 0 where
  pub product : Product
  pub factor : ℕ
  pub products_are : p ≡ product ∷ []
  pub factors_are : product.factors.items ≡ factor ∷ []
  pub tree : tree_at trees factor ≡ t

abbrev first-factors : Polynomial → List Tree
first-factors [] = []
first-factors (m ∷ p) = m.factors

pub single : (trees : List Tree) (p : List Product) (t : Tree) → sum_at trees p ≡ atom t → IsSingle trees p t
single trees [] t e = absurd (cc)
single trees (m ∷ []) t e = go m.factors.items refl (ap first-factors e)
  where
    go : (ids : List ℕ) → m.factors.items ≡ ids → map (tree_at trees) m.factors.items ≡ t ∷ [] → IsSingle trees (m ∷ []) t
    go [] is x = let none : map (tree_at trees) [] ≡ t ∷ [] = subst (λ (ns : List ℕ). map (tree_at trees) ns ≡ t ∷ []) is x in absurd (cc)
    go (n ∷ []) is x =
        let one : map (tree_at trees) (n ∷ []) ≡ t ∷ [] = subst (λ (ns : List ℕ). map (tree_at trees) ns ≡ t ∷ []) is x in
        record { product = m; factor = n; products_are = refl; factors_are = is; tree = cc }
    go (n ∷ k ∷ ns) is x = let more : map (tree_at trees) (n ∷ k ∷ ns) ≡ t ∷ [] = subst (λ (js : List ℕ). map (tree_at trees) js ≡ t ∷ []) is x in absurd (cc)
single trees (m ∷ k ∷ p) t e = absurd (cc)

-- one term more
pub zip-terms_more : (old now new : List Tree) (kids terms pushed : List ℕ) (k kid term : ℕ) → Grows now new → AllZip (IsTermOf old now) (take k kids) terms → k < length kids → kid ≡ get_or kids k kid → StandsAt new term (summed (tree_at old kid)) → pushed ≡ terms ++ term ∷ [] → AllZip (IsTermOf old new) (take (k + 1) kids) pushed
zip-terms_more old now new kids terms pushed k kid term grows h low at own is =
    let next : take (k + 1) kids ≡ take k kids ++ kid ∷ [] = take_more kids k kid low ∙ ap (λ (n : ℕ). take k kids ++ n ∷ []) (sym at) in
    let both = zip-append (IsTermOf old new) (take k kids) (kid ∷ []) terms (term ∷ []) (zip-grown old now new (take k kids) terms grows h) (own, tt) in
    subst (λ (ns : List ℕ). AllZip (IsTermOf old new) ns pushed) (sym next) (subst (λ (ts : List ℕ). AllZip (IsTermOf old new) (take k kids ++ kid ∷ []) ts) (sym is) both)

-- an application whose sum is short is a word
pub short-word : (o : Op) (ts : Trees) (w : ℕ) (p : Polynomial) → IsSorted (Apply o ts) → bits_in (Apply o ts) ≡ w → short_sum o w (polynomials ts) ≡ Some p → IsWord w (Apply o ts)
short-word o ts w p sorted bits is = go (short_raw (combined o w (polynomials ts))) refl is
  where
    go : (q : Option Polynomial) → short_raw (combined o w (polynomials ts)) ≡ q → kept (option_map (collected w) q) ≡ Some p → IsWord w (Apply o ts)
    go None e x = absurd (cc)
    go (Some raw) e x = (raw-words o ts w raw sorted bits e).0

-- the sum of an application in a store: a short one, or the application rebuilt
pub held-short : (trees : List Tree) (n : ℕ) (o : Op) (ts : Trees) (w : ℕ) (p : List Product) → IsSorted (Apply o ts) → tree_at trees n ≡ Apply o ts → bits_in (Apply o ts) ≡ w → short_sum o w (polynomials ts) ≡ Some (sum_at trees p) → IsSumOf trees (tree_at trees n) p
held-short trees n o ts w p sorted tree bits is =
    subst (λ (t : Tree). IsSumOf trees t p) (sym tree) (word-held trees (Apply o ts) w p sorted (short-word o ts w (sum_at trees p) sorted bits is) (short-is_sum o ts w (sum_at trees p) bits is))

pub held-rebuilt : (new : List Tree) (t : Tree) (o : Op) (ts : Trees) (w made : ℕ) (p : List Product) → t ≡ Apply o ts → bits_in (Apply o ts) ≡ w → short_sum o w (polynomials ts) ≡ None → StandsAt new made (rebuilt o ts (polynomials ts)) → sum_at new p ≡ atom (tree_at new made) → AreBelow (length new) p → IsSumOf new t p
held-rebuilt new t o ts w made p tree bits none s e below =
    subst (λ (u : Tree). IsSumOf new u p) (sym tree) (record { sum = e ∙ ap atom s.tree ∙ none-is_atom o ts w bits none; below = below })

-- what is kept of a sum
pub kept-is : (w : ℕ) (q : Option Polynomial) (sum : Polynomial) (b : Truth) → option_map (collected w) q ≡ Some sum → b ≡ (nat_le (length sum) 24 && is_none (find (λ (m : Monomial). nat_lt 4 (length m.factors)) sum)) → kept (option_map (collected w) q) ≡ cond b (Some sum) None
kept-is w q sum b e f = ap kept e ∙ ap (λ (x : Truth). cond x (Some sum) None) (sym f)

-- a literal's sum
pub literal-held : (trees : List Tree) (w n : ℕ) (p : List Product) → sum_at trees p ≡ collected w (constant n ∷ []) → IsSumOf trees (Literal (Bits w) n) p
literal-held trees w n p e = record {
  sum = e;
  below = words-below trees w p (subst (HaveWords w) (sym e) (fit-words w (collected w (constant n ∷ [])) (collected-fits w (constant n ∷ []) (tt, tt))));
}

-- what is kept of a sum that was collected modulo n
pub kept-whole : (w : ℕ) (q : Option Polynomial) (r s : Polynomial) → Some r ≡ option_map (modulo (2 ^ w)) q → s ≡ collected w r → kept (Some s) ≡ kept (option_map (collected w) q)
kept-whole w None r s e f = absurd (cc)
kept-whole w (Some raw) r s e f =
    let same : r ≡ modulo (2 ^ w) raw = cc in
    ap (λ (p : Polynomial). kept (Some p)) (f ∙ ap (collected w) same ∙ collected-rest w raw)

pub kept-none : (w : ℕ) (q : Option Polynomial) → None ≡ option_map (modulo (2 ^ w)) q → None ≡ kept (option_map (collected w) q)
kept-none w None e = refl
kept-none w (Some raw) e = absurd (cc)

-- the factors of a sum before like monomials are put together
pub raw-held_words : (o : Op) (ts : Trees) (w : ℕ) (r : Polynomial) → IsSorted (Apply o ts) → bits_in (Apply o ts) ≡ w → Some r ≡ option_map (modulo (2 ^ w)) (short_raw (combined o w (polynomials ts))) → HaveWords w r
raw-held_words o ts w r sorted bits e = go (short_raw (combined o w (polynomials ts))) refl e
  where
    go : (q : Option Polynomial) → short_raw (combined o w (polynomials ts)) ≡ q → Some r ≡ option_map (modulo (2 ^ w)) q → HaveWords w r
    go None is x = absurd (cc)
    go (Some raw) is x =
        let same : r ≡ modulo (2 ^ w) raw = cc in
        subst (HaveWords w) (sym same) (modulo-words w (2 ^ w) raw (raw-words o ts w raw sorted bits is).1)

-- the difference of the sides of an equation of words
pub sides-words : (a b : Tree) (w : ℕ) → IsSorted (Apply Equal (Cons a (Cons b Nil))) → IsWord w a → IsWord w b × HaveWords w (polynomial a ++ opposite w (polynomial b))
sides-words a b w sorted is =
    let k = two-sorts Equal a b sorted in
    let same : k.0 ≡ Bits w = some-same k.0 (Bits w) (sym k.3 ∙ is) in
    let second : IsWord w b = alike-sorts b k.0 k.1 k.2 k.4 k.5 ∙ ap Some same in
    (second, words-difference w (polynomial a) (polynomial b) (fit-words w (polynomial a) (sum-fits a (Bits w) sorted.0.0 is)) (fit-words w (polynomial b) (sum-fits b (Bits w) sorted.0.1.0 second)))
