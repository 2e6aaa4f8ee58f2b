-- The sums of trees: each has the value of its tree under all values, and so has the term that it becomes.
use Rattle.std.proofs.Common.{◌≡◌, ℕ, ◌+◌, ◌-◌, ◌*◌, ◌%◌, ◌^◌, ◌≤◌, ◌<◌, ◌==◌, Bool as Truth, true, false, cond, Option, Some, None, List, [], ◌∷◌, ◌++◌, refl, sym, ap, ◌∙◌, subst, arith, lit<, lit≤}
use Rattle.std.specs.Prelude.{unwrap_or, option_map, option_and_then, nat_lt, nat_le}
use Rattle.std.proofs.lemmas.Bool.{lt-leb, ltb-true, cond-false, ne_eqb}
use Rattle.std.proofs.lemmas.Nat.{pow_pos, mod_below}
use Rattle.std.proofs.Math.Nat.{zero-mod}
use Rattle.qv_words.specs.declared.sort.Sort.{Sort}
use Rattle.qv_words.specs.declared.sort.Sort.TheVariants.{Bool, Bits}
use Rattle.qv_words.specs.declared.op.Op.{Op}
use Rattle.qv_words.specs.declared.op.Op.TheVariants.{Equal, BvNot, BvNeg, BvAdd, BvSub, BvMul, BvShl}
use Rattle.qv_words.specs.Sort.{IsLawful, IsValueOf, width_of}
use Rattle.qv_words.specs.Rank.{result_sort, one_width, two_widths, two_alike}
use Rattle.qv_words.specs.Op.{truth, shifted_left}
use Rattle.qv_words.specs.Tree.{Tree, Trees, Constant, Variable, Literal, Apply, ForAll, Exists, Nil, Cons, tree_sort, IsQuantifierFree, AreQuantifierFree}
use Rattle.qv_words.specs.Sorted.{no_levels, IsSorted, AreSortedBelow, constants_of, constants_of_all, free_levels, free_levels_of_all}
use Rattle.qv_words.specs.Prenex.{binary}
use Rattle.qv_words.specs.Inverse.{unary}
use Rattle.qv_words.specs.Passes.{truth_literal}
use Rattle.qv_words.proofs.Equals.{test-refl}
use Rattle.qv_words.proofs.Powers.{mod-mod_pow}
use Rattle.qv_words.proofs.InSort.{one_width-parts, two_widths-parts, two_alike-parts}
use Rattle.qv_words.proofs.Existing.{has_sort, lawful_sort}
use Rattle.qv_words.proofs.Passing.{Valued, ValuedAll, one-sorts, two-sorts}
use Rattle.qv_words.specs.Sums.{Polynomial, constant, atom, multiple, opposite, products, collected, number_of, shifted, combined, is_short, sum_or_atom, with_order, sum_term, is_subtracted, added, subtracted, term_of, is_odd, sides_equal, zero_from, is_zero, word_width, equation, bits_in, terms_of, rebuilt, applied, polynomial, polynomials, summed}
use Rattle.qv_rewrite_passes.proofs.Congruent.{add-like, mul-like, rest-below, like, opposite-of, complement-of, zero-test, zero-test_turned, pred-times, more-whole}
use Rattle.qv_rewrite_passes.proofs.Valuing.{value, value-append, value-multiple, value-products, value-atom, value-constant, value-collected, value-number, value-odd}
use Rattle.qv_rewrite_passes.proofs.Meanings.{meaning, IsOver, Same, SameEach, same-itself, same-none, same-cons, same-apply, same-over, over-same, first-valued, others-valued}
use Rattle.qv_rewrite_passes.proofs.Building.{AllFit, word-below, one-below, over-binary, meaning-binary, meaning-unary, word-sum, value-sum, fit-number, word-term, value-term, fit-with_order, fit-added, fit-subtracted, value-sides}
use Rattle.qv_rewrite_passes.proofs.Collecting.{AllWords, fit-words, words-append, words-multiple, words-products, fit-collected, fit-first, fit-others}

-- a sum that has the value of a word
pub record IsSumOf (t : Tree) (w : ℕ) (p : Polynomial) : Type 0 where
  pub fits : AllFit (constants_of t) (free_levels t) w p
  pub means : (c : List ℕ) (e : ℕ → Option ℕ) → Valued c e t → value (meaning c e) p % 2 ^ w ≡ meaning c e t

-- a sum that is a tree of a sort: of truth values the atom alone
abbrev pub Represents : Tree → Sort → Polynomial → Type 0
Represents t Bool p = (u : Tree) × (p ≡ atom u) × Same t u
Represents t (Bits w) p = IsSumOf t w p

abbrev pub RepresentEach : Trees → List Polynomial → Type 0
RepresentEach Nil [] = Unit {0}
RepresentEach Nil (p ∷ ps) = ⊥
RepresentEach (Cons t ts) [] = ⊥
RepresentEach (Cons t ts) (p ∷ ps) = ((s : Sort) → tree_sort t ≡ Some s → Represents t s p) × RepresentEach ts ps

bits-are : (t : Tree) (s : Sort) → tree_sort t ≡ Some s → bits_in t ≡ width_of s
bits-are t s is = ap (λ (q : Option Sort). width_of (unwrap_or q Bool)) is

-- the term of a sum
atom-term : (u : Tree) → term_of 1 (atom u) ≡ u
unfolding lib.Count.ones
atom-term u = refl

term-at : (t : Tree) (s : Sort) (p : Polynomial) → IsLawful s → tree_sort t ≡ Some s → Represents t s p → Same t (term_of (width_of s) p)
term-at t Bool p lawful is r = subst (λ (q : Polynomial). Same t (term_of 1 q)) (sym r.1) (subst (Same t) (sym (atom-term r.0)) r.2)
term-at t (Bits w) p lawful is r =
    same-over t (term_of w p) (Bits w) is (word-term (constants_of t) (free_levels t) w p lawful r.fits)
    (λ c e g. value-term c e (constants_of t) (free_levels t) w p lawful g r.fits ∙ r.means c e g)

pub term-same : (t : Tree) (s : Sort) (p : Polynomial) → IsLawful s → tree_sort t ≡ Some s → Represents t s p → Same t (term_of (bits_in t) p)
term-same t s p lawful is r = subst (λ (w : ℕ). Same t (term_of w p)) (sym (bits-are t s is)) (term-at t s p lawful is r)

terms-same : (ts : Trees) (ps : List Polynomial) → AreSortedBelow no_levels ts → RepresentEach ts ps → SameEach ts (terms_of ts ps)
terms-same Nil [] h r = same-none
terms-same Nil (p ∷ ps) h r = absurd r
terms-same (Cons t ts) [] h r = absurd r
terms-same (Cons t ts) (p ∷ ps) h r =
    let at = has_sort t no_levels h.0 in
    same-cons t (term_of (bits_in t) p) ts (terms_of ts ps)
    (term-same t at.0 p (lawful_sort t no_levels at.0 h.0 at.1) at.1 (r.0 at.0 at.1)) (terms-same ts ps h.1 r.1)

-- a tree alone
alone : (t u : Tree) (s : Sort) → IsLawful s → tree_sort t ≡ Some s → Same t u → Represents t s (atom u)
alone t u Bool lawful is k = (u, refl, k)
alone t u (Bits w) lawful is k =
    let over = over-same t u (Bits w) is k in
    record {
      fits = (record { coefficient = one-below w lawful; factors = (over, tt) }, tt);
      means = λ c e g.
          ap (λ x. x % 2 ^ w) (value-atom (meaning c e) u)
          ∙ rest-below (2 ^ w) (meaning c e u) (word-below c e (constants_of t) (free_levels t) w u over g)
          ∙ k.value c e g;
    }

-- the rank of one word and of two, and the sorts of their application
abbrev OneWord : Op → Tree → Type 0
OneWord o a = (w : ℕ) × (tree_sort a ≡ Some (Bits w)) × (tree_sort (unary o a) ≡ Some (Bits w))

one-word : (o : Op) (a : Tree) → ((ss : List Sort) → result_sort o ss ≡ option_map Bits (one_width ss)) → IsSorted (unary o a) → OneWord o a
one-word o a of h =
    let k = one-sorts o a h in
    go k.0 k.1 k.2 k.4 (one_width (k.0 ∷ [])) refl (sym (of (k.0 ∷ [])) ∙ k.3)
  where
    go : (s r : Sort) → tree_sort a ≡ Some s → tree_sort (unary o a) ≡ Some r → (q : Option ℕ) → one_width (s ∷ []) ≡ q → option_map Bits q ≡ Some r → OneWord o a
    go s r sa whole None is e = cc
    go s r sa whole (Some w) is e =
        let shape = one_width-parts (s ∷ []) w is in
        let first : s ≡ Bits w = cc in
        let result : r ≡ Bits w = cc in
        (w, sa ∙ ap Some first, whole ∙ ap Some result)

abbrev TwoWords : Op → Tree → Tree → Type 0
TwoWords o a b = (w : ℕ) × (tree_sort a ≡ Some (Bits w)) × (tree_sort b ≡ Some (Bits w)) × (tree_sort (binary o a b) ≡ Some (Bits w))

two-words : (o : Op) (a b : Tree) → ((ss : List Sort) → result_sort o ss ≡ option_map Bits (two_widths ss)) → IsSorted (binary o a b) → TwoWords o a b
two-words o a b of h =
    let k = two-sorts o a b h in
    go k.0 k.1 k.2 k.3 k.4 k.6 (two_widths (k.0 ∷ k.1 ∷ [])) refl (sym (of (k.0 ∷ k.1 ∷ [])) ∙ k.5)
  where
    go : (s t r : Sort) → tree_sort a ≡ Some s → tree_sort b ≡ Some t → tree_sort (binary o a b) ≡ Some r → (q : Option ℕ) → two_widths (s ∷ t ∷ []) ≡ q → option_map Bits q ≡ Some r → TwoWords o a b
    go s t r sa sb whole None is e = cc
    go s t r sa sb whole (Some w) is e =
        let shape = two_widths-parts (s ∷ t ∷ []) w is in
        let first : s ≡ Bits w = cc in
        let second : t ≡ Bits w = cc in
        let result : r ≡ Bits w = cc in
        (w, sa ∙ ap Some first, sb ∙ ap Some second, whole ∙ ap Some result)

-- an application as a sum, before like monomials are put together
record IsRaw (t : Tree) (w : ℕ) (raw : Polynomial) : Type 0 where
  words : AllWords (constants_of t) (free_levels t) w raw
  means : (c : List ℕ) (e : ℕ → Option ℕ) → Valued c e t → value (meaning c e) raw % 2 ^ w ≡ meaning c e t

abbrev RawOf : Tree → Polynomial → Type 0
RawOf t raw = (w : ℕ) × (tree_sort t ≡ Some (Bits w)) × IsRaw t w raw

-- what two arguments that are words say
record Both (a b : Tree) (w : ℕ) (p q : Polynomial) : Type 0 where
  first : AllFit (constants_of_all (Cons a (Cons b Nil))) (free_levels_of_all (Cons a (Cons b Nil))) w p
  second : AllFit (constants_of_all (Cons a (Cons b Nil))) (free_levels_of_all (Cons a (Cons b Nil))) w q
  left : (c : List ℕ) (e : ℕ → Option ℕ) → ValuedAll c e (Cons a (Cons b Nil)) → value (meaning c e) p % 2 ^ w ≡ meaning c e a
  right : (c : List ℕ) (e : ℕ → Option ℕ) → ValuedAll c e (Cons a (Cons b Nil)) → value (meaning c e) q % 2 ^ w ≡ meaning c e b

both-words : (a b : Tree) (w : ℕ) (p q : Polynomial) → IsSumOf a w p → IsSumOf b w q → Both a b w p q
both-words a b w p q f g = record {
  first = fit-first a (Cons b Nil) w p f.fits;
  second = fit-others a (Cons b Nil) w q (fit-first b Nil w q g.fits);
  left = λ c e h. f.means c e (first-valued c e a (Cons b Nil) h);
  right = λ c e h. g.means c e (first-valued c e b Nil (others-valued c e a (Cons b Nil) h));
}

-- the sum and its tree, at the width of the application
two-raw : (o : Op) (a b : Tree) (p q raw : Polynomial) (make : ℕ → Polynomial) → ((ss : List Sort) → result_sort o ss ≡ option_map Bits (two_widths ss)) → IsSorted (binary o a b) → RepresentEach (Cons a (Cons b Nil)) (p ∷ q ∷ []) → ((w : ℕ) → tree_sort a ≡ Some (Bits w) → tree_sort b ≡ Some (Bits w) → Both a b w p q → IsRaw (binary o a b) w (make w)) → make (bits_in (binary o a b)) ≡ raw → RawOf (binary o a b) raw
two-raw o a b p q raw make of h r each e =
    let k = two-words o a b of h in
    let is = each k.0 k.1 k.2 (both-words a b k.0 p q (r.0 (Bits k.0) k.1) (r.1.0 (Bits k.0) k.2)) in
    (k.0, k.3, subst (IsRaw (binary o a b) k.0) (ap make (sym (bits-are (binary o a b) (Bits k.0) k.3)) ∙ e) is)

one-raw : (o : Op) (a : Tree) (p raw : Polynomial) (make : ℕ → Polynomial) → ((ss : List Sort) → result_sort o ss ≡ option_map Bits (one_width ss)) → IsSorted (unary o a) → RepresentEach (Cons a Nil) (p ∷ []) → ((w : ℕ) → tree_sort a ≡ Some (Bits w) → IsSumOf a w p → IsRaw (unary o a) w (make w)) → make (bits_in (unary o a)) ≡ raw → RawOf (unary o a) raw
one-raw o a p raw make of h r each e =
    let k = one-word o a of h in
    let is = each k.0 k.1 (r.0 (Bits k.0) k.1) in
    (k.0, k.2, subst (IsRaw (unary o a) k.0) (ap make (sym (bits-are (unary o a) (Bits k.0) k.2)) ∙ e) is)

-- each operator
add-raw : (a b : Tree) (w : ℕ) (p q : Polynomial) → tree_sort a ≡ Some (Bits w) → tree_sort b ≡ Some (Bits w) → Both a b w p q → IsRaw (binary BvAdd a b) w (p ++ q)
add-raw a b w p q sa sb r =
    let t = binary BvAdd a b in
    record {
      words = words-append (constants_of t) (free_levels t) w p q (fit-words (constants_of t) (free_levels t) w p r.first) (fit-words (constants_of t) (free_levels t) w q r.second);
      means = λ c e g.
          ap (λ x. x % 2 ^ w) (value-append (meaning c e) p q)
          ∙ add-like (2 ^ w) (value (meaning c e) p) (meaning c e a) (value (meaning c e) q) (meaning c e b)
          (like (2 ^ w) (value (meaning c e) p) (meaning c e a) (r.left c e g)) (like (2 ^ w) (value (meaning c e) q) (meaning c e b) (r.right c e g))
          ∙ sym (meaning-binary c e BvAdd (Bits w) (Bits w) a b sa sb);
    }

-- a sum less another
words-less : (cs vs : List (ℕ × Sort)) (w : ℕ) (p q : Polynomial) → AllFit cs vs w p → AllFit cs vs w q → AllWords cs vs w (p ++ opposite w q)
words-less cs vs w p q f g = words-append cs vs w p (opposite w q) (fit-words cs vs w p f) (words-multiple cs vs w (2 ^ w - 1) q (fit-words cs vs w q g))

value-less : (f : Tree → ℕ) (w x y : ℕ) (p q : Polynomial) → value f p % 2 ^ w ≡ x → value f q % 2 ^ w ≡ y → value f (p ++ opposite w q) % 2 ^ w ≡ (x + (2 ^ w - 1) * y) % 2 ^ w
value-less f w x y p q l r =
    ap (λ z. z % 2 ^ w) (value-append f p (opposite w q) ∙ ap (λ z. value f p + z) (value-multiple f (2 ^ w - 1) q))
    ∙ add-like (2 ^ w) (value f p) x ((2 ^ w - 1) * value f q) ((2 ^ w - 1) * y) (like (2 ^ w) (value f p) x l)
    (mul-like (2 ^ w) (2 ^ w - 1) (2 ^ w - 1) (value f q) y refl (like (2 ^ w) (value f q) y r))

within-width : (w x y : ℕ) → x % 2 ^ w ≡ y → y < 2 ^ w
within-width w x y h = subst (λ (z : ℕ). z < 2 ^ w) h (mod_below x (2 ^ w) (pow_pos w))

sub-raw : (a b : Tree) (w : ℕ) (p q : Polynomial) → tree_sort a ≡ Some (Bits w) → tree_sort b ≡ Some (Bits w) → Both a b w p q → IsRaw (binary BvSub a b) w (p ++ opposite w q)
sub-raw a b w p q sa sb r =
    let t = binary BvSub a b in
    record {
      words = words-less (constants_of t) (free_levels t) w p q r.first r.second;
      means = λ c e g.
          value-less (meaning c e) w (meaning c e a) (meaning c e b) p q (r.left c e g) (r.right c e g)
          ∙ opposite-of (2 ^ w) (meaning c e a) (meaning c e b) (pow_pos w) (within-width w (value (meaning c e) q) (meaning c e b) (r.right c e g))
          ∙ sym (meaning-binary c e BvSub (Bits w) (Bits w) a b sa sb);
    }

mul-raw : (a b : Tree) (w : ℕ) (p q : Polynomial) → tree_sort a ≡ Some (Bits w) → tree_sort b ≡ Some (Bits w) → Both a b w p q → IsRaw (binary BvMul a b) w (products p q)
mul-raw a b w p q sa sb r =
    let t = binary BvMul a b in
    record {
      words = words-products (constants_of t) (free_levels t) w p q (fit-words (constants_of t) (free_levels t) w p r.first) (fit-words (constants_of t) (free_levels t) w q r.second);
      means = λ c e g.
          ap (λ x. x % 2 ^ w) (value-products (meaning c e) p q)
          ∙ mul-like (2 ^ w) (value (meaning c e) p) (meaning c e a) (value (meaning c e) q) (meaning c e b)
          (like (2 ^ w) (value (meaning c e) p) (meaning c e a) (r.left c e g)) (like (2 ^ w) (value (meaning c e) q) (meaning c e b) (r.right c e g))
          ∙ sym (meaning-binary c e BvMul (Bits w) (Bits w) a b sa sb);
    }

-- the leaves of an application of one tree
fit-one : (a : Tree) (w : ℕ) (p : Polynomial) → AllFit (constants_of a) (free_levels a) w p → AllFit (constants_of_all (Cons a Nil)) (free_levels_of_all (Cons a Nil)) w p
fit-one a w p h = fit-first a Nil w p h

neg-raw : (a : Tree) (w : ℕ) (p : Polynomial) → tree_sort a ≡ Some (Bits w) → IsSumOf a w p → IsRaw (unary BvNeg a) w (opposite w p)
neg-raw a w p sa r =
    let t = unary BvNeg a in
    record {
      words = words-multiple (constants_of t) (free_levels t) w (2 ^ w - 1) p (fit-words (constants_of t) (free_levels t) w p (fit-one a w p r.fits));
      means = λ c e g.
          let is = r.means c e (first-valued c e a Nil g) in
          value-less (meaning c e) w 0 (meaning c e a) [] p (zero-mod (2 ^ w)) is
          ∙ opposite-of (2 ^ w) 0 (meaning c e a) (pow_pos w) (within-width w (value (meaning c e) p) (meaning c e a) is)
          ∙ ap (λ x. x % 2 ^ w) (let flat : 0 + 2 ^ w - meaning c e a ≡ 2 ^ w - meaning c e a = omega arith in flat)
          ∙ sym (meaning-unary c e BvNeg (Bits w) a sa);
    }

not-raw : (a : Tree) (w : ℕ) (p : Polynomial) → tree_sort a ≡ Some (Bits w) → IsSumOf a w p → IsRaw (unary BvNot a) w (opposite w (p ++ constant 1 ∷ []))
not-raw a w p sa r =
    let t = unary BvNot a in
    record {
      words = words-multiple (constants_of t) (free_levels t) w (2 ^ w - 1) (p ++ constant 1 ∷ [])
          (words-append (constants_of t) (free_levels t) w p (constant 1 ∷ []) (fit-words (constants_of t) (free_levels t) w p (fit-one a w p r.fits)) (tt, tt));
      means = λ c e g.
          let is = r.means c e (first-valued c e a Nil g) in
          ap (λ x. x % 2 ^ w) (value-multiple (meaning c e) (2 ^ w - 1) (p ++ constant 1 ∷ []))
          ∙ mul-like (2 ^ w) (2 ^ w - 1) (2 ^ w - 1) (value (meaning c e) (p ++ constant 1 ∷ [])) (meaning c e a + 1) refl
          (ap (λ x. x % 2 ^ w) (value-append (meaning c e) p (constant 1 ∷ []) ∙ ap (λ x. value (meaning c e) p + x) (value-constant (meaning c e) 1))
          ∙ add-like (2 ^ w) (value (meaning c e) p) (meaning c e a) 1 1 (like (2 ^ w) (value (meaning c e) p) (meaning c e a) is) refl)
          ∙ complement-of (2 ^ w) (meaning c e a) (within-width w (value (meaning c e) p) (meaning c e a) is)
          ∙ sym (meaning-unary c e BvNot (Bits w) a sa);
    }

-- a shift by a number below the width
shl-raw : (a b : Tree) (w k : ℕ) (p q : Polynomial) → tree_sort a ≡ Some (Bits w) → tree_sort b ≡ Some (Bits w) → Both a b w p q → number_of q ≡ Some k → k < w → IsRaw (binary BvShl a b) w (multiple (2 ^ k) p)
shl-raw a b w k p q sa sb r is below =
    let t = binary BvShl a b in
    record {
      words = words-multiple (constants_of t) (free_levels t) w (2 ^ k) p (fit-words (constants_of t) (free_levels t) w p r.first);
      means = λ c e g.
          let amount : meaning c e b ≡ k =
          sym (r.right c e g) ∙ ap (λ x. x % 2 ^ w) (value-number (meaning c e) q k is)
          ∙ rest-below (2 ^ w) k (fit-number (constants_of t) (free_levels t) w q k r.second is) in
          ap (λ x. x % 2 ^ w) (value-multiple (meaning c e) (2 ^ k) p)
          ∙ mul-like (2 ^ w) (2 ^ k) (2 ^ k) (value (meaning c e) p) (meaning c e a) refl (like (2 ^ w) (value (meaning c e) p) (meaning c e a) (r.left c e g))
          ∙ ap (λ x. x % 2 ^ w) (let turned : 2 ^ k * meaning c e a ≡ meaning c e a * 2 ^ k = omega arith in turned)
          ∙ sym (cond-false (nat_le w k) 0 (meaning c e a * 2 ^ k % 2 ^ w) (lt-leb w k below))
          ∙ sym (ap (shifted_left w (meaning c e a)) amount)
          ∙ sym (meaning-binary c e BvShl (Bits w) (Bits w) a b sa sb);
    }

some-same : {X : Type 0} (a b : X) → Some a ≡ Some b → a ≡ b
some-same a b h = cc

shl-any : (a b : Tree) (p q raw : Polynomial) → IsSorted (binary BvShl a b) → RepresentEach (Cons a (Cons b Nil)) (p ∷ q ∷ []) → option_and_then (shifted (bits_in (binary BvShl a b)) p) (number_of q) ≡ Some raw → RawOf (binary BvShl a b) raw
shl-any a b p q raw h r e =
    let k = two-words BvShl a b (λ ss. refl) h in
    let both = both-words a b k.0 p q (r.0 (Bits k.0) k.1) (r.1.0 (Bits k.0) k.2) in
    let at = subst (λ (n : ℕ). option_and_then (shifted n p) (number_of q) ≡ Some raw) (bits-are (binary BvShl a b) (Bits k.0) k.3) e in
    go k.0 k.1 k.2 k.3 both (number_of q) refl at
  where
    inner : (w : ℕ) → tree_sort a ≡ Some (Bits w) → tree_sort b ≡ Some (Bits w) → tree_sort (binary BvShl a b) ≡ Some (Bits w) → Both a b w p q → (n : ℕ) → number_of q ≡ Some n → (l : Truth) → nat_lt n w ≡ l → cond l (Some (multiple (2 ^ n) p)) None ≡ Some raw → RawOf (binary BvShl a b) raw
    inner w sa sb st both n is true small x = (w, st, subst (IsRaw (binary BvShl a b) w) (some-same _ _ x) (shl-raw a b w n p q sa sb both is (ltb-true n w small)))
    inner w sa sb st both n is false small x = cc

    go : (w : ℕ) → tree_sort a ≡ Some (Bits w) → tree_sort b ≡ Some (Bits w) → tree_sort (binary BvShl a b) ≡ Some (Bits w) → Both a b w p q → (n : Option ℕ) → number_of q ≡ n → option_and_then (shifted w p) n ≡ Some raw → RawOf (binary BvShl a b) raw
    go w sa sb st both None is x = cc
    go w sa sb st both (Some n) is x = inner w sa sb st both n is (nat_lt n w) refl x

-- an application with as many arguments as it has sums
two-arguments : (P : Trees → Type 0) (ts : Trees) (p q : Polynomial) → RepresentEach ts (p ∷ q ∷ []) → ((a b : Tree) → RepresentEach (Cons a (Cons b Nil)) (p ∷ q ∷ []) → P (Cons a (Cons b Nil))) → P ts
two-arguments P Nil p q r each = absurd r
two-arguments P (Cons a Nil) p q r each = absurd r.1
two-arguments P (Cons a (Cons b Nil)) p q r each = each a b r
two-arguments P (Cons a (Cons b (Cons t ts))) p q r each = absurd r.1.1

one-argument : (P : Trees → Type 0) (ts : Trees) (p : Polynomial) → RepresentEach ts (p ∷ []) → ((a : Tree) → RepresentEach (Cons a Nil) (p ∷ []) → P (Cons a Nil)) → P ts
one-argument P Nil p r each = absurd r
one-argument P (Cons a Nil) p r each = each a r
one-argument P (Cons a (Cons t ts)) p r each = absurd r.1

combined-raw : (o : Op) (ts : Trees) (ps : List Polynomial) (raw : Polynomial) → RepresentEach ts ps → IsSorted (Apply o ts) → combined o (bits_in (Apply o ts)) ps ≡ Some raw → RawOf (Apply o ts) raw
combined-raw BvAdd ts (p ∷ q ∷ []) raw r h e =
    two-arguments (λ us. IsSorted (Apply BvAdd us) → combined BvAdd (bits_in (Apply BvAdd us)) (p ∷ q ∷ []) ≡ Some raw → RawOf (Apply BvAdd us) raw) ts p q r
    (λ a b k g x. two-raw BvAdd a b p q raw (λ w. p ++ q) (λ ss. refl) g k (λ w sa sb. add-raw a b w p q sa sb) (some-same _ _ x)) h e
combined-raw BvSub ts (p ∷ q ∷ []) raw r h e =
    two-arguments (λ us. IsSorted (Apply BvSub us) → combined BvSub (bits_in (Apply BvSub us)) (p ∷ q ∷ []) ≡ Some raw → RawOf (Apply BvSub us) raw) ts p q r
    (λ a b k g x. two-raw BvSub a b p q raw (λ w. p ++ opposite w q) (λ ss. refl) g k (λ w sa sb. sub-raw a b w p q sa sb) (some-same _ _ x)) h e
combined-raw BvMul ts (p ∷ q ∷ []) raw r h e =
    two-arguments (λ us. IsSorted (Apply BvMul us) → combined BvMul (bits_in (Apply BvMul us)) (p ∷ q ∷ []) ≡ Some raw → RawOf (Apply BvMul us) raw) ts p q r
    (λ a b k g x. two-raw BvMul a b p q raw (λ w. products p q) (λ ss. refl) g k (λ w sa sb. mul-raw a b w p q sa sb) (some-same _ _ x)) h e
combined-raw BvShl ts (p ∷ q ∷ []) raw r h e =
    two-arguments (λ us. IsSorted (Apply BvShl us) → combined BvShl (bits_in (Apply BvShl us)) (p ∷ q ∷ []) ≡ Some raw → RawOf (Apply BvShl us) raw) ts p q r
    (λ a b k g x. shl-any a b p q raw g k x) h e
combined-raw BvNeg ts (p ∷ []) raw r h e =
    one-argument (λ us. IsSorted (Apply BvNeg us) → combined BvNeg (bits_in (Apply BvNeg us)) (p ∷ []) ≡ Some raw → RawOf (Apply BvNeg us) raw) ts p r
    (λ a k g x. one-raw BvNeg a p raw (λ w. opposite w p) (λ ss. refl) g k (λ w sa. neg-raw a w p sa) (some-same _ _ x)) h e
combined-raw BvNot ts (p ∷ []) raw r h e =
    one-argument (λ us. IsSorted (Apply BvNot us) → combined BvNot (bits_in (Apply BvNot us)) (p ∷ []) ≡ Some raw → RawOf (Apply BvNot us) raw) ts p r
    (λ a k g x. one-raw BvNot a p raw (λ w. opposite w (p ++ constant 1 ∷ [])) (λ ss. refl) g k (λ w sa. not-raw a w p sa) (some-same _ _ x)) h e
combined-raw _ ts ps raw r h e = cc

-- an application as a sum or alone
raw-or_alone : (t u : Tree) (w : ℕ) (raw : Polynomial) → IsLawful (Bits w) → tree_sort t ≡ Some (Bits w) → IsRaw t w raw → Same t u → IsSumOf t w (sum_or_atom w (Some raw) u)
raw-or_alone t u w raw lawful is r k = go (is_short raw (collected w raw))
  where
    go : (b : Truth) → IsSumOf t w (cond b (collected w raw) (atom u))
    go true = record {
      fits = fit-collected (constants_of t) (free_levels t) w raw r.words;
      means = λ c e g. value-collected (meaning c e) w raw ∙ r.means c e g;
    }
    go false = alone t u (Bits w) lawful is k

-- an equation of words
truth-meaning : (c : List ℕ) (e : ℕ → Option ℕ) (b : Truth) → meaning c e (truth_literal b) ≡ truth b
truth-meaning c e b = refl

over-truth : (cs vs : List (ℕ × Sort)) (b : Truth) → IsOver cs vs Bool (truth_literal b)
over-truth cs vs b = record { sorted = ((lit≤ tt, lit≤ tt), below b); free = tt; sort = refl; leaves = record { constants_in = tt; variables_in = tt } }
  where
    below : (x : Truth) → IsValueOf (cond x 1 0) Bool
    below true = lit< tt
    below false = lit< tt

equal-rank : (w : ℕ) → result_sort Equal (Bits w ∷ Bits w ∷ []) ≡ Some Bool
equal-rank w = rw (test-refl w) refl

-- the sides of an equation, whichever is on the left
record IsZeroTest (t : Tree) (w : ℕ) (p : Polynomial) (u : Tree) : Type 0 where
  over : IsOver (constants_of t) (free_levels t) Bool u
  means : (c : List ℕ) (e : ℕ → Option ℕ) → Valued c e t → meaning c e u ≡ truth (value (meaning c e) p % 2 ^ w == 0)

sides-test : (t : Tree) (w : ℕ) (p a b : Polynomial) → IsLawful (Bits w) → AllFit (constants_of t) (free_levels t) w a → AllFit (constants_of t) (free_levels t) w b → ((f : Tree → ℕ) → (value f p + value f b) % 2 ^ w ≡ value f a % 2 ^ w) → IsZeroTest t w p (binary Equal (sum_term w a) (sum_term w b)) × IsZeroTest t w p (binary Equal (sum_term w b) (sum_term w a))
sides-test t w p a b lawful fa fb is =
    let cs = constants_of t in
    let vs = free_levels t in
    let x = word-sum cs vs w a lawful fa in
    let y = word-sum cs vs w b lawful fb in (
      record {
        over = over-binary cs vs Equal w Bool (sum_term w a) (sum_term w b) (equal-rank w) x y;
        means = λ c e g.
            meaning-binary c e Equal (Bits w) (Bits w) (sum_term w a) (sum_term w b) x.sort y.sort
            ∙ ap (λ z. truth (z == meaning c e (sum_term w b))) (value-sum c e cs vs w a lawful g fa)
            ∙ ap (λ z. truth (value (meaning c e) a % 2 ^ w == z)) (value-sum c e cs vs w b lawful g fb)
            ∙ ap truth (zero-test (2 ^ w) (value (meaning c e) p) (value (meaning c e) a) (value (meaning c e) b) (pow_pos w) (is (meaning c e)));
      },
      record {
        over = over-binary cs vs Equal w Bool (sum_term w b) (sum_term w a) (equal-rank w) y x;
        means = λ c e g.
            meaning-binary c e Equal (Bits w) (Bits w) (sum_term w b) (sum_term w a) y.sort x.sort
            ∙ ap (λ z. truth (z == meaning c e (sum_term w a))) (value-sum c e cs vs w b lawful g fb)
            ∙ ap (λ z. truth (value (meaning c e) b % 2 ^ w == z)) (value-sum c e cs vs w a lawful g fa)
            ∙ ap truth (zero-test_turned (2 ^ w) (value (meaning c e) p) (value (meaning c e) a) (value (meaning c e) b) (pow_pos w) (is (meaning c e)));
      },
    )

sides-zero : (t : Tree) (w : ℕ) (p q : Polynomial) → IsLawful (Bits w) → AllFit (constants_of t) (free_levels t) w q → ((f : Tree → ℕ) → (value f p + value f (subtracted w q)) % 2 ^ w ≡ value f (added w q) % 2 ^ w) → IsZeroTest t w p (sides_equal w q)
sides-zero t w p [] lawful h is = (sides-test t w p [] [] lawful tt tt is).0
sides-zero t w p (m ∷ q) lawful h is = go (is_subtracted w m)
  where
    tests : IsZeroTest t w p (binary Equal (sum_term w (added w (m ∷ q))) (sum_term w (subtracted w (m ∷ q)))) × IsZeroTest t w p (binary Equal (sum_term w (subtracted w (m ∷ q))) (sum_term w (added w (m ∷ q))))
    tests =
        sides-test t w p (added w (m ∷ q)) (subtracted w (m ∷ q)) lawful
        (fit-added (constants_of t) (free_levels t) w (m ∷ q) h) (fit-subtracted (constants_of t) (free_levels t) w (m ∷ q) h) is

    go : (b : Truth) → IsZeroTest t w p (cond b (binary Equal (sum_term w (subtracted w (m ∷ q))) (sum_term w (added w (m ∷ q)))) (binary Equal (sum_term w (added w (m ∷ q))) (sum_term w (subtracted w (m ∷ q)))))
    go true = tests.1
    go false = tests.0

-- an odd number isn't 0
odd-apart : (w x : ℕ) → 1 ≤ w → x % 2 ≡ 1 → x % 2 ^ w ≡ 0 → ⊥
odd-apart w x lo odd none =
    let rest : x % 2 ^ w % 2 ≡ x % 2 = mod-mod_pow x 1 w lo in
    let start : 0 ≡ x % 2 ^ w % 2 = ap (λ (y : ℕ). y % 2) (sym none) in
    let zero_one : 0 ≡ 1 = start ∙ rest ∙ odd in
    cc

zero-is : (t : Tree) (w : ℕ) (p : Polynomial) (n : Option ℕ) → IsLawful (Bits w) → AllFit (constants_of t) (free_levels t) w p → number_of p ≡ n → IsZeroTest t w p (zero_from w p n)
zero-is t w p (Some n) lawful h is = record {
  over = over-truth (constants_of t) (free_levels t) (n == 0);
  means = λ c e g.
      ap (λ x. truth (x == 0)) (sym (ap (λ x. x % 2 ^ w) (value-number (meaning c e) p n is) ∙ rest-below (2 ^ w) n (fit-number (constants_of t) (free_levels t) w p n h is)));
}
zero-is t w p None lawful h is = go (is_odd p) refl
  where
    go : (b : Truth) → is_odd p ≡ b → IsZeroTest t w p (cond b (truth_literal false) (sides_equal w (with_order p)))
    go true odd = record {
      over = over-truth (constants_of t) (free_levels t) false;
      means = λ c e g. sym (ap truth (ne_eqb (value (meaning c e) p % 2 ^ w) 0 (odd-apart w (value (meaning c e) p) lawful.0 (value-odd (meaning c e) p odd))));
    }
    go false other =
        sides-zero t w p (with_order p) lawful (fit-with_order (constants_of t) (free_levels t) w p h)
        (λ f. value-sides f (constants_of t) (free_levels t) w p h)

equation-same : (a b : Tree) (w : ℕ) (p q : Polynomial) → IsLawful (Bits w) → tree_sort a ≡ Some (Bits w) → tree_sort b ≡ Some (Bits w) → Both a b w p q → Same (binary Equal a b) (is_zero w (collected w (p ++ opposite w q)))
equation-same a b w p q lawful sa sb r =
    let t = binary Equal a b in
    let d = collected w (p ++ opposite w q) in
    let fit : AllFit (constants_of t) (free_levels t) w d = fit-collected (constants_of t) (free_levels t) w (p ++ opposite w q) (words-less (constants_of t) (free_levels t) w p q r.first r.second) in
    let test = zero-is t w d (number_of d) lawful fit refl in
    let sort : tree_sort t ≡ Some Bool = rw (sa, sb) (equal-rank w) in
    same-over t (is_zero w d) Bool sort test.over (λ c e g.
    let x = meaning c e a in
    let y = meaning c e b in
    let fx : x < 2 ^ w = within-width w (value (meaning c e) p) x (r.left c e g) in
    let fy : y < 2 ^ w = within-width w (value (meaning c e) q) y (r.right c e g) in
    let sum : (value (meaning c e) d + y) % 2 ^ w ≡ x % 2 ^ w = difference-back (2 ^ w) (value (meaning c e) d) x y (pow_pos w) (value-collected (meaning c e) w (p ++ opposite w q) ∙ value-less (meaning c e) w x y p q (r.left c e g) (r.right c e g)) in
    test.means c e g
    ∙ ap truth (sym (zero-test (2 ^ w) (value (meaning c e) d) x y (pow_pos w) sum))
    ∙ ap (λ z. truth (z == y % 2 ^ w)) (rest-below (2 ^ w) x fx)
    ∙ ap (λ z. truth (x == z)) (rest-below (2 ^ w) y fy)
    ∙ sym (meaning-binary c e Equal (Bits w) (Bits w) a b sa sb))
  where
    difference-back : (n d x y : ℕ) → 0 < n → d % n ≡ (x + (n - 1) * y) % n → (d + y) % n ≡ x % n
    difference-back n d x y pos h =
        add-like n d (x + (n - 1) * y) y y h refl
        ∙ ap (λ z. z % n) (let times : (n - 1) * y + y ≡ n * y = pred-times n y pos in let turned : x + (n - 1) * y + y ≡ x + n * y = omega (arith, times) in turned)
        ∙ more-whole n x y

-- the two sides of an equation have one sort
alike-sorts : (b : Tree) (s t x : Sort) → tree_sort b ≡ Some t → result_sort Equal (s ∷ t ∷ []) ≡ Some x → tree_sort b ≡ Some s
alike-sorts b s t x sb rank = go (two_alike (s ∷ t ∷ [])) refl rank
  where
    go : (q : Option Sort) → two_alike (s ∷ t ∷ []) ≡ q → option_map (λ _. Bool) q ≡ Some x → tree_sort b ≡ Some s
    go None is e = cc
    go (Some y) is e =
        let shape = two_alike-parts (s ∷ t ∷ []) y is in
        let alike : t ≡ s = cc in
        sb ∙ ap Some alike

-- an application with its arguments as terms
rebuilt-same : (o : Op) (ts : Trees) (ps : List Polynomial) → IsSorted (Apply o ts) → RepresentEach ts ps → Same (Apply o ts) (rebuilt o ts ps)
rebuilt-same Equal (Cons a (Cons b Nil)) (p ∷ q ∷ []) h r =
    let k = two-sorts Equal a b h in
    go k.0 k.3 (alike-sorts b k.0 k.1 k.2 k.4 k.5) (word_width (tree_sort a)) refl
  where
    plain : Same (binary Equal a b) (binary Equal (term_of (bits_in a) p) (term_of (bits_in b) q))
    plain = same-apply Equal (Cons a (Cons b Nil)) (terms_of (Cons a (Cons b Nil)) (p ∷ q ∷ [])) h.1 (terms-same (Cons a (Cons b Nil)) (p ∷ q ∷ []) h.0 r)

    go : (s : Sort) → tree_sort a ≡ Some s → tree_sort b ≡ Some s → (n : Option ℕ) → word_width (tree_sort a) ≡ n → Same (binary Equal a b) (equation n p q (binary Equal (term_of (bits_in a) p) (term_of (bits_in b) q)))
    go s sa sb None is = plain
    go Bool sa sb (Some w) is = let none : word_width (tree_sort a) ≡ None = ap word_width sa in cc
    go (Bits v) sa sb (Some w) is =
        let some : word_width (tree_sort a) ≡ Some v = ap word_width sa in
        let same : v ≡ w = cc in
        let sa' : tree_sort a ≡ Some (Bits w) = sa ∙ ap (λ n. Some (Bits n)) same in
        let sb' : tree_sort b ≡ Some (Bits w) = sb ∙ ap (λ n. Some (Bits n)) same in
        equation-same a b w p q (lawful_sort a no_levels (Bits w) h.0.0 sa') sa' sb' (both-words a b w p q (r.0 (Bits w) sa') (r.1.0 (Bits w) sb'))
rebuilt-same o ts ps h r = same-apply o ts (terms_of ts ps) h.1 (terms-same ts ps h.0 r)

applied-represents : (o : Op) (ts : Trees) (ps : List Polynomial) (s : Sort) → IsSorted (Apply o ts) → RepresentEach ts ps → tree_sort (Apply o ts) ≡ Some s → Represents (Apply o ts) s (applied o ts ps)
applied-represents o ts ps s h r is = go (combined o (bits_in (Apply o ts)) ps) refl
  where
    t : Tree
    t = Apply o ts

    lawful : IsLawful s
    lawful = lawful_sort (Apply o ts) no_levels s h is

    go : (q : Option Polynomial) → combined o (bits_in (Apply o ts)) ps ≡ q → Represents (Apply o ts) s (sum_or_atom (bits_in (Apply o ts)) q (rebuilt o ts ps))
    go None e = alone (Apply o ts) (rebuilt o ts ps) s lawful is (rebuilt-same o ts ps h r)
    go (Some raw) e =
        let k = combined-raw o ts ps raw r h e in
        let w = k.0 in
        let same : Bits w ≡ s = some-same _ _ (sym k.1 ∙ is) in
        let lw : IsLawful (Bits w) = subst IsLawful (sym same) lawful in
        let base : IsSumOf (Apply o ts) w (sum_or_atom w (Some raw) (rebuilt o ts ps)) = raw-or_alone (Apply o ts) (rebuilt o ts ps) w raw lw k.1 k.2 (rebuilt-same o ts ps h r) in
        let at : Represents (Apply o ts) (Bits w) (sum_or_atom (bits_in (Apply o ts)) (Some raw) (rebuilt o ts ps)) = subst (λ (n : ℕ). IsSumOf (Apply o ts) w (sum_or_atom n (Some raw) (rebuilt o ts ps))) (sym (bits-are (Apply o ts) (Bits w) k.1)) base in
        subst (λ (x : Sort). Represents (Apply o ts) x (sum_or_atom (bits_in (Apply o ts)) (Some raw) (rebuilt o ts ps))) same at

-- a literal as a sum
literal-sum : (w n : ℕ) → n < 2 ^ w → IsSumOf (Literal (Bits w) n) w (collected w (constant n ∷ []))
literal-sum w n h = record {
  fits = fit-collected [] [] w (constant n ∷ []) (tt, tt);
  means = λ c e g. value-collected (meaning c e) w (constant n ∷ []) ∙ ap (λ x. x % 2 ^ w) (value-constant (meaning c e) n) ∙ rest-below (2 ^ w) n h;
}

-- each tree's sum
mutual
  pub represented : (t : Tree) (s : Sort) → IsSorted t → IsQuantifierFree t → tree_sort t ≡ Some s → Represents t s (polynomial t)
  represented (Constant i x) s h p is = alone (Constant i x) (Constant i x) s (lawful_sort (Constant i x) no_levels s h is) is (same-itself (Constant i x) h p)
  represented (Variable l x) s h p is = alone (Variable l x) (Variable l x) s (lawful_sort (Variable l x) no_levels s h is) is (same-itself (Variable l x) h p)
  represented (Literal Bool n) s h p is = alone (Literal Bool n) (Literal Bool n) s (lawful_sort (Literal Bool n) no_levels s h is) is (same-itself (Literal Bool n) h p)
  represented (Literal (Bits w) n) s h p is =
      subst (λ (x : Sort). Represents (Literal (Bits w) n) x (collected w (constant n ∷ []))) (some-same _ _ is) (literal-sum w n h.1)
  represented (Apply o ts) s h p is = applied-represents o ts (polynomials ts) s h (each-represented ts h.0 p) is
  represented (ForAll l x t) s h p is = absurd p
  represented (Exists l x t) s h p is = absurd p

  each-represented : (ts : Trees) → AreSortedBelow no_levels ts → AreQuantifierFree ts → RepresentEach ts (polynomials ts)
  each-represented Nil h p = tt
  each-represented (Cons t ts) h p = (λ s is. represented t s h.0 p.0 is, each-represented ts h.1 p.1)

pub summed-same : (t : Tree) → IsSorted t → IsQuantifierFree t → Same t (summed t)
summed-same t h p =
    let at = has_sort t no_levels h in
    term-same t at.0 (polynomial t) (lawful_sort t no_levels at.0 h at.1) at.1 (represented t at.0 h p at.1)
