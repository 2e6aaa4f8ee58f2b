-- The pass of small rules: what it makes of a tree has the tree's sort and value, over its leaves.
use Rattle.std.proofs.Common.{◌≡◌, ℕ, ◌-◌, ◌^◌, ◌<◌, ◌==◌, Bool as Truth_value, true, false, cond, Option, Some, None, List, [], ◌∷◌, ◌++◌, refl, sym, ap, ◌∙◌, subst, arith, lit<, lit≤, inl, inr}
use Rattle.std.specs.Prelude.{◌&&◌, ◌||◌, IsSome, unwrap_or, option_and_then}
use Rattle.std.specs.Option.{option_or}
use Rattle.std.specs.List.{AllByRecursion, AllZip, Contains}
use Rattle.std.proofs.lemmas.Bool.{and_parts, or_cases, eqb-true}
use Rattle.qv_words.specs.declared.sort.Sort.{Sort}
use Rattle.qv_words.specs.declared.sort.Sort.TheVariants.{Bool, Bits}
use Rattle.qv_words.specs.declared.op.Op.{Op}
use Rattle.qv_words.specs.declared.op.Op.TheVariants.{Not, Ite, BvNot}
use Rattle.qv_words.specs.Sort.{IsLawful, IsValueOf, width_of}
use Rattle.qv_words.specs.Rank.{result_sort, choice}
use Rattle.qv_words.specs.Op.{op_value, truth}
use Rattle.qv_words.specs.Tree.{Tree, Trees, Constant, Variable, Literal, Apply, ForAll, Exists, Nil, Cons, tree_sort, IsQuantifierFree, AreQuantifierFree}
use Rattle.qv_words.specs.Sorted.{no_levels, IsSorted, AreSortedBelow, constants_of, constants_of_all, free_levels, free_levels_of_all}
use Rattle.qv_words.specs.Equality.{tree_eq, op_eq}
use Rattle.qv_words.specs.Passes.{truth_literal, under_both}
use Rattle.qv_words.specs.PassLaws.{IsPlain, StandsFor}
use Rattle.qv_words.specs.Prenex.{binary}
use Rattle.qv_words.specs.Inverse.{unary}
use Rattle.qv_words.proofs.Equals.{op_eq-is, tree_eq-is, test-refl}
use Rattle.qv_words.proofs.Existing.{has_sort, lawful_sort}
use Rattle.qv_words.proofs.InSort.{choice-parts}
use Rattle.qv_words.proofs.Leaves.{both, front}
use Rattle.qv_words.proofs.PassLeaves.{HasLeavesIn, among-right, in-first, leaves-itself, leaves-trans}
use Rattle.qv_words.proofs.Passing.{Valued, some-same, one-sorts, two-sorts, three-rank}
use Rattle.qv_rewrite_passes.specs.declared.outcome.Outcome.{Outcome}
use Rattle.qv_rewrite_passes.specs.declared.outcome.Outcome.TheVariants.{Argument, Complement, Number, Truth, Under}
use Rattle.qv_rewrite_passes.specs.Xors.{sort_in}
use Rattle.qv_rewrite_passes.specs.Simps.{complement, made, greatest, by_first, by_second, of_twins, of_opposites, of_one, value_of, is_complement, by_table, small_two, is_truth, chosen, choice_by, small_three, small, simp_node, simped, simped_each, simp_pass}
use Rattle.qv_rewrite_passes.proofs.Meanings.{meaning, leaves-valued, IsOver, over-meaning, Same, SameEach, same-itself, same-none, same-cons, same-apply, same-over}
use Rattle.qv_rewrite_passes.proofs.Building.{over-one, over-two, meaning-unary, meaning-binary}
use Rattle.qv_rewrite_passes.proofs.SumPass.{stands}
use Rattle.qv_rewrite_passes.proofs.Chaining.{below-two}
use Rattle.qv_rewrite_passes.proofs.Tables.{Fits, second-fits, first-fits, twins-fit, opposites-fit, one-fits}

-- ---- one after the other

same-trans : (t u x : Tree) → Same t u → Same u x → Same t x
same-trans t u x f g = record {
  sort = g.sort ∙ f.sort;
  sorted = g.sorted;
  free = g.free;
  leaves = leaves-trans x (constants_of u) (free_levels u) (constants_of t) (free_levels t) g.leaves f.leaves.constants_in f.leaves.variables_in;
  value = λ c e h. g.value c e (leaves-valued c e u (constants_of t) (free_levels t) f.leaves h) ∙ f.value c e h;
}

-- ---- what an outcome makes

-- a tree over the leaves of another
abbrev Over : Tree → Sort → Tree → Type 0
Over w s t = IsOver (constants_of w) (free_levels w) s t

below : (c : List ℕ) (e : ℕ → Option ℕ) (w t : Tree) (s : Sort) → Over w s t → Valued c e w → IsValueOf (meaning c e t) s
below c e w t s over g = (over-meaning c e (constants_of w) (free_levels w) s t over g).0

literal-over : (w : Tree) (s : Sort) (n : ℕ) → IsLawful s → IsValueOf n s → Over w s (Literal s n)
literal-over w s n lawful h = record { sorted = (lawful, h); free = tt; sort = refl; leaves = record { constants_in = tt; variables_in = tt } }

bool-lawful : IsLawful Bool
bool-lawful = (lit≤ tt, lit≤ tt)

truth-value : (b : Truth_value) → truth b < 2
truth-value true = lit< tt
truth-value false = lit< tt

-- what stands under an operator of one argument
pub under-is : (o : Op) (t d : Tree) → under_both o t ≡ Some d → t ≡ Apply o (Cons d Nil)
under-is o (Apply p (Cons t Nil)) d e = go (op_eq o p) refl e
  where
    go : (m : Truth_value) → op_eq o p ≡ m → cond m (Some t) None ≡ Some d → Apply p (Cons t Nil) ≡ Apply o (Cons d Nil)
    go true is f = ap (λ x. Apply x (Cons t Nil)) (sym (op_eq-is o p is)) ∙ ap (λ x. Apply o (Cons x Nil)) (some-same t d f)
    go false is f = cc
under-is o _ d e = cc

-- an operator of one argument that turns all bits
record Turns (o : Op) (s : Sort) : Type 0 where
  rank : result_sort o (s ∷ []) ≡ Some s
  keeps : (z r : Sort) → result_sort o (z ∷ []) ≡ Some r → z ≡ r
  value : (x : ℕ) → op_value o (s ∷ []) (x ∷ []) ≡ 2 ^ width_of s - 1 - x

keeps-bool : (z r : Sort) → result_sort Not (z ∷ []) ≡ Some r → z ≡ r
keeps-bool Bool r e = some-same Bool r e
keeps-bool (Bits w) r e = cc

keeps-width : (z r : Sort) → result_sort BvNot (z ∷ []) ≡ Some r → z ≡ r
keeps-width Bool r e = cc
keeps-width (Bits w) r e = some-same (Bits w) r e

turns-bool : Turns Not Bool
turns-bool = record { rank = refl; keeps = keeps-bool; value = λ x. refl }

turns-word : (w : ℕ) → Turns BvNot (Bits w)
turns-word w = record { rank = refl; keeps = keeps-width; value = λ x. refl }

negation-same : (w t : Tree) (o : Op) (s q : Sort) → Turns o s → tree_sort w ≡ Some q → s ≡ q → Over w s t → ((c : List ℕ) (e : ℕ → Option ℕ) → Valued c e w → meaning c e w ≡ 2 ^ width_of s - 1 - meaning c e t) → Same w (unwrap_or (under_both o t) (unary o t))
negation-same w t o s q turns is same over value = go (under_both o t) refl
  where
    go : (p : Option Tree) → under_both o t ≡ p → Same w (unwrap_or p (unary o t))
    go None at =
        same-over w (unary o t) q is (subst (λ x. Over w x (unary o t)) same (over-one (constants_of w) (free_levels w) o s s t turns.rank over))
        (λ c e g. meaning-unary c e o s t over.sort ∙ turns.value (meaning c e t) ∙ sym (value c e g))
    go (Some u) at =
        let whole : t ≡ unary o u = under-is o t u at in
        let own : Over w s (unary o u) = subst (Over w s) whole over in
        let n = one-sorts o u own.sorted in
        let sort : tree_sort u ≡ Some s = n.2 ∙ ap Some (turns.keeps n.0 n.1 n.3 ∙ some-same n.1 s (sym n.4 ∙ own.sort)) in
        let inner : Over w s u = record {
          sorted = own.sorted.0.0;
          free = own.free.0;
          sort = sort;
          leaves = record {
            constants_in = front (Contains (constants_of w)) (constants_of u) [] own.leaves.constants_in;
            variables_in = front (Contains (free_levels w)) (free_levels u) [] own.leaves.variables_in;
          };
        } in
        same-over w u q is (subst (λ x. Over w x u) same inner) (λ c e g.
        let low : meaning c e u < 2 ^ width_of s = below c e w u s inner g in
        let turned : meaning c e t ≡ 2 ^ width_of s - 1 - meaning c e u = ap (meaning c e) whole ∙ meaning-unary c e o s u sort ∙ turns.value (meaning c e u) in
        let v : meaning c e w ≡ 2 ^ width_of s - 1 - meaning c e t = value c e g in
        omega (arith, low, turned, v))

complement-same : (w t : Tree) (s q : Sort) → tree_sort w ≡ Some q → s ≡ q → Over w s t → ((c : List ℕ) (e : ℕ → Option ℕ) → Valued c e w → meaning c e w ≡ greatest s - meaning c e t) → Same w (complement s t)
complement-same w t Bool q is same over value = negation-same w t Not Bool q turns-bool is same over value
complement-same w t (Bits n) q is same over value = negation-same w t BvNot (Bits n) q (turns-word n) is same over value

made-same : (w t : Tree) (s q : Sort) (f : ℕ → ℕ) (r : Outcome) → IsLawful s → tree_sort w ≡ Some q → Over w s t → ((c : List ℕ) (e : ℕ → Option ℕ) → Valued c e w → meaning c e w ≡ f (meaning c e t)) → Fits s q f r → Same w (made s t r)
made-same w t s q f Argument lawful is over value k =
    same-over w t q is (subst (λ x. Over w x t) k.0 over) (λ c e g. sym (value c e g ∙ k.1 (meaning c e t) (below c e w t s over g)))
made-same w t s q f Complement lawful is over value k =
    complement-same w t s q is k.0 over (λ c e g. value c e g ∙ k.1 (meaning c e t) (below c e w t s over g))
made-same w t s q f (Number n) lawful is over value k =
    same-over w (Literal s n) q is (subst (λ x. Over w x (Literal s n)) k.0 (literal-over w s n lawful k.1)) (λ c e g. sym (value c e g ∙ k.2 (meaning c e t) (below c e w t s over g)))
made-same w t s q f (Truth b) lawful is over value k =
    same-over w (truth_literal b) q is (subst (λ x. Over w x (truth_literal b)) k.0 (literal-over w Bool (truth b) bool-lawful (truth-value b))) (λ c e g. sym (value c e g ∙ k.1 (meaning c e t) (below c e w t s over g)))
made-same w t s q f (Under o n) lawful is over value k =
    let whole : Over w q (binary o t (Literal s n)) = over-two (constants_of w) (free_levels w) o s s q t (Literal s n) k.0 over (literal-over w s n lawful k.1) in
    same-over w (binary o t (Literal s n)) q is whole
    (λ c e g. meaning-binary c e o s s t (Literal s n) over.sort refl ∙ sym (value c e g ∙ k.2 (meaning c e t) (below c e w t s over g)))

-- ---- tables

sort-is : (t : Tree) (s : Sort) → tree_sort t ≡ Some s → s ≡ sort_in t
sort-is t s h = sym (ap (λ q. unwrap_or q Bool) h)

table-same : (w t : Tree) (found : Option Outcome) → ((r : Outcome) → found ≡ Some r → Same w (made (sort_in t) t r)) → (u : Tree) → by_table t found ≡ Some u → Same w u
table-same w t None h u e = cc
table-same w t (Some r) h u e = subst (Same w) (some-same (made (sort_in t) t r) u e) (h r refl)

-- the leaves of arguments
in-second : (u t : Tree) (ts : Trees) → HasLeavesIn u (constants_of_all ts) (free_levels_of_all ts) → HasLeavesIn u (constants_of_all (Cons t ts)) (free_levels_of_all (Cons t ts))
in-second u t ts h = record {
  constants_in = among-right (constants_of u) (constants_of t) (constants_of_all ts) h.constants_in;
  variables_in = among-right (free_levels u) (free_levels t) (free_levels_of_all ts) h.variables_in;
}

first-over : (o : Op) (t : Tree) (ts : Trees) (s : Sort) → IsSorted t → IsQuantifierFree t → tree_sort t ≡ Some s → Over (Apply o (Cons t ts)) s t
first-over o t ts s h p is = record { sorted = h; free = p; sort = is; leaves = in-first t t ts (leaves-itself t) }

second-over : (o : Op) (a t : Tree) (ts : Trees) (s : Sort) → IsSorted t → IsQuantifierFree t → tree_sort t ≡ Some s → Over (Apply o (Cons a (Cons t ts))) s t
second-over o a t ts s h p is = record { sorted = h; free = p; sort = is; leaves = in-second t a (Cons t ts) (in-first t t ts (leaves-itself t)) }

third-over : (o : Op) (a b t : Tree) (ts : Trees) (s : Sort) → IsSorted t → IsQuantifierFree t → tree_sort t ≡ Some s → Over (Apply o (Cons a (Cons b (Cons t ts)))) s t
third-over o a b t ts s h p is = record { sorted = h; free = p; sort = is; leaves = in-second t a (Cons b (Cons t ts)) (in-second t b (Cons t ts) (in-first t t ts (leaves-itself t))) }

-- ---- one argument

one-same : (o : Op) (a : Tree) → IsSorted (Apply o (Cons a Nil)) → IsQuantifierFree (Apply o (Cons a Nil)) → (u : Tree) → by_table a (of_one o (sort_in a)) ≡ Some u → Same (Apply o (Cons a Nil)) u
one-same o a h p u e =
    let w = Apply o (Cons a Nil) in
    let k = one-sorts o a h in
    let at : k.0 ≡ sort_in a = sort-is a k.0 k.2 in
    let over = first-over o a Nil k.0 h.0.0 p.0 k.2 in
    table-same w a (of_one o (sort_in a)) (λ r f.
    subst (λ s. Same w (made s a r)) at
    (made-same w a k.0 k.1 (λ x. op_value o (k.0 ∷ []) (x ∷ [])) r (lawful_sort a no_levels k.0 h.0.0 k.2) k.4 over
    (λ c e g. meaning-unary c e o k.0 a k.2)
    (one-fits o k.0 k.1 k.3 r (ap (of_one o) at ∙ f)))) u e

-- ---- two arguments

-- a literal by its value
pub literal-is : (t : Tree) (n : ℕ) → value_of t ≡ Some n → (s : Sort) × (t ≡ Literal s n)
literal-is (Literal s m) n h = (s, ap (Literal s) (some-same m n h))
literal-is (Constant i s) n h = cc
literal-is (Variable l s) n h = cc
literal-is (Apply o ts) n h = cc
literal-is (ForAll l s t) n h = cc
literal-is (Exists l s t) n h = cc

literal-value : (t : Tree) (n : ℕ) (s : Sort) → value_of t ≡ Some n → IsSorted t → tree_sort t ≡ Some s → IsValueOf n s × ((c : List ℕ) (e : ℕ → Option ℕ) → meaning c e t ≡ n)
literal-value t n s h sorted is =
    let k = literal-is t n h in
    let own : IsSorted (Literal k.0 n) = subst IsSorted k.1 sorted in
    let same : k.0 ≡ s = some-same k.0 s (sym (ap tree_sort k.1) ∙ is) in
    (subst (IsValueOf n) same own.1, λ c e. ap (meaning c e) k.1)

-- where a literal is looked up
looked-up : (P : Outcome → Type 0) (table : ℕ → Option Outcome) (t : Tree) → ((n : ℕ) → value_of t ≡ Some n → (r : Outcome) → table n ≡ Some r → P r) → (r : Outcome) → option_and_then table (value_of t) ≡ Some r → P r
looked-up P table t h r e = go (value_of t) refl e
  where
    go : (q : Option ℕ) → value_of t ≡ q → option_and_then table q ≡ Some r → P r
    go None is f = cc
    go (Some n) is f = h n is r f

-- what a complement means
complement-is : (u t : Tree) → is_complement u t ≡ true → (p : Op) × (t ≡ Apply p (Cons u Nil)) × ((op_eq Not p || op_eq BvNot p) ≡ true)
complement-is u (Apply p (Cons t Nil)) e =
    let tests = and_parts (op_eq Not p || op_eq BvNot p) (tree_eq t u) e in
    (p, ap (λ x. Apply p (Cons x Nil)) (tree_eq-is t u tests.1), tests.0)
complement-is u _ e = cc

complement-value : (u t : Tree) (s : Sort) (c : List ℕ) (e : ℕ → Option ℕ) → is_complement u t ≡ true → IsSorted t → tree_sort u ≡ Some s → meaning c e t ≡ greatest s - meaning c e u
complement-value u t s c e h sorted is =
    let k = complement-is u t h in
    let own : IsSorted (Apply k.0 (Cons u Nil)) = subst IsSorted k.1 sorted in
    ap (meaning c e) k.1 ∙ by-op k.0 own k.2
  where
    turned : (s : Sort) → tree_sort u ≡ Some s → IsSorted (Apply Not (Cons u Nil)) → 1 - meaning c e u ≡ greatest s - meaning c e u
    turned Bool at own = refl
    turned (Bits w) at own = let k = one-sorts Not u own in let none : Bits w ≡ k.0 = some-same (Bits w) k.0 (sym at ∙ k.2) in absurd (let rank = subst (λ x. result_sort Not (x ∷ []) ≡ Some k.1) (sym none) k.3 in cc)

    flipped : (s : Sort) → tree_sort u ≡ Some s → IsSorted (Apply BvNot (Cons u Nil)) → 2 ^ width_of s - 1 - meaning c e u ≡ greatest s - meaning c e u
    flipped s at own = refl

    by-op : (p : Op) → IsSorted (Apply p (Cons u Nil)) → (op_eq Not p || op_eq BvNot p) ≡ true → meaning c e (Apply p (Cons u Nil)) ≡ greatest s - meaning c e u
    by-op Not own f = meaning-unary c e Not s u is ∙ turned s is own
    by-op BvNot own f = meaning-unary c e BvNot s u is ∙ flipped s is own
    by-op _ own f = cc

complement-sort : (u t : Tree) (s : Sort) → is_complement u t ≡ true → IsSorted t → tree_sort u ≡ Some s → tree_sort t ≡ Some s
complement-sort u t s h sorted is =
    let k = complement-is u t h in
    let own : IsSorted (Apply k.0 (Cons u Nil)) = subst IsSorted k.1 sorted in
    let n = one-sorts k.0 u own in
    ap tree_sort k.1 ∙ n.4 ∙ ap Some (sym (kept k.0 n.0 n.1 k.2 n.3)) ∙ sym n.2 ∙ is
  where
    kept : (p : Op) (z r : Sort) → (op_eq Not p || op_eq BvNot p) ≡ true → result_sort p (z ∷ []) ≡ Some r → z ≡ r
    kept Not Bool r f e = some-same Bool r e
    kept Not (Bits w) r f e = cc
    kept BvNot Bool r f e = cc
    kept BvNot (Bits w) r f e = some-same (Bits w) r e
    kept _ z r f e = cc

-- two arguments, and their sorts
record Pair (o : Op) (a b : Tree) : Type 0 where
  s : Sort
  t : Sort
  q : Sort
  sort_a : tree_sort a ≡ Some s
  sort_b : tree_sort b ≡ Some t
  rank : result_sort o (s ∷ t ∷ []) ≡ Some q
  sort : tree_sort (binary o a b) ≡ Some q
  lawful_a : IsLawful s
  lawful_b : IsLawful t
  over_a : Over (binary o a b) s a
  over_b : Over (binary o a b) t b

pair : (o : Op) (a b : Tree) → IsSorted (binary o a b) → IsQuantifierFree (binary o a b) → Pair o a b
pair o a b h p =
    let k = two-sorts o a b h in
    record {
      s = k.0;
      t = k.1;
      q = k.2;
      sort_a = k.3;
      sort_b = k.4;
      rank = k.5;
      sort = k.6;
      lawful_a = lawful_sort a no_levels k.0 h.0.0 k.3;
      lawful_b = lawful_sort b no_levels k.1 h.0.1.0 k.4;
      over_a = first-over o a (Cons b Nil) k.0 h.0.0 p.0 k.3;
      over_b = second-over o a b Nil k.1 h.0.1.0 p.1.0 k.4;
    }

two-meaning : (o : Op) (a b : Tree) (k : Pair o a b) (c : List ℕ) (e : ℕ → Option ℕ) → meaning c e (binary o a b) ≡ op_value o (k.s ∷ k.t ∷ []) (meaning c e a ∷ meaning c e b ∷ [])
two-meaning o a b k c e = meaning-binary c e o k.s k.t a b k.sort_a k.sort_b

-- of the first argument
of-first : (o : Op) (a b : Tree) (k : Pair o a b) (f : ℕ → ℕ) (found : Sort → Option Outcome) → ((c : List ℕ) (e : ℕ → Option ℕ) → Valued c e (binary o a b) → meaning c e (binary o a b) ≡ f (meaning c e a)) → ((r : Outcome) → found k.s ≡ Some r → Fits k.s k.q f r) → (r : Outcome) → found (sort_in a) ≡ Some r → Same (binary o a b) (made (sort_in a) a r)
of-first o a b k f found value law r e =
    let at : k.s ≡ sort_in a = sort-is a k.s k.sort_a in
    subst (λ s. Same (binary o a b) (made s a r)) at (made-same (binary o a b) a k.s k.q f r k.lawful_a k.sort k.over_a value (law r (ap found at ∙ e)))

of-second : (o : Op) (a b : Tree) (k : Pair o a b) (f : ℕ → ℕ) (found : Sort → Option Outcome) → ((c : List ℕ) (e : ℕ → Option ℕ) → Valued c e (binary o a b) → meaning c e (binary o a b) ≡ f (meaning c e b)) → ((r : Outcome) → found k.t ≡ Some r → Fits k.t k.q f r) → (r : Outcome) → found (sort_in b) ≡ Some r → Same (binary o a b) (made (sort_in b) b r)
of-second o a b k f found value law r e =
    let at : k.t ≡ sort_in b = sort-is b k.t k.sort_b in
    subst (λ s. Same (binary o a b) (made s b r)) at (made-same (binary o a b) b k.t k.q f r k.lawful_b k.sort k.over_b value (law r (ap found at ∙ e)))

seconds-same : (o : Op) (a b : Tree) (k : Pair o a b) → IsSorted b → (u : Tree) → by_table a (option_and_then (by_second o (sort_in a)) (value_of b)) ≡ Some u → Same (binary o a b) u
seconds-same o a b k h = table-same (binary o a b) a (option_and_then (by_second o (sort_in a)) (value_of b))
    (looked-up (λ r. Same (binary o a b) (made (sort_in a) a r)) (by_second o (sort_in a)) b (λ n is.
    let low = literal-value b n k.t is h k.sort_b in
    of-first o a b k (λ x. op_value o (k.s ∷ k.t ∷ []) (x ∷ n ∷ [])) (λ s. by_second o s n)
    (λ c e g. two-meaning o a b k c e ∙ ap (λ y. op_value o (k.s ∷ k.t ∷ []) (meaning c e a ∷ y ∷ [])) (low.1 c e))
    (second-fits o k.s k.t k.q k.rank k.lawful_a n low.0)))

firsts-same : (o : Op) (a b : Tree) (k : Pair o a b) → IsSorted a → (u : Tree) → by_table b (option_and_then (by_first o (sort_in b)) (value_of a)) ≡ Some u → Same (binary o a b) u
firsts-same o a b k h = table-same (binary o a b) b (option_and_then (by_first o (sort_in b)) (value_of a))
    (looked-up (λ r. Same (binary o a b) (made (sort_in b) b r)) (by_first o (sort_in b)) a (λ n is.
    let low = literal-value a n k.s is h k.sort_a in
    of-second o a b k (λ x. op_value o (k.s ∷ k.t ∷ []) (n ∷ x ∷ [])) (λ s. by_first o s n)
    (λ c e g. two-meaning o a b k c e ∙ ap (λ y. op_value o (k.s ∷ k.t ∷ []) (y ∷ meaning c e b ∷ [])) (low.1 c e))
    (first-fits o k.s k.t k.q k.rank k.lawful_b n low.0)))

twins-same : (o : Op) (a b : Tree) (k : Pair o a b) → a ≡ b → (u : Tree) → by_table a (of_twins o (sort_in a)) ≡ Some u → Same (binary o a b) u
twins-same o a b k alike = table-same (binary o a b) a (of_twins o (sort_in a))
    (of-first o a b k (λ x. op_value o (k.s ∷ k.t ∷ []) (x ∷ x ∷ [])) (of_twins o)
    (λ c e g. two-meaning o a b k c e ∙ ap (λ y. op_value o (k.s ∷ k.t ∷ []) (meaning c e a ∷ y ∷ [])) (ap (meaning c e) (sym alike)))
    (twins-fit o k.s k.t k.q k.rank))

-- the second argument's value, where one is the complement of the other
other-value : (o : Op) (a b : Tree) (k : Pair o a b) → IsSorted a → IsSorted b → (is_complement a b || is_complement b a) ≡ true → (c : List ℕ) (e : ℕ → Option ℕ) → Valued c e (binary o a b) → meaning c e b ≡ greatest k.s - meaning c e a
other-value o a b k h j e c v g = elim (or_cases (is_complement a b) (is_complement b a) e) [
  | inl f ↦ complement-value a b k.s c v f j k.sort_a
  | inr f ↦
      let at : tree_sort a ≡ Some k.t = complement-sort b a k.t f h k.sort_b in
      let same : k.t ≡ k.s = some-same k.t k.s (sym at ∙ k.sort_a) in
      let value : meaning c v a ≡ 2 ^ width_of k.t - 1 - meaning c v b = complement-value b a k.t c v f h k.sort_b in
      let low : meaning c v b < 2 ^ width_of k.t = below c v (binary o a b) b k.t k.over_b g in
      let turned : meaning c v b ≡ 2 ^ width_of k.t - 1 - meaning c v a = omega (arith, value, low) in
      subst (λ s. meaning c v b ≡ greatest s - meaning c v a) same turned
]

opposites-same : (o : Op) (a b : Tree) (k : Pair o a b) → IsSorted a → IsSorted b → (is_complement a b || is_complement b a) ≡ true → (u : Tree) → by_table a (of_opposites o (sort_in a)) ≡ Some u → Same (binary o a b) u
opposites-same o a b k h j e = table-same (binary o a b) a (of_opposites o (sort_in a))
    (of-first o a b k (λ x. op_value o (k.s ∷ k.t ∷ []) (x ∷ (greatest k.s - x) ∷ [])) (of_opposites o)
    (λ c v g. two-meaning o a b k c v ∙ ap (λ y. op_value o (k.s ∷ k.t ∷ []) (meaning c v a ∷ y ∷ [])) (other-value o a b k h j e c v g))
    (opposites-fit o k.s k.t k.q k.rank k.lawful_a))

two-same : (o : Op) (a b : Tree) → IsSorted (binary o a b) → IsQuantifierFree (binary o a b) → (u : Tree) → small_two o a b ≡ Some u → Same (binary o a b) u
two-same o a b h p u e = go (tree_eq a b) refl (is_complement a b || is_complement b a) refl e
  where
    k : Pair o a b
    k = pair o a b h p

    either : (m n : Option Tree) → ((x : Tree) → m ≡ Some x → Same (binary o a b) x) → ((x : Tree) → n ≡ Some x → Same (binary o a b) x) → option_or m n ≡ Some u → Same (binary o a b) u
    either None n f g i = g u i
    either (Some x) n f g i = f u i

    go : (m : Truth_value) → tree_eq a b ≡ m → (n : Truth_value) → (is_complement a b || is_complement b a) ≡ n
        → cond m (by_table a (of_twins o (sort_in a))) (cond n (by_table a (of_opposites o (sort_in a)))
        (option_or (by_table a (option_and_then (by_second o (sort_in a)) (value_of b))) (by_table b (option_and_then (by_first o (sort_in b)) (value_of a))))) ≡ Some u → Same (binary o a b) u
    go true is n at f = twins-same o a b k (tree_eq-is a b is) u f
    go false is true at f = opposites-same o a b k h.0.0 h.0.1.0 at u f
    go false is false at f = either (by_table a (option_and_then (by_second o (sort_in a)) (value_of b))) (by_table b (option_and_then (by_first o (sort_in b)) (value_of a)))
        (seconds-same o a b k h.0.1.0) (firsts-same o a b k h.0.0) f

-- ---- choices

abbrev Choice : (c a b : Tree) → Tree
Choice c a b = Apply Ite (Cons c (Cons a (Cons b Nil)))

-- a choice, and its sorts
record Three (c a b : Tree) : Type 0 where
  q : Sort
  sort_c : tree_sort c ≡ Some Bool
  sort_a : tree_sort a ≡ Some q
  sort_b : tree_sort b ≡ Some q
  sort : tree_sort (Choice c a b) ≡ Some q

three : (c a b : Tree) → IsSorted (Choice c a b) → Three c a b
three c a b h =
    let i = has_sort c no_levels h.0.0 in
    let j = has_sort a no_levels h.0.1.0 in
    let k = has_sort b no_levels h.0.1.1.0 in
    let r = has_sort (Choice c a b) no_levels h in
    let parts = choice-parts (i.0 ∷ j.0 ∷ k.0 ∷ []) r.0 (three-rank Ite c a b i.0 j.0 k.0 r.0 i.1 j.1 k.1 r.1) in
    record {
      q = r.0;
      sort_c = i.1 ∙ ap Some (let one : i.0 ≡ Bool = cc in one);
      sort_a = j.1 ∙ ap Some (let one : j.0 ≡ r.0 = cc in one);
      sort_b = k.1 ∙ ap Some (let one : k.0 ≡ r.0 = cc in one);
      sort = r.1;
    }

choice-meaning : (c a b : Tree) (k : Three c a b) (v : List ℕ) (e : ℕ → Option ℕ) → meaning v e (Choice c a b) ≡ cond (meaning v e c == 1) (meaning v e a) (meaning v e b)
choice-meaning c a b k v e = refl

truth-is : (n : ℕ) (t : Tree) → is_truth n t ≡ true → t ≡ Literal Bool n
truth-is n (Literal Bool m) h = ap (Literal Bool) (eqb-true m n h)
truth-is n (Literal (Bits w) m) h = cc
truth-is n (Constant i s) h = cc
truth-is n (Variable l s) h = cc
truth-is n (Apply o ts) h = cc
truth-is n (ForAll l s t) h = cc
truth-is n (Exists l s t) h = cc

-- a choice between two truth values
truths-same : (c a b : Tree) (m n : ℕ) (r : Outcome) → IsSorted (Choice c a b) → IsQuantifierFree (Choice c a b) → a ≡ Literal Bool m → b ≡ Literal Bool n → Fits Bool Bool (λ x. cond (x == 1) m n) r → Same (Choice c a b) (made Bool c r)
truths-same c a b m n r h p is at k =
    let l = three c a b h in
    let bool : Bool ≡ l.q = some-same Bool l.q (sym (ap tree_sort is) ∙ l.sort_a) in
    made-same (Choice c a b) c Bool l.q (λ x. cond (x == 1) m n) r bool-lawful l.sort (first-over Ite c (Cons a (Cons b Nil)) Bool h.0.0 p.0 l.sort_c)
    (λ v e g. choice-meaning c a b l v e ∙ ap (λ y. cond (meaning v e c == 1) y (meaning v e b)) (ap (meaning v e) is) ∙ ap (λ y. cond (meaning v e c == 1) m y) (ap (meaning v e) at))
    (subst (λ s. Fits Bool s (λ x. cond (x == 1) m n) r) bool k)

chosen-same : (c a b : Tree) → IsSorted (Choice c a b) → IsQuantifierFree (Choice c a b) → Same (Choice c a b) (chosen c a b)
chosen-same c a b h p = go (is_truth 1 c || tree_eq a b) refl (is_truth 0 c) refl (is_truth 1 a && is_truth 0 b) refl (is_truth 0 a && is_truth 1 b) refl
  where
    w : Tree
    w = Choice c a b

    l : Three c a b
    l = three c a b h

    first : ((v : List ℕ) (e : ℕ → Option ℕ) → cond (meaning v e c == 1) (meaning v e a) (meaning v e b) ≡ meaning v e a) → Same w a
    first law = same-over w a l.q l.sort (second-over Ite c a (Cons b Nil) l.q h.0.1.0 p.1.0 l.sort_a) (λ v e g. sym (choice-meaning c a b l v e ∙ law v e))

    second : ((v : List ℕ) (e : ℕ → Option ℕ) → cond (meaning v e c == 1) (meaning v e a) (meaning v e b) ≡ meaning v e b) → Same w b
    second law = same-over w b l.q l.sort (third-over Ite c a b Nil l.q h.0.1.1.0 p.1.1.0 l.sort_b) (λ v e g. sym (choice-meaning c a b l v e ∙ law v e))

    either-way : (m : Truth_value) (x y : ℕ) → y ≡ x → cond m x y ≡ x
    either-way true x y e = refl
    either-way false x y e = e

    go : (k : Truth_value) → (is_truth 1 c || tree_eq a b) ≡ k → (i : Truth_value) → is_truth 0 c ≡ i → (m : Truth_value) → (is_truth 1 a && is_truth 0 b) ≡ m → (n : Truth_value) → (is_truth 0 a && is_truth 1 b) ≡ n
        → Same w (cond k a (cond i b (cond m c (cond n (complement Bool c) (Apply Ite (Cons c (Cons a (Cons b Nil))))))))
    go true known i at m is n on = elim (or_cases (is_truth 1 c) (tree_eq a b) known) [
      | inl f ↦ first (λ v e. ap (λ t. cond (meaning v e t == 1) (meaning v e a) (meaning v e b)) (truth-is 1 c f))
      | inr f ↦ first (λ v e. either-way (meaning v e c == 1) (meaning v e a) (meaning v e b) (ap (meaning v e) (sym (tree_eq-is a b f))))
    ]
    go false known true at m is n on = second (λ v e. ap (λ t. cond (meaning v e t == 1) (meaning v e a) (meaning v e b)) (truth-is 0 c at))
    go false known false at true is n on =
        let tests = and_parts (is_truth 1 a) (is_truth 0 b) is in
        truths-same c a b 1 0 Argument h p (truth-is 1 a tests.0) (truth-is 0 b tests.1) (refl, λ x f. below-two (λ y. cond (y == 1) 1 0 ≡ y) x f refl refl)
    go false known false at false is true on =
        let tests = and_parts (is_truth 0 a) (is_truth 1 b) on in
        truths-same c a b 0 1 Complement h p (truth-is 0 a tests.0) (truth-is 1 b tests.1) (refl, λ x f. below-two (λ y. cond (y == 1) 0 1 ≡ 1 - y) x f refl refl)
    go false known false at false is false on = same-itself w h p

-- a choice by a negation
pub turned-choice : (d a b : Tree) → IsSorted (Choice (unary Not d) a b) → IsQuantifierFree (Choice (unary Not d) a b) → Same (Choice (unary Not d) a b) (Choice d b a)
turned-choice d a b h p =
    let w = Choice (unary Not d) a b in
    let k = three (unary Not d) a b h in
    let n = one-sorts Not d h.0.0 in
    let bool : n.0 ≡ Bool = not-bool n.0 n.1 n.3 in
    let sort_d : tree_sort d ≡ Some Bool = n.2 ∙ ap Some bool in
    let is : tree_sort (Choice d b a) ≡ Some k.q = rw (sort_d, k.sort_b, k.sort_a) (same-choice k.q) in
    let over_d : Over w Bool d = record { sorted = h.0.0.0.0; free = p.0.0; sort = sort_d; leaves = in-first d (unary Not d) (Cons a (Cons b Nil)) (in-first d d Nil (leaves-itself d)) } in
    let over_a = second-over Ite (unary Not d) a (Cons b Nil) k.q h.0.1.0 p.1.0 k.sort_a in
    let over_b = third-over Ite (unary Not d) a b Nil k.q h.0.1.1.0 p.1.1.0 k.sort_b in
    same-over w (Choice d b a) k.q k.sort (record {
      sorted = ((over_d.sorted, (over_b.sorted, (over_a.sorted, tt))), subst IsSome (sym is) refl);
      free = (p.0.0, (p.1.1.0, (p.1.0, tt)));
      sort = is;
      leaves = record {
        constants_in = both (Contains (constants_of w)) (constants_of d) (constants_of b ++ (constants_of a ++ [])) over_d.leaves.constants_in
            (both (Contains (constants_of w)) (constants_of b) (constants_of a ++ []) over_b.leaves.constants_in (both (Contains (constants_of w)) (constants_of a) [] over_a.leaves.constants_in tt));
        variables_in = both (Contains (free_levels w)) (free_levels d) (free_levels b ++ (free_levels a ++ [])) over_d.leaves.variables_in
            (both (Contains (free_levels w)) (free_levels b) (free_levels a ++ []) over_b.leaves.variables_in (both (Contains (free_levels w)) (free_levels a) [] over_a.leaves.variables_in tt));
      };
    }) (λ c e g.
    choice-meaning d b a (record { q = k.q; sort_c = sort_d; sort_a = k.sort_b; sort_b = k.sort_a; sort = is }) c e
    ∙ below-two (λ x. cond (x == 1) (meaning c e b) (meaning c e a) ≡ cond (1 - x == 1) (meaning c e a) (meaning c e b)) (meaning c e d) (below c e w d Bool over_d g) refl refl
    ∙ ap (λ x. cond (x == 1) (meaning c e a) (meaning c e b)) (sym (meaning-unary c e Not Bool d sort_d))
    ∙ sym (choice-meaning (unary Not d) a b k c e))
  where
    not-bool : (s q : Sort) → result_sort Not (s ∷ []) ≡ Some q → s ≡ Bool
    not-bool Bool q e = refl
    not-bool (Bits w) q e = cc

    same-choice : (q : Sort) → choice (Bool ∷ q ∷ q ∷ []) ≡ Some q
    same-choice Bool = refl
    same-choice (Bits w) = rw (test-refl w) refl

choice-same : (c a b : Tree) → IsSorted (Choice c a b) → IsQuantifierFree (Choice c a b) → Same (Choice c a b) (choice_by (under_both Not c) c a b)
choice-same c a b h p = go (under_both Not c) refl
  where
    go : (q : Option Tree) → under_both Not c ≡ q → Same (Choice c a b) (choice_by q c a b)
    go None is = chosen-same c a b h p
    go (Some d) is =
        let same : c ≡ unary Not d = under-is Not c d is in
        let whole : Choice c a b ≡ Choice (unary Not d) a b = ap (λ x. Choice x a b) same in
        let first = turned-choice d a b (subst IsSorted whole h) (subst IsQuantifierFree whole p) in
        subst (λ x. Same x (chosen d b a)) (sym whole)
        (same-trans (Choice (unary Not d) a b) (Choice d b a) (chosen d b a) first (chosen-same d b a first.sorted first.free))

three-same : (o : Op) (c a b : Tree) → IsSorted (Apply o (Cons c (Cons a (Cons b Nil)))) → IsQuantifierFree (Apply o (Cons c (Cons a (Cons b Nil)))) → (u : Tree) → small_three o c a b ≡ Some u → Same (Apply o (Cons c (Cons a (Cons b Nil)))) u
three-same Ite c a b h p u e = subst (Same (Choice c a b)) (some-same (choice_by (under_both Not c) c a b) u e) (choice-same c a b h p)
three-same _ c a b h p u e = cc

-- ---- an application, and a tree

pub small-same : (o : Op) (ts : Trees) → IsSorted (Apply o ts) → IsQuantifierFree (Apply o ts) → (u : Tree) → small o ts ≡ Some u → Same (Apply o ts) u
small-same o (Cons a Nil) h p u e = one-same o a h p u e
small-same o (Cons a (Cons b Nil)) h p u e = two-same o a b h p u e
small-same o (Cons c (Cons a (Cons b Nil))) h p u e = three-same o c a b h p u e
small-same o _ h p u e = cc

pub node-same : (o : Op) (ts : Trees) → IsSorted (Apply o ts) → IsQuantifierFree (Apply o ts) → Same (Apply o ts) (simp_node o ts)
node-same o ts h p = go (small o ts) refl
  where
    go : (q : Option Tree) → small o ts ≡ q → Same (Apply o ts) (unwrap_or q (Apply o ts))
    go None is = same-itself (Apply o ts) h p
    go (Some u) is = small-same o ts h p u is

mutual
  pub simped-same : (t : Tree) → IsSorted t → IsQuantifierFree t → Same t (simped t)
  simped-same (Constant i s) h p = same-itself (Constant i s) h p
  simped-same (Variable l s) h p = same-itself (Variable l s) h p
  simped-same (Literal s n) h p = same-itself (Literal s n) h p
  simped-same (Apply o ts) h p =
      let inner = same-apply o ts (simped_each ts) h.1 (each-same ts h.0 p) in
      same-trans (Apply o ts) (Apply o (simped_each ts)) (simped (Apply o ts)) inner (node-same o (simped_each ts) inner.sorted inner.free)
  simped-same (ForAll l s t) h p = absurd p
  simped-same (Exists l s t) h p = absurd p

  pub each-same : (ts : Trees) → AreSortedBelow no_levels ts → AreQuantifierFree ts → SameEach ts (simped_each ts)
  each-same Nil h p = same-none
  each-same (Cons t ts) h p = same-cons t (simped t) ts (simped_each ts) (simped-same t h.0 p.0) (each-same ts h.1 p.1)

pub pass-stands : (ts : List Tree) → AllByRecursion IsPlain ts → AllZip StandsFor (simp_pass ts) ts
pass-stands [] h = tt
pass-stands (t ∷ ts) h = (stands t (simped t) h.0 (simped-same t h.0.sorted h.0.free), pass-stands ts h.1)
