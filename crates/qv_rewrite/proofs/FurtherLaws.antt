-- What a further rule makes keeps the sort and the value of the application that it fits.
use Rattle.std.proofs.Common.{◌≡◌, ℕ, zero, suc, ◌+◌, ◌-◌, ◌*◌, ◌%◌, ◌^◌, ◌<◌, ◌≤◌, ◌==◌, ◌⊎◌, inl, inr, true, false, cond, Option, Some, None, IsSome, List, [], ◌∷◌, ◌++◌, refl, sym, ap, ◌∙◌, subst, arith, lit<, lit≤}
use Rattle.std.specs.Prelude.{Bool as Truth, not, ◌&&◌, ◌||◌, nat_lt, nat_le, ℤ, pos, negsuc, int_lt, int_le, bit_and, bit_or, bit_xor, option_map}
use Rattle.std.specs.Option.{option_or}
use Rattle.std.specs.List.{AllByRecursion, Contains}
use Rattle.std.specs.Int.Bits.{and_self, or_self, xor_self}
use Rattle.std.proofs.Math.Nat.{mod-eq_of_lt, mod-eq-sub-mod, mod_self}
use Rattle.std.proofs.lemmas.Nat.{pow_pos, xor_comm}
use Rattle.std.proofs.lemmas.Bool.{le-ltb, eqb-true, and_parts, or_cases}
use Rattle.std.proofs.lemmas.Bool.Decides.{nat_tests}
use Rattle.std.proofs.lemmas.List.Elements.{All-contains, All-from_recursion}
use Rattle.qv_words.specs.declared.sort.Sort.{Sort}
use Rattle.qv_words.specs.declared.sort.Sort.TheVariants.{Bool, Bits}
use Rattle.qv_words.specs.declared.op.Op.{Op}
use Rattle.qv_words.specs.declared.op.Op.TheVariants.{Not, And, Or, Xor, Implies, Equal, Ite, BvAnd, BvOr, BvXor, BvXnor, BvAdd, BvSub, BvUlt, BvUle, BvUgt, BvUge, BvSlt, BvSle, BvSgt, BvSge}
use Rattle.qv_words.specs.Sort.{IsLawful, IsValueOf, width_of}
use Rattle.qv_words.specs.Rank.{result_sort, two_widths, two_alike}
use Rattle.qv_words.specs.Signed.{signed}
use Rattle.qv_words.specs.Op.{op_value, value_at, truth}
use Rattle.qv_words.specs.Tree.{Tree, Trees, Constant, Variable, Literal, Apply, ForAll, Exists, Nil, Cons, tree_sort, IsQuantifierFree, AreQuantifierFree}
use Rattle.qv_words.specs.Sorted.{no_levels, IsSorted, AreSortedBelow, constants_of, constants_of_all, free_levels, free_levels_of_all}
use Rattle.qv_words.specs.Meaning.{Means}
use Rattle.qv_words.specs.Equality.{tree_eq}
use Rattle.qv_words.specs.Passes.{truth_literal, is_literal}
use Rattle.qv_words.proofs.Equals.{tree_eq-is}
use Rattle.qv_words.proofs.Elements.{all-weaker, of-some}
use Rattle.qv_words.proofs.Leaves.{HasValue}
use Rattle.qv_words.proofs.Unique.{one_meaning}
use Rattle.qv_words.proofs.Existing.{HasConstant, has_sort}
use Rattle.qv_words.proofs.InSort.{two_bools-parts, two_alike-parts, choice-parts, two_widths-parts, equal_bool}
use Rattle.qv_words.proofs.InverseValues.{sum_first, difference_first, difference_second, xor_twice, xnor_twice}
use Rattle.qv_words.proofs.Passing.{Valued, Keeps, in-sort, means-literal, one-sorts, two-sorts, one-value, two-values, three-values, some-same, TakesFirst, HasOneSort, keep-first, two_bools-alike, bool-value, widths-alike, and-one, and-one-2, bool-value-2}
use Rattle.qv_words.proofs.PassLeaves.{part-leaves}
use Rattle.qv_words.proofs.RuleParts.{IsWithin, IsWithinEach, IsPart}
use Rattle.qv_circuits_laws.proofs.Grounds.{trees-have_sorts}
use Rattle.qv_circuits_laws.proofs.Comparing.{int-le-not}
use Rattle.qv_rewrite.specs.declared.further_rules.FurtherRule.{FurtherRule}
use Rattle.qv_rewrite.specs.declared.further_rules.FurtherRule.TheVariants.{Twins, PastEnds, Opposites, Undone, Known, ChosenTruth}
use Rattle.qv_rewrite.specs.FurtherRules.{zero_of, of_twins, twins, is_greatest, past_ends, is_not, opposites, before, behind, either_side, added_back, taken_back, crossed_back, undone, is_truth, known, chosen_truth, further_form, first_further, further_in_order, further}
use Rattle.qv_rewrite.proofs.FurtherParts.{either-of, each-further, where-true, of-one, of-zero, not-is, before-is, behind-is, within-itself, within-before, within-behind}

abbrev Of1 : Op → Tree → Tree
Of1 o a = Apply o (Cons a Nil)

abbrev Of2 : Op → Tree → Tree → Tree
Of2 o a b = Apply o (Cons a (Cons b Nil))

abbrev Plain : Tree → Type 0
Plain t = IsSorted t × IsQuantifierFree t

-- a subtree is sorted and without quantifiers, and its leaves have values
mutual
  within-plain : (u t : Tree) → Plain t → IsWithin u t → Plain u
  within-plain u (Constant i s) h e = subst Plain (sym e) h
  within-plain u (Variable l s) h e = subst Plain (sym e) h
  within-plain u (Literal s n) h e = subst Plain (sym e) h
  within-plain u (Apply o ts) h (inl k) = within-plain_each u ts h.0.0 h.1 k
  within-plain u (Apply o ts) h (inr e) = subst Plain (sym e) h
  within-plain u (ForAll l s t) h e = absurd h.1
  within-plain u (Exists l s t) h e = absurd h.1

  within-plain_each : (u : Tree) (ts : Trees) → AreSortedBelow no_levels ts → AreQuantifierFree ts → IsWithinEach u ts → Plain u
  within-plain_each u Nil h p k = absurd k
  within-plain_each u (Cons t ts) h p (inl k) = within-plain u t (h.0, p.0) k
  within-plain_each u (Cons t ts) h p (inr k) = within-plain_each u ts h.1 p.1 k

all-among : (P : ℕ × Sort → Type 0) (xs ys : List (ℕ × Sort)) → AllByRecursion (Contains ys) xs → AllByRecursion P ys → AllByRecursion P xs
all-among P xs ys f g = all-weaker (Contains ys) P xs (λ x h. All-contains P ys x (All-from_recursion P ys g) h) f

within-valued : (c : List ℕ) (e : ℕ → Option ℕ) (o : Op) (ts : Trees) (u : Tree) → IsWithinEach u ts → Valued c e (Apply o ts) → Valued c e u
within-valued c e o ts u h g =
    let leaves = part-leaves u ts (inr h) in (
      all-among (HasConstant c) (constants_of u) (constants_of_all ts) leaves.constants_in g.0,
      all-among (HasValue e) (free_levels u) (free_levels_of_all ts) leaves.variables_in g.1,
    )

-- an application is kept as a subtree of an argument, or as a literal
abbrev SaysAlso : Tree → Tree → Type 0
SaysAlso t u = (c : List ℕ) (e : ℕ → Option ℕ) (v : ℕ) → Valued c e t → Means c e t v → Means c e u v

keep-within : (o : Op) (ts : Trees) (u : Tree) → Plain (Apply o ts) → IsWithinEach u ts → tree_sort u ≡ tree_sort (Apply o ts) → SaysAlso (Apply o ts) u → Keeps (Apply o ts) u
keep-within o ts u h k sort says =
    let plain = within-plain_each u ts h.0.0 h.1 k in
    record { sort = sort; sorted = plain.0; free = plain.1; values = λ c e g. within-valued c e o ts u k g; meaning = says }

keep-literal : (t : Tree) (s : Sort) (n : ℕ) → Plain t → tree_sort t ≡ Some s → IsValueOf n s → SaysAlso t (Literal s n) → Keeps t (Literal s n)
keep-literal t s n h sort fits says = record {
  sort = sym sort;
  sorted = (of-some (tree_sort t) IsLawful s sort (trees-have_sorts t h.0), fits);
  free = tt;
  values = λ c e g. (tt, tt);
  meaning = says;
}

-- two arguments, their sorts and their values
record Seen (o : Op) (a b : Tree) (c : List ℕ) (e : ℕ → Option ℕ) (v : ℕ) : Type 0 where
  pub s : Sort
  pub t : Sort
  pub r : Sort
  pub x : ℕ
  pub y : ℕ
  pub sort_a : tree_sort a ≡ Some s
  pub sort_b : tree_sort b ≡ Some t
  pub rank : result_sort o (s ∷ t ∷ []) ≡ Some r
  pub means_a : Means c e a x
  pub means_b : Means c e b y
  pub fits_a : IsValueOf x s
  pub fits_b : IsValueOf y t
  pub value : v ≡ op_value o (s ∷ t ∷ []) (x ∷ y ∷ [])

seen : (o : Op) (a b : Tree) (c : List ℕ) (e : ℕ → Option ℕ) (v : ℕ) → Plain (Of2 o a b) → Valued c e (Of2 o a b) → Means c e (Of2 o a b) v → Seen o a b c e v
seen o a b c e v h g m =
    let k = two-sorts o a b h.0 in
    let n = two-values o a b k.0 k.1 c e v k.3 k.4 m in
    record {
      s = k.0;
      t = k.1;
      r = k.2;
      x = n.0;
      y = n.1;
      sort_a = k.3;
      sort_b = k.4;
      rank = k.5;
      means_a = n.2;
      means_b = n.3;
      fits_a = in-sort a k.0 c e n.0 h.0.0.0 k.3 (within-valued c e o (Cons a (Cons b Nil)) a (inl (within-itself a)) g) n.2;
      fits_b = in-sort b k.1 c e n.1 h.0.0.1.0 k.4 (within-valued c e o (Cons a (Cons b Nil)) b (inr (inl (within-itself b))) g) n.3;
      value = n.4;
    }

-- two arguments of one width
two-wide : (s t r : Sort) → option_map Bits (two_widths (s ∷ t ∷ [])) ≡ Some r → (s ≡ r) × (t ≡ r)
two-wide s t r h = widths-alike s t r h

two-compared : (s t r : Sort) → option_map (λ _. Bool) (two_widths (s ∷ t ∷ [])) ≡ Some r → s ≡ t
two-compared s t r h = go (two_widths (s ∷ t ∷ [])) refl h
  where
    go : (q : Option ℕ) → two_widths (s ∷ t ∷ []) ≡ q → option_map (λ _. Bool) q ≡ Some r → s ≡ t
    go None is e = cc
    go (Some w) is e = let k = two_widths-parts (s ∷ t ∷ []) w is in cc

-- comparisons, and connectives, whose value is known
abbrev IsTruthOf : Op → Type 0
IsTruthOf o = (s t r : Sort) → result_sort o (s ∷ t ∷ []) ≡ Some r → Bool ≡ r

known-bool : (q : Option ℕ) (r : Sort) → option_map (λ _. Bool) q ≡ Some r → Bool ≡ r
known-bool None r e = cc
known-bool (Some w) r e = some-same Bool r e

compares : (o : Op) → ((ss : List Sort) → result_sort o ss ≡ option_map (λ _. Bool) (two_widths ss)) → IsTruthOf o
compares o form s t r h = known-bool (two_widths (s ∷ t ∷ [])) r (sym (form (s ∷ t ∷ [])) ∙ h)

connects : (o : Op) → ((ss : List Sort) → result_sort o ss ≡ result_sort And ss) → IsTruthOf o
connects o form s t r h = (two_bools-parts (s ∷ t ∷ []) r (sym (form (s ∷ t ∷ [])) ∙ h)).1

keep-truth : (o : Op) (a b : Tree) (x : Truth) → Plain (Of2 o a b) → IsTruthOf o → ((c : List ℕ) (e : ℕ → Option ℕ) (v : ℕ) → (n : Seen o a b c e v) → op_value o (n.s ∷ n.t ∷ []) (n.x ∷ n.y ∷ []) ≡ truth x) → Keeps (Of2 o a b) (truth_literal x)
keep-truth o a b x h rank law =
    let k = two-sorts o a b h.0 in
    keep-literal (Of2 o a b) Bool (truth x) h (k.6 ∙ ap Some (sym (rank k.0 k.1 k.2 k.5))) (below x)
    (λ c e v g m. let n = seen o a b c e v h g m in n.value ∙ law c e v n)
  where
    below : (x : Truth) → IsValueOf (truth x) Bool
    below true = lit< tt
    below false = lit< tt

-- numbers
same-not_less : (x y : ℕ) → x ≡ y → nat_lt x y ≡ false
same-not_less x y e = let h : y ≤ x = omega (arith, e) in le-ltb x y h

most-not_less : (x y : ℕ) → y ≤ x → nat_lt x y ≡ false
most-not_less x y h = le-ltb x y h

at-most : (x y : ℕ) → x ≤ y → nat_le x y ≡ true
at-most x y h = grind (arith, nat_tests)

int-not_less : (z : ℤ) → int_lt z z ≡ false
int-not_less (pos n) = grind (arith, nat_tests)
int-not_less (negsuc n) = grind (arith, nat_tests)

int-at_most : (z : ℤ) → int_le z z ≡ true
int-at_most z = sym (int-le-not z z) ∙ ap not (int-not_less z)

test-itself : (n : ℕ) → (n == n) ≡ true
test-itself n = grind (arith, nat_tests)

-- a tree and itself mean one value
same-value : (o : Op) (a b : Tree) (c : List ℕ) (e : ℕ → Option ℕ) (v : ℕ) → a ≡ b → (n : Seen o a b c e v) → n.x ≡ n.y
same-value o a b c e v alike n = one_meaning b c e n.x n.y (subst (λ (t : Tree). Means c e t n.x) alike n.means_a) n.means_b

-- an operator at a tree and itself
keeps-argument : (o : Op) (a b : Tree) → a ≡ b → HasOneSort o → Plain (Of2 o a b) → ((s t r : Sort) (x : ℕ) → result_sort o (s ∷ t ∷ []) ≡ Some r → IsValueOf x s → op_value o (s ∷ t ∷ []) (x ∷ x ∷ []) ≡ x) → Keeps (Of2 o a b) a
keeps-argument o a b alike one h law =
    keep-first o a b one h.0 h.1 (λ s t r c e x y rank ma mb fa fb.
    let same : y ≡ x = one_meaning b c e y x mb (subst (λ (u : Tree). Means c e u x) alike ma) in
    ap (λ n. op_value o (s ∷ t ∷ []) (x ∷ n ∷ [])) same ∙ law s t r x rank fa)

and-self : (x : ℕ) → x < 2 → truth (x == 1 && x == 1) ≡ x
and-self zero h = refl
and-self (suc zero) h = refl
and-self (suc (suc x)) h = absurd (omega (arith, h))

or-self : (x : ℕ) → x < 2 → truth (x == 1 || x == 1) ≡ x
or-self zero h = refl
or-self (suc zero) h = refl
or-self (suc (suc x)) h = absurd (omega (arith, h))

implies-self : (x : ℕ) → x < 2 → truth (x == 0 || x == 1) ≡ 1
implies-self zero h = refl
implies-self (suc zero) h = refl
implies-self (suc (suc x)) h = absurd (omega (arith, h))

keeps-zero : (o : Op) (a b : Tree) → a ≡ b → HasOneSort o → Plain (Of2 o a b) → ((s t : Sort) (x : ℕ) → IsValueOf x s → op_value o (s ∷ t ∷ []) (x ∷ x ∷ []) ≡ 0) → (u : Tree) → zero_of a ≡ Some u → Keeps (Of2 o a b) u
keeps-zero o a b alike one h law u e = of-zero (Keeps (Of2 o a b)) (tree_sort a) here u e
  where
    here : (s : Sort) → tree_sort a ≡ Some s → Keeps (Of2 o a b) (Literal s 0)
    here s is =
        let k = two-sorts o a b h.0 in
        let first : s ≡ k.0 = some-same s k.0 (sym is ∙ k.3) in
        keep-literal (Of2 o a b) s 0 h (k.6 ∙ ap Some (sym (first ∙ (one k.0 k.1 k.2 k.5).0))) (pow_pos (width_of s))
        (λ c e' v g m.
        let n = seen o a b c e' v h g m in
        let same = same-value o a b c e' v alike n in
        n.value ∙ ap (λ y. op_value o (n.s ∷ n.t ∷ []) (n.x ∷ y ∷ [])) (sym same) ∙ law n.s n.t n.x n.fits_a)

sub-self : (w x : ℕ) → x < 2 ^ w → (x + 2 ^ w - x) % 2 ^ w ≡ 0
sub-self w x f = let m = 2 ^ w in ap (λ n. n % m) (let z : x + m - x ≡ m = omega arith in z) ∙ mod_self m

of_twins-kept : (o : Op) (a b u : Tree) → a ≡ b → Plain (Of2 o a b) → of_twins o a ≡ Some u → Keeps (Of2 o a b) u
of_twins-kept And a b u alike h e = of-one (Keeps (Of2 And a b)) a (keeps-argument And a b alike two_bools-alike h (λ s t r x rank f. and-self x (bool-value x s t r rank f))) u e
of_twins-kept Or a b u alike h e = of-one (Keeps (Of2 Or a b)) a (keeps-argument Or a b alike two_bools-alike h (λ s t r x rank f. or-self x (bool-value x s t r rank f))) u e
of_twins-kept BvAnd a b u alike h e = of-one (Keeps (Of2 BvAnd a b)) a (keeps-argument BvAnd a b alike two-wide h (λ s t r x rank f. and_self x)) u e
of_twins-kept BvOr a b u alike h e = of-one (Keeps (Of2 BvOr a b)) a (keeps-argument BvOr a b alike two-wide h (λ s t r x rank f. or_self x)) u e
of_twins-kept BvXor a b u alike h e = keeps-zero BvXor a b alike two-wide h (λ s t x f. xor_self x) u e
of_twins-kept BvSub a b u alike h e = keeps-zero BvSub a b alike two-wide h (λ s t x f. sub-self (width_of s) x f) u e
of_twins-kept Xor a b u alike h e = of-one (Keeps (Of2 Xor a b)) (truth_literal false) (keep-truth Xor a b false h (connects Xor (λ ss. refl))
    (λ c e v n. ap (λ y. truth (not (n.x == y))) (sym (same-value Xor a b c e v alike n)) ∙ ap (λ q. truth (not q)) (test-itself n.x))) u e
of_twins-kept Implies a b u alike h e = of-one (Keeps (Of2 Implies a b)) (truth_literal true) (keep-truth Implies a b true h (connects Implies (λ ss. refl))
    (λ c e v n. ap (λ y. truth (n.x == 0 || y == 1)) (sym (same-value Implies a b c e v alike n)) ∙ implies-self n.x (bool-value n.x n.s n.t n.r n.rank n.fits_a))) u e
of_twins-kept BvUlt a b u alike h e = of-one (Keeps (Of2 BvUlt a b)) (truth_literal false) (keep-truth BvUlt a b false h (compares BvUlt (λ ss. refl))
    (λ c e v n. ap truth (same-not_less n.x n.y (same-value BvUlt a b c e v alike n)))) u e
of_twins-kept BvUgt a b u alike h e = of-one (Keeps (Of2 BvUgt a b)) (truth_literal false) (keep-truth BvUgt a b false h (compares BvUgt (λ ss. refl))
    (λ c e v n. ap truth (same-not_less n.y n.x (sym (same-value BvUgt a b c e v alike n))))) u e
of_twins-kept BvUle a b u alike h e = of-one (Keeps (Of2 BvUle a b)) (truth_literal true) (keep-truth BvUle a b true h (compares BvUle (λ ss. refl))
    (λ c e v n. ap truth (at-most n.x n.y (omega (arith, same-value BvUle a b c e v alike n))))) u e
of_twins-kept BvUge a b u alike h e = of-one (Keeps (Of2 BvUge a b)) (truth_literal true) (keep-truth BvUge a b true h (compares BvUge (λ ss. refl))
    (λ c e v n. ap truth (at-most n.y n.x (omega (arith, same-value BvUge a b c e v alike n))))) u e
of_twins-kept BvSlt a b u alike h e = of-one (Keeps (Of2 BvSlt a b)) (truth_literal false) (keep-truth BvSlt a b false h (compares BvSlt (λ ss. refl))
    (λ c e v n. let w = width_of n.s in ap (λ y. truth (int_lt (signed w n.x) (signed w y))) (sym (same-value BvSlt a b c e v alike n)) ∙ ap truth (int-not_less (signed w n.x)))) u e
of_twins-kept BvSgt a b u alike h e = of-one (Keeps (Of2 BvSgt a b)) (truth_literal false) (keep-truth BvSgt a b false h (compares BvSgt (λ ss. refl))
    (λ c e v n. let w = width_of n.s in ap (λ y. truth (int_lt (signed w y) (signed w n.x))) (sym (same-value BvSgt a b c e v alike n)) ∙ ap truth (int-not_less (signed w n.x)))) u e
of_twins-kept BvSle a b u alike h e = of-one (Keeps (Of2 BvSle a b)) (truth_literal true) (keep-truth BvSle a b true h (compares BvSle (λ ss. refl))
    (λ c e v n. let w = width_of n.s in ap (λ y. truth (int_le (signed w n.x) (signed w y))) (sym (same-value BvSle a b c e v alike n)) ∙ ap truth (int-at_most (signed w n.x)))) u e
of_twins-kept BvSge a b u alike h e = of-one (Keeps (Of2 BvSge a b)) (truth_literal true) (keep-truth BvSge a b true h (compares BvSge (λ ss. refl))
    (λ c e v n. let w = width_of n.s in ap (λ y. truth (int_le (signed w y) (signed w n.x))) (sym (same-value BvSge a b c e v alike n)) ∙ ap truth (int-at_most (signed w n.x)))) u e
of_twins-kept _ a b u alike h e = cc

-- comparisons with an end of the range
greatest : (t : Tree) (s : Sort) (c : List ℕ) (e : ℕ → Option ℕ) (v : ℕ) → is_greatest t ≡ true → tree_sort t ≡ Some s → Means c e t v → 2 ^ width_of s - 1 ≤ v
greatest (Literal (Bits w) n) s c e v h is m =
    let sort : Bits w ≡ s = some-same (Bits w) s is in
    let none : 2 ^ w - 1 - n ≡ 0 = eqb-true (2 ^ w - 1 - n) 0 h in
    let top : 2 ^ w - 1 ≤ v = omega (arith, none, m) in
    subst (λ (r : Sort). 2 ^ width_of r - 1 ≤ v) sort top
greatest _ s c e v h is m = cc

-- the second of two arguments isn't above the first where that is the greatest, or the second 0
no-more : (o : Op) (a b : Tree) (c : List ℕ) (e : ℕ → Option ℕ) (v : ℕ) → ((ss : List Sort) → result_sort o ss ≡ option_map (λ _. Bool) (two_widths ss)) → (is_literal 0 b || is_greatest a) ≡ true → (n : Seen o a b c e v) → n.y ≤ n.x
no-more o a b c e v form h n = elim (or_cases (is_literal 0 b) (is_greatest a) h) [
  | inl lit ↦ omega (arith, means-literal 0 b c e n.y lit n.means_b)
  | inr top ↦
      let same : n.s ≡ n.t = two-compared n.s n.t n.r (sym (form (n.s ∷ n.t ∷ [])) ∙ n.rank) in
      let low : n.y < 2 ^ width_of n.s = subst (IsValueOf n.y) (sym same) n.fits_b in
      omega (arith, greatest a n.s c e n.x top n.sort_a n.means_a, low)
]

no-less : (o : Op) (a b : Tree) (c : List ℕ) (e : ℕ → Option ℕ) (v : ℕ) → ((ss : List Sort) → result_sort o ss ≡ option_map (λ _. Bool) (two_widths ss)) → (is_literal 0 a || is_greatest b) ≡ true → (n : Seen o a b c e v) → n.x ≤ n.y
no-less o a b c e v form h n = elim (or_cases (is_literal 0 a) (is_greatest b) h) [
  | inl lit ↦ omega (arith, means-literal 0 a c e n.x lit n.means_a)
  | inr top ↦
      let same : n.s ≡ n.t = two-compared n.s n.t n.r (sym (form (n.s ∷ n.t ∷ [])) ∙ n.rank) in
      let low : n.x < 2 ^ width_of n.t = subst (IsValueOf n.x) same n.fits_a in
      omega (arith, greatest b n.t c e n.y top n.sort_b n.means_b, low)
]

past_ends-kept : (o : Op) (a b u : Tree) → Plain (Of2 o a b) → past_ends o a b ≡ Some u → Keeps (Of2 o a b) u
past_ends-kept BvUlt a b u h e = where-true (Keeps (Of2 BvUlt a b)) (is_literal 0 b || is_greatest a) (Some (truth_literal false)) (λ k. of-one (Keeps (Of2 BvUlt a b)) (truth_literal false)
    (keep-truth BvUlt a b false h (compares BvUlt (λ ss. refl)) (λ c e v n. ap truth (most-not_less n.x n.y (no-more BvUlt a b c e v (λ ss. refl) k n))))) u e
past_ends-kept BvUgt a b u h e = where-true (Keeps (Of2 BvUgt a b)) (is_literal 0 a || is_greatest b) (Some (truth_literal false)) (λ k. of-one (Keeps (Of2 BvUgt a b)) (truth_literal false)
    (keep-truth BvUgt a b false h (compares BvUgt (λ ss. refl)) (λ c e v n. ap truth (most-not_less n.y n.x (no-less BvUgt a b c e v (λ ss. refl) k n))))) u e
past_ends-kept BvUle a b u h e = where-true (Keeps (Of2 BvUle a b)) (is_literal 0 a || is_greatest b) (Some (truth_literal true)) (λ k. of-one (Keeps (Of2 BvUle a b)) (truth_literal true)
    (keep-truth BvUle a b true h (compares BvUle (λ ss. refl)) (λ c e v n. ap truth (at-most n.x n.y (no-less BvUle a b c e v (λ ss. refl) k n))))) u e
past_ends-kept BvUge a b u h e = where-true (Keeps (Of2 BvUge a b)) (is_literal 0 b || is_greatest a) (Some (truth_literal true)) (λ k. of-one (Keeps (Of2 BvUge a b)) (truth_literal true)
    (keep-truth BvUge a b true h (compares BvUge (λ ss. refl)) (λ c e v n. ap truth (at-most n.y n.x (no-more BvUge a b c e v (λ ss. refl) k n))))) u e
past_ends-kept _ a b u h e = cc

-- a formula and its negation
negation-value : (u : Tree) (c : List ℕ) (e : ℕ → Option ℕ) (x y : ℕ) → Plain (Of1 Not u) → Means c e u x → Means c e (Of1 Not u) y → y ≡ 1 - x
negation-value u c e x y h mu mn =
    let k = one-sorts Not u h.0 in
    let n = one-value Not u k.0 c e y k.2 mn in
    n.2 ∙ ap (λ z. 1 - z) (one_meaning u c e n.0 x n.1 mu)

opposite-values : (o : Op) (a b : Tree) (c : List ℕ) (e : ℕ → Option ℕ) (v : ℕ) → Plain (Of2 o a b) → (is_not a b || is_not b a) ≡ true → (n : Seen o a b c e v) → (n.y ≡ 1 - n.x) ⊎ (n.x ≡ 1 - n.y)
opposite-values o a b c e v h k n = elim (or_cases (is_not a b) (is_not b a) k) [
  | inl f ↦
      let is = not-is a b f in
      inl (negation-value a c e n.x n.y (subst Plain is (h.0.0.1.0, h.1.1.0)) n.means_a (subst (λ (t : Tree). Means c e t n.y) is n.means_b))
  | inr f ↦
      let is = not-is b a f in
      inr (negation-value b c e n.y n.x (subst Plain is (h.0.0.0, h.1.0)) n.means_b (subst (λ (t : Tree). Means c e t n.x) is n.means_a))
]

and-opposite : (x y : ℕ) → x < 2 → y < 2 → (y ≡ 1 - x) ⊎ (x ≡ 1 - y) → truth (x == 1 && y == 1) ≡ 0
and-opposite zero y f g h = refl
and-opposite (suc zero) zero f g h = refl
and-opposite (suc zero) (suc zero) f g (inl e) = absurd (omega (arith, e))
and-opposite (suc zero) (suc zero) f g (inr e) = absurd (omega (arith, e))
and-opposite (suc zero) (suc (suc y)) f g h = absurd (omega (arith, g))
and-opposite (suc (suc x)) y f g h = absurd (omega (arith, f))

or-opposite : (x y : ℕ) → x < 2 → y < 2 → (y ≡ 1 - x) ⊎ (x ≡ 1 - y) → truth (x == 1 || y == 1) ≡ 1
or-opposite (suc zero) y f g h = refl
or-opposite zero (suc zero) f g h = refl
or-opposite zero zero f g (inl e) = absurd (omega (arith, e))
or-opposite zero zero f g (inr e) = absurd (omega (arith, e))
or-opposite zero (suc (suc y)) f g h = absurd (omega (arith, g))
or-opposite (suc (suc x)) y f g h = absurd (omega (arith, f))

opposites-kept : (o : Op) (a b u : Tree) → Plain (Of2 o a b) → opposites o a b ≡ Some u → Keeps (Of2 o a b) u
opposites-kept And a b u h e = where-true (Keeps (Of2 And a b)) (is_not a b || is_not b a) (Some (truth_literal false)) (λ k. of-one (Keeps (Of2 And a b)) (truth_literal false)
    (keep-truth And a b false h (connects And (λ ss. refl)) (λ c e v n.
    and-opposite n.x n.y (bool-value n.x n.s n.t n.r n.rank n.fits_a) (bool-value-2 n.y n.s n.t n.r n.rank n.fits_b) (opposite-values And a b c e v h k n)))) u e
opposites-kept Or a b u h e = where-true (Keeps (Of2 Or a b)) (is_not a b || is_not b a) (Some (truth_literal true)) (λ k. of-one (Keeps (Of2 Or a b)) (truth_literal true)
    (keep-truth Or a b true h (connects Or (λ ss. refl)) (λ c e v n.
    or-opposite n.x n.y (bool-value n.x n.s n.t n.r n.rank n.fits_a) (bool-value-2 n.y n.s n.t n.r n.rank n.fits_b) (opposite-values Or a b c e v h k n)))) u e
opposites-kept _ a b u h e = cc

-- an operator that undoes another one, of whose arguments one is its own
abbrev IsWide : Op → Type 0
IsWide o = (ss : List Sort) → result_sort o ss ≡ option_map Bits (two_widths ss)

-- what both arguments mean, where the application of the first operator is one of them
record Inner (p : Op) (r u : Tree) (c : List ℕ) (e : ℕ → Option ℕ) (x y : ℕ) (w : Sort) : Type 0 where
  pub z : ℕ
  pub means : Means c e r z
  pub fits : z < 2 ^ width_of w
  pub value : x ≡ value_at p (width_of w) (width_of w) z y 0

-- the first argument of the inner application is what is left, and u, which means y, the second
first-inner : (p : Op) (r u : Tree) (c : List ℕ) (e : ℕ → Option ℕ) (x y : ℕ) (w : Sort) → IsWide p → Plain (Of2 p r u) → Valued c e (Of2 p r u) → Means c e (Of2 p r u) x → Means c e u y → tree_sort (Of2 p r u) ≡ Some w → Inner p r u c e x y w
first-inner p r u c e x y w wide h g m mu sort =
    let n = seen p r u c e x h g m in
    let k = two-wide n.s n.t n.r (sym (wide (n.s ∷ n.t ∷ [])) ∙ n.rank) in
    let f = two-sorts p r u h.0 in
    let first : n.s ≡ f.0 = some-same n.s f.0 (sym n.sort_a ∙ f.3) in
    let whole : f.2 ≡ w = some-same f.2 w (sym f.6 ∙ sort) in
    let one : f.0 ≡ f.2 = (two-wide f.0 f.1 f.2 (sym (wide (f.0 ∷ f.1 ∷ [])) ∙ f.5)).0 in
    let left : n.s ≡ w = first ∙ one ∙ whole in
    let right : n.t ≡ w = k.1 ∙ sym k.0 ∙ left in
    let other : n.y ≡ y = one_meaning u c e n.y y n.means_b mu in
    record {
      z = n.x;
      means = n.means_a;
      fits = subst (IsValueOf n.x) left n.fits_a;
      value = n.value ∙ ap (λ s. value_at p (width_of s) (width_of n.t) n.x n.y 0) left ∙ ap (λ s. value_at p (width_of w) (width_of s) n.x n.y 0) right
          ∙ ap (λ q. value_at p (width_of w) (width_of w) n.x q 0) other;
    }

-- the second argument is what is left, and u the first
record InnerBehind (p : Op) (r u : Tree) (c : List ℕ) (e : ℕ → Option ℕ) (x y : ℕ) (w : Sort) : Type 0 where
  pub z : ℕ
  pub means : Means c e r z
  pub fits : z < 2 ^ width_of w
  pub value : x ≡ value_at p (width_of w) (width_of w) y z 0

second-inner : (p : Op) (r u : Tree) (c : List ℕ) (e : ℕ → Option ℕ) (x y : ℕ) (w : Sort) → IsWide p → Plain (Of2 p u r) → Valued c e (Of2 p u r) → Means c e (Of2 p u r) x → Means c e u y → tree_sort (Of2 p u r) ≡ Some w → InnerBehind p r u c e x y w
second-inner p r u c e x y w wide h g m mu sort =
    let n = seen p u r c e x h g m in
    let k = two-wide n.s n.t n.r (sym (wide (n.s ∷ n.t ∷ [])) ∙ n.rank) in
    let f = two-sorts p u r h.0 in
    let first : n.s ≡ f.0 = some-same n.s f.0 (sym n.sort_a ∙ f.3) in
    let whole : f.2 ≡ w = some-same f.2 w (sym f.6 ∙ sort) in
    let one : f.0 ≡ f.2 = (two-wide f.0 f.1 f.2 (sym (wide (f.0 ∷ f.1 ∷ [])) ∙ f.5)).0 in
    let left : n.s ≡ w = first ∙ one ∙ whole in
    let right : n.t ≡ w = k.1 ∙ sym k.0 ∙ left in
    let other : n.x ≡ y = one_meaning u c e n.x y n.means_a mu in
    record {
      z = n.y;
      means = n.means_b;
      fits = subst (IsValueOf n.y) right n.fits_b;
      value = n.value ∙ ap (λ s. value_at p (width_of s) (width_of n.t) n.x n.y 0) left ∙ ap (λ s. value_at p (width_of w) (width_of s) n.x n.y 0) right
          ∙ ap (λ q. value_at p (width_of w) (width_of w) q n.y 0) other;
    }

-- the sort of what is left
left-sort : (p : Op) (a b : Tree) (w : Sort) → IsWide p → Plain (Of2 p a b) → tree_sort (Of2 p a b) ≡ Some w → (tree_sort a ≡ Some w) × (tree_sort b ≡ Some w)
left-sort p a b w wide h sort =
    let f = two-sorts p a b h.0 in
    let whole : f.2 ≡ w = some-same f.2 w (sym f.6 ∙ sort) in
    let one = two-wide f.0 f.1 f.2 (sym (wide (f.0 ∷ f.1 ∷ [])) ∙ f.5) in
    (f.3 ∙ ap Some (one.0 ∙ whole), f.4 ∙ ap Some (one.1 ∙ whole))

-- the outer application, with what its arguments mean
outer-value : (o : Op) (a b : Tree) (c : List ℕ) (e : ℕ → Option ℕ) (v : ℕ) (w : Sort) → IsWide o → Plain (Of2 o a b) → tree_sort (Of2 o a b) ≡ Some w → (n : Seen o a b c e v) → v ≡ value_at o (width_of w) (width_of w) n.x n.y 0
outer-value o a b c e v w wide h sort n =
    let f = left-sort o a b w wide h sort in
    let left : n.s ≡ w = some-same n.s w (sym n.sort_a ∙ f.0) in
    let right : n.t ≡ w = some-same n.t w (sym n.sort_b ∙ f.1) in
    n.value ∙ ap (λ s. value_at o (width_of s) (width_of n.t) n.x n.y 0) left ∙ ap (λ s. value_at o (width_of w) (width_of s) n.x n.y 0) right

-- (o (p r u) u)
keep-1 : (o p : Op) (r u : Tree) → IsWide o → IsWide p → Plain (Of2 o (Of2 p r u) u) → ((w z y : ℕ) → z < 2 ^ w → y < 2 ^ w → value_at o w w (value_at p w w z y 0) y 0 ≡ z) → Keeps (Of2 o (Of2 p r u) u) r
keep-1 o p r u wo wp h law =
    let a = Of2 p r u in
    let k = two-sorts o a u h.0 in
    let outer = left-sort o a u k.2 wo h k.6 in
    let inner : Plain a = (h.0.0.0, h.1.0) in
    keep-within o (Cons a (Cons u Nil)) r h (inl (inl (inl (within-itself r)))) ((left-sort p r u k.2 wp inner outer.0).0 ∙ sym k.6)
    (λ c e v g m.
    let n = seen o a u c e v h g m in
    let i = first-inner p r u c e n.x n.y k.2 wp inner (within-valued c e o (Cons a (Cons u Nil)) a (inl (within-itself a)) g) n.means_a n.means_b outer.0 in
    let low : n.y < 2 ^ width_of k.2 = subst (IsValueOf n.y) (some-same n.t k.2 (sym n.sort_b ∙ outer.1)) n.fits_b in
    let w = width_of k.2 in
    subst (Means c e r) (sym (outer-value o a u c e v k.2 wo h k.6 n ∙ ap (λ x. value_at o w w x n.y 0) i.value ∙ law w i.z n.y i.fits low)) i.means)

-- (o (p u r) u)
keep-2 : (o p : Op) (r u : Tree) → IsWide o → IsWide p → Plain (Of2 o (Of2 p u r) u) → ((w z y : ℕ) → z < 2 ^ w → y < 2 ^ w → value_at o w w (value_at p w w y z 0) y 0 ≡ z) → Keeps (Of2 o (Of2 p u r) u) r
keep-2 o p r u wo wp h law =
    let a = Of2 p u r in
    let k = two-sorts o a u h.0 in
    let outer = left-sort o a u k.2 wo h k.6 in
    let inner : Plain a = (h.0.0.0, h.1.0) in
    keep-within o (Cons a (Cons u Nil)) r h (inl (inl (inr (inl (within-itself r))))) ((left-sort p u r k.2 wp inner outer.0).1 ∙ sym k.6)
    (λ c e v g m.
    let n = seen o a u c e v h g m in
    let i = second-inner p r u c e n.x n.y k.2 wp inner (within-valued c e o (Cons a (Cons u Nil)) a (inl (within-itself a)) g) n.means_a n.means_b outer.0 in
    let low : n.y < 2 ^ width_of k.2 = subst (IsValueOf n.y) (some-same n.t k.2 (sym n.sort_b ∙ outer.1)) n.fits_b in
    let w = width_of k.2 in
    subst (Means c e r) (sym (outer-value o a u c e v k.2 wo h k.6 n ∙ ap (λ x. value_at o w w x n.y 0) i.value ∙ law w i.z n.y i.fits low)) i.means)

-- (o u (p r u))
keep-3 : (o p : Op) (r u : Tree) → IsWide o → IsWide p → Plain (Of2 o u (Of2 p r u)) → ((w z y : ℕ) → z < 2 ^ w → y < 2 ^ w → value_at o w w y (value_at p w w z y 0) 0 ≡ z) → Keeps (Of2 o u (Of2 p r u)) r
keep-3 o p r u wo wp h law =
    let b = Of2 p r u in
    let k = two-sorts o u b h.0 in
    let outer = left-sort o u b k.2 wo h k.6 in
    let inner : Plain b = (h.0.0.1.0, h.1.1.0) in
    keep-within o (Cons u (Cons b Nil)) r h (inr (inl (inl (inl (within-itself r))))) ((left-sort p r u k.2 wp inner outer.1).0 ∙ sym k.6)
    (λ c e v g m.
    let n = seen o u b c e v h g m in
    let i = first-inner p r u c e n.y n.x k.2 wp inner (within-valued c e o (Cons u (Cons b Nil)) b (inr (inl (within-itself b))) g) n.means_b n.means_a outer.1 in
    let low : n.x < 2 ^ width_of k.2 = subst (IsValueOf n.x) (some-same n.s k.2 (sym n.sort_a ∙ outer.0)) n.fits_a in
    let w = width_of k.2 in
    subst (Means c e r) (sym (outer-value o u b c e v k.2 wo h k.6 n ∙ ap (λ x. value_at o w w n.x x 0) i.value ∙ law w i.z n.x i.fits low)) i.means)

-- (o u (p u r))
keep-4 : (o p : Op) (r u : Tree) → IsWide o → IsWide p → Plain (Of2 o u (Of2 p u r)) → ((w z y : ℕ) → z < 2 ^ w → y < 2 ^ w → value_at o w w y (value_at p w w y z 0) 0 ≡ z) → Keeps (Of2 o u (Of2 p u r)) r
keep-4 o p r u wo wp h law =
    let b = Of2 p u r in
    let k = two-sorts o u b h.0 in
    let outer = left-sort o u b k.2 wo h k.6 in
    let inner : Plain b = (h.0.0.1.0, h.1.1.0) in
    keep-within o (Cons u (Cons b Nil)) r h (inr (inl (inl (inr (inl (within-itself r)))))) ((left-sort p u r k.2 wp inner outer.1).1 ∙ sym k.6)
    (λ c e v g m.
    let n = seen o u b c e v h g m in
    let i = second-inner p r u c e n.y n.x k.2 wp inner (within-valued c e o (Cons u (Cons b Nil)) b (inr (inl (within-itself b))) g) n.means_b n.means_a outer.1 in
    let low : n.x < 2 ^ width_of k.2 = subst (IsValueOf n.x) (some-same n.s k.2 (sym n.sort_a ∙ outer.0)) n.fits_a in
    let w = width_of k.2 in
    subst (Means c e r) (sym (outer-value o u b c e v k.2 wo h k.6 n ∙ ap (λ x. value_at o w w n.x x 0) i.value ∙ law w i.z n.x i.fits low)) i.means)

-- the same, by where the inner application is found
first-before : (o p : Op) (a b : Tree) → IsWide o → IsWide p → Plain (Of2 o a b) → ((w z y : ℕ) → z < 2 ^ w → y < 2 ^ w → value_at o w w (value_at p w w z y 0) y 0 ≡ z) → (u : Tree) → before p b a ≡ Some u → Keeps (Of2 o a b) u
first-before o p a b wo wp h law u e =
    let is = before-is p b a u e in
    subst (λ (x : Tree). Keeps (Of2 o x b) u) (sym is) (keep-1 o p u b wo wp (subst (λ (x : Tree). Plain (Of2 o x b)) is h) law)

first-behind : (o p : Op) (a b : Tree) → IsWide o → IsWide p → Plain (Of2 o a b) → ((w z y : ℕ) → z < 2 ^ w → y < 2 ^ w → value_at o w w (value_at p w w y z 0) y 0 ≡ z) → (u : Tree) → behind p b a ≡ Some u → Keeps (Of2 o a b) u
first-behind o p a b wo wp h law u e =
    let is = behind-is p b a u e in
    subst (λ (x : Tree). Keeps (Of2 o x b) u) (sym is) (keep-2 o p u b wo wp (subst (λ (x : Tree). Plain (Of2 o x b)) is h) law)

second-before : (o p : Op) (a b : Tree) → IsWide o → IsWide p → Plain (Of2 o a b) → ((w z y : ℕ) → z < 2 ^ w → y < 2 ^ w → value_at o w w y (value_at p w w z y 0) 0 ≡ z) → (u : Tree) → before p a b ≡ Some u → Keeps (Of2 o a b) u
second-before o p a b wo wp h law u e =
    let is = before-is p a b u e in
    subst (λ (x : Tree). Keeps (Of2 o a x) u) (sym is) (keep-3 o p u a wo wp (subst (λ (x : Tree). Plain (Of2 o a x)) is h) law)

second-behind : (o p : Op) (a b : Tree) → IsWide o → IsWide p → Plain (Of2 o a b) → ((w z y : ℕ) → z < 2 ^ w → y < 2 ^ w → value_at o w w y (value_at p w w y z 0) 0 ≡ z) → (u : Tree) → behind p a b ≡ Some u → Keeps (Of2 o a b) u
second-behind o p a b wo wp h law u e =
    let is = behind-is p a b u e in
    subst (λ (x : Tree). Keeps (Of2 o a x) u) (sym is) (keep-4 o p u a wo wp (subst (λ (x : Tree). Plain (Of2 o a x)) is h) law)

-- sums, differences and bits that are crossed twice
once-round : (m z : ℕ) → z < m → (z + m) % m ≡ z
once-round m z f =
    mod-eq-sub-mod (let le : m ≤ z + m = omega arith in le) ∙ ap (λ n. n % m) (let back : z + m - m ≡ z = omega arith in back) ∙ mod-eq_of_lt f

sum-before : (m z y : ℕ) → z < m → y < m → ((z + m - y) % m + y) % m ≡ z
sum-before m z y f g = sum_first m (z + m - y) y z g (ap (λ n. n % m) (let whole : z + m - y + y ≡ z + m = omega (arith, g) in whole) ∙ once-round m z f)

sum-behind : (m z y : ℕ) → z < m → y < m → (y + (z + m - y) % m) % m ≡ z
sum-behind m z y f g = ap (λ n. n % m) (let turned : y + (z + m - y) % m ≡ (z + m - y) % m + y = omega arith in turned) ∙ sum-before m z y f g

difference-before : (m z y : ℕ) → z < m → y < m → ((z + y) % m + m - y) % m ≡ z
difference-before m z y f g = difference_first m (z + y) y z g (ap (λ n. n % m) (let whole : z + y + m - y ≡ z + m = omega arith in whole) ∙ once-round m z f)

difference-behind : (m z y : ℕ) → z < m → y < m → ((y + z) % m + m - y) % m ≡ z
difference-behind m z y f g = ap (λ n. (n % m + m - y) % m) (let turned : y + z ≡ z + y = omega arith in turned) ∙ difference-before m z y f g

undone-kept : (o : Op) (a b u : Tree) → Plain (Of2 o a b) → undone o a b ≡ Some u → Keeps (Of2 o a b) u
undone-kept BvAdd a b u h e = either-of (Keeps (Of2 BvAdd a b)) (before BvSub b a) (before BvSub a b)
    (first-before BvAdd BvSub a b (λ ss. refl) (λ ss. refl) h (λ w z y f g. sum-before (2 ^ w) z y f g))
    (second-before BvAdd BvSub a b (λ ss. refl) (λ ss. refl) h (λ w z y f g. sum-behind (2 ^ w) z y f g)) u e
undone-kept BvSub a b u h e = either-of (Keeps (Of2 BvSub a b)) (either_side BvAdd b a) (behind BvSub a b)
    (either-of (Keeps (Of2 BvSub a b)) (before BvAdd b a) (behind BvAdd b a)
    (first-before BvSub BvAdd a b (λ ss. refl) (λ ss. refl) h (λ w z y f g. difference-before (2 ^ w) z y f g))
    (first-behind BvSub BvAdd a b (λ ss. refl) (λ ss. refl) h (λ w z y f g. difference-behind (2 ^ w) z y f g)))
    (second-behind BvSub BvSub a b (λ ss. refl) (λ ss. refl) h (λ w z y f g. difference_second (2 ^ w) y z g f)) u e
undone-kept BvXor a b u h e = either-of (Keeps (Of2 BvXor a b)) (either_side BvXor b a) (either_side BvXor a b)
    (either-of (Keeps (Of2 BvXor a b)) (before BvXor b a) (behind BvXor b a)
    (first-before BvXor BvXor a b (λ ss. refl) (λ ss. refl) h (λ w z y f g. xor_twice z y))
    (first-behind BvXor BvXor a b (λ ss. refl) (λ ss. refl) h (λ w z y f g. ap (λ n. bit_xor n y) (xor_comm y z) ∙ xor_twice z y)))
    (either-of (Keeps (Of2 BvXor a b)) (before BvXor a b) (behind BvXor a b)
    (second-before BvXor BvXor a b (λ ss. refl) (λ ss. refl) h (λ w z y f g. xor_comm y (bit_xor z y) ∙ xor_twice z y))
    (second-behind BvXor BvXor a b (λ ss. refl) (λ ss. refl) h (λ w z y f g. xor_comm y (bit_xor y z) ∙ ap (λ n. bit_xor n y) (xor_comm y z) ∙ xor_twice z y))) u e
undone-kept BvXnor a b u h e = either-of (Keeps (Of2 BvXnor a b)) (either_side BvXnor b a) (either_side BvXnor a b)
    (either-of (Keeps (Of2 BvXnor a b)) (before BvXnor b a) (behind BvXnor b a)
    (first-before BvXnor BvXnor a b (λ ss. refl) (λ ss. refl) h (λ w z y f g. xnor_twice w z y f g))
    (first-behind BvXnor BvXnor a b (λ ss. refl) (λ ss. refl) h (λ w z y f g. ap (λ n. 2 ^ w - 1 - bit_xor (2 ^ w - 1 - n) y) (xor_comm y z) ∙ xnor_twice w z y f g)))
    (either-of (Keeps (Of2 BvXnor a b)) (before BvXnor a b) (behind BvXnor a b)
    (second-before BvXnor BvXnor a b (λ ss. refl) (λ ss. refl) h (λ w z y f g. ap (λ n. 2 ^ w - 1 - n) (xor_comm y (2 ^ w - 1 - bit_xor z y)) ∙ xnor_twice w z y f g))
    (second-behind BvXnor BvXnor a b (λ ss. refl) (λ ss. refl) h (λ w z y f g.
    ap (λ n. 2 ^ w - 1 - n) (xor_comm y (2 ^ w - 1 - bit_xor y z)) ∙ ap (λ n. 2 ^ w - 1 - bit_xor (2 ^ w - 1 - n) y) (xor_comm y z) ∙ xnor_twice w z y f g))) u e
undone-kept _ a b u h e = cc

-- equations with true
truth-is : (n : ℕ) (t : Tree) → is_truth n t ≡ true → t ≡ Literal Bool n
truth-is n (Literal Bool m) h = ap (Literal Bool) (let same : m ≡ n = grind (arith, nat_tests, h) in same)
truth-is n (Literal (Bits w) m) h = cc
truth-is n (Constant i s) h = cc
truth-is n (Variable l s) h = cc
truth-is n (Apply o ts) h = cc
truth-is n (ForAll l s t) h = cc
truth-is n (Exists l s t) h = cc

two-same : (s t r : Sort) → option_map (λ _. Bool) (two_alike (s ∷ t ∷ [])) ≡ Some r → s ≡ t
two-same s t r h = go (two_alike (s ∷ t ∷ [])) refl h
  where
    go : (q : Option Sort) → two_alike (s ∷ t ∷ []) ≡ q → option_map (λ _. Bool) q ≡ Some r → s ≡ t
    go None is e = cc
    go (Some w) is e = let k = two_alike-parts (s ∷ t ∷ []) w is in cc

one-is : (y : ℕ) → y < 2 → truth (1 == y) ≡ y
one-is zero h = refl
one-is (suc zero) h = refl
one-is (suc (suc y)) h = absurd (omega (arith, h))

equals-second : (a b : Tree) → a ≡ Literal Bool 1 → Plain (Of2 Equal a b) → Keeps (Of2 Equal a b) b
equals-second a b is h =
    let k = two-sorts Equal a b h.0 in
    let bool : Bool ≡ k.0 = some-same Bool k.0 (ap tree_sort (sym is) ∙ k.3) in
    let second : k.1 ≡ Bool = sym (two-same k.0 k.1 k.2 k.5) ∙ sym bool in
    let whole : Bool ≡ k.2 = equal_bool (two_alike (k.0 ∷ k.1 ∷ [])) k.2 k.5 in
    keep-within Equal (Cons a (Cons b Nil)) b h (inr (inl (within-itself b))) (k.4 ∙ ap Some (second ∙ whole) ∙ sym k.6)
    (λ c e v g m.
    let n = seen Equal a b c e v h g m in
    let one : n.x ≡ 1 = subst (λ (t : Tree). Means c e t n.x) is n.means_a in
    let low : n.y < 2 = subst (IsValueOf n.y) (some-same n.t k.1 (sym n.sort_b ∙ k.4) ∙ second) n.fits_b in
    subst (Means c e b) (sym (n.value ∙ ap (λ x. truth (x == n.y)) one ∙ one-is n.y low)) n.means_b)

equals-first : (a b : Tree) → b ≡ Literal Bool 1 → Plain (Of2 Equal a b) → Keeps (Of2 Equal a b) a
equals-first a b is h =
    let k = two-sorts Equal a b h.0 in
    let bool : Bool ≡ k.1 = some-same Bool k.1 (ap tree_sort (sym is) ∙ k.4) in
    let first : k.0 ≡ Bool = two-same k.0 k.1 k.2 k.5 ∙ sym bool in
    let whole : Bool ≡ k.2 = equal_bool (two_alike (k.0 ∷ k.1 ∷ [])) k.2 k.5 in
    keep-within Equal (Cons a (Cons b Nil)) a h (inl (within-itself a)) (k.3 ∙ ap Some (first ∙ whole) ∙ sym k.6)
    (λ c e v g m.
    let n = seen Equal a b c e v h g m in
    let one : n.y ≡ 1 = subst (λ (t : Tree). Means c e t n.y) is n.means_b in
    let low : n.x < 2 = subst (IsValueOf n.x) (some-same n.s k.0 (sym n.sort_a ∙ k.3) ∙ first) n.fits_a in
    subst (Means c e a) (sym (n.value ∙ ap (λ y. truth (n.x == y)) one ∙ and-one n.x low)) n.means_a)

known-kept : (o : Op) (a b u : Tree) → Plain (Of2 o a b) → known o a b ≡ Some u → Keeps (Of2 o a b) u
known-kept Equal a b u h e = go (is_truth 1 a) (is_truth 1 b) refl refl e
  where
    go : (p q : Truth) → is_truth 1 a ≡ p → is_truth 1 b ≡ q → cond p (Some b) (cond q (Some a) None) ≡ Some u → Keeps (Of2 Equal a b) u
    go true q is at k = subst (Keeps (Of2 Equal a b)) (some-same _ _ k) (equals-second a b (truth-is 1 a is) h)
    go false true is at k = subst (Keeps (Of2 Equal a b)) (some-same _ _ k) (equals-first a b (truth-is 1 b at) h)
    go false false is at k = cc
known-kept _ a b u h e = cc

-- a choice between true and false
abbrev Chosen : Tree → Tree
Chosen c = Apply Ite (Cons c (Cons (Literal Bool 1) (Cons (Literal Bool 0) Nil)))

chosen-sort : (c : Tree) (s : Sort) → tree_sort c ≡ Some s → IsSome (tree_sort (Chosen c)) → (s ≡ Bool) × (tree_sort (Chosen c) ≡ Some Bool)
chosen-sort c Bool e h = (refl, rw e refl)
chosen-sort c (Bits w) e h = absurd (let none = rw e at h in let x : false ≡ true = none in cc)

chosen-keeps : (c : Tree) → Plain (Chosen c) → Keeps (Chosen c) c
chosen-keeps c h =
    let f = has_sort c no_levels h.0.0.0 in
    let k = chosen-sort c f.0 f.1 h.0.1 in
    let sort : tree_sort c ≡ Some Bool = f.1 ∙ ap Some k.0 in
    keep-within Ite (Cons c (Cons (Literal Bool 1) (Cons (Literal Bool 0) Nil))) c h (inl (within-itself c)) (sort ∙ sym k.1)
    (λ d e v g m.
    let n = three-values Ite c (Literal Bool 1) (Literal Bool 0) Bool Bool Bool d e v sort refl refl m in
    let low : n.0 < 2 = in-sort c Bool d e n.0 h.0.0.0 sort (within-valued d e Ite (Cons c (Cons (Literal Bool 1) (Cons (Literal Bool 0) Nil))) c (inl (within-itself c)) g) n.3 in
    subst (Means d e c) (sym (n.6 ∙ ap (λ y. cond (n.0 == 1) y n.2) n.4 ∙ ap (λ z. cond (n.0 == 1) 1 z) n.5 ∙ and-one n.0 low)) n.3)

chosen-kept : (o : Op) (c a b u : Tree) → Plain (Apply o (Cons c (Cons a (Cons b Nil)))) → chosen_truth o c a b ≡ Some u → Keeps (Apply o (Cons c (Cons a (Cons b Nil)))) u
chosen-kept Ite c a b u h e = where-true (Keeps (Apply Ite (Cons c (Cons a (Cons b Nil))))) (is_truth 1 a && is_truth 0 b) (Some c) (λ k.
    let tests = and_parts (is_truth 1 a) (is_truth 0 b) k in
    let first = truth-is 1 a tests.0 in
    let second = truth-is 0 b tests.1 in
    let whole : Apply Ite (Cons c (Cons a (Cons b Nil))) ≡ Chosen c = ap (λ x. Apply Ite (Cons c (Cons x (Cons b Nil)))) first ∙ ap (λ x. Apply Ite (Cons c (Cons (Literal Bool 1) (Cons x Nil)))) second in
    of-one (Keeps (Apply Ite (Cons c (Cons a (Cons b Nil))))) c (subst (λ (t : Tree). Keeps t c) (sym whole) (chosen-keeps c (subst Plain whole h)))) u e
chosen-kept _ c a b u h e = cc

twins-kept : (o : Op) (a b u : Tree) → Plain (Of2 o a b) → twins o a b ≡ Some u → Keeps (Of2 o a b) u
twins-kept o a b u h e = where-true (Keeps (Of2 o a b)) (tree_eq a b) (of_twins o a) (λ k x f. of_twins-kept o a b x (tree_eq-is a b k) h f) u e

form-kept : (r : FurtherRule) (o : Op) (ts : Trees) → Plain (Apply o ts) → (u : Tree) → further_form r o ts ≡ Some u → Keeps (Apply o ts) u
form-kept Twins o (Cons a (Cons b Nil)) h u e = twins-kept o a b u h e
form-kept PastEnds o (Cons a (Cons b Nil)) h u e = past_ends-kept o a b u h e
form-kept Opposites o (Cons a (Cons b Nil)) h u e = opposites-kept o a b u h e
form-kept Undone o (Cons a (Cons b Nil)) h u e = undone-kept o a b u h e
form-kept Known o (Cons a (Cons b Nil)) h u e = known-kept o a b u h e
form-kept ChosenTruth o (Cons c (Cons a (Cons b Nil))) h u e = chosen-kept o c a b u h e
form-kept _ o _ h u e = cc

pub further-kept : (o : Op) (ts : Trees) → IsSorted (Apply o ts) → IsQuantifierFree (Apply o ts) → (u : Tree) → further o ts ≡ Some u → Keeps (Apply o ts) u
further-kept o ts h p = each-further (Keeps (Apply o ts)) further_in_order o ts (λ r. form-kept r o ts (h, p))
