-- Where a rule fits, its right form keeps the sort and the value of its left form.
use Rattle.std.proofs.Common.{◌≡◌, ℕ, zero, suc, ◌+◌, ◌-◌, ◌*◌, ◌%◌, ◌^◌, ◌<◌, ◌≤◌, ◌==◌, true, false, cond, Option, Some, None, List, [], ◌∷◌, refl, sym, ap, ◌∙◌, subst, arith, lit<, lit≤}
use Rattle.std.specs.Prelude.{Bool as Truth, option_map, option_and_then}
use Rattle.std.specs.List.{AllByRecursion, AllZip}
use Rattle.std.proofs.lemmas.List.Elements.{All-from_recursion}
use Rattle.std.proofs.Math.Nat.{mod-eq_of_lt, mod-eq-sub-mod, mod_self}
use Rattle.std.proofs.lemmas.Nat.{pow_pos}
use Rattle.std.proofs.lemmas.Bool.Decides.{nat_tests}
use Rattle.qv_words.specs.declared.sort.Sort.{Sort}
use Rattle.qv_words.specs.declared.sort.Sort.TheVariants.{Bool, Bits}
use Rattle.qv_words.specs.declared.op.Op.{Op}
use Rattle.qv_words.specs.declared.op.Op.TheVariants.{Not, And, Or, Equal, Ite, BvNot, BvNeg, BvAdd, BvSub, BvMul}
use Rattle.qv_words.specs.Sort.{IsLawful, IsValueOf, width_of}
use Rattle.qv_words.specs.Rank.{result_sort, two_alike, one_width}
use Rattle.qv_words.specs.Signed.{negated}
use Rattle.qv_words.specs.Op.{op_value, truth}
use Rattle.qv_words.specs.Tree.{Tree, Trees, Literal, Apply, Nil, Cons, tree_sorts, IsQuantifierFree}
use Rattle.qv_words.specs.Sorted.{no_levels, IsSorted, AreSortedBelow}
use Rattle.qv_words.specs.Meaning.{Means, MeanAll}
use Rattle.qv_words.specs.Equality.{tree_eq, op_eq}
use Rattle.qv_words.specs.declared.rule.Rule.{Rule}
use Rattle.qv_words.specs.declared.rule.Rule.TheVariants.{Fold, Same, NotNot, Unit as UnitRule, Absorb, IteKnown, IteSame, AddZero, MulOne, MulZero}
use Rattle.qv_words.specs.Passes.{truth_literal, is_literal, Literals, literals_of, fold_literals, under_both, beside, among_two, rewritten}
use Rattle.qv_words.proofs.Equals.{tree_eq-is, op_eq-is}
use Rattle.qv_words.proofs.Unique.{one_meaning}
use Rattle.qv_words.proofs.InSort.{op_in_sort, one_bool-parts, equal_bool}
use Rattle.qv_words.proofs.Passing.{Keeps, keep-first, keep-second, keep-then, keep-else, keep-either, keep-inner, TakesFirst, TakesSecond, HasOneSort, Undoes, two-sorts, two-values, two_bools-alike, bool-value, bool-value-2, widths-alike, and-one, and-one-2, or-zero-2, and-zero-2, or-one-2, means-literal, some-same}

-- what an application is kept as
abbrev Of2 : Op → Tree → Tree → Tree
Of2 o a b = Apply o (Cons a (Cons b Nil))

abbrev Plain : Tree → Type 0
Plain t = IsSorted t × IsQuantifierFree t

-- every rule keeps what it fits
abbrev pub RulesKeep : Type 0
RulesKeep = (r : Rule) (o : Op) (ts : Trees) (u : Tree) → IsSorted (Apply o ts) → IsQuantifierFree (Apply o ts) → rewritten r o ts ≡ Some u → Keeps (Apply o ts) u

-- the right forms of a conjunction with the unit, and of a difference from which 0 is taken
abbrev pub ConjunctionForm : Type 0
ConjunctionForm = (a b : Tree) → rewritten UnitRule And (Cons a (Cons b Nil)) ≡ beside 1 a b

abbrev pub DifferenceForm : Type 0
DifferenceForm = (a b : Tree) → rewritten AddZero BvSub (Cons a (Cons b Nil)) ≡ cond (is_literal 0 b) (Some a) None

-- either of two, where one is a literal
beside-kept : (o : Op) (n : ℕ) (a b u : Tree) → HasOneSort o → Plain (Of2 o a b) → (is_literal n a ≡ true → TakesSecond o a b) → (is_literal n b ≡ true → TakesFirst o a b) → beside n a b ≡ Some u → Keeps (Of2 o a b) u
beside-kept o n a b u alike h second first e = go (is_literal n a) (is_literal n b) refl refl e
  where
    go : (p q : Truth) → is_literal n a ≡ p → is_literal n b ≡ q → cond p (Some b) (cond q (Some a) None) ≡ Some u → Keeps (Of2 o a b) u
    go true q is at k = subst (Keeps (Of2 o a b)) (some-same _ _ k) (keep-second o a b alike h.0 h.1 (second is))
    go false true is at k = subst (Keeps (Of2 o a b)) (some-same _ _ k) (keep-first o a b alike h.0 h.1 (first at))
    go false false is at k = cc

among-kept : (o : Op) (n : ℕ) (a b u : Tree) → HasOneSort o → Plain (Of2 o a b) → (is_literal n a ≡ true → TakesFirst o a b) → (is_literal n b ≡ true → TakesSecond o a b) → among_two n a b ≡ Some u → Keeps (Of2 o a b) u
among-kept o n a b u alike h first second e = go (is_literal n a) (is_literal n b) refl refl e
  where
    go : (p q : Truth) → is_literal n a ≡ p → is_literal n b ≡ q → cond p (Some a) (cond q (Some b) None) ≡ Some u → Keeps (Of2 o a b) u
    go true q is at k = subst (Keeps (Of2 o a b)) (some-same _ _ k) (keep-first o a b alike h.0 h.1 (first is))
    go false true is at k = subst (Keeps (Of2 o a b)) (some-same _ _ k) (keep-second o a b alike h.0 h.1 (second at))
    go false false is at k = cc

-- and, or, sums and products with such a literal
and-second : (a b : Tree) → is_literal 1 a ≡ true → TakesSecond And a b
and-second a b lit s t r c e x y h ma mb fa fb =
    rw (means-literal 1 a c e x lit ma) (and-one y (bool-value-2 y s t r h fb))

and-first : (a b : Tree) → is_literal 1 b ≡ true → TakesFirst And a b
and-first a b lit s t r c e x y h ma mb fa fb =
    rw (means-literal 1 b c e y lit mb) (and-one-2 x (bool-value x s t r h fa))

or-second : (a b : Tree) → is_literal 0 a ≡ true → TakesSecond Or a b
or-second a b lit s t r c e x y h ma mb fa fb =
    rw (means-literal 0 a c e x lit ma) (and-one y (bool-value-2 y s t r h fb))

or-first : (a b : Tree) → is_literal 0 b ≡ true → TakesFirst Or a b
or-first a b lit s t r c e x y h ma mb fa fb =
    rw (means-literal 0 b c e y lit mb) (or-zero-2 x (bool-value x s t r h fa))

and-absorbs : (a b : Tree) → is_literal 0 a ≡ true → TakesFirst And a b
and-absorbs a b lit s t r c e x y h ma mb fa fb = rw (means-literal 0 a c e x lit ma)

and-absorbs-2 : (a b : Tree) → is_literal 0 b ≡ true → TakesSecond And a b
and-absorbs-2 a b lit s t r c e x y h ma mb fa fb = rw (means-literal 0 b c e y lit mb) (and-zero-2 x)

or-absorbs : (a b : Tree) → is_literal 1 a ≡ true → TakesFirst Or a b
or-absorbs a b lit s t r c e x y h ma mb fa fb = rw (means-literal 1 a c e x lit ma)

or-absorbs-2 : (a b : Tree) → is_literal 1 b ≡ true → TakesSecond Or a b
or-absorbs-2 a b lit s t r c e x y h ma mb fa fb = rw (means-literal 1 b c e y lit mb) (or-one-2 x)

-- a number of the width, from numbers that are it
itself : (w n x : ℕ) → n ≡ x → x < 2 ^ w → n % 2 ^ w ≡ x
itself w n x e f = ap (λ k. k % 2 ^ w) e ∙ mod-eq_of_lt f

other-value : (y : ℕ) (s t r : Sort) → result_sort BvAdd (s ∷ t ∷ []) ≡ Some r → IsValueOf y t → y < 2 ^ width_of s
other-value y s t r h f =
    let k = widths-alike s t r h in
    let same : t ≡ s = k.1 ∙ sym k.0 in
    subst (IsValueOf y) same f

add-second : (a b : Tree) → is_literal 0 a ≡ true → TakesSecond BvAdd a b
add-second a b lit s t r c e x y h ma mb fa fb =
    let none : x ≡ 0 = means-literal 0 a c e x lit ma in
    itself (width_of s) (x + y) y (omega arith) (other-value y s t r h fb)

add-first : (a b : Tree) → is_literal 0 b ≡ true → TakesFirst BvAdd a b
add-first a b lit s t r c e x y h ma mb fa fb =
    let none : y ≡ 0 = means-literal 0 b c e y lit mb in
    itself (width_of s) (x + y) x (omega arith) fa

sub-first : (a b : Tree) → is_literal 0 b ≡ true → TakesFirst BvSub a b
sub-first a b lit s t r c e x y h ma mb fa fb =
    let none : y ≡ 0 = means-literal 0 b c e y lit mb in
    let m = 2 ^ width_of s in
    let positive : 0 < m = pow_pos (width_of s) in
    let low : x < m = fa in
    let whole : x + m - 0 ≡ x + m = omega arith in
    ap (λ n. (x + m - n) % m) none ∙ ap (λ n. n % m) whole ∙ mod-eq-sub-mod ((let le : m ≤ x + m = omega arith in le)) ∙ ap (λ n. n % m) (let back : x + m - m ≡ x = omega arith in back) ∙ mod-eq_of_lt low

mul-second : (a b : Tree) → is_literal 1 a ≡ true → TakesSecond BvMul a b
mul-second a b lit s t r c e x y h ma mb fa fb =
    let one : x ≡ 1 = means-literal 1 a c e x lit ma in
    itself (width_of s) (x * y) y (ap (λ n. n * y) one ∙ omega arith) (other-value y s t r h fb)

mul-first : (a b : Tree) → is_literal 1 b ≡ true → TakesFirst BvMul a b
mul-first a b lit s t r c e x y h ma mb fa fb =
    let one : y ≡ 1 = means-literal 1 b c e y lit mb in
    itself (width_of s) (x * y) x (ap (λ n. x * n) one ∙ omega arith) fa

mul-absorbs : (a b : Tree) → is_literal 0 a ≡ true → TakesFirst BvMul a b
mul-absorbs a b lit s t r c e x y h ma mb fa fb =
    let none : x ≡ 0 = means-literal 0 a c e x lit ma in
    itself (width_of s) (x * y) x (ap (λ n. n * y) none ∙ (let z : 0 * y ≡ 0 = omega arith in z) ∙ sym none) fa

mul-absorbs-2 : (a b : Tree) → is_literal 0 b ≡ true → TakesSecond BvMul a b
mul-absorbs-2 a b lit s t r c e x y h ma mb fa fb =
    let none : y ≡ 0 = means-literal 0 b c e y lit mb in
    itself (width_of s) (x * y) y (ap (λ n. x * n) none ∙ (let z : x * 0 ≡ 0 = omega arith in z) ∙ sym none) (other-value y s t r h fb)

-- negations undo themselves
not-undoes : Undoes Not
not-undoes s r h =
    let k = one_bool-parts (s ∷ []) r h in
    let same : s ≡ Bool = cc in
    (cc, λ x f. let low : x < 2 = subst (IsValueOf x) same f in omega (arith, low))

width-undoes : (s r : Sort) → option_map Bits (one_width (s ∷ [])) ≡ Some r → s ≡ r
width-undoes Bool r h = cc
width-undoes (Bits w) r h = cc

bvnot-undoes : Undoes BvNot
bvnot-undoes s r h = (width-undoes s r h, λ x f. let low : x < 2 ^ width_of s = f in let m = 2 ^ width_of s in omega (arith, low))

pub negated-negated : (w x : ℕ) → x < 2 ^ w → negated w (negated w x) ≡ x
negated-negated w zero f =
    let m = 2 ^ w in
    let none : (m - 0) % m ≡ 0 = ap (λ n. n % m) (omega arith) ∙ mod_self m in
    ap (λ n. (m - n) % m) none ∙ none
negated-negated w (suc x) f =
    let m = 2 ^ w in
    let low : suc x < m = f in
    let inner : (m - suc x) % m ≡ m - suc x = mod-eq_of_lt (omega (arith, low)) in
    let outer : m - (m - suc x) ≡ suc x = omega (arith, low) in
    ap (λ n. (m - n) % m) inner ∙ ap (λ n. n % m) outer ∙ mod-eq_of_lt low

bvneg-undoes : Undoes BvNeg
bvneg-undoes s r h = (width-undoes s r h, λ x f. negated-negated (width_of s) x f)

under-kept : (o : Op) (a u : Tree) → Undoes o → Plain (Apply o (Cons a Nil)) → under_both o a ≡ Some u → Keeps (Apply o (Cons a Nil)) u
under-kept o (Apply p (Cons t Nil)) u undoes h e = go (op_eq o p) refl e
  where
    go : (q : Truth) → op_eq o p ≡ q → cond q (Some t) None ≡ Some u → Keeps (Apply o (Cons (Apply p (Cons t Nil)) Nil)) u
    go true is k =
        let same : o ≡ p = op_eq-is o p is in
        let at : Plain (Apply o (Cons (Apply o (Cons t Nil)) Nil)) = subst (λ (q : Op). Plain (Apply o (Cons (Apply q (Cons t Nil)) Nil))) (sym same) h in
        let kept : Keeps (Apply o (Cons (Apply p (Cons t Nil)) Nil)) t = subst (λ (q : Op). Keeps (Apply o (Cons (Apply q (Cons t Nil)) Nil)) t) same (keep-inner o t undoes at.0 at.1) in
        subst (Keeps (Apply o (Cons (Apply p (Cons t Nil)) Nil))) (some-same _ _ k) kept
    go false is k = cc
under-kept o _ u undoes h e = cc

-- an equality of a tree with itself
keep-true : (a b : Tree) → a ≡ b → Plain (Of2 Equal a b) → Keeps (Of2 Equal a b) (truth_literal true)
keep-true a b alike h =
    let k = two-sorts Equal a b h.0 in
    record {
      sort = ap Some (equal_bool (two_alike (k.0 ∷ k.1 ∷ [])) k.2 k.5) ∙ sym k.6;
      sorted = ((lit≤ tt, lit≤ tt), lit< tt);
      free = tt;
      values = λ c e g. (tt, tt);
      meaning = λ c e v g m.
          let n = two-values Equal a b k.0 k.1 c e v k.3 k.4 m in
          let other : Means c e b n.0 = subst (λ (t : Tree). Means c e t n.0) alike n.2 in
          let equal : n.0 ≡ n.1 = one_meaning b c e n.0 n.1 other n.3 in
          n.4 ∙ ap (λ x. truth (x == n.1)) equal ∙ ap truth (test-itself n.1);
    }
  where
    test-itself : (n : ℕ) → (n == n) ≡ true
    test-itself n = grind (arith, nat_tests)

-- an application of literals: their sorts and values
literal-sorts : (ts : Trees) (l : Literals) → literals_of ts ≡ Some l → tree_sorts ts ≡ Some l.sorts
literal-sorts Nil l h = ap (λ (q : Option Literals). option_map (λ k. k.sorts) q) h
literal-sorts (Cons (Literal s n) ts) l h = go (λ k is. literal-sorts ts k is) (literals_of ts) refl h
  where
    go : ((k : Literals) → literals_of ts ≡ Some k → tree_sorts ts ≡ Some k.sorts) → (q : Option Literals) → literals_of ts ≡ q → option_map (λ k. record { sorts = s ∷ k.sorts; values = n ∷ k.values }) q ≡ Some l → tree_sorts (Cons (Literal s n) ts) ≡ Some l.sorts
    go rest None is e = cc
    go rest (Some k) is e =
        ap (option_map (λ sorts. s ∷ sorts)) (rest k is) ∙ ap (λ (q : Option Literals). option_map (λ k. k.sorts) q) e
literal-sorts (Cons _ ts) l h = cc

literal-lawful : (ts : Trees) (l : Literals) → AreSortedBelow no_levels ts → literals_of ts ≡ Some l → AllByRecursion IsLawful l.sorts × AllZip IsValueOf l.values l.sorts
literal-lawful Nil l g h =
    let same : record { sorts = []; values = [] } ≡ l = some-same _ _ h in
    subst (λ (k : Literals). AllByRecursion IsLawful k.sorts × AllZip IsValueOf k.values k.sorts) same (tt, tt)
literal-lawful (Cons (Literal s n) ts) l g h = go (λ k is. literal-lawful ts k g.1 is) (literals_of ts) refl h
  where
    go : ((k : Literals) → literals_of ts ≡ Some k → AllByRecursion IsLawful k.sorts × AllZip IsValueOf k.values k.sorts) → (q : Option Literals) → literals_of ts ≡ q → option_map (λ k. record { sorts = s ∷ k.sorts; values = n ∷ k.values }) q ≡ Some l → AllByRecursion IsLawful l.sorts × AllZip IsValueOf l.values l.sorts
    go rest None is e = cc
    go rest (Some k) is e =
        let others = rest k is in
        let same : record { sorts = s ∷ k.sorts; values = n ∷ k.values } ≡ l = some-same _ _ e in
        subst (λ (k : Literals). AllByRecursion IsLawful k.sorts × AllZip IsValueOf k.values k.sorts) same ((g.0.0, others.0), (g.0.1, others.1))
literal-lawful (Cons _ ts) l g h = cc

literal-meaning : (ts : Trees) (l : Literals) (c : List ℕ) (e : ℕ → Option ℕ) → literals_of ts ≡ Some l → (vs : List ℕ) → MeanAll c e ts vs → vs ≡ l.values
literal-meaning Nil l c e h vs m =
    let same : record { sorts = []; values = [] } ≡ l = some-same _ _ h in
    m ∙ ap (λ (k : Literals). k.values) same
literal-meaning (Cons (Literal s n) ts) l c e h vs m = go (λ k is. literal-meaning ts k c e is m.1 m.3) (literals_of ts) refl h
  where
    go : ((k : Literals) → literals_of ts ≡ Some k → m.1 ≡ k.values) → (q : Option Literals) → literals_of ts ≡ q → option_map (λ k. record { sorts = s ∷ k.sorts; values = n ∷ k.values }) q ≡ Some l → vs ≡ l.values
    go rest None is e' = cc
    go rest (Some k) is e' =
        let same : record { sorts = s ∷ k.sorts; values = n ∷ k.values } ≡ l = some-same _ _ e' in
        m.4 ∙ ap (λ x. x ∷ m.1) m.2 ∙ ap (λ xs. n ∷ xs) (rest k is) ∙ ap (λ (k : Literals). k.values) same
literal-meaning (Cons _ ts) l c e h vs m = cc

fold-kept : (o : Op) (ts : Trees) (u : Tree) → Plain (Apply o ts) → fold_literals o (literals_of ts) ≡ Some u → Keeps (Apply o ts) u
fold-kept o ts u h = go (literals_of ts) refl
  where
    at : (l : Literals) → literals_of ts ≡ Some l → (r : Sort) → result_sort o l.sorts ≡ Some r → Keeps (Apply o ts) (Literal r (op_value o l.sorts l.values))
    at l is r rank =
        let sorts = literal-sorts ts l is in
        let parts = literal-lawful ts l h.0.0 is in
        let fits = op_in_sort o l.sorts r l.values (All-from_recursion IsLawful l.sorts parts.0) parts.1 rank in
        record {
          sort = sym rank ∙ sym (ap (option_and_then (result_sort o)) sorts);
          sorted = fits;
          free = tt;
          values = λ c e g. (tt, tt);
          meaning = λ c e v g m.
              m.4 ∙ ap (op_value o m.0) (literal-meaning ts l c e is m.1 m.3) ∙ ap (λ ss. op_value o ss l.values) (some-same _ _ (sym m.2 ∙ sorts));
        }

    inner : (l : Literals) → literals_of ts ≡ Some l → (q : Option Sort) → result_sort o l.sorts ≡ q → option_map (λ s. Literal s (op_value o l.sorts l.values)) q ≡ Some u → Keeps (Apply o ts) u
    inner l is None rank e = cc
    inner l is (Some r) rank e = subst (Keeps (Apply o ts)) (some-same _ _ e) (at l is r rank)

    go : (q : Option Literals) → literals_of ts ≡ q → fold_literals o q ≡ Some u → Keeps (Apply o ts) u
    go None is e = cc
    go (Some l) is e = inner l is (result_sort o l.sorts) refl e

-- each rule
same-kept : (o : Op) (ts : Trees) (u : Tree) → Plain (Apply o ts) → rewritten Same o ts ≡ Some u → Keeps (Apply o ts) u
same-kept Equal (Cons a (Cons b Nil)) u h e = go (tree_eq a b) refl e
  where
    go : (q : Truth) → tree_eq a b ≡ q → cond q (Some (truth_literal true)) None ≡ Some u → Keeps (Of2 Equal a b) u
    go true is k = subst (Keeps (Of2 Equal a b)) (some-same _ _ k) (keep-true a b (tree_eq-is a b is) h)
    go false is k = cc
same-kept _ _ u h e = cc

not-kept : (o : Op) (ts : Trees) (u : Tree) → Plain (Apply o ts) → rewritten NotNot o ts ≡ Some u → Keeps (Apply o ts) u
not-kept Not (Cons a Nil) u h e = under-kept Not a u not-undoes h e
not-kept BvNot (Cons a Nil) u h e = under-kept BvNot a u bvnot-undoes h e
not-kept BvNeg (Cons a Nil) u h e = under-kept BvNeg a u bvneg-undoes h e
not-kept _ _ u h e = cc

unit-kept : ConjunctionForm → (o : Op) (ts : Trees) (u : Tree) → Plain (Apply o ts) → rewritten UnitRule o ts ≡ Some u → Keeps (Apply o ts) u
unit-kept form And (Cons a (Cons b Nil)) u h e = beside-kept And 1 a b u two_bools-alike h (and-second a b) (and-first a b) (sym (form a b) ∙ e)
unit-kept form Or (Cons a (Cons b Nil)) u h e = beside-kept Or 0 a b u two_bools-alike h (or-second a b) (or-first a b) e
unit-kept form _ _ u h e = cc

absorb-kept : (o : Op) (ts : Trees) (u : Tree) → Plain (Apply o ts) → rewritten Absorb o ts ≡ Some u → Keeps (Apply o ts) u
absorb-kept And (Cons a (Cons b Nil)) u h e = among-kept And 0 a b u two_bools-alike h (and-absorbs a b) (and-absorbs-2 a b) e
absorb-kept Or (Cons a (Cons b Nil)) u h e = among-kept Or 1 a b u two_bools-alike h (or-absorbs a b) (or-absorbs-2 a b) e
absorb-kept _ _ u h e = cc

ite_known-kept : (o : Op) (ts : Trees) (u : Tree) → Plain (Apply o ts) → rewritten IteKnown o ts ≡ Some u → Keeps (Apply o ts) u
ite_known-kept Ite (Cons c (Cons a (Cons b Nil))) u h e = go (is_literal 1 c) (is_literal 0 c) refl refl e
  where
    t : Tree
    t = Apply Ite (Cons c (Cons a (Cons b Nil)))

    go : (p q : Truth) → is_literal 1 c ≡ p → is_literal 0 c ≡ q → cond p (Some a) (cond q (Some b) None) ≡ Some u → Keeps (Apply Ite (Cons c (Cons a (Cons b Nil)))) u
    go true q is at k = subst (Keeps (Apply Ite (Cons c (Cons a (Cons b Nil))))) (some-same _ _ k) (keep-then c a b is h.0 h.1)
    go false true is at k = subst (Keeps (Apply Ite (Cons c (Cons a (Cons b Nil))))) (some-same _ _ k) (keep-else c a b at h.0 h.1)
    go false false is at k = cc
ite_known-kept _ _ u h e = cc

ite_same-kept : (o : Op) (ts : Trees) (u : Tree) → Plain (Apply o ts) → rewritten IteSame o ts ≡ Some u → Keeps (Apply o ts) u
ite_same-kept Ite (Cons c (Cons a (Cons b Nil))) u h e = go (tree_eq a b) refl e
  where
    go : (q : Truth) → tree_eq a b ≡ q → cond q (Some a) None ≡ Some u → Keeps (Apply Ite (Cons c (Cons a (Cons b Nil)))) u
    go true is k = subst (Keeps (Apply Ite (Cons c (Cons a (Cons b Nil))))) (some-same _ _ k) (keep-either c a b (tree_eq-is a b is) h.0 h.1)
    go false is k = cc
ite_same-kept _ _ u h e = cc

add_zero-kept : DifferenceForm → (o : Op) (ts : Trees) (u : Tree) → Plain (Apply o ts) → rewritten AddZero o ts ≡ Some u → Keeps (Apply o ts) u
add_zero-kept form BvAdd (Cons a (Cons b Nil)) u h e = beside-kept BvAdd 0 a b u widths-alike h (add-second a b) (add-first a b) e
add_zero-kept form BvSub (Cons a (Cons b Nil)) u h e = go (is_literal 0 b) refl (sym (form a b) ∙ e)
  where
    go : (q : Truth) → is_literal 0 b ≡ q → cond q (Some a) None ≡ Some u → Keeps (Of2 BvSub a b) u
    go true is k = subst (Keeps (Of2 BvSub a b)) (some-same _ _ k) (keep-first BvSub a b widths-alike h.0 h.1 (sub-first a b is))
    go false is k = cc
add_zero-kept form _ _ u h e = cc

mul_one-kept : (o : Op) (ts : Trees) (u : Tree) → Plain (Apply o ts) → rewritten MulOne o ts ≡ Some u → Keeps (Apply o ts) u
mul_one-kept BvMul (Cons a (Cons b Nil)) u h e = beside-kept BvMul 1 a b u widths-alike h (mul-second a b) (mul-first a b) e
mul_one-kept _ _ u h e = cc

mul_zero-kept : (o : Op) (ts : Trees) (u : Tree) → Plain (Apply o ts) → rewritten MulZero o ts ≡ Some u → Keeps (Apply o ts) u
mul_zero-kept BvMul (Cons a (Cons b Nil)) u h e = among-kept BvMul 0 a b u widths-alike h (mul-absorbs a b) (mul-absorbs-2 a b) e
mul_zero-kept _ _ u h e = cc

pub rules-keep : ConjunctionForm → DifferenceForm → RulesKeep
rules-keep conjunction difference Fold o ts u h p e = fold-kept o ts u (h, p) e
rules-keep conjunction difference Same o ts u h p e = same-kept o ts u (h, p) e
rules-keep conjunction difference NotNot o ts u h p e = not-kept o ts u (h, p) e
rules-keep conjunction difference UnitRule o ts u h p e = unit-kept conjunction o ts u (h, p) e
rules-keep conjunction difference Absorb o ts u h p e = absorb-kept o ts u (h, p) e
rules-keep conjunction difference IteKnown o ts u h p e = ite_known-kept o ts u (h, p) e
rules-keep conjunction difference IteSame o ts u h p e = ite_same-kept o ts u (h, p) e
rules-keep conjunction difference AddZero o ts u h p e = add_zero-kept difference o ts u (h, p) e
rules-keep conjunction difference MulOne o ts u h p e = mul_one-kept o ts u (h, p) e
rules-keep conjunction difference MulZero o ts u h p e = mul_zero-kept o ts u (h, p) e
