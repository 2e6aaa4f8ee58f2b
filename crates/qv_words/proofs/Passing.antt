-- A pass keeps the sort and the value of each formula.
use Rattle.std.proofs.Common.{◌≡◌, ℕ, zero, suc, ◌<◌, ◌==◌, ◌&&◌, ◌||◌, true, false, cond, Option, Some, None, IsSome, List, [], ◌∷◌, refl, sym, ap, ◌∙◌, subst, arith}
use Rattle.std.specs.Prelude.{Bool as Truth, option_map, option_and_then}
use Rattle.std.specs.List.{AllByRecursion}
use Rattle.std.proofs.lemmas.Bool.{eqb-true}
use Rattle.qv_words.specs.declared.sort.Sort.{Sort}
use Rattle.qv_words.specs.declared.sort.Sort.TheVariants.{Bool, Bits}
use Rattle.qv_words.specs.declared.op.Op.{Op}
use Rattle.qv_words.specs.declared.op.Op.TheVariants.{And, Ite, BvAdd}
use Rattle.qv_words.specs.Sort.{IsValueOf}
use Rattle.qv_words.specs.Rank.{result_sort, two_widths}
use Rattle.qv_words.specs.Op.{op_value, truth}
use Rattle.qv_words.specs.Tree.{Tree, Trees, Constant, Variable, Literal, Apply, ForAll, Exists, Nil, Cons, tree_sort, tree_sorts, IsQuantifierFree, AreQuantifierFree}
use Rattle.qv_words.specs.Sorted.{no_levels, IsSorted, AreSortedBelow, constants_of, constants_of_all, free_levels, free_levels_of_all}
use Rattle.qv_words.specs.Meaning.{Means, MeanAll}
use Rattle.qv_words.specs.Passes.{is_literal}
use Rattle.qv_words.proofs.Leaves.{front, back, both, HasValue}
use Rattle.qv_words.proofs.Unique.{one_meaning}
use Rattle.qv_words.proofs.InSort.{two_bools-parts, choice-parts, two_widths-parts}
use Rattle.qv_words.proofs.Ranks.{found}
use Rattle.qv_words.proofs.Existing.{HasConstant, some_meaning, has_sort}

-- the leaves of a tree, and of a list of trees, have values
abbrev pub Valued : List ℕ → (ℕ → Option ℕ) → Tree → Type 0
Valued c e t = AllByRecursion (HasConstant c) (constants_of t) × AllByRecursion (HasValue e) (free_levels t)

abbrev pub ValuedAll : List ℕ → (ℕ → Option ℕ) → Trees → Type 0
ValuedAll c e ts = AllByRecursion (HasConstant c) (constants_of_all ts) × AllByRecursion (HasValue e) (free_levels_of_all ts)

-- u is sorted like t, and means what t means
pub record Keeps (t u : Tree) : Type 0 where
  pub sort : tree_sort u ≡ tree_sort t
  pub sorted : IsSorted u
  pub free : IsQuantifierFree u
  pub values : (c : List ℕ) (e : ℕ → Option ℕ) → Valued c e t → Valued c e u
  pub meaning : (c : List ℕ) (e : ℕ → Option ℕ) (v : ℕ) → Valued c e t → Means c e t v → Means c e u v

pub record KeepsAll (ts us : Trees) : Type 0 where
  pub sorts : tree_sorts us ≡ tree_sorts ts
  pub sorted : AreSortedBelow no_levels us
  pub free : AreQuantifierFree us
  pub values : (c : List ℕ) (e : ℕ → Option ℕ) → ValuedAll c e ts → ValuedAll c e us
  pub meaning : (c : List ℕ) (e : ℕ → Option ℕ) (vs : List ℕ) → ValuedAll c e ts → MeanAll c e ts vs → MeanAll c e us vs

pub keeps-itself : (t : Tree) → IsSorted t → IsQuantifierFree t → Keeps t t
keeps-itself t h p = record { sort = refl; sorted = h; free = p; values = λ c e k. k; meaning = λ c e v k m. m }

pub keeps-trans : (t u x : Tree) → Keeps t u → Keeps u x → Keeps t x
keeps-trans t u x f g = record {
  sort = g.sort ∙ f.sort;
  sorted = g.sorted;
  free = g.free;
  values = λ c e k. g.values c e (f.values c e k);
  meaning = λ c e v k m. g.meaning c e v (f.values c e k) (f.meaning c e v k m);
}

-- an application of trees that are kept
pub keeps-apply : (o : Op) (ts us : Trees) → IsSome (tree_sort (Apply o ts)) → KeepsAll ts us → Keeps (Apply o ts) (Apply o us)
keeps-apply o ts us h k =
    let same : tree_sort (Apply o us) ≡ tree_sort (Apply o ts) = ap (option_and_then (result_sort o)) k.sorts in
    record {
      sort = same;
      sorted = (k.sorted, subst IsSome (sym same) h);
      free = k.free;
      values = k.values;
      meaning = λ c e v g m. (m.0, m.1, k.sorts ∙ m.2, k.meaning c e m.1 g m.3, m.4);
    }

-- the values of the first tree of a list, and of the others
first-valued : (c : List ℕ) (e : ℕ → Option ℕ) (t : Tree) (ts : Trees) → ValuedAll c e (Cons t ts) → Valued c e t
first-valued c e t ts k =
    (front (HasConstant c) (constants_of t) (constants_of_all ts) k.0, front (HasValue e) (free_levels t) (free_levels_of_all ts) k.1)

others-valued : (c : List ℕ) (e : ℕ → Option ℕ) (t : Tree) (ts : Trees) → ValuedAll c e (Cons t ts) → ValuedAll c e ts
others-valued c e t ts k =
    (back (HasConstant c) (constants_of t) (constants_of_all ts) k.0, back (HasValue e) (free_levels t) (free_levels_of_all ts) k.1)

all-valued : (c : List ℕ) (e : ℕ → Option ℕ) (t : Tree) (ts : Trees) → Valued c e t → ValuedAll c e ts → ValuedAll c e (Cons t ts)
all-valued c e t ts g k =
    (both (HasConstant c) (constants_of t) (constants_of_all ts) g.0 k.0, both (HasValue e) (free_levels t) (free_levels_of_all ts) g.1 k.1)

pub keeps-cons : (t u : Tree) (ts us : Trees) → Keeps t u → KeepsAll ts us → KeepsAll (Cons t ts) (Cons u us)
keeps-cons t u ts us f k = record {
  sorts = rw (f.sort, k.sorts) refl;
  sorted = (f.sorted, k.sorted);
  free = (f.free, k.free);
  values = λ c e g. all-valued c e u us (f.values c e (first-valued c e t ts g)) (k.values c e (others-valued c e t ts g));
  meaning = λ c e vs g m. (m.0, m.1, f.meaning c e m.0 (first-valued c e t ts g) m.2, k.meaning c e m.1 (others-valued c e t ts g) m.3, m.4);
}

-- what a tree means is of its sort
pub in-sort : (t : Tree) (s : Sort) (c : List ℕ) (e : ℕ → Option ℕ) (v : ℕ) → IsSorted t → tree_sort t ≡ Some s → Valued c e t → Means c e t v → IsValueOf v s
in-sort t s c e v h k g m =
    let some = some_meaning t no_levels c e s h g.0 g.1 k in
    subst (λ (x : ℕ). IsValueOf x s) (one_meaning t c e some.0 v some.2 m) some.1

-- a tree that means a literal's value
pub means-literal : (n : ℕ) (t : Tree) (c : List ℕ) (e : ℕ → Option ℕ) (v : ℕ) → is_literal n t ≡ true → Means c e t v → v ≡ n
means-literal n (Literal s k) c e v h m = m ∙ eqb-true k n h
means-literal n (Constant i s) c e v h m = cc
means-literal n (Variable l s) c e v h m = cc
means-literal n (Apply o ts) c e v h m = cc
means-literal n (ForAll l s t) c e v h m = cc
means-literal n (Exists l s t) c e v h m = cc

-- an application of one, two and three trees: their sorts
abbrev pub OneSorts : Op → Tree → Type 0
OneSorts o a = (s : Sort) × (r : Sort) × (tree_sort a ≡ Some s) × (result_sort o (s ∷ []) ≡ Some r) × (tree_sort (Apply o (Cons a Nil)) ≡ Some r)

abbrev pub TwoSorts : Op → Tree → Tree → Type 0
TwoSorts o a b =
    (s : Sort) × (t : Sort) × (r : Sort) × (tree_sort a ≡ Some s) × (tree_sort b ≡ Some t)
    × (result_sort o (s ∷ t ∷ []) ≡ Some r) × (tree_sort (Apply o (Cons a (Cons b Nil))) ≡ Some r)

abbrev pub ThreeSorts : Op → Tree → Tree → Tree → Type 0
ThreeSorts o a b x =
    (s : Sort) × (t : Sort) × (u : Sort) × (r : Sort) × (tree_sort a ≡ Some s) × (tree_sort b ≡ Some t) × (tree_sort x ≡ Some u)
    × (result_sort o (s ∷ t ∷ u ∷ []) ≡ Some r) × (tree_sort (Apply o (Cons a (Cons b (Cons x Nil)))) ≡ Some r)

pub one-rank : (o : Op) (a : Tree) (s r : Sort) → tree_sort a ≡ Some s → tree_sort (Apply o (Cons a Nil)) ≡ Some r → result_sort o (s ∷ []) ≡ Some r
one-rank o a s r f h = rw f at h

pub two-rank : (o : Op) (a b : Tree) (s t r : Sort) → tree_sort a ≡ Some s → tree_sort b ≡ Some t → tree_sort (Apply o (Cons a (Cons b Nil))) ≡ Some r → result_sort o (s ∷ t ∷ []) ≡ Some r
two-rank o a b s t r f g h = rw (f, g) at h

pub three-rank : (o : Op) (a b x : Tree) (s t u r : Sort) → tree_sort a ≡ Some s → tree_sort b ≡ Some t → tree_sort x ≡ Some u → tree_sort (Apply o (Cons a (Cons b (Cons x Nil)))) ≡ Some r → result_sort o (s ∷ t ∷ u ∷ []) ≡ Some r
three-rank o a b x s t u r f g k h = rw (f, g, k) at h

pub one-sorts : (o : Op) (a : Tree) → IsSorted (Apply o (Cons a Nil)) → OneSorts o a
one-sorts o a h =
    let f = has_sort a no_levels h.0.0 in
    let r = found (tree_sort (Apply o (Cons a Nil))) h.1 in
    (f.0, r.0, f.1, one-rank o a f.0 r.0 f.1 r.1, r.1)

pub two-sorts : (o : Op) (a b : Tree) → IsSorted (Apply o (Cons a (Cons b Nil))) → TwoSorts o a b
two-sorts o a b h =
    let f = has_sort a no_levels h.0.0 in
    let g = has_sort b no_levels h.0.1.0 in
    let r = found (tree_sort (Apply o (Cons a (Cons b Nil)))) h.1 in
    (f.0, g.0, r.0, f.1, g.1, two-rank o a b f.0 g.0 r.0 f.1 g.1 r.1, r.1)

three-sorts : (o : Op) (a b x : Tree) → IsSorted (Apply o (Cons a (Cons b (Cons x Nil)))) → ThreeSorts o a b x
three-sorts o a b x h =
    let f = has_sort a no_levels h.0.0 in
    let g = has_sort b no_levels h.0.1.0 in
    let k = has_sort x no_levels h.0.1.1.0 in
    let r = found (tree_sort (Apply o (Cons a (Cons b (Cons x Nil))))) h.1 in
    (f.0, g.0, k.0, r.0, f.1, g.1, k.1, three-rank o a b x f.0 g.0 k.0 r.0 f.1 g.1 k.1 r.1, r.1)

-- and their values
pub some-same : {X : Type 0} (a b : X) → Some a ≡ Some b → a ≡ b
some-same a b h = cc

pub one-value : (o : Op) (a : Tree) (s : Sort) (c : List ℕ) (e : ℕ → Option ℕ) (v : ℕ) → tree_sort a ≡ Some s → Means c e (Apply o (Cons a Nil)) v → (x : ℕ) × Means c e a x × (v ≡ op_value o (s ∷ []) (x ∷ []))
one-value o a s c e v h m =
    let sorts : s ∷ [] ≡ m.0 = some-same _ _ (rw h at m.2) in
    let args : m.1 ≡ m.3.0 ∷ [] = m.3.4 ∙ ap (λ xs. m.3.0 ∷ xs) m.3.3 in
    (m.3.0, m.3.2, m.4 ∙ ap (op_value o m.0) args ∙ ap (λ ss. op_value o ss (m.3.0 ∷ [])) (sym sorts))

pub two-values : (o : Op) (a b : Tree) (s t : Sort) (c : List ℕ) (e : ℕ → Option ℕ) (v : ℕ) → tree_sort a ≡ Some s → tree_sort b ≡ Some t → Means c e (Apply o (Cons a (Cons b Nil))) v → (x : ℕ) × (y : ℕ) × Means c e a x × Means c e b y × (v ≡ op_value o (s ∷ t ∷ []) (x ∷ y ∷ []))
two-values o a b s t c e v h k m =
    let sorts : s ∷ t ∷ [] ≡ m.0 = some-same _ _ (rw (h, k) at m.2) in
    let x = m.3.0 in
    let y = m.3.3.0 in
    let args : m.1 ≡ x ∷ y ∷ [] = m.3.4 ∙ ap (λ xs. x ∷ xs) (m.3.3.4 ∙ ap (λ xs. y ∷ xs) m.3.3.3) in
    (x, y, m.3.2, m.3.3.2, m.4 ∙ ap (op_value o m.0) args ∙ ap (λ ss. op_value o ss (x ∷ y ∷ [])) (sym sorts))

pub three-values : (o : Op) (a b d : Tree) (s t u : Sort) (c : List ℕ) (e : ℕ → Option ℕ) (v : ℕ) → tree_sort a ≡ Some s → tree_sort b ≡ Some t → tree_sort d ≡ Some u → Means c e (Apply o (Cons a (Cons b (Cons d Nil)))) v → (x : ℕ) × (y : ℕ) × (z : ℕ) × Means c e a x × Means c e b y × Means c e d z × (v ≡ op_value o (s ∷ t ∷ u ∷ []) (x ∷ y ∷ z ∷ []))
three-values o a b d s t u c e v h k l m =
    let sorts : s ∷ t ∷ u ∷ [] ≡ m.0 = some-same _ _ (rw (h, k, l) at m.2) in
    let x = m.3.0 in
    let y = m.3.3.0 in
    let z = m.3.3.3.0 in
    let args : m.1 ≡ x ∷ y ∷ z ∷ [] = m.3.4 ∙ ap (λ xs. x ∷ xs) (m.3.3.4 ∙ ap (λ xs. y ∷ xs) (m.3.3.3.4 ∙ ap (λ xs. z ∷ xs) m.3.3.3.3)) in
    (x, y, z, m.3.2, m.3.3.2, m.3.3.3.2, m.4 ∙ ap (op_value o m.0) args ∙ ap (λ ss. op_value o ss (x ∷ y ∷ z ∷ [])) (sym sorts))

-- an argument that stands for its application, by its sort and value
abbrev pub TakesFirst : Op → Tree → Tree → Type 0
TakesFirst o a b =
    (s t r : Sort) (c : List ℕ) (e : ℕ → Option ℕ) (x y : ℕ) → result_sort o (s ∷ t ∷ []) ≡ Some r → Means c e a x → Means c e b y → IsValueOf x s → IsValueOf y t →
    op_value o (s ∷ t ∷ []) (x ∷ y ∷ []) ≡ x

abbrev pub TakesSecond : Op → Tree → Tree → Type 0
TakesSecond o a b =
    (s t r : Sort) (c : List ℕ) (e : ℕ → Option ℕ) (x y : ℕ) → result_sort o (s ∷ t ∷ []) ≡ Some r → Means c e a x → Means c e b y → IsValueOf x s → IsValueOf y t →
    op_value o (s ∷ t ∷ []) (x ∷ y ∷ []) ≡ y

-- the sort of the result is that of both arguments
abbrev pub HasOneSort : Op → Type 0
HasOneSort o = (s t r : Sort) → result_sort o (s ∷ t ∷ []) ≡ Some r → (s ≡ r) × (t ≡ r)

pub keep-first : (o : Op) (a b : Tree) → HasOneSort o → IsSorted (Apply o (Cons a (Cons b Nil))) → IsQuantifierFree (Apply o (Cons a (Cons b Nil))) → TakesFirst o a b → Keeps (Apply o (Cons a (Cons b Nil))) a
keep-first o a b alike h p takes =
    let k = two-sorts o a b h in
    record {
      sort = k.3 ∙ ap Some (alike k.0 k.1 k.2 k.5).0 ∙ sym k.6;
      sorted = h.0.0;
      free = p.0;
      values = λ c e g. first-valued c e a (Cons b Nil) g;
      meaning = λ c e v g m.
          let n = two-values o a b k.0 k.1 c e v k.3 k.4 m in
          let fa = in-sort a k.0 c e n.0 h.0.0 k.3 (first-valued c e a (Cons b Nil) g) n.2 in
          let fb = in-sort b k.1 c e n.1 h.0.1.0 k.4 (first-valued c e b Nil (others-valued c e a (Cons b Nil) g)) n.3 in
          subst (Means c e a) (sym (n.4 ∙ takes k.0 k.1 k.2 c e n.0 n.1 k.5 n.2 n.3 fa fb)) n.2;
    }

pub keep-second : (o : Op) (a b : Tree) → HasOneSort o → IsSorted (Apply o (Cons a (Cons b Nil))) → IsQuantifierFree (Apply o (Cons a (Cons b Nil))) → TakesSecond o a b → Keeps (Apply o (Cons a (Cons b Nil))) b
keep-second o a b alike h p takes =
    let k = two-sorts o a b h in
    record {
      sort = k.4 ∙ ap Some (alike k.0 k.1 k.2 k.5).1 ∙ sym k.6;
      sorted = h.0.1.0;
      free = p.1.0;
      values = λ c e g. first-valued c e b Nil (others-valued c e a (Cons b Nil) g);
      meaning = λ c e v g m.
          let n = two-values o a b k.0 k.1 c e v k.3 k.4 m in
          let fa = in-sort a k.0 c e n.0 h.0.0 k.3 (first-valued c e a (Cons b Nil) g) n.2 in
          let fb = in-sort b k.1 c e n.1 h.0.1.0 k.4 (first-valued c e b Nil (others-valued c e a (Cons b Nil) g)) n.3 in
          subst (Means c e b) (sym (n.4 ∙ takes k.0 k.1 k.2 c e n.0 n.1 k.5 n.2 n.3 fa fb)) n.3;
    }

pub two_bools-alike : (s t r : Sort) → result_sort And (s ∷ t ∷ []) ≡ Some r → (s ≡ r) × (t ≡ r)
two_bools-alike s t r h = let k = two_bools-parts (s ∷ t ∷ []) r h in (cc, cc)

pub bool-value : (x : ℕ) (s t r : Sort) → result_sort And (s ∷ t ∷ []) ≡ Some r → IsValueOf x s → x < 2
bool-value x s t r h f =
    let k = two_bools-parts (s ∷ t ∷ []) r h in
    let same : s ≡ Bool = cc in
    subst (IsValueOf x) same f

pub bool-value-2 : (x : ℕ) (s t r : Sort) → result_sort And (s ∷ t ∷ []) ≡ Some r → IsValueOf x t → x < 2
bool-value-2 x s t r h f =
    let k = two_bools-parts (s ∷ t ∷ []) r h in
    let same : t ≡ Bool = cc in
    subst (IsValueOf x) same f

pub widths-alike : (s t r : Sort) → result_sort BvAdd (s ∷ t ∷ []) ≡ Some r → (s ≡ r) × (t ≡ r)
widths-alike s t r h = bits_alike (two_widths (s ∷ t ∷ [])) refl h
  where
    bits_alike : (q : Option ℕ) → two_widths (s ∷ t ∷ []) ≡ q → option_map Bits q ≡ Some r → (s ≡ r) × (t ≡ r)
    bits_alike None is e = cc
    bits_alike (Some w) is e = let k = two_widths-parts (s ∷ t ∷ []) w is in (cc, cc)

-- truth values that and and or leave
pub and-one : (x : ℕ) → x < 2 → truth (x == 1) ≡ x
and-one zero h = refl
and-one (suc zero) h = refl
and-one (suc (suc x)) h = absurd (omega (arith, h))

pub and-one-2 : (x : ℕ) → x < 2 → truth (x == 1 && true) ≡ x
and-one-2 zero h = refl
and-one-2 (suc zero) h = refl
and-one-2 (suc (suc x)) h = absurd (omega (arith, h))

pub or-zero-2 : (x : ℕ) → x < 2 → truth (x == 1 || false) ≡ x
or-zero-2 zero h = refl
or-zero-2 (suc zero) h = refl
or-zero-2 (suc (suc x)) h = absurd (omega (arith, h))

pub and-zero-2 : (x : ℕ) → truth (x == 1 && false) ≡ 0
and-zero-2 x = go (x == 1)
  where
    go : (b : Truth) → truth (b && false) ≡ 0
    go true = refl
    go false = refl

pub or-one-2 : (x : ℕ) → truth (x == 1 || true) ≡ 1
or-one-2 x = go (x == 1)
  where
    go : (b : Truth) → truth (b || true) ≡ 1
    go true = refl
    go false = refl

-- the second and the third of a choice
pub keep-then : (a b d : Tree) → is_literal 1 a ≡ true → IsSorted (Apply Ite (Cons a (Cons b (Cons d Nil)))) → IsQuantifierFree (Apply Ite (Cons a (Cons b (Cons d Nil)))) → Keeps (Apply Ite (Cons a (Cons b (Cons d Nil)))) b
keep-then a b d lit h p =
    let k = three-sorts Ite a b d h in
    let shape = choice-parts (k.0 ∷ k.1 ∷ k.2 ∷ []) k.3 k.7 in
    let same : k.1 ≡ k.3 = cc in
    record {
      sort = k.5 ∙ ap Some same ∙ sym k.8;
      sorted = h.0.1.0;
      free = p.1.0;
      values = λ c e g. first-valued c e b (Cons d Nil) (others-valued c e a (Cons b (Cons d Nil)) g);
      meaning = λ c e v g m.
          let n = three-values Ite a b d k.0 k.1 k.2 c e v k.4 k.5 k.6 m in
          let one = means-literal 1 a c e n.0 lit n.3 in
          let value : v ≡ n.1 = n.6 ∙ ap (λ x. cond (x == 1) n.1 n.2) one in
          subst (Means c e b) (sym value) n.4;
    }

pub keep-else : (a b d : Tree) → is_literal 0 a ≡ true → IsSorted (Apply Ite (Cons a (Cons b (Cons d Nil)))) → IsQuantifierFree (Apply Ite (Cons a (Cons b (Cons d Nil)))) → Keeps (Apply Ite (Cons a (Cons b (Cons d Nil)))) d
keep-else a b d lit h p =
    let k = three-sorts Ite a b d h in
    let shape = choice-parts (k.0 ∷ k.1 ∷ k.2 ∷ []) k.3 k.7 in
    let same : k.2 ≡ k.3 = cc in
    record {
      sort = k.6 ∙ ap Some same ∙ sym k.8;
      sorted = h.0.1.1.0;
      free = p.1.1.0;
      values = λ c e g. first-valued c e d Nil (others-valued c e b (Cons d Nil) (others-valued c e a (Cons b (Cons d Nil)) g));
      meaning = λ c e v g m.
          let n = three-values Ite a b d k.0 k.1 k.2 c e v k.4 k.5 k.6 m in
          let zero = means-literal 0 a c e n.0 lit n.3 in
          let value : v ≡ n.2 = n.6 ∙ ap (λ x. cond (x == 1) n.1 n.2) zero in
          subst (Means c e d) (sym value) n.5;
    }

pub keep-either : (a b d : Tree) → b ≡ d → IsSorted (Apply Ite (Cons a (Cons b (Cons d Nil)))) → IsQuantifierFree (Apply Ite (Cons a (Cons b (Cons d Nil)))) → Keeps (Apply Ite (Cons a (Cons b (Cons d Nil)))) b
keep-either a b d alike h p =
    let k = three-sorts Ite a b d h in
    let shape = choice-parts (k.0 ∷ k.1 ∷ k.2 ∷ []) k.3 k.7 in
    let same : k.1 ≡ k.3 = cc in
    record {
      sort = k.5 ∙ ap Some same ∙ sym k.8;
      sorted = h.0.1.0;
      free = p.1.0;
      values = λ c e g. first-valued c e b (Cons d Nil) (others-valued c e a (Cons b (Cons d Nil)) g);
      meaning = λ c e v g m.
          let n = three-values Ite a b d k.0 k.1 k.2 c e v k.4 k.5 k.6 m in
          let other : Means c e b n.2 = subst (λ (t : Tree). Means c e t n.2) (sym alike) n.5 in
          let equal : n.2 ≡ n.1 = one_meaning b c e n.2 n.1 other n.4 in
          let value : v ≡ n.1 = n.6 ∙ ap (cond (n.0 == 1) n.1) equal ∙ either (n.0 == 1) n.1 in
          subst (Means c e b) (sym value) n.4;
    }
  where
    either : (t : Truth) (x : ℕ) → cond t x x ≡ x
    either true x = refl
    either false x = refl

-- an operator that undoes itself
abbrev pub Undoes : Op → Type 0
Undoes o =
    (s r : Sort) → result_sort o (s ∷ []) ≡ Some r → (s ≡ r) × ((x : ℕ) → IsValueOf x s → op_value o (s ∷ []) (op_value o (s ∷ []) (x ∷ []) ∷ []) ≡ x)

pub keep-inner : (o : Op) (t : Tree) → Undoes o → IsSorted (Apply o (Cons (Apply o (Cons t Nil)) Nil)) → IsQuantifierFree (Apply o (Cons (Apply o (Cons t Nil)) Nil)) → Keeps (Apply o (Cons (Apply o (Cons t Nil)) Nil)) t
keep-inner o t undoes h p =
    let k = one-sorts o (Apply o (Cons t Nil)) h in
    let l = one-sorts o t h.0.0 in
    let inner = undoes l.0 l.1 l.3 in
    let outer = undoes k.0 k.1 k.3 in
    let middle : l.1 ≡ k.0 = some-same _ _ (sym l.4 ∙ k.2) in
    let same : l.0 ≡ k.0 = inner.0 ∙ middle in
    record {
      sort = l.2 ∙ ap Some (same ∙ outer.0) ∙ sym k.4;
      sorted = h.0.0.0.0;
      free = p.0.0;
      values = λ c e g. first-valued c e t Nil (first-valued c e (Apply o (Cons t Nil)) Nil g);
      meaning = λ c e v g m.
          let n = one-value o (Apply o (Cons t Nil)) k.0 c e v k.2 m in
          let i = one-value o t l.0 c e n.0 l.2 n.1 in
          let f = in-sort t l.0 c e i.0 h.0.0.0.0 l.2 (first-valued c e t Nil (first-valued c e (Apply o (Cons t Nil)) Nil g)) i.1 in
          let value : v ≡ i.0 = n.2 ∙ ap (λ s. op_value o (s ∷ []) (n.0 ∷ [])) (sym same) ∙ ap (λ x. op_value o (l.0 ∷ []) (x ∷ [])) i.2 ∙ inner.1 i.0 f in
          subst (Means c e t) (sym value) i.1;
    }
