-- What a tree means as a function, and trees that may stand for others.
use Rattle.std.proofs.Common.{◌≡◌, ℕ, Option, Some, List, [], ◌∷◌, ◌++◌, refl, sym, ap, ◌∙◌, subst, slice_get}
use Rattle.std.specs.Prelude.{unwrap_or, option_and_then, IsSome}
use Rattle.std.specs.List.{AllByRecursion, Contains}
use Rattle.std.proofs.lemmas.List.Elements.{All-contains, All-from_recursion, Contains-append_left, Contains-append_right}
use Rattle.qv_words.specs.declared.sort.Sort.{Sort}
use Rattle.qv_words.specs.declared.op.Op.{Op}
use Rattle.qv_words.specs.Sort.{IsValueOf}
use Rattle.qv_words.specs.Rank.{result_sort}
use Rattle.qv_words.specs.Op.{op_value}
use Rattle.qv_words.specs.Tree.{Tree, Trees, Constant, Variable, Literal, Apply, ForAll, Exists, Nil, Cons, tree_sort, tree_sorts, IsQuantifierFree, AreQuantifierFree}
use Rattle.qv_words.specs.Sorted.{no_levels, IsSorted, AreSortedBelow, constants_of, constants_of_all, free_levels, free_levels_of_all}
use Rattle.qv_words.specs.Meaning.{Means, MeanAll}
use Rattle.qv_words.proofs.Elements.{all-weaker}
use Rattle.qv_words.proofs.Leaves.{front, back, both, HasValue}
use Rattle.qv_words.proofs.Existing.{HasConstant, some_meaning, has_sort}
use Rattle.qv_words.proofs.PassLeaves.{Among, HasLeavesIn, HaveLeavesIn, leaves-itself}
use Rattle.qv_words.proofs.Passing.{Valued, ValuedAll, Keeps}

among-left : (xs ys zs : List (ℕ × Sort)) → Among xs ys → Among xs (ys ++ zs)
among-left xs ys zs f = all-weaker (Contains ys) (Contains (ys ++ zs)) xs (λ x h. Contains-append_left ys zs x h) f

among-right : (xs ys zs : List (ℕ × Sort)) → Among xs zs → Among xs (ys ++ zs)
among-right xs ys zs f = all-weaker (Contains zs) (Contains (ys ++ zs)) xs (λ x h. Contains-append_right ys zs x h) f

-- the values of the first tree of a list, and of the others
pub first-valued : (c : List ℕ) (e : ℕ → Option ℕ) (t : Tree) (ts : Trees) → ValuedAll c e (Cons t ts) → Valued c e t
first-valued c e t ts k =
    (front (HasConstant c) (constants_of t) (constants_of_all ts) k.0, front (HasValue e) (free_levels t) (free_levels_of_all ts) k.1)

pub others-valued : (c : List ℕ) (e : ℕ → Option ℕ) (t : Tree) (ts : Trees) → ValuedAll c e (Cons t ts) → ValuedAll c e ts
others-valued c e t ts k =
    (back (HasConstant c) (constants_of t) (constants_of_all ts) k.0, back (HasValue e) (free_levels t) (free_levels_of_all ts) k.1)

-- the value of a tree without quantifiers
abbrev mutual
  pub meaning : List ℕ → (ℕ → Option ℕ) → Tree → ℕ
  meaning c e (Constant i s) = unwrap_or (slice_get c i) 0
  meaning c e (Variable l s) = unwrap_or (e l) 0
  meaning c e (Literal s n) = n
  meaning c e (Apply o ts) = op_value o (unwrap_or (tree_sorts ts) []) (meanings c e ts)
  meaning c e (ForAll l s t) = 0
  meaning c e (Exists l s t) = 0

  pub meanings : List ℕ → (ℕ → Option ℕ) → Trees → List ℕ
  meanings c e Nil = []
  meanings c e (Cons t ts) = meaning c e t ∷ meanings c e ts

mutual
  pub means-meaning : (c : List ℕ) (e : ℕ → Option ℕ) (t : Tree) (v : ℕ) → IsQuantifierFree t → Means c e t v → v ≡ meaning c e t
  means-meaning c e (Constant i s) v p m = sym (ap (λ (q : Option ℕ). unwrap_or q 0) m)
  means-meaning c e (Variable l s) v p m = sym (ap (λ (q : Option ℕ). unwrap_or q 0) m)
  means-meaning c e (Literal s n) v p m = m
  means-meaning c e (Apply o ts) v p m =
      m.4 ∙ ap (op_value o m.0) (means-meanings c e ts m.1 p m.3)
      ∙ ap (λ (ss : List Sort). op_value o ss (meanings c e ts)) (sym (ap (λ (q : Option (List Sort)). unwrap_or q []) m.2))
  means-meaning c e (ForAll l s t) v p m = absurd p
  means-meaning c e (Exists l s t) v p m = absurd p

  means-meanings : (c : List ℕ) (e : ℕ → Option ℕ) (ts : Trees) (vs : List ℕ) → AreQuantifierFree ts → MeanAll c e ts vs → vs ≡ meanings c e ts
  means-meanings c e Nil vs p m = m
  means-meanings c e (Cons t ts) vs p m =
      m.4 ∙ ap (λ v. v ∷ m.1) (means-meaning c e t m.0 p.0 m.2) ∙ ap (λ us. meaning c e t ∷ us) (means-meanings c e ts m.1 p.1 m.3)

-- values for leaves
abbrev pub HaveValues : List ℕ → (ℕ → Option ℕ) → List (ℕ × Sort) → List (ℕ × Sort) → Type 0
HaveValues c e cs vs = AllByRecursion (HasConstant c) cs × AllByRecursion (HasValue e) vs

among-have : (P : ℕ × Sort → Type 0) (xs ys : List (ℕ × Sort)) → Among xs ys → AllByRecursion P ys → AllByRecursion P xs
among-have P xs ys f h = all-weaker (Contains ys) P xs (λ x k. All-contains P ys x (All-from_recursion P ys h) k) f

pub leaves-valued : (c : List ℕ) (e : ℕ → Option ℕ) (u : Tree) (cs vs : List (ℕ × Sort)) → HasLeavesIn u cs vs → HaveValues c e cs vs → Valued c e u
leaves-valued c e u cs vs l h =
    (among-have (HasConstant c) (constants_of u) cs l.constants_in h.0, among-have (HasValue e) (free_levels u) vs l.variables_in h.1)

-- a sorted tree over these leaves
pub record IsOver (cs vs : List (ℕ × Sort)) (s : Sort) (u : Tree) : Type 0 where
  pub sorted : IsSorted u
  pub free : IsQuantifierFree u
  pub sort : tree_sort u ≡ Some s
  pub leaves : HasLeavesIn u cs vs

-- it means its value, of its sort
pub over-meaning : (c : List ℕ) (e : ℕ → Option ℕ) (cs vs : List (ℕ × Sort)) (s : Sort) (u : Tree) → IsOver cs vs s u → HaveValues c e cs vs → IsValueOf (meaning c e u) s × Means c e u (meaning c e u)
over-meaning c e cs vs s u k h =
    let values = leaves-valued c e u cs vs k.leaves h in
    let some = some_meaning u no_levels c e s k.sorted values.0 values.1 k.sort in
    let is = means-meaning c e u some.0 k.free some.2 in
    (subst (λ (v : ℕ). IsValueOf v s) is some.1, subst (Means c e u) is some.2)

-- u is sorted like t, over leaves of t, and has its values
pub record Same (t u : Tree) : Type 0 where
  pub sort : tree_sort u ≡ tree_sort t
  pub sorted : IsSorted u
  pub free : IsQuantifierFree u
  pub leaves : HasLeavesIn u (constants_of t) (free_levels t)
  pub value : (c : List ℕ) (e : ℕ → Option ℕ) → Valued c e t → meaning c e u ≡ meaning c e t

pub record SameEach (ts us : Trees) : Type 0 where
  pub sorts : tree_sorts us ≡ tree_sorts ts
  pub sorted : AreSortedBelow no_levels us
  pub free : AreQuantifierFree us
  pub leaves : HaveLeavesIn us (constants_of_all ts) (free_levels_of_all ts)
  pub values : (c : List ℕ) (e : ℕ → Option ℕ) → ValuedAll c e ts → meanings c e us ≡ meanings c e ts

pub same-itself : (t : Tree) → IsSorted t → IsQuantifierFree t → Same t t
same-itself t h p = record { sort = refl; sorted = h; free = p; leaves = leaves-itself t; value = λ c e g. refl }

pub same-none : SameEach Nil Nil
same-none = record { sorts = refl; sorted = tt; free = tt; leaves = record { constants_in = tt; variables_in = tt }; values = λ c e g. refl }

pub same-cons : (t u : Tree) (ts us : Trees) → Same t u → SameEach ts us → SameEach (Cons t ts) (Cons u us)
same-cons t u ts us f k = record {
  sorts = rw (f.sort, k.sorts) refl;
  sorted = (f.sorted, k.sorted);
  free = (f.free, k.free);
  leaves = record {
    constants_in = both (Contains (constants_of_all (Cons t ts))) (constants_of u) (constants_of_all us)
        (among-left (constants_of u) (constants_of t) (constants_of_all ts) f.leaves.constants_in)
        (among-right (constants_of_all us) (constants_of t) (constants_of_all ts) k.leaves.constants_in);
    variables_in = both (Contains (free_levels_of_all (Cons t ts))) (free_levels u) (free_levels_of_all us)
        (among-left (free_levels u) (free_levels t) (free_levels_of_all ts) f.leaves.variables_in)
        (among-right (free_levels_of_all us) (free_levels t) (free_levels_of_all ts) k.leaves.variables_in);
  };
  values = λ c e g.
      ap (λ v. v ∷ meanings c e us) (f.value c e (first-valued c e t ts g)) ∙ ap (λ vs. meaning c e t ∷ vs) (k.values c e (others-valued c e t ts g));
}

pub same-apply : (o : Op) (ts us : Trees) → IsSome (tree_sort (Apply o ts)) → SameEach ts us → Same (Apply o ts) (Apply o us)
same-apply o ts us h k =
    let same : tree_sort (Apply o us) ≡ tree_sort (Apply o ts) = ap (option_and_then (result_sort o)) k.sorts in
    record {
      sort = same;
      sorted = (k.sorted, subst IsSome (sym same) h);
      free = k.free;
      leaves = record { constants_in = k.leaves.constants_in; variables_in = k.leaves.variables_in };
      value = λ c e g.
          ap (λ (q : Option (List Sort)). op_value o (unwrap_or q []) (meanings c e us)) k.sorts ∙ ap (op_value o (unwrap_or (tree_sorts ts) [])) (k.values c e g);
    }

-- a tree over the leaves of t with its sort and values
pub same-over : (t u : Tree) (s : Sort) → tree_sort t ≡ Some s → IsOver (constants_of t) (free_levels t) s u → ((c : List ℕ) (e : ℕ → Option ℕ) → Valued c e t → meaning c e u ≡ meaning c e t) → Same t u
same-over t u s is k h = record { sort = k.sort ∙ sym is; sorted = k.sorted; free = k.free; leaves = k.leaves; value = h }

-- and back
pub over-same : (t u : Tree) (s : Sort) → tree_sort t ≡ Some s → Same t u → IsOver (constants_of t) (free_levels t) s u
over-same t u s is k = record { sorted = k.sorted; free = k.free; sort = k.sort ∙ is; leaves = k.leaves }

-- then it stands for t
pub same-keeps : (t u : Tree) → IsSorted t → IsQuantifierFree t → Same t u → Keeps t u
same-keeps t u h p k =
    let at = has_sort t no_levels h in
    record {
      sort = k.sort;
      sorted = k.sorted;
      free = k.free;
      values = λ c e g. leaves-valued c e u (constants_of t) (free_levels t) k.leaves g;
      meaning = λ c e v g m.
          let over = over-meaning c e (constants_of t) (free_levels t) at.0 u (over-same t u at.0 at.1 k) g in
          subst (Means c e u) (k.value c e g ∙ sym (means-meaning c e t v p m)) over.1;
    }
