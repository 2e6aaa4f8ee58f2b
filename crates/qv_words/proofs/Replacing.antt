-- A tree with trees put in for its variables.
use Rattle.std.proofs.Common.{◌≡◌, ℕ, Option, Some, None, List, refl, sym, ap, ◌∙◌, subst}
use Rattle.std.specs.Prelude.{IfSome, IsSomeAnd, MatchOption, unwrap_or, option_and_then}
use Rattle.std.specs.List.{AllByRecursion}
use Rattle.std.proofs.lemmas.List.Elements.{recursion_from_All}
use Rattle.qv_words.specs.declared.sort.Sort.{Sort}
use Rattle.qv_words.specs.Rank.{result_sort}
use Rattle.qv_words.specs.Tree.{Tree, Trees, Constant, Variable, Literal, Apply, ForAll, Exists, Nil, Cons, tree_sort, tree_sorts, IsQuantifierFree, AreQuantifierFree}
use Rattle.qv_words.specs.Sorted.{free_levels, free_levels_of_all}
use Rattle.qv_words.specs.Meaning.{Means, MeanAll}
use Rattle.qv_words.specs.Laws.{ReplacementKeepsMeaning}
use Rattle.qv_words.specs.Replacement.{replaced, replaced_each}
use Rattle.qv_words.proofs.Leaves.{front, back}
use Rattle.qv_words.proofs.Unique.{one_meaning}

-- f has at the leaf's level what the tree put in means, or what e has
abbrev pub TakesItsMeaning : List ℕ → (ℕ → Option Tree) → (ℕ → Option ℕ) → (ℕ → Option ℕ) → ℕ × Sort → Type 0
TakesItsMeaning c b e f leaf = MatchOption (b leaf.0) (f leaf.0 ≡ e leaf.0) (λ put. IsSomeAnd (f leaf.0) (λ v. Means c e put v))

-- the tree put in at a leaf has the leaf's sort
abbrev pub HasItsSort : (ℕ → Option Tree) → ℕ × Sort → Type 0
HasItsSort b leaf = IfSome (b leaf.0) (λ put. tree_sort put ≡ Some leaf.1)

sort_put : (o : Option Tree) (l : ℕ) (s : Sort) → IfSome o (λ put. tree_sort put ≡ Some s) → tree_sort (unwrap_or o (Variable l s)) ≡ Some s
sort_put None l s h = refl
sort_put (Some put) l s h = h

mutual
  pub same_sort : (t : Tree) (b : ℕ → Option Tree) → IsQuantifierFree t → AllByRecursion (HasItsSort b) (free_levels t) → tree_sort (replaced b t) ≡ tree_sort t
  same_sort (Constant i s) b plain h = refl
  same_sort (Variable l s) b plain h = sort_put (b l) l s h.0
  same_sort (Literal s n) b plain h = refl
  same_sort (Apply o args) b plain h = ap (option_and_then (result_sort o)) (same_sorts args b plain h)
  same_sort (ForAll l s body) b plain h = absurd plain
  same_sort (Exists l s body) b plain h = absurd plain

  pub same_sorts : (ts : Trees) (b : ℕ → Option Tree) → AreQuantifierFree ts → AllByRecursion (HasItsSort b) (free_levels_of_all ts) → tree_sorts (replaced_each b ts) ≡ tree_sorts ts
  same_sorts Nil b plain h = refl
  same_sorts (Cons t ts) b plain h =
      let first = same_sort t b plain.0 (front (HasItsSort b) (free_levels t) (free_levels_of_all ts) h) in
      let others = same_sorts ts b plain.1 (back (HasItsSort b) (free_levels t) (free_levels_of_all ts) h) in
      rw (first, others)

means_put : (c : List ℕ) (e : ℕ → Option ℕ) (o : Option Tree) (p : Option ℕ) (l : ℕ) (s : Sort) (v : ℕ) → MatchOption o (p ≡ e l) (λ put. IsSomeAnd p (λ u. Means c e put u)) → p ≡ Some v → Means c e (unwrap_or o (Variable l s)) v
means_put c e None p l s v h is = sym h ∙ is
means_put c e (Some put) p l s v h is = subst (λ (q : Option ℕ). IsSomeAnd q (λ u. Means c e put u)) is h

mutual
  pub same_value : (t : Tree) (c : List ℕ) (b : ℕ → Option Tree) (e f : ℕ → Option ℕ) (v : ℕ) → IsQuantifierFree t → AllByRecursion (HasItsSort b) (free_levels t) → AllByRecursion (TakesItsMeaning c b e f) (free_levels t) → Means c f t v → Means c e (replaced b t) v
  same_value (Constant i s) c b e f v plain h takes m = m
  same_value (Variable l s) c b e f v plain h takes m = means_put c e (b l) (f l) l s v takes.0 m
  same_value (Literal s n) c b e f v plain h takes m = m
  same_value (Apply o args) c b e f v plain h takes m =
      (m.0, m.1, same_sorts args b plain h ∙ m.2, same_values args c b e f m.1 plain h takes m.3, m.4)
  same_value (ForAll l s body) c b e f v plain h takes m = absurd plain
  same_value (Exists l s body) c b e f v plain h takes m = absurd plain

  pub same_values : (ts : Trees) (c : List ℕ) (b : ℕ → Option Tree) (e f : ℕ → Option ℕ) (vs : List ℕ) → AreQuantifierFree ts → AllByRecursion (HasItsSort b) (free_levels_of_all ts) → AllByRecursion (TakesItsMeaning c b e f) (free_levels_of_all ts) → MeanAll c f ts vs → MeanAll c e (replaced_each b ts) vs
  same_values Nil c b e f vs plain h takes m = m
  same_values (Cons t ts) c b e f vs plain h takes m = (
    m.0,
    m.1,
    same_value t c b e f m.0 plain.0 (front (HasItsSort b) (free_levels t) (free_levels_of_all ts) h) (front (TakesItsMeaning c b e f) (free_levels t) (free_levels_of_all ts) takes) m.2,
    same_values ts c b e f m.1 plain.1 (back (HasItsSort b) (free_levels t) (free_levels_of_all ts) h) (back (TakesItsMeaning c b e f) (free_levels t) (free_levels_of_all ts) takes) m.3,
    m.4,
  )

-- the way back
meant_put : (c : List ℕ) (e : ℕ → Option ℕ) (o : Option Tree) (p : Option ℕ) (l : ℕ) (s : Sort) (v : ℕ) → MatchOption o (p ≡ e l) (λ put. IsSomeAnd p (λ u. Means c e put u)) → Means c e (unwrap_or o (Variable l s)) v → p ≡ Some v
meant_put c e None p l s v h m = h ∙ m
meant_put c e (Some put) None l s v h m = absurd h
meant_put c e (Some put) (Some u) l s v h m = ap Some (one_meaning put c e u v h m)

mutual
  pub same_value_back : (t : Tree) (c : List ℕ) (b : ℕ → Option Tree) (e f : ℕ → Option ℕ) (v : ℕ) → IsQuantifierFree t → AllByRecursion (HasItsSort b) (free_levels t) → AllByRecursion (TakesItsMeaning c b e f) (free_levels t) → Means c e (replaced b t) v → Means c f t v
  same_value_back (Constant i s) c b e f v plain h takes m = m
  same_value_back (Variable l s) c b e f v plain h takes m = meant_put c e (b l) (f l) l s v takes.0 m
  same_value_back (Literal s n) c b e f v plain h takes m = m
  same_value_back (Apply o args) c b e f v plain h takes m =
      (m.0, m.1, sym (same_sorts args b plain h) ∙ m.2, same_values_back args c b e f m.1 plain h takes m.3, m.4)
  same_value_back (ForAll l s body) c b e f v plain h takes m = absurd plain
  same_value_back (Exists l s body) c b e f v plain h takes m = absurd plain

  pub same_values_back : (ts : Trees) (c : List ℕ) (b : ℕ → Option Tree) (e f : ℕ → Option ℕ) (vs : List ℕ) → AreQuantifierFree ts → AllByRecursion (HasItsSort b) (free_levels_of_all ts) → AllByRecursion (TakesItsMeaning c b e f) (free_levels_of_all ts) → MeanAll c e (replaced_each b ts) vs → MeanAll c f ts vs
  same_values_back Nil c b e f vs plain h takes m = m
  same_values_back (Cons t ts) c b e f vs plain h takes m = (
    m.0,
    m.1,
    same_value_back t c b e f m.0 plain.0 (front (HasItsSort b) (free_levels t) (free_levels_of_all ts) h) (front (TakesItsMeaning c b e f) (free_levels t) (free_levels_of_all ts) takes) m.2,
    same_values_back ts c b e f m.1 plain.1 (back (HasItsSort b) (free_levels t) (free_levels_of_all ts) h) (back (TakesItsMeaning c b e f) (free_levels t) (free_levels_of_all ts) takes) m.3,
    m.4,
  )

pub replacement-keeps_meaning : ReplacementKeepsMeaning
replacement-keeps_meaning t c b e f plain sorts takes =
    let h = recursion_from_All (HasItsSort b) (free_levels t) sorts in
    let k = recursion_from_All (TakesItsMeaning c b e f) (free_levels t) takes in
    record {
      sort = same_sort t b plain h;
      meaning = λ v m. same_value t c b e f v plain h k m;
      back = λ v m. same_value_back t c b e f v plain h k m;
    }
