-- Clauses in which a place is put true.
use Rattle.std.proofs.Common.{◌≡◌, ℕ, zero, suc, ◌+◌, ◌<◌, ◌==◌, ◌&&◌, ◌||◌, nat_le, nat_lt, arith, inl, inr, Bool, true, false, cond, not, Option, Some, None, List, [], ◌∷◌, ◌++◌, length, filter, map, take, refl, sym, ap, ◌∙◌, subst, slice_get, add-one}
use Rattle.std.specs.Prelude.{IfSome, MatchOption, unwrap_or, All}
use Rattle.std.specs.List.{AllByRecursion, list_any, list_all}
use Rattle.std.proofs.lemmas.Bool.{eqb-true, eqb-false, and_parts}
use Rattle.std.proofs.lemmas.List.{map-append}
use Rattle.std.proofs.lemmas.List.Elements.{recursion_from_All, All-from_recursion, All-filter, filter_passes}
use Rattle.std.proofs.lemmas.List.Folds.{list_any-append}
use Rattle.qv_words.specs.declared.sort.Sort.{Sort}
use Rattle.qv_words.specs.declared.sort.Sort.TheVariants.{Bool as BoolSort}
use Rattle.qv_words.specs.declared.op.Op.{Op}
use Rattle.qv_words.specs.declared.op.Op.TheVariants.{And}
use Rattle.qv_words.specs.Tree.{Tree, Trees, Constant, Variable, Literal, Apply, ForAll, Exists, Nil, Cons, tree_sort, tree_sorts, IsQuantifierFree, AreQuantifierFree}
use Rattle.qv_words.specs.Sorted.{no_levels, with_level, IsSorted, free_levels, free_levels_of_all}
use Rattle.qv_words.specs.Equality.{tree_eq}
use Rattle.qv_words.specs.Replacement.{replaced}
use Rattle.qv_words.specs.Prenex.{binary}
use Rattle.qv_words.specs.Problem.{conjunction, conjunction_with}
use Rattle.qv_words.specs.Clauses.{is_among}
use Rattle.qv_words.specs.Passes.{truth_literal}
use Rattle.qv_words.specs.Choice.{occurrences, occurrences_in_each, is_in, is_and, is_or, joined, opposite, is_outside, is_apart, is_implication, together, with_term}
use Rattle.qv_words.proofs.Equals.{tree_eq-is}
use Rattle.qv_words.proofs.Leaves.{both, front, back}
use Rattle.qv_words.proofs.Ranks.{found}
use Rattle.qv_words.proofs.Replacing.{HasItsSort, same_sort}
use Rattle.qv_words.proofs.Replaced.{HoldsPut, variables-put}
use Rattle.qv_words.proofs.Elements.{all-of, all-weaker, all-both, all-both_weaker, either, take-one}
use Rattle.qv_game_laws.proofs.Definitions.{either-one, alone-in, or-is, or-sort}
use Rattle.qv_store.specs.Nodes.{tree_at}
use Rattle.qv_store.specs.Stores.{StandsAt, Grows}
use Rattle.qv_store.specs.Walks.{named}
use Rattle.qv_choose_paths.specs.declared.ways.Place.{Place}
use Rattle.qv_choose_paths.specs.declared.seeing.Sight.{Sight}
use Rattle.qv_choose_paths.specs.Sights.{IsScene}
use Rattle.qv_choose_paths.proofs.SceneLaws.{walk-below}
use Rattle.qv_choose_clauses.specs.Clauses.{is_disjunct}
use Rattle.qv_choose_clauses.specs.Implying.{IsSettling}
use Rattle.qv_choose_clauses.specs.Defining.{IsTruth, IsOnly, IsDefinition}
use Rattle.qv_choose_clauses.proofs.Stores.{tree-grows, length-grows, named-grows}
use Rattle.qv_choose_clauses.proofs.PickLaws.{Says}

-- what holds of all disjuncts holds of a clause
joined-all : (Q : Tree → Type 0) (joins : Op → Bool) → ((o : Op) (a b : Tree) → Q a → Q b → Q (Apply o (Cons a (Cons b Nil)))) → (t : Tree) → AllByRecursion Q (joined joins t) → Q t
joined-all Q joins closed (Constant i s) h = h.0
joined-all Q joins closed (Variable l s) h = h.0
joined-all Q joins closed (Literal s n) h = h.0
joined-all Q joins closed (ForAll l s body) h = h.0
joined-all Q joins closed (Exists l s body) h = h.0
joined-all Q joins closed (Apply o Nil) h = h.0
joined-all Q joins closed (Apply o (Cons a Nil)) h = h.0
joined-all Q joins closed (Apply o (Cons a (Cons b (Cons c rest)))) h = h.0
joined-all Q joins closed (Apply o (Cons a (Cons b Nil))) h = go (joins o) h (joined-all Q joins closed a) (joined-all Q joins closed b)
  where
    go : (k : Bool) → AllByRecursion Q (cond k (joined joins a ++ joined joins b) (Apply o (Cons a (Cons b Nil)) ∷ [])) → (AllByRecursion Q (joined joins a) → Q a) → (AllByRecursion Q (joined joins b) → Q b) → Q (Apply o (Cons a (Cons b Nil)))
    go false h left right = h.0
    go true h left right = closed o a b (left (front Q (joined joins a) (joined joins b) h)) (right (back Q (joined joins a) (joined joins b) h))

-- disjuncts have no quantifiers
joined-free : (joins : Op → Bool) (t : Tree) → IsQuantifierFree t → AllByRecursion IsQuantifierFree (joined joins t)
joined-free joins (Constant i s) h = (h, tt)
joined-free joins (Variable l s) h = (h, tt)
joined-free joins (Literal s n) h = (h, tt)
joined-free joins (ForAll l s body) h = absurd h
joined-free joins (Exists l s body) h = absurd h
joined-free joins (Apply o Nil) h = (h, tt)
joined-free joins (Apply o (Cons a Nil)) h = (h, tt)
joined-free joins (Apply o (Cons a (Cons b (Cons c rest)))) h = (h, tt)
joined-free joins (Apply o (Cons a (Cons b Nil))) h =
    either (AllByRecursion IsQuantifierFree) (joins o) (joined joins a ++ joined joins b) (Apply o (Cons a (Cons b Nil)) ∷ [])
    (both IsQuantifierFree (joined joins a) (joined joins b) (joined-free joins a h.0) (joined-free joins b h.1.0)) (h, tt)

all-true : (q : Tree → Bool) (ts : List Tree) → list_all q ts ≡ true → AllByRecursion (λ t. q t ≡ true) ts
all-true q [] h = tt
all-true q (t ∷ ts) h = let parts = and_parts (q t) (list_all q ts) h in (parts.0, all-true q ts parts.1)

-- what holds of the place's negation, and of each tree that is apart
each-disjunct : (Q : Tree → Type 0) (p : Place) → Q (opposite p.level) → ((d : Tree) → IsQuantifierFree d → is_apart p.first p.end p.level d ≡ true → Q d) → (d : Tree) → IsQuantifierFree d → is_disjunct p d ≡ true → Q d
each-disjunct Q p own apart d free h = elim (either-one (tree_eq d (opposite p.level)) (is_apart p.first p.end p.level d) h) [
  | inl e ↦ subst Q (sym (tree_eq-is d (opposite p.level) e)) own
  | inr e ↦ apart d free e
]

of-clause : (Q : Tree → Type 0) (p : Place) → ((o : Op) (a b : Tree) → Q a → Q b → Q (Apply o (Cons a (Cons b Nil)))) → Q (opposite p.level) → ((d : Tree) → IsQuantifierFree d → is_apart p.first p.end p.level d ≡ true → Q d)
    → (c : Tree) → IsQuantifierFree c → list_all (is_disjunct p) (joined is_or c) ≡ true → Q c
of-clause Q p closed own apart c free h =
    joined-all Q is_or closed c
    (all-both_weaker IsQuantifierFree (λ d. is_disjunct p d ≡ true) Q (joined is_or c) (λ d f k. each-disjunct Q p own apart d f k) (joined-free is_or c free) (all-true (is_disjunct p) (joined is_or c) h))

-- ---- true is of the place's sort

abbrev Yes : ℕ → ℕ → Option Tree
Yes x = with_level no_levels x (truth_literal true)

abbrev Fits : ℕ → Tree → Type 0
Fits x t = AllByRecursion (HasItsSort (Yes x)) (free_levels t)

mutual
  absent-fits : (x : ℕ) (t : Tree) → IsQuantifierFree t → occurrences x t ≡ 0 → Fits x t
  absent-fits x (Constant i s) free h = tt
  absent-fits x (Variable l s) free h = (go (l == x) h, tt)
    where
      go : (b : Bool) → ◌≡◌ {A = ℕ} (cond b 1 0) 0 → IfSome (cond b (Some (truth_literal true)) None) (λ put. tree_sort put ≡ Some s)
      go true e = absurd (cc)
      go false e = tt
  absent-fits x (Literal s n) free h = tt
  absent-fits x (Apply o args) free h = absent-fit x args free h
  absent-fits x (ForAll l s body) free h = absurd free
  absent-fits x (Exists l s body) free h = absurd free

  absent-fit : (x : ℕ) (ts : Trees) → AreQuantifierFree ts → occurrences_in_each x ts ≡ 0 → AllByRecursion (HasItsSort (Yes x)) (free_levels_of_all ts)
  absent-fit x Nil free h = tt
  absent-fit x (Cons t ts) free h =
      let first : occurrences x t ≡ 0 = omega (arith, h) in
      let rest : occurrences_in_each x ts ≡ 0 = omega (arith, h) in
      both (HasItsSort (Yes x)) (free_levels t) (free_levels_of_all ts) (absent-fits x t free.0 first) (absent-fit x ts free.1 rest)

never-in : (x : ℕ) (t : Tree) → not (is_in x t) ≡ true → occurrences x t ≡ 0
never-in x t h = go (occurrences x t == 0) refl h
  where
    go : (b : Bool) → (occurrences x t == 0) ≡ b → not (not b) ≡ true → occurrences x t ≡ 0
    go true is k = eqb-true (occurrences x t) 0 is
    go false is k = absurd (cc)

own-fits : (x : ℕ) → Fits x (opposite x)
own-fits x = (go (x == x), tt)
  where
    go : (b : Bool) → IfSome (cond b (Some (truth_literal true)) None) (λ put. tree_sort put ≡ Some BoolSort)
    go true = refl
    go false = tt

clause-fits : (p : Place) (c : Tree) → IsQuantifierFree c → list_all (is_disjunct p) (joined is_or c) ≡ true → Fits p.level c
clause-fits p c free h =
    of-clause (Fits p.level) p
    (λ o a b left right. both (HasItsSort (Yes p.level)) (free_levels a) (free_levels b ++ []) left (both (HasItsSort (Yes p.level)) (free_levels b) [] right tt))
    (own-fits p.level)
    (λ d f k. absent-fits p.level d f (never-in p.level d (and_parts (is_outside p.first p.end d) (not (is_in p.level d)) k).1)) c free h

-- ---- with the place true a clause is outside

abbrev IsWithin : Place → ℕ × Sort → Bool
IsWithin p leaf = nat_le p.first leaf.0 && nat_lt leaf.0 p.end

abbrev IsBeyond : Place → ℕ × Sort → Type 0
IsBeyond p leaf = IsWithin p leaf ≡ false

abbrev Beyond : Place → Tree → Type 0
Beyond p t = AllByRecursion (IsBeyond p) (free_levels t)

none-within : (p : Place) (leaves : List (ℕ × Sort)) → AllByRecursion (IsBeyond p) leaves → list_any (IsWithin p) leaves ≡ false
none-within p [] h = refl
none-within p (leaf ∷ leaves) h = ap (λ b. b || list_any (IsWithin p) leaves) h.0 ∙ none-within p leaves h.1

all-beyond : (p : Place) (leaves : List (ℕ × Sort)) → not (list_any (IsWithin p) leaves) ≡ true → AllByRecursion (IsBeyond p) leaves
all-beyond p [] h = tt
all-beyond p (leaf ∷ leaves) h = go (IsWithin p leaf) refl h (all-beyond p leaves)
  where
    go : (b : Bool) → IsWithin p leaf ≡ b → not (b || list_any (IsWithin p) leaves) ≡ true → (not (list_any (IsWithin p) leaves) ≡ true → AllByRecursion (IsBeyond p) leaves) → AllByRecursion (IsBeyond p) (leaf ∷ leaves)
    go true is k rest = absurd (cc)
    go false is k rest = (is, rest k)

put-beyond : (p : Place) (x : ℕ) (t : Tree) → IsQuantifierFree t → Beyond p t → Beyond p (with_term x (truth_literal true) t)
put-beyond p x t free h = variables-put (IsBeyond p) t (Yes x) free (all-weaker (IsBeyond p) (HoldsPut (IsBeyond p) (Yes x)) (free_levels t) (λ leaf own. go leaf own (leaf.0 == x)) h)
  where
    go : (leaf : ℕ × Sort) → IsBeyond p leaf → (b : Bool) → MatchOption (cond b (Some (truth_literal true)) None) (IsBeyond p leaf) (λ put. AllByRecursion (IsBeyond p) (free_levels put))
    go leaf own true = tt
    go leaf own false = own

own-beyond : (p : Place) → Beyond p (with_term p.level (truth_literal true) (opposite p.level))
own-beyond p = go (p.level == p.level) refl
  where
    go : (b : Bool) → (p.level == p.level) ≡ b → AllByRecursion (IsBeyond p) (free_levels (unwrap_or (cond b (Some (truth_literal true)) None) (Variable p.level BoolSort)) ++ [])
    go true is = tt
    go false is = absurd (eqb-false p.level p.level is refl)

clause-beyond : (p : Place) (c : Tree) → IsQuantifierFree c → list_all (is_disjunct p) (joined is_or c) ≡ true → Beyond p (with_term p.level (truth_literal true) c)
clause-beyond p c free h =
    of-clause (λ t. Beyond p (with_term p.level (truth_literal true) t)) p
    (λ o a b left right. both (IsBeyond p) (free_levels (with_term p.level (truth_literal true) a)) (free_levels (with_term p.level (truth_literal true) b) ++ []) left (both (IsBeyond p) (free_levels (with_term p.level (truth_literal true) b)) [] right tt))
    (own-beyond p)
    (λ d f k. put-beyond p p.level d f (all-beyond p (free_levels d) (and_parts (is_outside p.first p.end d) (not (is_in p.level d)) k).0)) c free h

conjunction-beyond : (p : Place) (t : Tree) (ts : List Tree) → Beyond p t → AllByRecursion (Beyond p) ts → Beyond p (conjunction_with t ts)
conjunction-beyond p t [] h k = h
conjunction-beyond p t (u ∷ us) h k = conjunction-beyond p (binary And t u) us (both (IsBeyond p) (free_levels t) (free_levels u ++ []) h (both (IsBeyond p) (free_levels u) [] k.0 tt)) k.1

-- ---- a clause is a truth value

clause-sort : (x : ℕ) (c : Tree) → IsSorted c → is_among (joined is_or c) (opposite x) ≡ true → tree_sort c ≡ Some BoolSort
clause-sort x (Apply o (Cons a (Cons b Nil))) sorted h = go (is_or o) refl h
  where
    go : (k : Bool) → is_or o ≡ k → is_among (cond k (joined is_or a ++ joined is_or b) (Apply o (Cons a (Cons b Nil)) ∷ [])) (opposite x) ≡ true → tree_sort (Apply o (Cons a (Cons b Nil))) ≡ Some BoolSort
    go false is h = ap tree_sort (sym (alone-in (Apply o (Cons a (Cons b Nil))) (opposite x) h))
    go true is h =
        let sort = found (tree_sort (Apply o (Cons a (Cons b Nil)))) sorted.1 in
        sort.1 ∙ ap (λ s. Some s) (or-sort (tree_sorts (Cons a (Cons b Nil))) sort.0 (ap (λ k. tree_sort (Apply k (Cons a (Cons b Nil)))) (sym (or-is o is)) ∙ sort.1))
clause-sort x (Constant i s) sorted h = ap tree_sort (sym (alone-in (Constant i s) (opposite x) h))
clause-sort x (Variable l s) sorted h = ap tree_sort (sym (alone-in (Variable l s) (opposite x) h))
clause-sort x (Literal s n) sorted h = ap tree_sort (sym (alone-in (Literal s n) (opposite x) h))
clause-sort x (ForAll l s body) sorted h = ap tree_sort (sym (alone-in (ForAll l s body) (opposite x) h))
clause-sort x (Exists l s body) sorted h = ap tree_sort (sym (alone-in (Exists l s body) (opposite x) h))
clause-sort x (Apply o Nil) sorted h = ap tree_sort (sym (alone-in (Apply o Nil) (opposite x) h))
clause-sort x (Apply o (Cons a Nil)) sorted h = ap tree_sort (sym (alone-in (Apply o (Cons a Nil)) (opposite x) h))
clause-sort x (Apply o (Cons a (Cons b (Cons c rest)))) sorted h = ap tree_sort (sym (alone-in (Apply o (Cons a (Cons b (Cons c rest)))) (opposite x) h))

-- ---- the clauses of a walk

abbrev IsTerm : List Tree → ℕ → Type 0
IsTerm trees n = (n < length trees) × IsQuantifierFree (tree_at trees n) × IsSorted (tree_at trees n)

each-place : (P : ℕ → Type 0) (ns : List ℕ) → ((k n : ℕ) → slice_get ns k ≡ Some n → P n) → AllByRecursion P ns
each-place P [] h = tt
each-place P (n ∷ ns) h = (h 0 n refl, each-place P ns (λ k m at. h (suc k) m at))

walk-terms : (trees : List Tree) (s : Sight) → IsScene trees s → AllByRecursion (IsTerm trees) s.walk
walk-terms trees s scene = each-place (IsTerm trees) s.walk (λ k n at. let below = walk-below trees s.walk k n scene.walk at in (below, scene.free k n at, scene.shared.sorted n below))

picked-one : (p : Place) (trees : List Tree) (region : Tree) (id : ℕ) → IsTerm trees id → Says p region (tree_at trees id) ≡ true → IsSettling p trees id
picked-one p trees region id h k =
    let t = tree_at trees id in
    let clause = (and_parts (is_implication p.first p.end p.level t) (is_among (joined is_and region) t) k).0 in
    let parts = and_parts (is_among (joined is_or t) (opposite p.level)) (list_all (is_disjunct p) (joined is_or t)) clause in
    record {
      below = h.0;
      free = h.1;
      sorts = All-from_recursion (HasItsSort (Yes p.level)) (free_levels t) (clause-fits p t h.1 parts.1);
      bool = clause-sort p.level t h.2 parts.0;
      outside = ap not (none-within p (free_levels (with_term p.level (truth_literal true) t)) (clause-beyond p t h.1 parts.1));
    }

pub all-picked : (p : Place) (trees : List Tree) (region : Tree) (s : Sight) (picked : List ℕ) → IsScene trees s → picked ≡ filter (λ n. Says p region (tree_at trees n)) s.walk → AllByRecursion (IsSettling p trees) picked
all-picked p trees region s picked scene is =
    let test : ℕ → Bool = λ n. Says p region (tree_at trees n) in
    let kept : List ℕ = filter test s.walk in
    subst (AllByRecursion (IsSettling p trees)) (sym is)
    (all-both_weaker (IsTerm trees) (λ n. test n ≡ true) (IsSettling p trees) kept (λ n h k. picked-one p trees region n h k)
    (recursion_from_All (IsTerm trees) kept (All-filter test (IsTerm trees) s.walk (All-from_recursion (IsTerm trees) s.walk (walk-terms trees s scene))))
    (recursion_from_All (λ n. test n ≡ true) kept (filter_passes test s.walk)))

-- ---- one clause after another is put

pub settling-grows : (old new : List Tree) (p : Place) (id : ℕ) → Grows old new → IsSettling p old id → IsSettling p new id
settling-grows old new p id g h =
    let same : tree_at old id ≡ tree_at new id = sym (tree-grows old new id g h.below) in
    record {
      below = omega (arith, h.below, length-grows old new g);
      free = subst IsQuantifierFree same h.free;
      sorts = subst (λ (t : Tree). All (HasItsSort (Yes p.level)) (free_levels t)) same h.sorts;
      bool = ap tree_sort (sym same) ∙ h.bool;
      outside = subst (λ (t : Tree). is_outside p.first p.end (with_term p.level (truth_literal true) t) ≡ true) same h.outside;
    }

pub put-truth : (old new : List Tree) (p : Place) (id made : ℕ) → IsSettling p old id → StandsAt new made (with_term p.level (truth_literal true) (tree_at old id)) → IsTruth new made
put-truth old new p id made h stands = record {
  below = stands.below;
  bool = ap tree_sort stands.tree ∙ same_sort (tree_at old id) (Yes p.level) h.free (recursion_from_All (HasItsSort (Yes p.level)) (free_levels (tree_at old id)) h.sorts) ∙ h.bool;
}

pub truth-grows : (old new : List Tree) (id : ℕ) → Grows old new → IsTruth old id → IsTruth new id
truth-grows old new id g h = record { below = omega (arith, h.below, length-grows old new g); bool = ap tree_sort (tree-grows old new id g h.below) ∙ h.bool }

pub next-made : (first old new : List Tree) (x : ℕ) (clauses made more : List ℕ) (k id one : ℕ) → slice_get clauses k ≡ Some id → Grows first old → Grows old new → id < length first → AllByRecursion (λ n. n < length old) made → more ≡ made ++ one ∷ []
    → StandsAt new one (with_term x (truth_literal true) (tree_at old id)) → named old made ≡ map (with_term x (truth_literal true)) (named first (take k clauses)) → named new more ≡ map (with_term x (truth_literal true)) (named first (take (k + 1) clauses))
next-made first old new x clauses made more k id one at g h low below is stands so =
    ap (named new) is ∙ map-append (tree_at new) made (one ∷ [])
    ∙ ap (λ ts. ts ++ tree_at new one ∷ []) (named-grows old new made h below ∙ so)
    ∙ ap (λ t. map (with_term x (truth_literal true)) (named first (take k clauses)) ++ t ∷ []) (stands.tree ∙ ap (with_term x (truth_literal true)) (tree-grows first old id g low))
    ∙ sym (map-append (with_term x (truth_literal true)) (named first (take k clauses)) (tree_at first id ∷ []))
    ∙ ap (map (with_term x (truth_literal true))) (sym (map-append (tree_at first) (take k clauses) (id ∷ [])))
    ∙ ap (λ ns. map (with_term x (truth_literal true)) (named first ns)) (sym (ap (λ m. take m clauses) (add-one k) ∙ take-one clauses k id at))

-- ---- what is defined

pub no-members : (ids : List ℕ) → length ids ≡ 0 → ids ≡ []
no-members [] h = refl
no-members (n ∷ ns) h = absurd (omega (arith, h))

pub none-defined : (x : ℕ) (trees terms : List Tree) (ids : List ℕ) → named trees ids ≡ terms → ids ≡ [] → together (map (with_term x (truth_literal true)) terms) ≡ []
none-defined x trees terms ids is none = ap (λ ts. together (map (with_term x (truth_literal true)) ts)) (sym is ∙ ap (named trees) none)

pub is-defined : (p : Place) (old new : List Tree) (terms : List Tree) (ids : List ℕ) (id : ℕ) → named old ids ≡ terms → (length ids ≡ 0 → ⊥) → AllByRecursion (IsSettling p old) ids → StandsAt new id (conjunction (map (with_term p.level (truth_literal true)) (named old ids)))
    → IsOnly p new (together (map (with_term p.level (truth_literal true)) terms)) id
is-defined p old new terms [] id is some all stands = absurd (some refl)
is-defined p old new terms (n ∷ ns) id is some all stands = record {
  term = conjunction (map (with_term p.level (truth_literal true)) (named old (n ∷ ns)));
  is = ap (λ ts. together (map (with_term p.level (truth_literal true)) ts)) (sym is);
  stands = stands;
  outside = ap not (none-within p (free_levels (conjunction (map (with_term p.level (truth_literal true)) (named old (n ∷ ns))))) (conjunction-beyond p (with_term p.level (truth_literal true) (tree_at old n)) (map (with_term p.level (truth_literal true)) (named old ns)) (one n all.0) (rest ns all.1)));
}
  where
    one : (m : ℕ) → IsSettling p old m → Beyond p (with_term p.level (truth_literal true) (tree_at old m))
    one m h = all-beyond p (free_levels (with_term p.level (truth_literal true) (tree_at old m))) h.outside

    rest : (ms : List ℕ) → AllByRecursion (IsSettling p old) ms → AllByRecursion (Beyond p) (map (with_term p.level (truth_literal true)) (named old ms))
    rest [] h = tt
    rest (m ∷ ms) h = (one m h.0, rest ms h.1)
