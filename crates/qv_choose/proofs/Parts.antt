-- What a formula and its conjuncts have in common.
use Rattle.std.proofs.Common.{◌≡◌, ℕ, ◌==◌, Bool, true, false, cond, Some, None, List, [], ◌∷◌, map, refl, sym, ap, subst, ◌∙◌, arith}
use Rattle.std.specs.Prelude.{unwrap_or, IsSome, MatchOption}
use Rattle.std.specs.List.{AllByRecursion}
use Rattle.std.proofs.lemmas.Bool.{eqb-true}
use Rattle.std.proofs.lemmas.List.{map-append}
use Rattle.qv_words.specs.declared.sort.Sort.{Sort}
use Rattle.qv_words.specs.declared.sort.Sort.TheVariants.{Bool as BoolSort}
use Rattle.qv_words.specs.declared.op.Op.TheVariants.{And}
use Rattle.qv_words.specs.Tree.{Tree, Trees, Constant, Variable, Literal, Apply, ForAll, Exists, Nil, Cons, tree_sort}
use Rattle.qv_words.specs.Sorted.{no_levels, with_level}
use Rattle.qv_words.specs.Replacement.{replaced_each}
use Rattle.qv_words.specs.Prenex.{binary}
use Rattle.qv_words.specs.Choice.{occurrences, occurrences_in_each, is_in, with_term, IsTrueAt}
use Rattle.qv_words.proofs.Leaves.{back, both, front}
use Rattle.qv_words.proofs.Conjunctions.{both-bool, both-true, parts-true}
use Rattle.qv_game_laws.proofs.Terms.{OfVariable, IsOf, HasSort}
use Rattle.qv_game_laws.proofs.Definitions.{next-of, sort-both, of-both}
use Rattle.qv_choose.specs.Conjuncts.{AreConjuncts, of_true, alone, of_both, LeavesOut, nothing, kept, left_out, ConjunctsTakeTerms}
use Rattle.qv_choose.proofs.Giving.{never-in}

-- with a term put in
pub conjuncts-take : ConjunctsTakeTerms
conjuncts-take region conjuncts x u of_true = of_true
conjuncts-take region conjuncts x u (alone t) = alone (with_term x u t)
conjuncts-take region conjuncts x u (of_both a b ks ls h k) =
    subst (AreConjuncts (with_term x u (binary And a b))) (sym (map-append (with_term x u) ks ls))
    (of_both (with_term x u a) (with_term x u b) (map (with_term x u) ks) (map (with_term x u) ls) (conjuncts-take a ks x u h) (conjuncts-take b ls x u k))

-- a tree in which the variable doesn't stand stays
mutual
  untouched : (x : ℕ) (u t : Tree) → occurrences x t ≡ 0 → with_term x u t ≡ t
  untouched x u (Constant i s) h = refl
  untouched x u (Variable l s) h = go (l == x) h
    where
      go : (b : Bool) → ◌≡◌ {A = ℕ} (cond b 1 0) 0 → unwrap_or (cond b (Some u) None) (Variable l s) ≡ Variable l s
      go true e = absurd (cc)
      go false e = refl
  untouched x u (Literal s n) h = refl
  untouched x u (Apply o args) h = ap (Apply o) (untouched-each x u args h)
  untouched x u (ForAll l s body) h = ap (ForAll l s) (untouched x u body h)
  untouched x u (Exists l s body) h = ap (Exists l s) (untouched x u body h)

  untouched-each : (x : ℕ) (u : Tree) (ts : Trees) → occurrences_in_each x ts ≡ 0 → replaced_each (with_level no_levels x u) ts ≡ ts
  untouched-each x u Nil h = refl
  untouched-each x u (Cons t ts) h =
      let first : occurrences x t ≡ 0 = omega (arith, h) in
      let rest : occurrences_in_each x ts ≡ 0 = omega (arith, h) in
      ap (λ v. Cons v (replaced_each (with_level no_levels x u) ts)) (untouched x u t first) ∙ ap (Cons t) (untouched-each x u ts rest)

pub stays : (x : ℕ) (u t : Tree) → is_in x t ≡ false → with_term x u t ≡ t
stays x u t h = untouched x u t (never-in x t h)

abbrev pub IsTruth : Tree → Type 0
IsTruth t = tree_sort t ≡ Some BoolSort

-- a region is true where all of its conjuncts are
pub parts-hold : (point : List ℕ) (region : Tree) (conjuncts : List Tree) → AreConjuncts region conjuncts → IsTrueAt point region → AllByRecursion (IsTrueAt point) conjuncts
parts-hold point region conjuncts of_true m = tt
parts-hold point region conjuncts (alone t) m = (m, tt)
parts-hold point region conjuncts (of_both a b ks ls h k) m =
    let sides = parts-true point a b m in
    both (IsTrueAt point) ks ls (parts-hold point a ks h sides.0) (parts-hold point b ls k sides.1)

pub whole-holds : (point : List ℕ) (region : Tree) (conjuncts : List Tree) → AreConjuncts region conjuncts → AllByRecursion IsTruth conjuncts → AllByRecursion (IsTrueAt point) conjuncts → IsTrueAt point region × IsTruth region
whole-holds point region conjuncts of_true sorts m = (refl, refl)
whole-holds point region conjuncts (alone t) sorts m = (m.0, sorts.0)
whole-holds point region conjuncts (of_both a b ks ls h k) sorts m =
    let left = whole-holds point a ks h (front IsTruth ks ls sorts) (front (IsTrueAt point) ks ls m) in
    let right = whole-holds point b ls k (back IsTruth ks ls sorts) (back (IsTrueAt point) ks ls m) in
    (both-true point a b left.1 right.1 left.0 right.0, sort-both a b left.1 right.1)

-- it is a term where they are
pub parts-of : (P : OfVariable) (region : Tree) (conjuncts : List Tree) → AreConjuncts region conjuncts → IsOf P BoolSort region → AllByRecursion (IsOf P BoolSort) conjuncts
parts-of P region conjuncts of_true g = tt
parts-of P region conjuncts (alone t) g = (g, tt)
parts-of P region conjuncts (of_both a b ks ls h k) g =
    let sorts = both-bool a b g.1 in
    both (IsOf P BoolSort) ks ls (parts-of P a ks h (g.0.0.0, sorts.0)) (parts-of P b ls k (g.0.0.1.0, sorts.1))

pub whole-of : (P : OfVariable) (region : Tree) (conjuncts : List Tree) → AreConjuncts region conjuncts → AllByRecursion (IsOf P BoolSort) conjuncts → IsOf P BoolSort region
whole-of P region conjuncts of_true g = (((omega arith, omega arith), omega arith), refl)
whole-of P region conjuncts (alone t) g = g.0
whole-of P region conjuncts (of_both a b ks ls h k) g =
    of-both P a b (whole-of P a ks h (front (IsOf P BoolSort) ks ls g)) (whole-of P b ls k (back (IsOf P BoolSort) ks ls g))

-- with a term of the place's sort put in they are so still
pub all-next : (P : OfVariable) (x : ℕ) (s : Sort) (u : Tree) → HasSort P x s → IsOf P s u → (ts : List Tree) → AllByRecursion (IsOf P BoolSort) ts → AllByRecursion (IsOf P BoolSort) (map (with_term x u) ts)
all-next P x s u own hu [] h = tt
all-next P x s u own hu (t ∷ ts) h = (next-of P x s u own hu BoolSort t h.0, all-next P x s u own hu ts h.1)

pub sorts-of : (P : OfVariable) (ts : List Tree) → AllByRecursion (IsOf P BoolSort) ts → AllByRecursion IsTruth ts
sorts-of P [] h = tt
sorts-of P (t ∷ ts) h = (h.0.1, sorts-of P ts h.1)

-- what holds of the members that are left
pub of-left : (Q : Tree → Type 0) (x : ℕ) (ts left : List Tree) → LeavesOut x ts left → AllByRecursion Q ts → AllByRecursion Q left
of-left Q x ts left nothing h = tt
of-left Q x ts left (kept t us rest k) h = (h.0, of-left Q x us rest k h.1)
of-left Q x ts left (left_out t us rest none k) h = of-left Q x us rest k h.1

-- with a term put in, the others stay true
pub all-hold : (point : List ℕ) (x : ℕ) (u : Tree) (ts left : List Tree) → LeavesOut x ts left → AllByRecursion (IsTrueAt point) ts → AllByRecursion (IsTrueAt point) (map (with_term x u) left) → AllByRecursion (IsTrueAt point) (map (with_term x u) ts)
all-hold point x u ts left nothing h m = tt
all-hold point x u ts left (kept t us rest k) h m = (m.0, all-hold point x u us rest k h.1 m.1)
all-hold point x u ts left (left_out t us rest none k) h m =
    (subst (IsTrueAt point) (sym (stays x u t none)) h.0, all-hold point x u us rest k h.1 m)

pub left-hold : (point : List ℕ) (x : ℕ) (u : Tree) (ts left : List Tree) → LeavesOut x ts left → AllByRecursion (IsTrueAt point) (map (with_term x u) ts) → AllByRecursion (IsTrueAt point) (map (with_term x u) left)
left-hold point x u ts left nothing m = tt
left-hold point x u ts left (kept t us rest k) m = (m.0, left-hold point x u us rest k m.1)
left-hold point x u ts left (left_out t us rest none k) m = left-hold point x u us rest k m.1
