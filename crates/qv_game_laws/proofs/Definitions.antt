-- Definitions of a truth value are terms of sort Bool over the region's variables.
use Rattle.std.proofs.Common.{◌≡◌, ℕ, ◌==◌, ◌&&◌, ◌||◌, ◌⊎◌, arith, inl, inr, Bool, true, false, cond, Option, Some, None, List, [], ◌∷◌, ◌++◌, map, filter, refl, sym, ap, ◌∙◌, subst}
use Rattle.std.specs.Prelude.{IsSome, MatchOption, option_and_then}
use Rattle.std.specs.List.{AllByRecursion, list_any}
use Rattle.std.proofs.lemmas.Bool.{eqb-true, and_parts}
use Rattle.std.proofs.lemmas.List.Folds.{list_any-append}
use Rattle.qv_words.specs.declared.sort.Sort.{Sort}
use Rattle.qv_words.specs.declared.sort.Sort.TheVariants.{Bits, Bool as BoolSort}
use Rattle.qv_words.specs.declared.op.Op.{Op}
use Rattle.qv_words.specs.declared.op.Op.TheVariants.{And, Or}
use Rattle.qv_words.specs.Rank.{two_bools}
use Rattle.qv_words.specs.Tree.{Tree, Trees, Constant, Variable, Literal, Apply, ForAll, Exists, Nil, Cons, tree_sort, tree_sorts}
use Rattle.qv_words.specs.Sorted.{no_levels, with_level}
use Rattle.qv_words.specs.Equality.{tree_eq}
use Rattle.qv_words.specs.Prenex.{binary}
use Rattle.qv_words.specs.Problem.{conjunction_with}
use Rattle.qv_words.specs.Clauses.{is_among}
use Rattle.qv_words.specs.Passes.{truth_literal}
use Rattle.qv_words.specs.Choice.{is_and, is_or, joined, opposite, is_implication, together, with_term}
use Rattle.qv_words.proofs.Equals.{tree_eq-is}
use Rattle.qv_game_laws.proofs.Terms.{OfVariable, IsOver, IsOf, HasSort, Puts, put-of, over-sort}

-- what stands in front or behind
pub either-one : (a b : Bool) → (a || b) ≡ true → (a ≡ true) ⊎ (b ≡ true)
either-one true b h = inl refl
either-one false b h = inr h

pub alone-in : (t u : Tree) → is_among (t ∷ []) u ≡ true → u ≡ t
alone-in t u h = go (tree_eq u t) refl h
  where
    go : (b : Bool) → tree_eq u t ≡ b → (b || false) ≡ true → u ≡ t
    go true is k = tree_eq-is u t is
    go false is k = absurd (cc)

pub or-is : (o : Op) → is_or o ≡ true → o ≡ Or
or-is Or h = refl
or-is o h = absurd (cc)

-- a clause with the negation of a place is a truth value, and so is the place
abbrev IsTruthPlace : OfVariable → ℕ → Tree → Type 0
IsTruthPlace P x c = (tree_sort c ≡ Some BoolSort) × P x BoolSort

alone-place : (P : OfVariable) (x : ℕ) (c : Tree) → IsOver P c → is_among (c ∷ []) (opposite x) ≡ true → IsTruthPlace P x c
alone-place P x c h k =
    let same : opposite x ≡ c = alone-in c (opposite x) k in
    let over : IsOver P (opposite x) = subst (IsOver P) (sym same) h in
    (ap tree_sort (sym same), over.0.0.1)

pub or-sort : (p : Option (List Sort)) (s : Sort) → option_and_then two_bools p ≡ Some s → s ≡ BoolSort
or-sort None s e = absurd (cc)
or-sort (Some (BoolSort ∷ BoolSort ∷ [])) s e = cc
or-sort (Some []) s e = absurd (cc)
or-sort (Some (Bits w ∷ ss)) s e = absurd (cc)
or-sort (Some (BoolSort ∷ [])) s e = absurd (cc)
or-sort (Some (BoolSort ∷ Bits w ∷ ss)) s e = absurd (cc)
or-sort (Some (BoolSort ∷ BoolSort ∷ r ∷ ss)) s e = absurd (cc)

joined-sort : (P : OfVariable) (o : Op) (args : Trees) → o ≡ Or → IsOver P (Apply o args) → tree_sort (Apply o args) ≡ Some BoolSort
joined-sort P o args is h =
    let sort = over-sort P (Apply o args) h in
    let or : option_and_then two_bools (tree_sorts args) ≡ Some sort.0 = ap (λ k. tree_sort (Apply k args)) (sym is) ∙ sort.1 in
    sort.1 ∙ ap (λ s. Some s) (or-sort (tree_sorts args) sort.0 or)

pub truth-place : (P : OfVariable) (x : ℕ) (c : Tree) → IsOver P c → is_among (joined is_or c) (opposite x) ≡ true → IsTruthPlace P x c
truth-place P x (Constant i s) h k = absurd h
truth-place P x (Variable l s) h k = alone-place P x (Variable l s) h k
truth-place P x (Literal s n) h k = alone-place P x (Literal s n) h k
truth-place P x (ForAll l s body) h k = absurd h
truth-place P x (Exists l s body) h k = absurd h
truth-place P x (Apply o Nil) h k = alone-place P x (Apply o Nil) h k
truth-place P x (Apply o (Cons a Nil)) h k = alone-place P x (Apply o (Cons a Nil)) h k
truth-place P x (Apply o (Cons a (Cons b (Cons c rest)))) h k = alone-place P x (Apply o (Cons a (Cons b (Cons c rest)))) h k
truth-place P x (Apply o (Cons a (Cons b Nil))) h k = go (is_or o) refl k (truth-place P x a h.0.0) (truth-place P x b h.0.1.0)
  where
    go : (j : Bool) → is_or o ≡ j → is_among (cond j (joined is_or a ++ joined is_or b) (Apply o (Cons a (Cons b Nil)) ∷ [])) (opposite x) ≡ true
        → (is_among (joined is_or a) (opposite x) ≡ true → IsTruthPlace P x a) → (is_among (joined is_or b) (opposite x) ≡ true → IsTruthPlace P x b) → IsTruthPlace P x (Apply o (Cons a (Cons b Nil)))
    go false is k left right = alone-place P x (Apply o (Cons a (Cons b Nil))) h k
    go true is k left right = (joined-sort P o (Cons a (Cons b Nil)) (or-is o is) h, place (either-one (is_among (joined is_or a) (opposite x)) (is_among (joined is_or b) (opposite x)) (sym (list_any-append (tree_eq (opposite x)) (joined is_or a) (joined is_or b)) ∙ k)))
      where
        place : (is_among (joined is_or a) (opposite x) ≡ true) ⊎ (is_among (joined is_or b) (opposite x) ≡ true) → P x BoolSort
        place (inl e) = (left e).1
        place (inr e) = (right e).1

-- with a term of the place's sort put in a term stays one
puts-one : (P : OfVariable) (x : ℕ) (s : Sort) (u : Tree) → HasSort P x s → IsOf P s u → (l : ℕ) (q : Sort) → P l q → Puts P (with_level no_levels x u) l q
puts-one P x s u own hu l q k = go (l == x) refl
  where
    go : (b : Bool) → (l == x) ≡ b → MatchOption (cond b (Some u) None) (P l q) (IsOf P q)
    go false e = k
    go true e = subst (λ (r : Sort). IsOf P r u) (sym (own q (subst (λ (j : ℕ). P j q) (eqb-true l x e) k))) hu

pub next-of : (P : OfVariable) (x : ℕ) (s : Sort) (u : Tree) → HasSort P x s → IsOf P s u → (r : Sort) (t : Tree) → IsOf P r t → IsOf P r (with_term x u t)
next-of P x s u own hu r t h = put-of P P (with_level no_levels x u) r t (puts-one P x s u own hu) h

-- the conjunction of truth values
pub sort-both : (a b : Tree) → tree_sort a ≡ Some BoolSort → tree_sort b ≡ Some BoolSort → tree_sort (binary And a b) ≡ Some BoolSort
sort-both a b s t = rw (s, t) refl

pub of-both : (P : OfVariable) (a b : Tree) → IsOf P BoolSort a → IsOf P BoolSort b → IsOf P BoolSort (binary And a b)
of-both P a b ha hb =
    let sort = sort-both a b ha.1 hb.1 in
    (((ha.0, (hb.0, tt)), subst IsSome (sym sort) refl), sort)

conjunction-of : (P : OfVariable) (t : Tree) (ts : List Tree) → IsOf P BoolSort t → AllByRecursion (IsOf P BoolSort) ts → IsOf P BoolSort (conjunction_with t ts)
conjunction-of P t [] h k = h
conjunction-of P t (u ∷ us) h k = conjunction-of P (binary And t u) us (of-both P t u h k.0) k.1

module _ (P : OfVariable) (first end x : ℕ) (s : Sort) (region : Tree) (own : HasSort P x s) where
  abbrev Says : Tree → Bool
  Says c = is_implication first end x c && is_among (joined is_and region) c

  abbrev IsPart : Tree → Type 0
  IsPart t = IsOf P BoolSort t × (BoolSort ≡ s)

  one-part : (c : Tree) → IsOver P c → Says c ≡ true → IsPart (with_term x (truth_literal true) c)
  one-part c h k =
      let says = and_parts (is_implication first end x c) (is_among (joined is_and region) c) k in
      let parts = and_parts (is_among (joined is_or c) (opposite x)) _ says.0 in
      let place = truth-place P x c h parts.0 in
      let sort : BoolSort ≡ s = own BoolSort place.1 in
      (next-of P x BoolSort (truth_literal true) (λ r j. own r j ∙ sym sort) (((omega arith, omega arith), omega arith), refl) BoolSort c (h, place.0), sort)

  pub parts-of : (cs : List Tree) → AllByRecursion (IsOver P) cs → AllByRecursion IsPart (map (with_term x (truth_literal true)) (filter Says cs))
  parts-of [] h = tt
  parts-of (c ∷ cs) h = go (Says c) refl (parts-of cs h.1)
    where
      go : (b : Bool) → Says c ≡ b → AllByRecursion IsPart (map (with_term x (truth_literal true)) (filter Says cs)) → AllByRecursion IsPart (map (with_term x (truth_literal true)) (cond b (c ∷ filter Says cs) (filter Says cs)))
      go true is rest = (one-part c h.0 is, rest)
      go false is rest = rest

  truths-of : (ts : List Tree) → AllByRecursion IsPart ts → AllByRecursion (IsOf P BoolSort) ts
  truths-of [] h = tt
  truths-of (t ∷ ts) h = (h.0.0, truths-of ts h.1)

  pub together-of : (ts : List Tree) → AllByRecursion IsPart ts → AllByRecursion (IsOf P s) (together ts)
  together-of [] h = tt
  together-of (t ∷ ts) h = (subst (λ (q : Sort). IsOf P q (conjunction_with t ts)) h.0.1 (conjunction-of P t ts h.0.0 (truths-of ts h.1)), tt)
