-- What the definitions of Skolem sections and prenex problems give.
use Rattle.std.proofs.Common.{◌≡◌, ℕ, zero, suc, Bool, true, false, ◌||◌, cond, Option, Some, IsSome, IsSomeAnd, List, [], ◌∷◌, ◌++◌, refl, ap, ◌∙◌, slice_get}
use Rattle.std.specs.Prelude.{◌==◌}
use mathlib.Core.Bool.{false≢true}
use Rattle.std.proofs.lemmas.List.Elements.{recursion_from_All}
use Rattle.std.specs.List.{AllByRecursion}
use Rattle.qv_words.specs.Tree.{Tree, Trees, Constant, Variable, Literal, Apply, ForAll, Exists, Nil, Cons, IsQuantifierFree, AreQuantifierFree}
use Rattle.qv_words.specs.Sorted.{no_levels, constants_of, constants_of_all}
use Rattle.qv_words.specs.Replacement.{replaced, replaced_each}
use Rattle.qv_words.specs.Prenex.{is_quantified, is_some_quantified, form_within, tree_size, unquantified}
use Rattle.qv_words.specs.Problem.{Problem, Place, Existential, with_places, each_with_places, problem_of, index_in}
use Rattle.qv_words.proofs.Equals.{eq-from_test}
use Rattle.qv_words.specs.Skolem.{SkolemTerm, SkolemOk, IsSkolemTerm, IsTermOf, term_of}
use Rattle.std.proofs.lemmas.Bool.{or_from}

-- with nothing put in, a tree stays
mutual
  replaced-nothing : (t : Tree) → replaced no_levels t ≡ t
  replaced-nothing (Constant i s) = refl
  replaced-nothing (Variable l s) = refl
  replaced-nothing (Literal s n) = refl
  replaced-nothing (Apply o args) = ap (Apply o) (replaced_each-nothing args)
  replaced-nothing (ForAll l s body) = ap (ForAll l s) (replaced-nothing body)
  replaced-nothing (Exists l s body) = ap (Exists l s) (replaced-nothing body)

  replaced_each-nothing : (ts : Trees) → replaced_each no_levels ts ≡ ts
  replaced_each-nothing Nil = refl
  replaced_each-nothing (Cons t ts) = ap (λ u. Cons u (replaced_each no_levels ts)) (replaced-nothing t) ∙ ap (Cons t) (replaced_each-nothing ts)

-- the parts of two lists that have nothing together
pub front-empty : {A : Type 0} (xs ys : List A) → xs ++ ys ≡ [] → xs ≡ []
front-empty [] ys h = refl
front-empty (x ∷ xs) ys h = cc

pub back-empty : {A : Type 0} (xs ys : List A) → xs ++ ys ≡ [] → ys ≡ []
back-empty [] ys h = h
back-empty (x ∷ xs) ys h = cc

-- a tree without constants stays where constants get places
mutual
  with_places-same : (place : ℕ → ℕ) (t : Tree) → constants_of t ≡ [] → with_places place t ≡ t
  with_places-same place (Constant i s) h = cc
  with_places-same place (Variable l s) h = refl
  with_places-same place (Literal s n) h = refl
  with_places-same place (Apply o args) h = ap (Apply o) (each_with_places-same place args h)
  with_places-same place (ForAll l s body) h = ap (ForAll l s) (with_places-same place body h)
  with_places-same place (Exists l s body) h = ap (Exists l s) (with_places-same place body h)

  each_with_places-same : (place : ℕ → ℕ) (ts : Trees) → constants_of_all ts ≡ [] → each_with_places place ts ≡ ts
  each_with_places-same place Nil h = refl
  each_with_places-same place (Cons t ts) h =
      ap (λ u. Cons u (each_with_places place ts)) (with_places-same place t (front-empty (constants_of t) (constants_of_all ts) h))
      ∙ ap (Cons t) (each_with_places-same place ts (back-empty (constants_of t) (constants_of_all ts) h))

-- a formula without quantifiers has no blocks
form-unquantified : (n : ℕ) (t : Tree) → is_quantified t ≡ false → form_within n true t ≡ unquantified true t
unfolding form_within
form-unquantified zero t h = refl
form-unquantified (suc n) t h = rw h refl

-- a formula without quantifiers and constants is its own matrix, over no places
pub problem-unquantified : (t : Tree) → is_quantified t ≡ false → constants_of t ≡ [] → problem_of (t ∷ []) ≡ record { prefix = []; matrix = t }
unfolding problem_of
problem-unquantified t free none =
    let matrix : with_places (index_in []) (replaced no_levels t) ≡ t = ap (with_places (index_in [])) (replaced-nothing t) ∙ with_places-same (index_in []) t none in
    rw (form-unquantified (tree_size t) t free, none, matrix) refl

-- the sort of a term by its place
term-sort : (p : Problem) (s : SkolemTerm) (j : ℕ) (place : Place) → s.place ≡ j → slice_get p.prefix j ≡ Some place → IsSkolemTerm p s → IsTermOf s.term place.sort
term-sort p s j place same at h =
    let there : IsSomeAnd (Some place) (λ q. (q.quantifier ≡ Existential) × IsTermOf s.term q.sort) = rw (same, at) at h.0 in
    there.1

-- the first of some terms, or one of the others
found-by : (p : Problem) (j : ℕ) (place : Place) (s : SkolemTerm) (rest : Option Tree) (b : Bool) → (s.place == j) ≡ b → slice_get p.prefix j ≡ Some place → IsSkolemTerm p s → IsSome (cond b (Some s.term) rest) → (IsSome rest → IsSomeAnd rest (λ t. IsTermOf t place.sort)) → IsSomeAnd (cond b (Some s.term) rest) (λ t. IsTermOf t place.sort)
found-by p j place s rest true e at h some go = term-sort p s j place (eq-from_test s.place j e) at h
found-by p j place s rest false e at h some go = go some

-- in a Skolem section each existential place has a term of its sort
term-found : (p : Problem) (j : ℕ) (place : Place) (terms : List SkolemTerm) → slice_get p.prefix j ≡ Some place → AllByRecursion (IsSkolemTerm p) terms → IsSome (term_of terms j) → IsSomeAnd (term_of terms j) (λ t. IsTermOf t place.sort)
term-found p j place [] at each some = absurd (false≢true some)
term-found p j place (s ∷ rest) at each some = found-by p j place s (term_of rest j) (s.place == j) refl at each.0 some (λ others. term-found p j place rest at each.1 others)

pub section-has-term : (p : Problem) (terms : List SkolemTerm) (j : ℕ) (place : Place) → SkolemOk p terms → slice_get p.prefix j ≡ Some place → place.quantifier ≡ Existential → IsSomeAnd (term_of terms j) (λ t. IsTermOf t place.sort)
section-has-term p terms j place ok at existential =
    let is : IsSomeAnd (slice_get p.prefix j) (λ q. q.quantifier ≡ Existential) = rw at existential in
    term-found p j place terms at (recursion_from_All (IsSkolemTerm p) terms ok.each) (ok.all j is)

not-first : (b d : Bool) → (b || d) ≡ false → b ≡ false
not-first true d h = h
not-first false d h = refl

not-second : (b d : Bool) → (b || d) ≡ false → d ≡ false
not-second true d h = absurd (cc)
not-second false d h = h

mutual
  pub unquantified-free : (t : Tree) → IsQuantifierFree t → is_quantified t ≡ false
  unquantified-free (Constant i s) h = refl
  unquantified-free (Variable l s) h = refl
  unquantified-free (Literal s n) h = refl
  unquantified-free (Apply o args) h = unquantified-all args h
  unquantified-free (ForAll l s body) h = absurd h
  unquantified-free (Exists l s body) h = absurd h

  unquantified-all : (ts : Trees) → AreQuantifierFree ts → is_some_quantified ts ≡ false
  unquantified-all Nil h = refl
  unquantified-all (Cons t ts) h = or_from (is_quantified t) (is_some_quantified ts) (unquantified-free t h.0) (unquantified-all ts h.1)

mutual
  pub free-unquantified : (t : Tree) → is_quantified t ≡ false → IsQuantifierFree t
  free-unquantified (Constant i s) h = tt
  free-unquantified (Variable l s) h = tt
  free-unquantified (Literal s n) h = tt
  free-unquantified (Apply o args) h = all-unquantified args h
  free-unquantified (ForAll l s body) h = absurd (cc)
  free-unquantified (Exists l s body) h = absurd (cc)

  all-unquantified : (ts : Trees) → is_some_quantified ts ≡ false → AreQuantifierFree ts
  all-unquantified Nil h = tt
  all-unquantified (Cons t ts) h = (
    free-unquantified t (not-first (is_quantified t) (is_some_quantified ts) h),
    all-unquantified ts (not-second (is_quantified t) (is_some_quantified ts) h),
  )
