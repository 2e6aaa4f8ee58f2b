-- Trees without quantifiers, with W of each constant and V of each variable, and what is put for their leaves.
use Rattle.std.proofs.Common.{◌≡◌, ℕ, Option, Some, None, List, [], ◌∷◌, refl, ap, ◌∙◌, slice_get}
use Rattle.std.specs.Prelude.{IfSome, IsSome, IsSomeAnd, unwrap_or, option_and_then}
use Rattle.std.specs.List.{AllByRecursion}
use Rattle.qv_words.specs.declared.sort.Sort.{Sort}
use Rattle.qv_words.specs.declared.op.Op.{Op}
use Rattle.qv_words.specs.Rank.{result_sort}
use Rattle.qv_words.specs.Tree.{Tree, Trees, Constant, Variable, Literal, Apply, ForAll, Exists, Nil, Cons, tree_sort, tree_sorts, IsQuantifierFree, AreQuantifierFree}
use Rattle.qv_words.specs.Sorted.{IsSortedBelow, AreSortedBelow, no_levels, constants_of, constants_of_all, free_levels, free_levels_of_all}
use Rattle.qv_words.specs.Meaning.{Means, MeanAll}
use Rattle.qv_words.specs.Replacement.{replaced, replaced_each}
use Rattle.qv_words.specs.Problem.{with_places, each_with_places}
use Rattle.qv_words.proofs.Leaves.{front, back, both}
use Rattle.qv_words.proofs.Replacing.{HasItsSort, same_sorts}
use Rattle.qv_prenex_laws.proofs.Forms.{IsCovered}
use Rattle.qv_prenex_laws.proofs.Splits.{FitIn, FitAllIn, fit-args, fit-first, fit-rest}

pub record Part (W V : ℕ × Sort → Type 0) (t : Tree) : Type 0 where
  pub sorted : IsSortedBelow no_levels t
  pub free : IsQuantifierFree t
  pub constants : AllByRecursion W (constants_of t)
  pub variables : AllByRecursion V (free_levels t)

pub record Parts (W V : ℕ × Sort → Type 0) (ts : Trees) : Type 0 where
  pub sorted : AreSortedBelow no_levels ts
  pub free : AreQuantifierFree ts
  pub constants : AllByRecursion W (constants_of_all ts)
  pub variables : AllByRecursion V (free_levels_of_all ts)

abbrev pub PartOf : (ℕ × Sort → Type 0) → (ℕ × Sort → Type 0) → Tree → Sort → Type 0
PartOf W V t s = (tree_sort t ≡ Some s) × Part W V t

pub no-parts : (W V : ℕ × Sort → Type 0) → Parts W V Nil
no-parts W V = record { sorted = tt; free = tt; constants = tt; variables = tt }

pub more-parts : (W V : ℕ × Sort → Type 0) (t : Tree) (ts : Trees) → Part W V t → Parts W V ts → Parts W V (Cons t ts)
more-parts W V t ts h k = record {
  sorted = (h.sorted, k.sorted);
  free = (h.free, k.free);
  constants = both W (constants_of t) (constants_of_all ts) h.constants k.constants;
  variables = both V (free_levels t) (free_levels_of_all ts) h.variables k.variables;
}

pub part-applied : (W V : ℕ × Sort → Type 0) (o : Op) (args : Trees) → IsSome (tree_sort (Apply o args)) → Parts W V args →
    Part W V (Apply o args)
part-applied W V o args s h = record { sorted = (h.sorted, s); free = h.free; constants = h.constants; variables = h.variables }

pub part-args : (W V : ℕ × Sort → Type 0) (o : Op) (args : Trees) → Part W V (Apply o args) → Parts W V args
part-args W V o args h = record { sorted = h.sorted.0; free = h.free; constants = h.constants; variables = h.variables }

pub part-first : (W V : ℕ × Sort → Type 0) (t : Tree) (ts : Trees) → Parts W V (Cons t ts) → Part W V t
part-first W V t ts h = record {
  sorted = h.sorted.0;
  free = h.free.0;
  constants = front W (constants_of t) (constants_of_all ts) h.constants;
  variables = front V (free_levels t) (free_levels_of_all ts) h.variables;
}

pub part-rest : (W V : ℕ × Sort → Type 0) (t : Tree) (ts : Trees) → Parts W V (Cons t ts) → Parts W V ts
part-rest W V t ts h = record {
  sorted = h.sorted.1;
  free = h.free.1;
  constants = back W (constants_of t) (constants_of_all ts) h.constants;
  variables = back V (free_levels t) (free_levels_of_all ts) h.variables;
}

-- what is put for the levels that are bound outside
abbrev pub OuterPart : (ℕ × Sort → Type 0) → (ℕ × Sort → Type 0) → (ℕ → Option Sort) → (ℕ → Option Tree) → Type 0
OuterPart W V levels outer = (l : ℕ) (s : Sort) → levels l ≡ Some s → IsSomeAnd (outer l) (λ put. PartOf W V put s)

put-sort-at : (W V : ℕ × Sort → Type 0) (o : Option Tree) (s : Sort) → IsSomeAnd o (λ put. PartOf W V put s) →
    IfSome o (λ put. tree_sort put ≡ Some s)
put-sort-at W V None s h = absurd h
put-sort-at W V (Some put) s h = h.0

put-part-at : (W V : ℕ × Sort → Type 0) (o : Option Tree) (s : Sort) (d : Tree) → IsSomeAnd o (λ put. PartOf W V put s) →
    Part W V (unwrap_or o d)
put-part-at W V None s d h = absurd h
put-part-at W V (Some put) s d h = h.1

pub put-sorts-at : (W V : ℕ × Sort → Type 0) (levels : ℕ → Option Sort) (outer : ℕ → Option Tree) → OuterPart W V levels outer →
    (leaves : List (ℕ × Sort)) → AllByRecursion (IsCovered levels) leaves → AllByRecursion (HasItsSort outer) leaves
put-sorts-at W V levels outer ho [] h = tt
put-sorts-at W V levels outer ho (leaf ∷ leaves) h =
    (put-sort-at W V (outer leaf.0) leaf.1 (ho leaf.0 leaf.1 h.0), put-sorts-at W V levels outer ho leaves h.1)

-- a tree with these put in
mutual
  pub replaced-part : (W V : ℕ × Sort → Type 0) (levels : ℕ → Option Sort) (outer : ℕ → Option Tree) → OuterPart W V levels outer →
      (t : Tree) → IsQuantifierFree t → FitIn W levels t → Part W V (replaced outer t)
  replaced-part W V levels outer ho (Constant i s) free h = record { sorted = h.sorted; free = tt; constants = h.constants; variables = tt }
  replaced-part W V levels outer ho (Variable l s) free h = put-part-at W V (outer l) s (Variable l s) (ho l s h.covered.0)
  replaced-part W V levels outer ho (Literal s n) free h = record { sorted = h.sorted; free = tt; constants = tt; variables = tt }
  replaced-part W V levels outer ho (Apply o args) free h =
      let same = same_sorts args outer free (put-sorts-at W V levels outer ho (free_levels_of_all args) h.covered) in
      part-applied W V o (replaced_each outer args) (rw (ap (option_and_then (result_sort o)) same) h.sorted.1)
      (replaced-parts W V levels outer ho args free (fit-args o args h))
  replaced-part W V levels outer ho (ForAll l s body) free h = absurd free
  replaced-part W V levels outer ho (Exists l s body) free h = absurd free

  pub replaced-parts : (W V : ℕ × Sort → Type 0) (levels : ℕ → Option Sort) (outer : ℕ → Option Tree) → OuterPart W V levels outer →
      (ts : Trees) → AreQuantifierFree ts → FitAllIn W levels ts → Parts W V (replaced_each outer ts)
  replaced-parts W V levels outer ho Nil free h = no-parts W V
  replaced-parts W V levels outer ho (Cons t ts) free h =
      more-parts W V (replaced outer t) (replaced_each outer ts) (replaced-part W V levels outer ho t free.0 (fit-first t ts h))
      (replaced-parts W V levels outer ho ts free.1 (fit-rest t ts h))

-- a tree with places for its constants keeps its sort
mutual
  pub placed-sort : (place : ℕ → ℕ) (t : Tree) → tree_sort (with_places place t) ≡ tree_sort t
  placed-sort place (Constant i s) = refl
  placed-sort place (Variable l s) = refl
  placed-sort place (Literal s n) = refl
  placed-sort place (Apply o args) = ap (option_and_then (result_sort o)) (placed-sorts place args)
  placed-sort place (ForAll l s body) = rw (placed-sort place body)
  placed-sort place (Exists l s body) = rw (placed-sort place body)

  pub placed-sorts : (place : ℕ → ℕ) (ts : Trees) → tree_sorts (each_with_places place ts) ≡ tree_sorts ts
  placed-sorts place Nil = refl
  placed-sorts place (Cons t ts) = rw (placed-sort place t, placed-sorts place ts)

-- it has no constants left, and U of each variable, where U holds of the places and the variables
abbrev pub Nowhere : ℕ × Sort → Type 0
Nowhere leaf = ⊥

abbrev pub Places : (ℕ × Sort → Type 0) → (ℕ → ℕ) → ℕ × Sort → Type 0
Places V place leaf = V (place leaf.0, leaf.1)

mutual
  pub placed-part : (V : ℕ × Sort → Type 0) (place : ℕ → ℕ) (t : Tree) → Part (Places V place) V t → Part Nowhere V (with_places place t)
  placed-part V place (Constant i s) h = record { sorted = (h.sorted, tt); free = tt; constants = tt; variables = (h.constants.0, tt) }
  placed-part V place (Variable l s) h = record { sorted = h.sorted; free = tt; constants = tt; variables = h.variables }
  placed-part V place (Literal s n) h = record { sorted = h.sorted; free = tt; constants = tt; variables = tt }
  placed-part V place (Apply o args) h =
      part-applied Nowhere V o (each_with_places place args)
      (rw (ap (option_and_then (result_sort o)) (placed-sorts place args)) h.sorted.1)
      (placed-parts V place args (part-args (Places V place) V o args h))
  placed-part V place (ForAll l s body) h = absurd h.free
  placed-part V place (Exists l s body) h = absurd h.free

  pub placed-parts : (V : ℕ × Sort → Type 0) (place : ℕ → ℕ) (ts : Trees) → Parts (Places V place) V ts →
      Parts Nowhere V (each_with_places place ts)
  placed-parts V place Nil h = no-parts Nowhere V
  placed-parts V place (Cons t ts) h =
      more-parts Nowhere V (with_places place t) (each_with_places place ts)
      (placed-part V place t (part-first (Places V place) V t ts h)) (placed-parts V place ts (part-rest (Places V place) V t ts h))

-- a place has what the constant has
abbrev pub HasPlace : List ℕ → (ℕ → Option ℕ) → (ℕ → ℕ) → ℕ × Sort → Type 0
HasPlace c e place leaf = e (place leaf.0) ≡ slice_get c leaf.0

mutual
  pub placed-means : (c : List ℕ) (e : ℕ → Option ℕ) (place : ℕ → ℕ) (t : Tree) (v : ℕ) → IsQuantifierFree t →
      AllByRecursion (HasPlace c e place) (constants_of t) → Means c e t v → Means [] e (with_places place t) v
  placed-means c e place (Constant i s) v free h m = h.0 ∙ m
  placed-means c e place (Variable l s) v free h m = m
  placed-means c e place (Literal s n) v free h m = m
  placed-means c e place (Apply o args) v free h m =
      (m.0, m.1, placed-sorts place args ∙ m.2, placed-mean c e place args m.1 free h m.3, m.4)
  placed-means c e place (ForAll l s body) v free h m = absurd free
  placed-means c e place (Exists l s body) v free h m = absurd free

  pub placed-mean : (c : List ℕ) (e : ℕ → Option ℕ) (place : ℕ → ℕ) (ts : Trees) (vs : List ℕ) → AreQuantifierFree ts →
      AllByRecursion (HasPlace c e place) (constants_of_all ts) → MeanAll c e ts vs → MeanAll [] e (each_with_places place ts) vs
  placed-mean c e place Nil vs free h m = m
  placed-mean c e place (Cons t ts) vs free h m = (
    m.0,
    m.1,
    placed-means c e place t m.0 free.0 (front (HasPlace c e place) (constants_of t) (constants_of_all ts) h) m.2,
    placed-mean c e place ts m.1 free.1 (back (HasPlace c e place) (constants_of t) (constants_of_all ts) h) m.3,
    m.4,
  )

-- no constant is left
pub none-left : (leaves : List (ℕ × Sort)) → AllByRecursion Nowhere leaves → leaves ≡ []
none-left [] h = refl
none-left (leaf ∷ leaves) h = absurd h.0
