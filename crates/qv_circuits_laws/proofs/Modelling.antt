-- A model of a clause list gives values under which its formulas mean 1.
use Rattle.std.proofs.Common.{◌≡◌, ℕ, ◌<◌, ◌^◌, Bool, Option, Some, List, [], ◌∷◌, length, map, inl, inr, refl, sym, ap, ◌∙◌, subst, slice_get}
use Rattle.std.specs.Prelude.{IsSomeAnd, option_map}
use Rattle.std.specs.List.{All, AllByRecursion, flat_map}
use Rattle.std.proofs.lemmas.List.Elements.{All-from_recursion, recursion_from_All}
use Rattle.qv_words.specs.declared.sort.Sort.{Sort}
use Rattle.qv_words.specs.Sort.{IsValueOf, width_of}
use Rattle.qv_words.specs.Tree.{Tree, Trees, Constant, Variable, Literal, Apply, ForAll, Exists, Nil, Cons, IsQuantifierFree, AreQuantifierFree}
use Rattle.qv_words.specs.Sorted.{HasValues, constants_of, constants_of_all, free_levels, free_levels_of_all}
use Rattle.qv_words.specs.Meaning.{Means}
use Rattle.qv_words.specs.PassLaws.{IsPlain}
use Rattle.qv_words.specs.Gate.{Lit}
use Rattle.qv_words.specs.Clauses.{Blasted, first_blasting, bits_of}
use Rattle.qv_circuits_laws.specs.CircuitLaws.{number_of}
use Rattle.qv_circuits_laws.specs.ClauseLaws.{post_order, post_order_each, standing, blasted, IsLeaf, HasItsBits, BitsGiveValues, HasLevelValues, IsOverLevels, ModelsGiveValues}
use Rattle.qv_circuits_laws.proofs.Adding.{number-below}
use Rattle.qv_words.proofs.Leaves.{front, back, both, HasValue}
use Rattle.qv_words.proofs.Existing.{HasConstant}
use Rattle.qv_circuits_laws.proofs.Nodes.{In, test-from_in, in-left, in-right, in-either}
use Rattle.qv_circuits_laws.specs.Standing.{Placed}
use Rattle.qv_circuits_laws.proofs.Standing.{bits-found, known-found, first-stands}
use Rattle.qv_circuits_laws.proofs.Listed.{formulas-stand, in-formulas, in-blasted, bits-are_found}
use Rattle.qv_circuits_laws.proofs.Clausing.{clauses-theorem}
use Rattle.qv_circuits_laws.proofs.Grounds.{clause-laws}

-- P holds of each leaf
record AtLeaves (P : Tree → Type 0) (cs ls : List (ℕ × Sort)) : Type 0 where
  pub constants : AllByRecursion (λ leaf. P (Constant leaf.0 leaf.1)) cs
  pub levels : AllByRecursion (λ leaf. P (Variable leaf.0 leaf.1)) ls

-- the leaves are subtrees
mutual
  at-leaves : (P : Tree → Type 0) (t : Tree) → IsQuantifierFree t → ((x : Tree) → In x (post_order t) → P x) → AtLeaves P (constants_of t) (free_levels t)
  at-leaves P (Constant i s) free h = record { constants = (h (Constant i s) (inl refl), tt); levels = tt }
  at-leaves P (Variable l s) free h = record { constants = tt; levels = (h (Variable l s) (inl refl), tt) }
  at-leaves P (Literal s n) free h = record { constants = tt; levels = tt }
  at-leaves P (Apply o ts) free h = at-each_leaves P ts free (λ x i. h x (in-left x (post_order_each ts) (Apply o ts ∷ []) i))
  at-leaves P (ForAll l s t) free h = absurd free
  at-leaves P (Exists l s t) free h = absurd free

  at-each_leaves : (P : Tree → Type 0) (ts : Trees) → AreQuantifierFree ts → ((x : Tree) → In x (post_order_each ts) → P x) → AtLeaves P (constants_of_all ts) (free_levels_of_all ts)
  at-each_leaves P Nil free h = record { constants = tt; levels = tt }
  at-each_leaves P (Cons t ts) free h =
      let first = at-leaves P t free.0 (λ x i. h x (in-left x (post_order t) (post_order_each ts) i)) in
      let others = at-each_leaves P ts free.1 (λ x i. h x (in-right x (post_order t) (post_order_each ts) i)) in
      record { constants = both _ (constants_of t) (constants_of_all ts) first.constants others.constants; levels = both _ (free_levels t) (free_levels_of_all ts) first.levels others.levels }

-- a subtree that is a leaf is one of the leaves
only-leaf : (P : Tree → Type 0) (t x : Tree) → P t → In x (t ∷ []) → P x
only-leaf P t x h (inl e) = subst P (sym e) h
only-leaf P t x h (inr none) = absurd none

no-leaf : (P : Tree → Type 0) (t x : Tree) → (IsLeaf t → ⊥) → IsLeaf x → In x (t ∷ []) → P x
no-leaf P t x h leaf (inl e) = absurd (h (subst IsLeaf e leaf))
no-leaf P t x h leaf (inr none) = absurd none

mutual
  from-leaves : (P : Tree → Type 0) (t : Tree) → IsQuantifierFree t → AtLeaves P (constants_of t) (free_levels t) → (x : Tree) → IsLeaf x → In x (post_order t) → P x
  from-leaves P (Constant i s) free h x leaf i' = only-leaf P (Constant i s) x h.constants.0 i'
  from-leaves P (Variable l s) free h x leaf i' = only-leaf P (Variable l s) x h.levels.0 i'
  from-leaves P (Literal s n) free h x leaf i' = no-leaf P (Literal s n) x (λ none. none) leaf i'
  from-leaves P (Apply o ts) free h x leaf i' =
      elim (in-either x (post_order_each ts) (Apply o ts ∷ []) i') [
        | inl a ↦ from-each_leaf P ts free h x leaf a
        | inr b ↦ no-leaf P (Apply o ts) x (λ none. none) leaf b
      ]
  from-leaves P (ForAll l s t) free h x leaf i' = absurd free
  from-leaves P (Exists l s t) free h x leaf i' = absurd free

  from-each_leaf : (P : Tree → Type 0) (ts : Trees) → AreQuantifierFree ts → AtLeaves P (constants_of_all ts) (free_levels_of_all ts) → (x : Tree) → IsLeaf x → In x (post_order_each ts) → P x
  from-each_leaf P Nil free h x leaf i' = absurd i'
  from-each_leaf P (Cons t ts) free h x leaf i' =
      elim (in-either x (post_order t) (post_order_each ts) i') [
        | inl a ↦ from-leaves P t free.0 (record { constants = front _ (constants_of t) (constants_of_all ts) h.constants; levels = front _ (free_levels t) (free_levels_of_all ts) h.levels }) x leaf a
        | inr b ↦ from-each_leaf P ts free.1 (record { constants = back _ (constants_of t) (constants_of_all ts) h.constants; levels = back _ (free_levels t) (free_levels_of_all ts) h.levels }) x leaf b
      ]

-- the formulas' subtrees
each-formula : (P : Tree → Type 0) (Q : Tree → Type 0) (ts : List Tree) → ((t : Tree) → Q t → ((x : Tree) → In x (post_order t) → In x (flat_map post_order ts)) → P t) → AllByRecursion Q ts → AllByRecursion P ts
each-formula P Q [] h q = tt
each-formula P Q (t ∷ ts) h q = (
  h t q.0 (λ x i. in-left x (post_order t) (flat_map post_order ts) i),
  each-formula P Q ts (λ u k inside. h u k (λ x i. in-right x (post_order t) (flat_map post_order ts) (inside x i))) q.1,
)

some-formula : (P : Tree → Type 0) (Q : Tree → Type 0) (ts : List Tree) → ((t x : Tree) → Q t → IsLeaf x → In x (post_order t) → P x) → AllByRecursion Q ts → (x : Tree) → IsLeaf x → In x (flat_map post_order ts) → P x
some-formula P Q [] h q x leaf i = absurd i
some-formula P Q (t ∷ ts) h q x leaf i =
    elim (in-either x (post_order t) (flat_map post_order ts) i) [
      | inl a ↦ h t x q.0 leaf a
      | inr b ↦ some-formula P Q ts h q.1 x leaf b
    ]

frees : (ts : List Tree) → AllByRecursion IsPlain ts → AllByRecursion IsQuantifierFree ts
frees [] h = tt
frees (t ∷ ts) h = (h.0.free, frees ts h.1)

-- the value of a leaf
abbrev LeafValue : List ℕ → (ℕ → Option ℕ) → Tree → Type 0
LeafValue c e (Constant i s) = HasConstant c (i, s)
LeafValue c e (Variable l s) = HasValue e (l, s)
LeafValue c e t = Unit {0}

there : (o : Option ℕ) (s : Sort) (n w : ℕ) → o ≡ Some n → n < 2 ^ w → w ≡ width_of s → IsSomeAnd o (λ v. IsValueOf v s)
there o s n w is low same = subst (λ (x : Option ℕ). IsSomeAnd x (λ v. IsValueOf v s)) (sym is) (subst (λ (k : ℕ). n < 2 ^ k) same low)

leaf-value : (n : ℕ) (c : List ℕ) (e : ℕ → Option ℕ) (v : ℕ → Bool) (t : Tree) (bits : List Lit) → Placed n (record { tree = t; bits = bits }) → HasItsBits v c e (record { tree = t; bits = bits }) → LeafValue c e t
leaf-value n c e v (Constant i s) bits k h =
    let same : s ≡ k.sort = let sorts : Some s ≡ Some k.sort = k.is in cc in
    there (slice_get c i) s (number_of v bits) (length bits) (h tt) (number-below v bits) (k.word.bit_count ∙ ap width_of (sym same))
leaf-value n c e v (Variable l s) bits k h =
    let same : s ≡ k.sort = let sorts : Some s ≡ Some k.sort = k.is in cc in
    there (e l) s (number_of v bits) (length bits) (h tt) (number-below v bits) (k.word.bit_count ∙ ap width_of (sym same))
leaf-value n c e v (Literal s m) bits k h = tt
leaf-value n c e v (Apply o ts) bits k h = tt
leaf-value n c e v (ForAll l s t) bits k h = tt
leaf-value n c e v (Exists l s t) bits k h = tt

pub bits-give_values : BitsGiveValues
bits-give_values ts c e v plain leaves =
    let fits = recursion_from_All IsPlain ts plain in
    let stands = formulas-stand clause-laws.formed clause-laws.sorts first_blasting ts fits first-stands in
    let known = recursion_from_All (HasItsBits v c e) (blasted ts) leaves in
    let value : (x : Tree) → In x (flat_map post_order ts) → LeafValue c e x =
    λ x i.
    let at = known-found (blasted ts) x (test-from_in (map (λ k. k.tree) (blasted ts)) x (in-blasted ts (frees ts fits) x i)) in
    leaf-value (standing ts).next c e v x at.0 (bits-found (Placed (standing ts).next) (blasted ts) x at.0 stands.known at.1) (bits-found (HasItsBits v c e) (blasted ts) x at.0 known at.1) in
    All-from_recursion (HasValues c e) ts (each-formula (HasValues c e) IsPlain ts
    (λ t p inside.
    let at = at-leaves (LeafValue c e) t p.free (λ x i. value x (inside x i)) in
    record { constants = All-from_recursion _ (constants_of t) at.constants; levels = All-from_recursion _ (free_levels t) at.levels }) fits)

-- a leaf of formulas over levels
abbrev Levelled : (ℕ → Sort) → Tree → Type 0
Levelled sorts (Constant i s) = ⊥
Levelled sorts (Variable l s) = s ≡ sorts l
Levelled sorts t = Unit {0}

record Levels (sorts : ℕ → Sort) (t : Tree) : Type 0 where
  pub free : IsQuantifierFree t
  pub over : IsOverLevels sorts t

all-levels : (sorts : ℕ → Sort) (ts : List Tree) → AllByRecursion IsPlain ts → AllByRecursion (IsOverLevels sorts) ts → AllByRecursion (Levels sorts) ts
all-levels sorts [] p h = tt
all-levels sorts (t ∷ ts) p h = (record { free = p.0.free; over = h.0 }, all-levels sorts ts p.1 h.1)

levelled : (sorts : ℕ → Sort) (t x : Tree) → Levels sorts t → IsLeaf x → In x (post_order t) → Levelled sorts x
levelled sorts t x h leaf i =
    from-leaves (Levelled sorts) t h.free
    (record {
      constants = subst (AllByRecursion (λ leaf. Levelled sorts (Constant leaf.0 leaf.1))) (sym h.over.constant_free) tt;
      levels = recursion_from_All (λ leaf. Levelled sorts (Variable leaf.0 leaf.1)) (free_levels t) h.over.levels;
    }) x leaf i

-- means the number of its bits
leaf-means : (v : ℕ → Bool) (sorts : ℕ → Sort) (ts : List Tree) (e : ℕ → Option ℕ) → HasLevelValues v sorts ts e → (t : Tree) (bits : List Lit) → bits_of (blasted ts) t ≡ Some bits → IsLeaf t → Levelled sorts t → Means [] e t (number_of v bits)
leaf-means v sorts ts e gives (Constant i s) bits is leaf h = absurd h
leaf-means v sorts ts e gives (Variable l s) bits is leaf h =
    gives l (number_of v bits) (ap (option_map (number_of v)) (subst (λ (r : Sort). bits_of (blasted ts) (Variable l r) ≡ Some bits) h is))
leaf-means v sorts ts e gives (Literal s n) bits is leaf h = absurd leaf
leaf-means v sorts ts e gives (Apply o us) bits is leaf h = absurd leaf
leaf-means v sorts ts e gives (ForAll l s t) bits is leaf h = absurd leaf
leaf-means v sorts ts e gives (Exists l s t) bits is leaf h = absurd leaf

leaves-mean : (v : ℕ → Bool) (sorts : ℕ → Sort) (ts : List Tree) (e : ℕ → Option ℕ) → HasLevelValues v sorts ts e → (known : List Blasted) → ((x : Tree) → IsLeaf x → In x (map (λ k. k.tree) known) → Levelled sorts x) → AllByRecursion (λ k. bits_of (blasted ts) k.tree ≡ Some k.bits) known → AllByRecursion (HasItsBits v [] e) known
leaves-mean v sorts ts e gives [] inside h = tt
leaves-mean v sorts ts e gives (k ∷ ks) inside h = (
  λ leaf. leaf-means v sorts ts e gives k.tree k.bits h.0 leaf (inside k.tree leaf (inl refl)),
  leaves-mean v sorts ts e gives ks (λ x leaf i. inside x leaf (inr i)) h.1,
)

pub models-give_values : ModelsGiveValues
models-give_values ts sorts v e plain bools over gives h =
    let fits = recursion_from_All IsPlain ts plain in
    let levels = all-levels sorts ts fits (recursion_from_All (IsOverLevels sorts) ts over) in
    let inside : (x : Tree) → IsLeaf x → In x (map (λ k. k.tree) (blasted ts)) → Levelled sorts x =
    λ x leaf i. some-formula (Levelled sorts) (Levels sorts) ts (λ t y k. levelled sorts t y k) levels x leaf (in-formulas ts (frees ts fits) x i) in
    let leaves : All (HasItsBits v [] e) (blasted ts) =
    All-from_recursion (HasItsBits v [] e) (blasted ts) (leaves-mean v sorts ts e gives (blasted ts) inside (bits-are_found ts (frees ts fits))) in
    let values = bits-give_values ts [] e v plain leaves in
    (values, leaves, (clauses-theorem clause-laws ts [] e plain bools values).1 v leaves h)
