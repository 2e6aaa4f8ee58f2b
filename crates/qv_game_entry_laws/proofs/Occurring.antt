-- A place whose variable has bits in a clause list occurs in one of its formulas.
use Rattle.std.proofs.Common.{◌≡◌, ℕ, suc, ◌≤◌, ◌==◌, inl, inr, Bool, true, cond, not, is_some, Option, Some, List, [], ◌∷◌, slice_get, refl, sym, ap, ◌∙◌, subst, arith, eq-eqb}
use Rattle.std.specs.List.{AllByRecursion, flat_map}
use Rattle.std.proofs.lemmas.Bool.Decides.{nat_tests}
use Rattle.std.proofs.lemmas.List.Elements.{recursion_from_All}
use Rattle.qv_words.specs.declared.sort.Sort.{Sort}
use Rattle.qv_words.specs.Tree.{Tree, Trees, Constant, Variable, Literal, Apply, ForAll, Exists, Nil, Cons, IsQuantifierFree, AreQuantifierFree}
use Rattle.qv_words.specs.Sorted.{free_levels, free_levels_of_all}
use Rattle.qv_words.specs.Gate.{Lit}
use Rattle.qv_words.specs.Clauses.{is_among, bits_of}
use Rattle.qv_words.specs.Choice.{occurrences, occurrences_in_each}
use Rattle.qv_words.proofs.Leaves.{front, back}
use Rattle.qv_circuits_laws.specs.ClauseLaws.{post_order, post_order_each, blasted}
use Rattle.qv_circuits_laws.proofs.Listed.{subtrees-have_bits}
use Rattle.qv_circuits_laws.proofs.Nodes.{In, in-either, in-from_test}
use Rattle.qv_game_entry_laws.specs.QueryLaws.{PlacesWithBitsOccur}

-- in the subtrees of a tree
mutual
  occurs-in : (l : ℕ) (s : Sort) (t : Tree) → In (Variable l s) (post_order t) → 1 ≤ occurrences l t
  occurs-in l s (Constant i r) (inl e) = absurd (cc)
  occurs-in l s (Constant i r) (inr none) = absurd none
  occurs-in l s (Variable m r) (inl e) =
      let same : m ≡ l = cc in
      let once : occurrences l (Variable m r) ≡ 1 = ap (λ (b : Bool). cond b 1 0) (eq-eqb m l same) in
      omega (arith, once)
  occurs-in l s (Variable m r) (inr none) = absurd none
  occurs-in l s (Literal r n) (inl e) = absurd (cc)
  occurs-in l s (Literal r n) (inr none) = absurd none
  occurs-in l s (Apply o ts) h =
      elim (in-either (Variable l s) (post_order_each ts) (Apply o ts ∷ []) h) [
        | inl a ↦ occurs-in_each l s ts a
        | inr (inl e) ↦ absurd (cc)
        | inr (inr none) ↦ absurd none
      ]
  occurs-in l s (ForAll m r t) (inl e) = absurd (cc)
  occurs-in l s (ForAll m r t) (inr none) = absurd none
  occurs-in l s (Exists m r t) (inl e) = absurd (cc)
  occurs-in l s (Exists m r t) (inr none) = absurd none

  occurs-in_each : (l : ℕ) (s : Sort) (ts : Trees) → In (Variable l s) (post_order_each ts) → 1 ≤ occurrences_in_each l ts
  occurs-in_each l s Nil h = absurd h
  occurs-in_each l s (Cons t ts) h =
      elim (in-either (Variable l s) (post_order t) (post_order_each ts) h) [
        | inl a ↦ let some = occurs-in l s t a in omega (arith, some)
        | inr b ↦ let some = occurs-in_each l s ts b in omega (arith, some)
      ]

-- and what holds of the leaves holds of it
mutual
  pub leaf-of : (P : ℕ × Sort → Type 0) (l : ℕ) (s : Sort) (t : Tree) → IsQuantifierFree t → AllByRecursion P (free_levels t) → In (Variable l s) (post_order t) → P (l, s)
  leaf-of P l s (Constant i r) free h (inl e) = absurd (cc)
  leaf-of P l s (Constant i r) free h (inr none) = absurd none
  leaf-of P l s (Variable m r) free h (inl e) =
      let level : l ≡ m = cc in
      let sort : s ≡ r = cc in
      subst (λ (k : ℕ). P (k, s)) (sym level) (subst (λ (u : Sort). P (m, u)) (sym sort) h.0)
  leaf-of P l s (Variable m r) free h (inr none) = absurd none
  leaf-of P l s (Literal r n) free h (inl e) = absurd (cc)
  leaf-of P l s (Literal r n) free h (inr none) = absurd none
  leaf-of P l s (Apply o ts) free h i =
      elim (in-either (Variable l s) (post_order_each ts) (Apply o ts ∷ []) i) [
        | inl a ↦ leaf-of_each P l s ts free h a
        | inr (inl e) ↦ absurd (cc)
        | inr (inr none) ↦ absurd none
      ]
  leaf-of P l s (ForAll m r t) free h i = absurd free
  leaf-of P l s (Exists m r t) free h i = absurd free

  leaf-of_each : (P : ℕ × Sort → Type 0) (l : ℕ) (s : Sort) (ts : Trees) → AreQuantifierFree ts → AllByRecursion P (free_levels_of_all ts) → In (Variable l s) (post_order_each ts) → P (l, s)
  leaf-of_each P l s Nil free h i = absurd i
  leaf-of_each P l s (Cons t ts) free h i =
      elim (in-either (Variable l s) (post_order t) (post_order_each ts) i) [
        | inl a ↦ leaf-of P l s t free.0 (front P (free_levels t) (free_levels_of_all ts) h) a
        | inr b ↦ leaf-of_each P l s ts free.1 (back P (free_levels t) (free_levels_of_all ts) h) b
      ]

-- a subtree of one of the formulas
pub record Found (formulas : List Tree) (x : Tree) : Type 0 where
  pub formula : Tree
  pub index : ℕ
  pub is : slice_get formulas index ≡ Some formula
  pub within : In x (post_order formula)

pub found-in : (formulas : List Tree) (x : Tree) → In x (flat_map post_order formulas) → Found formulas x
found-in [] x h = absurd h
found-in (t ∷ ts) x h =
    elim (in-either x (post_order t) (flat_map post_order ts) h) [
      | inl a ↦ record { formula = t; index = 0; is = refl; within = a }
      | inr b ↦ let more = found-in ts x b in record { formula = more.formula; index = suc more.index; is = more.is; within = more.within }
    ]

pub bits-found_in : (formulas : List Tree) (x : Tree) (bits : List Lit) → AllByRecursion IsQuantifierFree formulas → bits_of (blasted formulas) x ≡ Some bits → Found formulas x
bits-found_in formulas x bits free e =
    let test : is_among (flat_map post_order formulas) x ≡ true = sym (subtrees-have_bits formulas x free) ∙ ap (λ (o : Option (List Lit)). is_some o) e in
    found-in formulas x (in-from_test (flat_map post_order formulas) x test)

is-in : (n : ℕ) → 1 ≤ n → not (n == 0) ≡ true
is-in n h = grind (arith, nat_tests)

pub places-occur : PlacesWithBitsOccur
places-occur formulas place s bits free e =
    let at = bits-found_in formulas (Variable place s) bits (recursion_from_All IsQuantifierFree formulas free) e in
    (at.formula, at.index, at.is, is-in (occurrences place at.formula) (occurs-in place s at.formula at.within))
