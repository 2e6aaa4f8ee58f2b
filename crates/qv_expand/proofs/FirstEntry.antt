-- The first entry of the universal player at level 1.
use Rattle.std.proofs.Common.{◌≡◌, ℕ, suc, ◌+◌, ◌==◌, Bool, true, false, cond, Some, None, Option, List, [], ◌∷◌, drop, refl, sym, ap, ◌∙◌, subst, slice_get, arith}
use Rattle.std.specs.Prelude.{IsSome}
use Rattle.std.proofs.lemmas.Bool.{eqb-true, and_parts}
use Rattle.std.proofs.lemmas.Option.{same_Some}
use Rattle.qv_words.specs.Tree.{Tree}
use Rattle.qv_words.specs.Problem.{Problem, Universal}
use Rattle.qv_words.specs.Linked.{Entry, HoldsFirst, blocks_of, entries_of, first_universal, is_of, places_below, same_quantifier, tree_lines, tree_of}
use Rattle.qv_words.proofs.Elements.{dropped-at, get-map}
use Rattle.qv_game_laws.proofs.Each.{same-quantifier}
use Rattle.qv_entries.specs.Rows.{Row, entries_in, entry_in, is_row_of}
use Rattle.qv_expand.specs.Growth.{IsNext}

here-is : (trees : List Tree) (rows : List Row) (n : ℕ) (row : Row) → slice_get rows n ≡ Some row → drop n (entries_in trees rows) ≡ entry_in trees row ∷ drop (suc n) (entries_in trees rows)
here-is trees rows n row at = dropped-at (entries_in trees rows) n (entry_in trees row) (get-map (entry_in trees) rows n row at)

pub first-found : (trees : List Tree) (rows : List Row) (n : ℕ) (row : Row) → slice_get rows n ≡ Some row → is_row_of 1 Universal row ≡ true → first_universal n (drop n (entries_in trees rows)) ≡ Some n
first-found trees rows n row at own =
    ap (first_universal n) (here-is trees rows n row at) ∙ ap (λ b. cond b (Some n) (first_universal (suc n) (drop (suc n) (entries_in trees rows)))) own

pub first-passed : (trees : List Tree) (rows : List Row) (n : ℕ) (row : Row) → slice_get rows n ≡ Some row → is_row_of 1 Universal row ≡ false → first_universal n (drop n (entries_in trees rows)) ≡ first_universal (n + 1) (drop (n + 1) (entries_in trees rows))
first-passed trees rows n row at other =
    let one : suc n ≡ n + 1 = omega arith in
    ap (first_universal n) (here-is trees rows n row at) ∙ ap (λ b. cond b (Some n) (first_universal (suc n) (drop (suc n) (entries_in trees rows)))) other
    ∙ ap (λ (k : ℕ). first_universal k (drop k (entries_in trees rows))) one

-- where there is one, it is found
found-from : (k n : ℕ) (es : List Entry) → first_universal k es ≡ Some n → (i : ℕ) × (e : Entry) × (n ≡ k + i) × (slice_get es i ≡ Some e) × (is_of 1 Universal e ≡ true)
found-from k n [] h = absurd cc
found-from k n (e ∷ es) h = go (is_of 1 Universal e) refl h (λ x. found-from (suc k) n es x)
  where
    go : (b : Bool) → is_of 1 Universal e ≡ b → cond b (Some k) (first_universal (suc k) es) ≡ Some n → (first_universal (suc k) es ≡ Some n → (i : ℕ) × (f : Entry) × (n ≡ suc k + i) × (slice_get es i ≡ Some f) × (is_of 1 Universal f ≡ true)) →
        (i : ℕ) × (f : Entry) × (n ≡ k + i) × (slice_get (e ∷ es) i ≡ Some f) × (is_of 1 Universal f ≡ true)
    go true own is rest = let same : k ≡ n = same_Some k n is in (0, e, omega (arith, same), refl, own)
    go false own is rest =
        let r = rest is in
        let at = r.2 in
        (suc r.0, r.1, omega (arith, at), r.3, r.4)

pub first-next : (p : Problem) (es : List Entry) (n : ℕ) → first_universal 0 es ≡ Some n → IsNext p es 0 n
first-next p es n h =
    let r = found-from 0 n es h in
    let number = r.2 in
    let parts = and_parts (r.1.level == 1) (same_quantifier r.1.winner Universal) r.4 in
    let same : r.0 ≡ n = omega (arith, number) in
    record {
      entry = r.1;
      here = ap (slice_get es) (sym same) ∙ r.3;
      winner = same-quantifier r.1.winner Universal parts.1;
      below = sym (ap (places_below (blocks_of p.prefix)) (eqb-true r.1.level 1 parts.0));
    }

pub first-level : (p : Problem) (es : List Entry) (n : ℕ) → (h : first_universal 0 es ≡ Some n) → (first-next p es n h).entry.level ≡ 1
unfolding first-next
first-level p es n h =
    let r = found-from 0 n es h in
    eqb-true r.1.level 1 (and_parts (r.1.level == 1) (same_quantifier r.1.winner Universal) r.4).0

pub first-holds : (k n : ℕ) (es : List Entry) → first_universal k es ≡ Some n → HoldsFirst Universal es
first-holds k n [] h = absurd cc
first-holds k n (e ∷ es) h = go (is_of 1 Universal e) refl h (λ x. first-holds (suc k) n es x)
  where
    go : (b : Bool) → is_of 1 Universal e ≡ b → cond b (Some k) (first_universal (suc k) es) ≡ Some n → (first_universal (suc k) es ≡ Some n → HoldsFirst Universal es) → HoldsFirst Universal (e ∷ es)
    go true own is rest = subst (λ (b : Bool). IsSome (slice_get (cond b (e ∷ entries_of 1 Universal es) (entries_of 1 Universal es)) 0)) (sym own) refl
    go false own is rest = subst (λ (b : Bool). IsSome (slice_get (cond b (e ∷ entries_of 1 Universal es) (entries_of 1 Universal es)) 0)) (sym own) (rest is)

-- without one there are no lines
pub tree-none : (p : Problem) (es : List Entry) → first_universal 0 es ≡ None → tree_of p es ≡ []
unfolding tree_of
tree-none p es h = ap (λ (o : Option ℕ). (tree_lines (blocks_of p.prefix) es o).lines) h
