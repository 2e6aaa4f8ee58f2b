-- The first of some entries of which something holds.
use Rattle.std.proofs.Common.{◌≡◌, ℕ, ◌+◌, ◌<◌, ◌==◌, List, [], ◌∷◌, ◌++◌, length, map, take, get_or, Some, IsTrue, refl, sym, ap, subst, ◌∙◌}
use Rattle.std.specs.Prelude.{All, IsSomeAnd}
use Rattle.std.specs.List.{slice_get}
use Rattle.std.proofs.lemmas.Bool.{eq-eqb, eqb-true}
use Rattle.std.proofs.lemmas.List.{take_more, map-append}
use Rattle.std.proofs.lemmas.List.Elements.{All-append, All-from_recursion}
use Rattle.std.proofs.lemmas.Option.{slice_get-get_or}
use Rattle.qv_words.specs.Tree.{Tree}
use Rattle.qv_words.specs.Choice.{IsTrueAt}
use Rattle.qv_words.specs.Meaning.{Means}
use Rattle.qv_words.specs.Linked.{Entry}
use Rattle.qv_entries.specs.declared.entry.Entry.{Entry as Kept}
use Rattle.qv_entries.specs.Rows.{Row, entries_in, entry_in, row_of}
use Rattle.qv_words.proofs.Unique.{one_meaning}
use Rattle.qv_words.proofs.Elements.{get-map, to-some}

-- the entries of a store
pub entries-kept : (trees : List Tree) (es : List Kept) (rows : List Row) → map row_of es ≡ rows → map (λ e. entry_in trees (row_of e)) es ≡ entries_in trees rows
entries-kept trees es rows same = go es ∙ ap (entries_in trees) same
  where
    go : (es : List Kept) → map (λ e. entry_in trees (row_of e)) es ≡ entries_in trees (map row_of es)
    go [] = refl
    go (e ∷ es) = ap (λ (rest : List Entry). entry_in trees (row_of e) ∷ rest) (go es)

-- a region's value tells whether it is true
pub told : (point : List ℕ) (t : Tree) (v : ℕ) → Means [] (slice_get point) t v → (IsTrue (v == 1) → IsTrueAt point t) × (IsTrueAt point t → IsTrue (v == 1))
told point t v m = (
  λ is. subst (λ (n : ℕ). Means [] (slice_get point) t n) (eqb-true v 1 is) m,
  λ holds. eq-eqb v 1 (one_meaning t [] (slice_get point) v 1 m holds),
)

module _ {X Y : Type 0} (f : X → Y) (P : Y → Type 0) (xs : List X) (k : ℕ) (x : X) (low : k < length xs) (at : x ≡ get_or xs k x) where
  -- it holds of one more entry not
  pub none-more : (P (f x) → ⊥) → All (λ y. P y → ⊥) (map f (take k xs)) → All (λ y. P y → ⊥) (map f (take (k + 1) xs))
  none-more not before =
      let longer : map f (take (k + 1) xs) ≡ map f (take k xs) ++ f x ∷ [] =
      ap (map f) (take_more xs k x low ∙ ap (λ (y : X). take k xs ++ y ∷ []) (sym at)) ∙ map-append f (take k xs) (x ∷ []) in
      subst (λ (ys : List Y). All (λ y. P y → ⊥) ys) (sym longer)
      (All-append (λ y. P y → ⊥) (map f (take k xs)) (f x ∷ []) before (All-from_recursion (λ y. P y → ⊥) (f x ∷ []) (not, tt)))

  -- it holds of this one
  pub first-here : P (f x) → IsSomeAnd (slice_get (map f xs) k) P
  first-here holds =
      to-some (slice_get (map f xs) k) P (f x) (get-map f xs k x (slice_get-get_or xs k x low ∙ ap Some (sym at))) holds
