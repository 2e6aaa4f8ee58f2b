-- What stands in a store still stands when it grows; names and the trees that they stand for.
use Rattle.std.proofs.Common.{◌≡◌, ℕ, suc, List, [], ◌∷◌, length, refl, sym, ap, subst, ◌∙◌, arith, length-append}
use Rattle.qv_words.specs.Tree.{Tree}
use Rattle.qv_store.specs.Stores.{StandsAt, Grows}
use Rattle.qv_store.proofs.Standing.{tree_at-before}
use Rattle.qv_elab_defs.specs.Scopes.{Named}
use Rattle.qv_elab_scope.specs.Variables.{AreNamedAt}

module _ (old new : List Tree) (g : Grows old new) where
  pub stands-grows : (n : ℕ) (t : Tree) → StandsAt old n t → StandsAt new n t
  stands-grows n t h =
      subst (λ (ts : List Tree). StandsAt ts n t) (sym g.behind)
      (record { below = let lt = h.below in omega (arith, lt, length-append old g.more); tree = tree_at-before old g.more n h.below ∙ h.tree })

  pub named-grows : (xs : Named ℕ) (ys : Named Tree) → AreNamedAt old xs ys → AreNamedAt new xs ys
  named-grows [] [] h = tt
  named-grows (x ∷ xs) (y ∷ ys) h = (h.0, stands-grows x.1 y.1 h.1, named-grows xs ys h.2)
  named-grows [] (y ∷ ys) h = absurd h
  named-grows (x ∷ xs) [] h = absurd h

-- as many names as trees
pub named-length : (trees : List Tree) (xs : Named ℕ) (ys : Named Tree) → AreNamedAt trees xs ys → length xs ≡ length ys
named-length trees [] [] h = refl
named-length trees (x ∷ xs) (y ∷ ys) h = ap suc (named-length trees xs ys h.2)
named-length trees [] (y ∷ ys) h = absurd h
named-length trees (x ∷ xs) [] h = absurd h
