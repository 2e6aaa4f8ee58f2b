-- Tests of small rules at terms of a store.
use Rattle.std.proofs.Common.{◌≡◌, ℕ, ◌<◌, ◌==◌, Bool, true, false, None, List, [], ◌∷◌, length, refl, sym, ap, ◌∙◌}
use Rattle.qv_words.specs.declared.op.Op.{Op}
use Rattle.qv_words.specs.Tree.{Tree, Apply}
use Rattle.qv_words.specs.Equality.{tree_eq}
use Rattle.qv_words.specs.Passes.{under_both}
use Rattle.qv_words.proofs.Equals.{test-refl, eq-from_test, tree_eq-refl, tree_eq-is}
use Rattle.qv_store.specs.Nodes.{tree_at, trees_at}
use Rattle.qv_store.specs.Stores.{AreShared}
use Rattle.qv_rewrite_passes.specs.Simps.{is_complement}

-- two terms of a store are the same where their numbers are
pub same-number : (trees : List Tree) (a b : ℕ) → AreShared trees → a < length trees → b < length trees → tree_eq (tree_at trees a) (tree_at trees b) ≡ (a == b)
same-number trees a b h p q = go (tree_eq (tree_at trees a) (tree_at trees b)) refl (a == b) refl
  where
    go : (x : Bool) → tree_eq (tree_at trees a) (tree_at trees b) ≡ x → (y : Bool) → (a == b) ≡ y → x ≡ y
    go true e true f = refl
    go false e false f = refl
    go true e false f =
        let numbers : a ≡ b = h.once a b p q (tree_eq-is (tree_at trees a) (tree_at trees b) e) in
        sym (test-refl b) ∙ ap (λ n. n == b) (sym numbers) ∙ f
    go false e true f =
        let numbers : a ≡ b = eq-from_test a b f in
        sym e ∙ ap (λ n. tree_eq (tree_at trees n) (tree_at trees b)) numbers ∙ tree_eq-refl (tree_at trees b)

-- applications of other numbers of arguments
pub complement-none : (trees : List Tree) (u : Tree) (p : Op) (kids : List ℕ) → (length kids ≡ 1 → ⊥) → false ≡ is_complement u (Apply p (trees_at trees kids))
complement-none trees u p [] h = refl
complement-none trees u p (a ∷ []) h = absurd (h refl)
complement-none trees u p (a ∷ b ∷ kids) h = refl

pub under-none : (trees : List Tree) (o p : Op) (kids : List ℕ) → (length kids ≡ 1 → ⊥) → None ≡ under_both o (Apply p (trees_at trees kids))
under-none trees o p [] h = refl
under-none trees o p (a ∷ []) h = absurd (h refl)
under-none trees o p (a ∷ b ∷ kids) h = refl
