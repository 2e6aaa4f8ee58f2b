-- What is put in for a place.
use Rattle.std.proofs.Common.{◌≡◌, ℕ, zero, suc, ◌<◌, ◌==◌, arith, Bool, true, false, cond, Result, Ok, Err, Option, Some, None, List, [], ◌∷◌, length, set, refl, sym, ap, ◌∙◌, subst}
use Rattle.std.specs.Prelude.{IfOk, IfSome, option_map}
use Rattle.std.proofs.lemmas.Bool.{eqb-true, eqb-false}
use Rattle.std.proofs.lemmas.List.Elements.{recursion_from_All, All-from_recursion}
use Rattle.qv_words.specs.Tree.{Tree, tree_sort}
use Rattle.qv_words.specs.Sorted.{no_levels, with_level, free_levels}
use Rattle.qv_words.specs.Replacement.{replaced, HasTheirSorts}
use Rattle.qv_words.specs.Choice.{with_term}
use Rattle.qv_words.proofs.Elements.{all-weaker}
use Rattle.qv_words.proofs.Replaced.{same-put}
use Rattle.qv_store.specs.Nodes.{tree_at}
use Rattle.qv_store.specs.Stores.{StandsAt}
use Rattle.qv_store.specs.Replacing.{put_by_level, term_of_level}

-- answers that hold in another form
pub if-other : {A E : Type 0} (r : Result A E) (P Q : A → Type 0) → ((a : A) → P a → Q a) → IfOk r P → IfOk r Q
if-other (Ok a) P Q h k = h a k
if-other (Err e) P Q h k = tt

-- a list of terms with one set
put-there : (xs : List (Option ℕ)) (x : ℕ) (v : Option ℕ) → x < length xs → term_of_level (set xs x v) x ≡ v
put-there [] x v h = absurd (omega (arith, h))
put-there (y ∷ ys) zero v h = refl
put-there (y ∷ ys) (suc x) v h = put-there ys x v (omega (arith, h))

put-others : (xs : List (Option ℕ)) (x l : ℕ) (v : Option ℕ) → (l ≡ x → ⊥) → term_of_level (set xs x v) l ≡ term_of_level xs l
put-others [] x l v h = refl
put-others (y ∷ ys) zero zero v h = absurd (h refl)
put-others (y ∷ ys) zero (suc l) v h = refl
put-others (y ∷ ys) (suc x) zero v h = refl
put-others (y ∷ ys) (suc x) (suc l) v h = put-others ys x l v (λ e. h (ap suc e))

pub put-back : (xs : List (Option ℕ)) (x : ℕ) (v : Option ℕ) → ((l : ℕ) → term_of_level xs l ≡ None) → set (set xs x v) x None ≡ xs
put-back [] x v h = refl
put-back (y ∷ ys) zero v h = ap (λ o. o ∷ ys) (sym (h 0))
put-back (y ∷ ys) (suc x) v h = ap (λ os. y ∷ os) (put-back ys x v (λ l. h (suc l)))

pub level-put : (trees : List Tree) (put : List (Option ℕ)) (x n : ℕ) → ((l : ℕ) → term_of_level put l ≡ None) → x < length put → (l : ℕ) → put_by_level trees (set put x (Some n)) l ≡ with_level no_levels x (tree_at trees n) l
level-put trees put x n none low l = go (l == x) refl
  where
    go : (b : Bool) → (l == x) ≡ b → option_map (tree_at trees) (term_of_level (set put x (Some n)) l) ≡ cond b (Some (tree_at trees n)) None
    go true e = ap (λ k. option_map (tree_at trees) (term_of_level (set put x (Some n)) k)) (eqb-true l x e) ∙ ap (option_map (tree_at trees)) (put-there put x (Some n) low)
    go false e = ap (option_map (tree_at trees)) (put-others put x l (Some n) (eqb-false l x e) ∙ none l)

pub level-sorts : (trees : List Tree) (put : List (Option ℕ)) (x n : ℕ) (region : Tree) → ((l : ℕ) → term_of_level put l ≡ None) → x < length put → HasTheirSorts (with_level no_levels x (tree_at trees n)) region → HasTheirSorts (put_by_level trees (set put x (Some n))) region
level-sorts trees put x n region none low h =
    All-from_recursion (λ leaf. IfSome (put_by_level trees (set put x (Some n)) leaf.0) (λ t. tree_sort t ≡ Some leaf.1)) (free_levels region)
    (all-weaker (λ leaf. IfSome (with_level no_levels x (tree_at trees n) leaf.0) (λ t. tree_sort t ≡ Some leaf.1)) (λ leaf. IfSome (put_by_level trees (set put x (Some n)) leaf.0) (λ t. tree_sort t ≡ Some leaf.1)) (free_levels region)
    (λ leaf k. subst (λ (o : Option Tree). IfSome o (λ t. tree_sort t ≡ Some leaf.1)) (sym (level-put trees put x n none low leaf.0)) k)
    (recursion_from_All (λ leaf. IfSome (with_level no_levels x (tree_at trees n) leaf.0) (λ t. tree_sort t ≡ Some leaf.1)) (free_levels region) h))

pub level-stands : (trees new : List Tree) (put : List (Option ℕ)) (x n made : ℕ) (region : Tree) → ((l : ℕ) → term_of_level put l ≡ None) → x < length put → StandsAt new made (replaced (put_by_level trees (set put x (Some n))) region)
    → StandsAt new made (with_term x (tree_at trees n) region)
level-stands trees new put x n made region none low h = record {
  below = h.below;
  tree = h.tree ∙ same-put (put_by_level trees (set put x (Some n))) (with_level no_levels x (tree_at trees n)) (level-put trees put x n none low) region;
}
