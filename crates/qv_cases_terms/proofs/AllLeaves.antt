-- From what all constants and variables of a store are to those of one term.
use Rattle.std.proofs.Common.{◌≡◌, ℕ, ◌==◌, ◌≢◌, Bool, true, false, not, cond, List, [], ◌∷◌, ◌++◌, length, refl, subst}
use Rattle.std.specs.List.{AllByRecursion}
use Rattle.std.proofs.lemmas.Bool.{eqb-false}
use Rattle.qv_words.specs.declared.sort.Sort.{Sort}
use Rattle.qv_words.specs.Tree.{Tree, Trees, Constant, Variable, Literal, Apply, ForAll, Exists, Nil, Cons}
use Rattle.qv_words.specs.Sorted.{but_level, constants_of, constants_of_all, free_levels, free_levels_of_all}
use Rattle.qv_store.specs.Stores.{StandsAt, AreBelow, AreShared, children_of}
use Rattle.qv_cases_terms.specs.Leaves.{IsFit, AreFitBelow}

-- what holds of each of some leaves
pub both : (P : ℕ × Sort → Type 0) (xs ys : List (ℕ × Sort)) → AllByRecursion P xs → AllByRecursion P ys → AllByRecursion P (xs ++ ys)
both P [] ys h k = k
both P (x ∷ xs) ys h k = (h.0, both P xs ys h.1 k)

pub all-but : (P : ℕ × Sort → Type 0) (l : ℕ) (xs : List (ℕ × Sort)) → AllByRecursion P xs → AllByRecursion P (but_level l xs)
all-but P l [] h = tt
all-but P l (x ∷ xs) h = go (x.0 == l) (all-but P l xs h.1)
  where
    go : (b : Bool) → AllByRecursion P (but_level l xs) → AllByRecursion P (cond (not b) (x ∷ but_level l xs) (but_level l xs))
    go true r = r
    go false r = (h.0, r)

-- those that a quantifier leaves are of other levels
pub but-apart : (l : ℕ) (xs : List (ℕ × Sort)) → AllByRecursion (λ leaf. leaf.0 ≢ l) (but_level l xs)
but-apart l [] = tt
but-apart l (x ∷ xs) = go (x.0 == l) refl (but-apart l xs)
  where
    go : (b : Bool) → (x.0 == l) ≡ b → AllByRecursion (λ leaf. leaf.0 ≢ l) (but_level l xs) →
        AllByRecursion (λ leaf. leaf.0 ≢ l) (cond (not b) (x ∷ but_level l xs) (but_level l xs))
    go true e r = r
    go false e r = (eqb-false x.0 l e, r)

module _ (P Q : ℕ × Sort → Type 0) (trees : List Tree) (shared : AreShared trees) (fit : AreFitBelow P Q trees (length trees)) where
  own : (t : Tree) (n : ℕ) → StandsAt trees n t → IsFit P Q t
  own t n at = subst (IsFit P Q) at.tree (fit n at.below)

  below : (t : Tree) (n : ℕ) → StandsAt trees n t → AreBelow trees n (children_of t)
  below t n at = subst (λ u. AreBelow trees n (children_of u)) at.tree (shared.children n at.below)

  mutual
    -- the leaves of a term
    pub leaves : (t : Tree) (n : ℕ) → StandsAt trees n t → AllByRecursion P (constants_of t) × AllByRecursion Q (free_levels t)
    leaves (Constant i s) n at = ((own (Constant i s) n at, tt), tt)
    leaves (Variable l s) n at = (tt, (own (Variable l s) n at, tt))
    leaves (Literal s v) n at = (tt, tt)
    leaves (Apply o args) n at = leaves-all args n (below (Apply o args) n at)
    leaves (ForAll l s body) n at =
        let b = (below (ForAll l s body) n at).0 in
        let rest = leaves body b.0 b.2 in
        (rest.0, all-but Q l (free_levels body) rest.1)
    leaves (Exists l s body) n at =
        let b = (below (Exists l s body) n at).0 in
        let rest = leaves body b.0 b.2 in
        (rest.0, all-but Q l (free_levels body) rest.1)

    leaves-all : (ts : Trees) (n : ℕ) → AreBelow trees n ts → AllByRecursion P (constants_of_all ts) × AllByRecursion Q (free_levels_of_all ts)
    leaves-all Nil n b = (tt, tt)
    leaves-all (Cons t ts) n b =
        let first = leaves t b.0.0 b.0.2 in
        let rest = leaves-all ts n b.1 in
        (both P (constants_of t) (constants_of_all ts) first.0 rest.0, both Q (free_levels t) (free_levels_of_all ts) first.1 rest.1)
