-- A term that came before another one doesn't have it in it, so it stays.
use Rattle.std.proofs.Common.{◌≡◌, ℕ, ◌<◌, Bool, true, false, if◌then◌else◌, Some, None, List, length, refl, ap, ◌∙◌, subst, arith}
use Rattle.std.specs.Prelude.{unwrap_or}
use Rattle.std.proofs.lemmas.Bool.{ltb-true}
use Rattle.qv_words.specs.Equality.{tree_eq}
use Rattle.qv_words.specs.Tree.{Tree, Trees, Constant, Variable, Literal, Apply, ForAll, Exists, Nil, Cons}
use Rattle.qv_words.specs.Prenex.{is_quantified}
use Rattle.qv_words.proofs.Equals.{tree_eq-is}
use Rattle.qv_store.specs.Nodes.{tree_at}
use Rattle.qv_store.specs.Stores.{StandsAt, AreShared, AreBelow, children_of}
use Rattle.qv_prenex_splits.specs.Rebuilt.{rebuilt, rebuilt_each}
use Rattle.qv_prenex_splits.specs.declared.rebuilding.Change.{Change}
use Rattle.qv_prenex_splits.specs.declared.rebuilding.Change.TheVariants.{Term}
use Rattle.qv_prenex_splits.specs.declared.rebuilding.Change.TheVariants.{Names as ByNames}
use Rattle.qv_prenex_splits.specs.declared.naming.Names.{Names}
use Rattle.qv_prenex_splits.specs.Rebuilding.{term_top, top_in, IsChangeIn, stays}

-- the target isn't at the top
at-top : (b q : Bool) (t put rest : Tree) → b ≡ false → rest ≡ t → unwrap_or (if b then Some put else (if q then None else Some t)) rest ≡ t
at-top true q t put rest e same = absurd (cc)
at-top false true t put rest e same = same
at-top false false t put rest e same = refl

module _ (trees : List Tree) (target : ℕ) (put : Tree) (shared : AreShared trees) (inside : target < length trees) where
  other : (t : Tree) (n : ℕ) → n < target → StandsAt trees n t → tree_eq t (tree_at trees target) ≡ false
  other t n less at = by (tree_eq t (tree_at trees target)) refl
    where
      by : (b : Bool) → tree_eq t (tree_at trees target) ≡ b → b ≡ false
      by false e = refl
      by true e = absurd (let same : n ≡ target = shared.once n target at.below inside (at.tree ∙ tree_eq-is t (tree_at trees target) e) in omega (arith, same, less))

  leaf-stays : (t : Tree) (n : ℕ) → n < target → StandsAt trees n t → unwrap_or (term_top (tree_at trees target) put t) t ≡ t
  leaf-stays t n less at = at-top (tree_eq t (tree_at trees target)) (is_quantified t) t put t (other t n less at) refl

  mutual
    pub stays-before : (t : Tree) (n : ℕ) → n < target → StandsAt trees n t → rebuilt (term_top (tree_at trees target) put) t ≡ t
    stays-before (Constant i s) n less at = leaf-stays (Constant i s) n less at
    stays-before (Variable l s) n less at = leaf-stays (Variable l s) n less at
    stays-before (Literal s v) n less at = leaf-stays (Literal s v) n less at
    stays-before (Apply o args) n less at =
        at-top (tree_eq (Apply o args) (tree_at trees target)) (is_quantified (Apply o args)) (Apply o args) put (Apply o (rebuilt_each (term_top (tree_at trees target) put) args)) (other (Apply o args) n less at)
        (ap (Apply o) (stay-before args n less (subst (λ (t : Tree). AreBelow trees n (children_of t)) at.tree (shared.children n at.below))))
    stays-before (ForAll l s body) n less at = leaf-stays (ForAll l s body) n less at
    stays-before (Exists l s body) n less at = leaf-stays (Exists l s body) n less at

    stay-before : (ts : Trees) (n : ℕ) → n < target → AreBelow trees n ts → rebuilt_each (term_top (tree_at trees target) put) ts ≡ ts
    stay-before Nil n less h = refl
    stay-before (Cons t ts) n less h =
        ap (λ (u : Tree). Cons u (rebuilt_each (term_top (tree_at trees target) put) ts)) (stays-before t h.0.0 (omega (arith, h.0.1, less)) h.0.2) ∙ ap (Cons t) (stay-before ts n less h.1)

-- so a change leaves it
pub change-stays : (trees : List Tree) (change : Change) (names : Names) (id : ℕ) → AreShared trees → IsChangeIn trees change names → id < length trees → stays change id ≡ true → rebuilt (top_in trees change names) (tree_at trees id) ≡ tree_at trees id
change-stays trees (Term target put) names id shared h low e =
    stays-before trees target (tree_at trees put) shared h.0 (tree_at trees id) id (ltb-true id target e) (record { below = low; tree = refl })
change-stays trees ByNames names id shared h low e = absurd (cc)
