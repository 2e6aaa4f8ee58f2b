-- The two halves of a list, put one behind the other.
use Rattle.std.proofs.Common.{◌≡◌, ℕ, ◌-◌, ◌/◌, ◌<◌, ◌≤◌, Bool, List, [], ◌∷◌, length, take, drop, slice_get, Some, None, refl, sym, ap, subst, ◌∙◌, arith}
use Rattle.std.specs.Prelude.{All}
use Rattle.std.proofs.lemmas.List.{length-map, length-drop, take-map, drop-map, take_all}
use Rattle.std.proofs.lemmas.List.Elements.{All-head, All-take, All-drop}
use Rattle.qv_words.specs.Tree.{Tree}
use Rattle.qv_words.specs.Prenex.{binary}
use Rattle.qv_words.specs.Passes.{truth_literal}
use Rattle.qv_store.specs.Nodes.{tree_at}
use Rattle.qv_store.specs.Stores.{StandsAt, Grows}
use Rattle.qv_store.specs.Walks.{named}
use Rattle.qv_store.proofs.Replacement.{grown-tree}
use Rattle.qv_qdimacs.specs.Translation.{connective, joined_within, joined}
use Rattle.qv_qdimacs.specs.Formulas.{IsFormulaAt}
use Rattle.qv_qdimacs.proofs.Standing.{at-put, at-grown, each-grown, each-below, each-formula, named-grown}
use Rattle.qv_qdimacs.proofs.Halves.{joined-formula, joined-halves, joined-few}

-- The first half was put into `mid`, and the second into `new`.
module _ (old mid new : List Tree) (both : Bool) (ids : List ℕ) (m front behind : ℕ) (each : All (IsFormulaAt old) ids) (first : Grows old mid) (second : Grows mid new)
    (at-front : StandsAt mid front (joined both (named old (take m ids)))) (at-rest : StandsAt new behind (joined both (named mid (take (length ids - m) (drop m ids))))) where
  at-behind : StandsAt new behind (joined both (named mid (drop m ids)))
  at-behind =
      subst (λ (rest : List ℕ). StandsAt new behind (joined both (named mid rest)))
      (take_all (length ids - m) (drop m ids) (omega (arith, length-drop m ids))) at-rest

  pub behind-each : All (IsFormulaAt mid) (drop m ids)
  behind-each = each-grown old mid first (drop m ids) (All-drop (IsFormulaAt old) m ids each)

  pub front-at : IsFormulaAt new front
  front-at =
      at-grown mid new second front
      (at-put mid front (joined both (named old (take m ids)))
      (joined-formula both (named old (take m ids)) (each-formula old (take m ids) (All-take (IsFormulaAt old) m ids each))) at-front)

  pub behind-at : IsFormulaAt new behind
  behind-at =
      at-put new behind (joined both (named mid (drop m ids)))
      (joined-formula both (named mid (drop m ids)) (each-formula mid (drop m ids) behind-each)) at-behind

  pub pair-joined : 2 ≤ length ids → m ≡ length ids / 2 → binary (connective both) (tree_at new front) (tree_at new behind) ≡ joined both (named old ids)
  pair-joined two half =
      let many : length (named old ids) ≡ length ids = length-map ids (tree_at old) in
      let one : tree_at new front ≡ joined both (take m (named old ids)) =
      grown-tree mid new second front at-front.below ∙ at-front.tree ∙ ap (joined both) (sym (take-map (tree_at old) m ids)) in
      let other : tree_at new behind ≡ joined both (drop m (named old ids)) =
      at-behind.tree
      ∙ ap (joined both) (named-grown old mid first (drop m ids) (each-below old (drop m ids) (All-drop (IsFormulaAt old) m ids each)) ∙ sym (drop-map (tree_at old) m ids)) in
      ap (λ (t : Tree). binary (connective both) t (tree_at new behind)) one
      ∙ ap (binary (connective both) (joined both (take m (named old ids)))) other
      ∙ sym (joined-halves both (named old ids) m (omega (arith, many, two)) (half ∙ ap (λ (n : ℕ). n / 2) (sym many)))

-- a list of fewer than two: its only formula stands already, and of none a literal is put
pub few-one : (trees : List Tree) (both : Bool) (ids : List ℕ) (id : ℕ) → All (IsFormulaAt trees) ids → length ids < 2 → slice_get ids 0 ≡ Some id → StandsAt trees id (joined both (named trees ids))
few-one trees both [] id each few is = absurd (cc)
few-one trees both (x ∷ []) id each few is =
    let same : x ≡ id = cc in
    subst (λ (n : ℕ). StandsAt trees n (joined both (tree_at trees x ∷ []))) same
    (record { below = (All-head (IsFormulaAt trees) x [] each).below; tree = sym (joined-few both (tree_at trees x)) })
few-one trees both (x ∷ y ∷ ids) id each few is = absurd (omega (arith, few))

pub few-none : (trees : List Tree) (both : Bool) (ids : List ℕ) → slice_get ids 0 ≡ None → joined both (named trees ids) ≡ truth_literal both
unfolding joined_within
few-none trees both [] is = refl
few-none trees both (x ∷ ids) is = absurd (cc)
