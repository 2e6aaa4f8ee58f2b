-- Conjunctions: their parts, and where they are true.
use Rattle.std.proofs.Common.{◌≡◌, ℕ, ◌<◌, true, List, [], ◌∷◌, ◌++◌, refl, sym, ap, subst, ◌∙◌, arith}
use Rattle.std.specs.Prelude.{All, IsSomeAnd}
use Rattle.std.specs.List.{AllByRecursion, slice_get}
use Rattle.std.proofs.lemmas.List.Elements.{All-from_recursion, recursion_from_All}
use Rattle.qv_words.specs.declared.sort.Sort.{Sort}
use Rattle.qv_words.specs.declared.sort.Sort.TheVariants.{Bool as BoolSort}
use Rattle.qv_words.specs.declared.op.Op.{Op}
use Rattle.qv_words.specs.declared.op.Op.TheVariants.{And}
use Rattle.qv_words.specs.declared.word.Word.{Word}
use Rattle.qv_words.specs.Word.{word_sort, values_of}
use Rattle.qv_words.specs.Tree.{Tree, Apply}
use Rattle.qv_words.specs.Sorted.{constants_of, free_levels}
use Rattle.qv_words.specs.Prenex.{binary}
use Rattle.qv_words.specs.Values.{HasWords}
use Rattle.qv_words.specs.Skolem.{IsTermOf}
use Rattle.qv_words.specs.Choice.{IsTrueAt}
use Rattle.qv_words.proofs.Conjunctions.{both-bool, both-true, parts-true}
use Rattle.qv_store.specs.Nodes.{tree_at, trees_at}
use Rattle.qv_entries.specs.Conjunctions.{AreAlike, IsConjunction}
use Rattle.qv_entries.specs.Holding.{IsAskable}

neither : {A : Type 0} (xs ys : List A) → xs ++ (ys ++ []) ≡ [] → (xs ≡ []) × (ys ≡ [])
neither [] [] e = (refl, refl)
neither [] (y ∷ ys) e = absurd (cc)
neither (x ∷ xs) ys e = absurd (cc)

pub both-terms : (a b : Tree) → IsTermOf (binary And a b) BoolSort → IsTermOf a BoolSort × IsTermOf b BoolSort
both-terms a b h =
    let sorts = both-bool a b h.sort in
    let free = neither (constants_of a) (constants_of b) h.constant_free in (
      record { sorted = h.sorted.0.0; sort = sorts.0; quantifier_free = h.quantifier_free.0; constant_free = free.0 },
      record { sorted = h.sorted.0.1.0; sort = sorts.1; quantifier_free = h.quantifier_free.1.0; constant_free = free.1 },
    )

-- an application of `and` to two
pub conjunction-of : (trees : List Tree) (id a b : ℕ) (op : Op) (kids : List ℕ) → Apply op (trees_at trees kids) ≡ tree_at trees id → All (λ child. child < id) kids → op ≡ And → kids ≡ a ∷ b ∷ [] → IsConjunction trees id a b
conjunction-of trees id a b op kids e below is two =
    let each = recursion_from_All (λ (child : ℕ). child < id) (a ∷ b ∷ []) (subst (λ (ks : List ℕ). All (λ child. child < id) ks) two below) in
    record {
      tree = sym e ∙ ap (λ (o : Op). Apply o (trees_at trees kids)) is ∙ ap (λ (ks : List ℕ). Apply And (trees_at trees ks)) two;
      front_before = each.0;
      part_before = each.1.0;
    }

-- words for the leaves of both parts
halves : {A : Type 0} (P : A → Type 0) (xs ys : List A) → AllByRecursion P (xs ++ (ys ++ [])) → AllByRecursion P xs × AllByRecursion P ys
halves P [] [] h = (tt, tt)
halves P [] (y ∷ ys) h = (tt, (h.0, (halves P [] ys h.1).1))
halves P (x ∷ xs) ys h = let rest = halves P xs ys h.1 in ((h.0, rest.0), rest.1)

both-have : {A : Type 0} (P : A → Type 0) (xs ys : List A) → All P (xs ++ (ys ++ [])) → All P xs × All P ys
both-have P xs ys h =
    let parts = halves P xs ys (recursion_from_All P (xs ++ (ys ++ [])) h) in
    (All-from_recursion P xs parts.0, All-from_recursion P ys parts.1)

both-words : (point : List Word) (a b : Tree) → HasWords [] point (binary And a b) → HasWords [] point a × HasWords [] point b
both-words point a b h =
    let constants = both-have (λ (leaf : ℕ × Sort). IsSomeAnd (slice_get [] leaf.0) (λ (w : Word). word_sort w ≡ leaf.1)) (constants_of a) (constants_of b) h.constants in
    let levels = both-have (λ (leaf : ℕ × Sort). IsSomeAnd (slice_get point leaf.0) (λ (w : Word). word_sort w ≡ leaf.1)) (free_levels a) (free_levels b) h.levels in
    (record { constants = constants.0; levels = levels.0 }, record { constants = constants.1; levels = levels.1 })

module _ (trees : List Tree) (point : List Word) (id front part : ℕ) (h : IsConjunction trees id front part) where
  -- both may be asked
  pub both-askable : IsAskable trees point id → IsAskable trees point front × IsAskable trees point part
  both-askable k =
      let terms = both-terms (tree_at trees front) (tree_at trees part) (subst (λ (t : Tree). IsTermOf t BoolSort) h.tree k.formula) in
      let words = both-words point (tree_at trees front) (tree_at trees part) (subst (HasWords [] point) h.tree k.words) in
      let below = k.below in
      let front_before = h.front_before in
      let part_before = h.part_before in (
        record { below = omega (arith, below, front_before); formula = terms.0; words = words.0 },
        record { below = omega (arith, below, part_before); formula = terms.1; words = words.1 },
      )

-- where one part is true, the conjunction is alike the other; where it is not, nor is what is alike
-- the conjunction
module _ (trees : List Tree) (point : List Word) (region id front part : ℕ) (h : IsConjunction trees id front part) (k : IsAskable trees point id) (alike : AreAlike trees (values_of point) id region) where
  pub front-alike : IsTrueAt (values_of point) (tree_at trees part) → AreAlike trees (values_of point) front region
  front-alike there =
      let terms = both-terms (tree_at trees front) (tree_at trees part) (subst (λ (t : Tree). IsTermOf t BoolSort) h.tree k.formula) in
      record {
        there = λ f. alike.there (subst (IsTrueAt (values_of point)) (sym h.tree) (both-true (values_of point) (tree_at trees front) (tree_at trees part) terms.0.sort terms.1.sort f there));
        back = λ r. (parts-true (values_of point) (tree_at trees front) (tree_at trees part) (subst (IsTrueAt (values_of point)) h.tree (alike.back r))).0;
      }

  pub part-true : IsTrueAt (values_of point) (tree_at trees region) → IsTrueAt (values_of point) (tree_at trees part)
  part-true r = (parts-true (values_of point) (tree_at trees front) (tree_at trees part) (subst (IsTrueAt (values_of point)) h.tree (alike.back r))).1

pub alike-itself : (trees : List Tree) (point : List ℕ) (a : ℕ) → AreAlike trees point a a
alike-itself trees point a = record { there = λ h. h; back = λ h. h }
