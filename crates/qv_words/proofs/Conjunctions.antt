-- Conjunctions of two truth values, and where they are true.
use Rattle.std.proofs.Common.{◌≡◌, ℕ, ◌==◌, ◌&&◌, Bool, true, false, Option, Some, None, List, [], ◌∷◌, refl, ap, subst, ◌∙◌}
use Rattle.std.specs.Prelude.{option_and_then, option_map}
use Rattle.std.specs.List.{slice_get}
use Rattle.std.proofs.lemmas.Bool.{and_parts, eqb-true}
use Rattle.qv_words.specs.declared.sort.Sort.{Sort}
use Rattle.qv_words.specs.declared.sort.Sort.TheVariants.{Bits}
use Rattle.qv_words.specs.declared.sort.Sort.TheVariants.{Bool as BoolSort}
use Rattle.qv_words.specs.declared.op.Op.TheVariants.{And}
use Rattle.qv_words.specs.Op.{op_value, truth}
use Rattle.qv_words.specs.Rank.{two_bools}
use Rattle.qv_words.specs.Tree.{Tree, Nil, Cons, tree_sort}
use Rattle.qv_words.specs.Prenex.{binary}
use Rattle.qv_words.specs.Meaning.{Means, MeanAll}
use Rattle.qv_words.specs.Choice.{IsTrueAt}

-- both parts are truth values
pub both-bool : (a b : Tree) → tree_sort (binary And a b) ≡ Some BoolSort → (tree_sort a ≡ Some BoolSort) × (tree_sort b ≡ Some BoolSort)
both-bool a b e = go (tree_sort a) (tree_sort b) e
  where
    go : (x y : Option Sort) → option_and_then two_bools (option_and_then (λ (s : Sort). option_map (λ (ss : List Sort). s ∷ ss) (option_and_then (λ (t : Sort). option_map (λ (ss : List Sort). t ∷ ss) (Some [])) y)) x) ≡ Some BoolSort → (x ≡ Some BoolSort) × (y ≡ Some BoolSort)
    go None y e = absurd (cc)
    go (Some BoolSort) None e = absurd (cc)
    go (Some (Bits w)) None e = absurd (cc)
    go (Some BoolSort) (Some BoolSort) e = (refl, refl)
    go (Some BoolSort) (Some (Bits w)) e = absurd (cc)
    go (Some (Bits v)) (Some t) e = absurd (cc)

-- a conjunction is true where both are
one-and-one : (v u : ℕ) → 1 ≡ truth (v == 1 && u == 1) → (v ≡ 1) × (u ≡ 1)
one-and-one v u e =
    let parts = and_parts (v == 1) (u == 1) (go (v == 1 && u == 1) e) in
    (eqb-true v 1 parts.0, eqb-true u 1 parts.1)
  where
    go : (b : Bool) → 1 ≡ truth b → b ≡ true
    go true e = refl
    go false e = absurd (cc)

pub parts-true : (point : List ℕ) (a b : Tree) → IsTrueAt point (binary And a b) → IsTrueAt point a × IsTrueAt point b
parts-true point a b m = go m.1 m.3 m.4
  where
    go : (vs : List ℕ) → MeanAll [] (slice_get point) (Cons a (Cons b Nil)) vs → 1 ≡ op_value And m.0 vs → IsTrueAt point a × IsTrueAt point b
    go vs all e =
        let ones = one-and-one all.0 all.3.0 (subst (λ (ws : List ℕ). 1 ≡ op_value And m.0 ws) (all.4 ∙ ap (λ (ws : List ℕ). all.0 ∷ ws) (all.3.4 ∙ ap (λ (ws : List ℕ). all.3.0 ∷ ws) all.3.3)) e) in
        (subst (λ (n : ℕ). Means [] (slice_get point) a n) ones.0 all.2, subst (λ (n : ℕ). Means [] (slice_get point) b n) ones.1 all.3.2)

pub both-true : (point : List ℕ) (a b : Tree) → tree_sort a ≡ Some BoolSort → tree_sort b ≡ Some BoolSort → IsTrueAt point a → IsTrueAt point b → IsTrueAt point (binary And a b)
both-true point a b s t ha hb =
    (BoolSort ∷ BoolSort ∷ [], 1 ∷ 1 ∷ [], cc, (1, 1 ∷ [], ha, (1, [], hb, refl, refl), refl), refl)
