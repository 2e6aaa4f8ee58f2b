-- Worked examples of the definitions, computed.
use Rattle.std.proofs.Common.{◌≡◌, ℕ, Some, None, List, [], ◌∷◌, refl, inl, slice_get}
use Rattle.std.proofs.lemmas.List.Elements.{All-from_recursion}
use Rattle.qv_words.specs.declared.sort.Sort.TheVariants.{Bits}
use Rattle.qv_words.specs.declared.op.Op.TheVariants.{Equal, BvNot, BvMul, BvLshr, BvUge}
use Rattle.qv_words.specs.Tree.{Tree, Variable}
use Rattle.qv_words.specs.Meaning.{Means}
use Rattle.qv_words.specs.Prenex.{binary, negation}
use Rattle.qv_words.specs.Problem.{Problem, Existential, Universal}
use Rattle.qv_words.specs.Skolem.{goal_of}
use Rattle.qv_words.specs.Inverse.{inverse_term, inverse_modulo, number, unary}
use Rattle.qv_words.specs.Choice.{candidates, with_term, IsTrueAt, IsChosen}

-- some x is at least every y: the term 255 for x leaves the goal that it isn't
greatest : Problem
greatest = record {
  prefix = record { quantifier = Existential; sort = Bits 8 } ∷ record { quantifier = Universal; sort = Bits 8 } ∷ [];
  matrix = binary BvUge (Variable 0 (Bits 8)) (Variable 1 (Bits 8));
}

goal-of-greatest : goal_of greatest (record { place = 0; term = number 8 255 } ∷ []) ≡ negation (binary BvUge (number 8 255) (Variable 1 (Bits 8)))
unfolding greatest
goal-of-greatest = refl

-- 3 times 171 is 1 modulo 256
row-of-product : inverse_term BvMul 0 (Bits 8 ∷ Bits 8 ∷ []) (Some 3) ≡ Some (binary BvMul (binary BvLshr (Variable 1 (Bits 8)) (number 8 0)) (number 8 171))
unfolding inverse_term inverse_modulo
row-of-product = refl

-- a product with no literal has none
no-row : inverse_term BvMul 0 (Bits 8 ∷ Bits 8 ∷ []) None ≡ None
unfolding inverse_term
no-row = refl

-- the region (= y (bvnot x))
not_x : Tree
not_x = unary BvNot (Variable 0 (Bits 8))

y_is_not_x : Tree
y_is_not_x = binary Equal (Variable 1 (Bits 8)) not_x

-- the one candidate for y is (bvnot x)
candidates-of-not : candidates 1 2 y_is_not_x 1 ≡ not_x ∷ []
unfolding candidates y_is_not_x not_x
candidates-of-not = refl

-- x is 5 and y is 250: a point of the region
point : List ℕ
point = 5 ∷ 250 ∷ []

not-x-at-point : Means [] (slice_get point) not_x 250
unfolding not_x point
not-x-at-point = (Bits 8 ∷ [], 5 ∷ [], refl, (5, [], refl, refl, refl), refl)

region-at-point : IsTrueAt point y_is_not_x
unfolding y_is_not_x not_x point
region-at-point = (Bits 8 ∷ Bits 8 ∷ [], 250 ∷ 250 ∷ [], refl, (250, 250 ∷ [], refl, (250, [], not-x-at-point, refl, refl), refl), refl)

-- it stays true with (bvnot x) for y
stays-true : IsTrueAt point (with_term 1 not_x y_is_not_x)
unfolding y_is_not_x not_x point
stays-true = (Bits 8 ∷ Bits 8 ∷ [], 250 ∷ 250 ∷ [], refl, (250, 250 ∷ [], not-x-at-point, (250, [], not-x-at-point, refl, refl), refl), refl)

-- so (bvnot x) is the choice for y
choice-of-not : IsChosen 1 2 point y_is_not_x 1 (Bits 8) not_x
choice-of-not = inl (record {
  before = [];
  behind = [];
  stands = candidates-of-not;
  holds = stays-true;
  others = All-from_recursion _ [] tt;
})
