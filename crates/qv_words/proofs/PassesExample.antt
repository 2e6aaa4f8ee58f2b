-- What each of the ten rules, named by its position, makes of its left forms and of what comes near
-- them, and what all ten make in their order.
use Rattle.std.proofs.Common.{◌≡◌, ℕ, [], ◌∷◌, map, unwrap_or, refl}
use Rattle.std.specs.Prelude.{option_map, slice_get}
use Rattle.qv_words.specs.declared.sort.Sort.TheVariants.{Bool, Bits}
use Rattle.qv_words.specs.declared.op.Op.TheVariants.{Not, And, Or, Equal, BvNot, BvNeg, BvOr, BvAdd, BvSub, BvMul, BvComp}
use Rattle.qv_words.specs.Tree.{Tree, Variable, Literal}
use Rattle.qv_words.specs.Prenex.{binary, ite}
use Rattle.qv_words.specs.Inverse.{unary, number}
use Rattle.qv_words.specs.Passes.{passed, passes, rules_in_order}

abbrev by : ℕ → Tree → Tree
by n t = unwrap_or (option_map (λ r. passed r t) (slice_get rules_in_order n)) t

abbrev p : Tree
p = Variable 0 Bool

abbrev q : Tree
q = Variable 1 Bool

abbrev x : Tree
x = Variable 2 (Bits 4)

abbrev y : Tree
y = Variable 3 (Bits 4)

abbrev n : ℕ → Tree
n v = number 4 v

abbrev yes : Tree
yes = Literal Bool 1

abbrev no : Tree
no = Literal Bool 0

-- an application of literals alone, from the leaves up
folds : map (by 0) (binary BvAdd (n 9) (n 9) ∷ binary BvAdd x (binary BvMul (n 3) (n 2)) ∷ unary Not (unary Not yes) ∷ ite yes (n 1) (n 2) ∷ binary And yes p ∷ []) ≡ n 2 ∷ binary BvAdd x (n 6) ∷ yes ∷ n 1 ∷ binary And yes p ∷ []
folds = refl

-- an equation of a tree with itself, and no other operator
same : map (by 1) (binary Equal x x ∷ binary Equal (binary Equal x x) (binary Equal y y) ∷ binary Equal x y ∷ binary BvComp x x ∷ []) ≡ yes ∷ yes ∷ binary Equal x y ∷ binary BvComp x x ∷ []
same = refl

-- an operator on an application of the same one
not-not : map (by 2) (unary Not (unary Not p) ∷ unary BvNot (unary BvNot x) ∷ unary BvNeg (unary BvNeg x) ∷ unary Not (unary Not (unary Not p)) ∷ unary BvNot (unary BvNeg x) ∷ []) ≡ p ∷ x ∷ x ∷ unary Not p ∷ unary BvNot (unary BvNeg x) ∷ []
not-not = refl

units : map (by 3) (binary And yes p ∷ binary And p yes ∷ binary Or no p ∷ binary Or p no ∷ binary And no p ∷ binary Or p yes ∷ []) ≡ p ∷ p ∷ p ∷ p ∷ binary And no p ∷ binary Or p yes ∷ []
units = refl

absorbs : map (by 4) (binary And no p ∷ binary And p no ∷ binary Or yes p ∷ binary Or p yes ∷ binary And yes p ∷ binary Or p no ∷ []) ≡ no ∷ no ∷ yes ∷ yes ∷ binary And yes p ∷ binary Or p no ∷ []
absorbs = refl

known : map (by 5) (ite yes x y ∷ ite no x y ∷ ite p x x ∷ []) ≡ x ∷ y ∷ ite p x x ∷ []
known = refl

same-branches : map (by 6) (ite p x x ∷ ite p x y ∷ ite yes x y ∷ []) ≡ x ∷ ite p x y ∷ ite yes x y ∷ []
same-branches = refl

zeros : map (by 7) (binary BvAdd (n 0) x ∷ binary BvAdd x (n 0) ∷ binary BvSub x (n 0) ∷ binary BvSub (n 0) x ∷ binary BvOr x (n 0) ∷ []) ≡ x ∷ x ∷ x ∷ binary BvSub (n 0) x ∷ binary BvOr x (n 0) ∷ []
zeros = refl

ones : map (by 8) (binary BvMul (n 1) x ∷ binary BvMul x (n 1) ∷ binary BvMul x (n 0) ∷ binary BvAdd x (n 1) ∷ []) ≡ x ∷ x ∷ binary BvMul x (n 0) ∷ binary BvAdd x (n 1) ∷ []
ones = refl

products-of-zero : map (by 9) (binary BvMul (n 0) x ∷ binary BvMul x (n 0) ∷ binary BvMul x (n 1) ∷ []) ≡ n 0 ∷ n 0 ∷ binary BvMul x (n 1) ∷ []
products-of-zero = refl

-- a later rule goes on where an earlier one ends, and an earlier one doesn't come again
in-order : passes (
    binary And (binary Equal x x) p
    ∷ unary Not (unary Not (binary Equal x x))
    ∷ ite (binary And p no) x y
    ∷ binary BvMul (binary BvAdd (n 0) (n 1)) x
    ∷ binary BvAdd x (binary BvMul (n 0) y)
    ∷ binary Equal (binary BvAdd x (n 0)) x
    ∷ ite (unary Not (unary Not yes)) p q
    ∷ []
    )
    ≡ p ∷ yes ∷ y ∷ x ∷ binary BvAdd x (n 0) ∷ binary Equal x x ∷ p ∷ []
in-order = refl
