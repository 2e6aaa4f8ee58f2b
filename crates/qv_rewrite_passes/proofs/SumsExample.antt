-- What the pass of sums makes of terms.
use Rattle.std.proofs.Common.{◌≡◌, ℕ, zero, suc, [], ◌∷◌, map, refl}
use Rattle.qv_words.specs.declared.sort.Sort.TheVariants.{Bool, Bits}
use Rattle.qv_words.specs.declared.op.Op.TheVariants.{Not, Equal, BvNot, BvNeg, BvAnd, BvAdd, BvSub, BvMul, BvShl, BvUlt}
use Rattle.qv_words.specs.Tree.{Tree, Constant, Variable, Literal}
use Rattle.qv_words.specs.Prenex.{binary}
use Rattle.qv_words.specs.Inverse.{unary, number}
use Rattle.qv_words.specs.Sums.{summed}

abbrev x : Tree
x = Variable 0 (Bits 8)

abbrev y : Tree
y = Variable 1 (Bits 8)

abbrev z : Tree
z = Variable 2 (Bits 8)

abbrev p : Tree
p = Variable 3 Bool

abbrev n : ℕ → Tree
n v = number 8 v

abbrev yes : Tree
yes = Literal Bool 1

abbrev no : Tree
no = Literal Bool 0

-- products distributed, associated and commuted, and sums in other orders
equal : map summed (
    binary Equal (binary BvMul x (binary BvAdd y z)) (binary BvAdd (binary BvMul x y) (binary BvMul x z))
    ∷ binary Equal (binary BvMul (binary BvMul x y) z) (binary BvMul z (binary BvMul y x))
    ∷ binary Equal (binary BvAdd (binary BvAdd x y) z) (binary BvAdd z (binary BvAdd y x))
    ∷ [])
    ≡ yes ∷ yes ∷ yes ∷ []
unfolding lib.Count.ones
equal = refl

-- leaves come in the order of their numbers
ordered : map summed (
    binary BvMul y x
    ∷ binary BvAdd (binary BvAdd z y) x
    ∷ binary BvUlt (binary BvAdd y x) (binary BvAdd x y)
    ∷ binary BvAdd (n 1) (Constant 5 (Bits 8))
    ∷ binary BvAdd x (Constant 5 (Bits 8))
    ∷ [])
    ≡ binary BvMul x y
    ∷ binary BvAdd (binary BvAdd x y) z
    ∷ binary BvUlt (binary BvAdd x y) (binary BvAdd x y)
    ∷ binary BvAdd (Constant 5 (Bits 8)) (n 1)
    ∷ binary BvAdd (Constant 5 (Bits 8)) x
    ∷ []
unfolding lib.Count.ones
ordered = refl

-- what cancels, and coefficients
coefficients : map summed (
    binary BvSub x x
    ∷ binary BvMul (unary BvNeg x) (unary BvNeg y)
    ∷ binary BvMul x (n 0xfc)
    ∷ binary BvAdd (binary BvMul x (n 0xf8)) (n 1)
    ∷ binary BvAdd (binary BvShl x (n 3)) x
    ∷ binary BvMul x (n 0x80)
    ∷ n 0xff
    ∷ [])
    ≡ n 0
    ∷ binary BvMul x y
    ∷ unary BvNeg (binary BvMul x (n 4))
    ∷ binary BvSub (n 1) (binary BvMul x (n 8))
    ∷ binary BvMul x (n 9)
    ∷ binary BvMul x (n 0x80)
    ∷ n 0xff
    ∷ []
unfolding lib.Count.ones
coefficients = refl

-- complements, and a shift by the width
complements : map summed (
    unary BvNot x
    ∷ unary BvNot (unary BvNeg x)
    ∷ unary BvNot (binary BvSub x y)
    ∷ unary BvNeg (unary BvNot x)
    ∷ binary BvShl x (n 8)
    ∷ binary BvShl x y
    ∷ [])
    ≡ unary BvNot x
    ∷ binary BvSub x (n 1)
    ∷ binary BvSub y (binary BvAdd x (n 1))
    ∷ binary BvAdd x (n 1)
    ∷ binary BvShl x (n 8)
    ∷ binary BvShl x y
    ∷ []
unfolding lib.Count.ones
complements = refl

-- equations: odd differences, numbers, and sides
equations : map summed (
    binary Equal (binary BvAdd (binary BvMul x (n 2)) (n 1)) (binary BvMul y (n 4))
    ∷ binary Equal (binary BvAdd x (n 2)) x
    ∷ binary Equal (binary BvSub x (n 1)) y
    ∷ binary Equal y x
    ∷ binary Equal (binary BvMul x (n 2)) (binary BvMul y (n 4))
    ∷ binary Equal p p
    ∷ unary Not (binary Equal (binary BvAdd x y) (binary BvAdd y z))
    ∷ [])
    ≡ no
    ∷ no
    ∷ binary Equal x (binary BvAdd y (n 1))
    ∷ binary Equal x y
    ∷ binary Equal (binary BvMul x (n 2)) (binary BvMul y (n 4))
    ∷ binary Equal p p
    ∷ unary Not (binary Equal x z)
    ∷ []
unfolding lib.Count.ones
equations = refl

-- other operators are factors, over their arguments' terms
factors : map summed (
    binary BvAdd (binary BvAnd (binary BvAdd y x) z) (binary BvAnd (binary BvAdd x y) z)
    ∷ binary BvMul (binary BvAnd x y) z
    ∷ [])
    ≡ binary BvMul (binary BvAnd (binary BvAdd x y) z) (n 2)
    ∷ binary BvMul z (binary BvAnd x y)
    ∷ []
unfolding lib.Count.ones
factors = refl

-- a product of five factors is a factor itself
abbrev fourth : Tree → Tree
fourth t = binary BvMul (binary BvMul (binary BvMul t t) t) t

limits : map summed (
    binary Equal (fourth x) (binary BvMul (binary BvMul x x) (binary BvMul x x))
    ∷ binary Equal (binary BvMul (fourth x) x) (binary BvMul x (fourth x))
    ∷ [])
    ≡ yes
    ∷ binary Equal (binary BvMul (fourth x) x) (binary BvMul x (fourth x))
    ∷ []
unfolding lib.Count.ones
limits = refl

-- and so is a sum of more than 24 products
abbrev total : ℕ → Tree
total zero = Variable 0 (Bits 8)
total (suc k) = binary BvAdd (total k) (Variable (suc k) (Bits 8))

long-sums : map summed (binary BvSub (total 23) (total 23) ∷ binary BvSub (total 24) (Variable 0 (Bits 8)) ∷ [])
    ≡ n 0 ∷ binary BvSub (total 24) (Variable 0 (Bits 8)) ∷ []
unfolding lib.Count.ones
long-sums = refl
