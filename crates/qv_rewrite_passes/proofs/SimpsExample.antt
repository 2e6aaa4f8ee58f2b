-- What the pass of small rules makes of terms.
use Rattle.std.proofs.Common.{◌≡◌, ℕ, [], ◌∷◌, map, refl}
use Rattle.qv_words.specs.declared.sort.Sort.TheVariants.{Bool, Bits}
use Rattle.qv_words.specs.declared.op.Op.TheVariants.{Not, And, Xor, Implies, Equal, BvNot, BvAnd, BvOr, BvXor, BvNand, BvNor, BvXnor, BvSub, BvUdiv, BvUrem, BvShl, BvLshr, BvAshr, BvUlt, BvUle, BvUgt, BvUge, BvSlt, BvSle, BvSgt, BvSge}
use Rattle.qv_words.specs.Tree.{Tree, Variable, Literal}
use Rattle.qv_words.specs.Prenex.{binary, ite}
use Rattle.qv_words.specs.Inverse.{unary, number}
use Rattle.qv_rewrite_passes.specs.Simps.{simped}

abbrev x : Tree
x = Variable 0 (Bits 8)

abbrev y : Tree
y = Variable 1 (Bits 8)

abbrev z : Tree
z = Variable 0 (Bits 128)

abbrev p : Tree
p = Variable 0 Bool

abbrev a : Tree
a = Variable 0 (Bits 1)

abbrev yes : Tree
yes = Literal Bool 1

abbrev no : Tree
no = Literal Bool 0

abbrev n : ℕ → Tree
n v = number 8 v

-- a literal beside a term
literals : map simped (
    binary BvAnd x (n 0)
    ∷ binary BvAnd (n 255) x
    ∷ binary BvOr x (n 0)
    ∷ binary BvOr (n 255) x
    ∷ binary BvXor x (n 255)
    ∷ binary BvXor (n 0) x
    ∷ binary BvXnor x (n 0)
    ∷ binary BvAnd x (n 15)
    ∷ binary BvNand x (n 255)
    ∷ binary BvNor x (n 255)
    ∷ binary Xor p yes
    ∷ binary Equal p no
    ∷ binary Equal a (number 1 0)
    ∷ binary Implies no p
    ∷ binary Implies p no
    ∷ []) ≡
    n 0
    ∷ x
    ∷ x
    ∷ n 255
    ∷ unary BvNot x
    ∷ x
    ∷ unary BvNot x
    ∷ binary BvAnd x (n 15)
    ∷ unary BvNot x
    ∷ n 0
    ∷ unary Not p
    ∷ unary Not p
    ∷ binary Equal a (number 1 0)
    ∷ yes
    ∷ unary Not p
    ∷ []
literals = refl

-- two negations behind one another go
negations : map simped (
    binary Xor (unary Not p) yes
    ∷ binary BvXor (unary BvNot x) (n 255)
    ∷ []) ≡
    p
    ∷ x
    ∷ []
negations = refl

-- shifts, division and remainder
shifts : map simped (
    binary BvShl x (n 0)
    ∷ binary BvShl x (n 8)
    ∷ binary BvShl x (n 7)
    ∷ binary BvLshr x (n 255)
    ∷ binary BvAshr x (n 0)
    ∷ binary BvLshr (n 0) x
    ∷ binary BvUdiv x (n 1)
    ∷ binary BvUdiv x (n 0)
    ∷ binary BvUrem x (n 1)
    ∷ binary BvUrem x (n 0)
    ∷ []) ≡
    x
    ∷ n 0
    ∷ binary BvShl x (n 7)
    ∷ n 0
    ∷ x
    ∷ n 0
    ∷ x
    ∷ n 255
    ∷ n 0
    ∷ x
    ∷ []
shifts = refl

-- division and remainder by a power of two, and by what is beside one
powers : map simped (
    binary BvUdiv x (n 2)
    ∷ binary BvUdiv x (n 64)
    ∷ binary BvUdiv x (n 128)
    ∷ binary BvUdiv z (number 128 170141183460469231731687303715884105728)
    ∷ binary BvUdiv x (n 3)
    ∷ binary BvUdiv x (n 63)
    ∷ binary BvUdiv x (n 65)
    ∷ binary BvUdiv (n 2) x
    ∷ binary BvUdiv a (number 1 1)
    ∷ binary BvUdiv a (number 1 0)
    ∷ binary BvUrem x (n 2)
    ∷ binary BvUrem x (n 16)
    ∷ binary BvUrem x (n 128)
    ∷ binary BvUrem x (n 127)
    ∷ binary BvUrem x (n 255)
    ∷ binary BvUrem (n 16) x
    ∷ binary BvUrem a (number 1 1)
    ∷ []) ≡
    binary BvLshr x (n 1)
    ∷ binary BvLshr x (n 6)
    ∷ binary BvLshr x (n 7)
    ∷ binary BvLshr z (number 128 127)
    ∷ binary BvUdiv x (n 3)
    ∷ binary BvUdiv x (n 63)
    ∷ binary BvUdiv x (n 65)
    ∷ binary BvUdiv (n 2) x
    ∷ a
    ∷ number 1 1
    ∷ binary BvAnd x (n 1)
    ∷ binary BvAnd x (n 15)
    ∷ binary BvAnd x (n 127)
    ∷ binary BvUrem x (n 127)
    ∷ binary BvUrem x (n 255)
    ∷ binary BvUrem (n 16) x
    ∷ number 1 0
    ∷ []
powers = refl

-- an arithmetic shift by the width or more
past : map simped (
    binary BvAshr x (n 8)
    ∷ binary BvAshr x (n 255)
    ∷ binary BvAshr x (n 7)
    ∷ binary BvAshr (n 8) x
    ∷ binary BvAshr z (number 128 128)
    ∷ binary BvAshr a (number 1 1)
    ∷ binary BvAshr a (number 1 0)
    ∷ []) ≡
    binary BvAshr x (n 7)
    ∷ binary BvAshr x (n 7)
    ∷ binary BvAshr x (n 7)
    ∷ binary BvAshr (n 8) x
    ∷ binary BvAshr z (number 128 127)
    ∷ binary BvAshr a (number 1 0)
    ∷ a
    ∷ []
past = refl

-- comparisons with an end of the range
comparisons : map simped (
    binary BvUlt x (n 0)
    ∷ binary BvUlt x (n 1)
    ∷ binary BvUle x (n 0)
    ∷ binary BvUle (n 255) x
    ∷ binary BvUgt (n 1) x
    ∷ binary BvUge x (n 255)
    ∷ binary BvUlt (n 0) x
    ∷ binary BvUlt a (number 1 1)
    ∷ []) ≡
    no
    ∷ binary Equal x (n 0)
    ∷ binary Equal x (n 0)
    ∷ binary Equal x (n 255)
    ∷ binary Equal x (n 0)
    ∷ binary Equal x (n 255)
    ∷ binary BvUlt (n 0) x
    ∷ binary Equal a (number 1 0)
    ∷ []
comparisons = refl

-- comparisons of signed numbers with the least and the greatest, and beside them
signed : map simped (
    binary BvSlt x (n 128)
    ∷ binary BvSlt x (n 127)
    ∷ binary BvSlt x (n 129)
    ∷ binary BvSle x (n 127)
    ∷ binary BvSle x (n 128)
    ∷ binary BvSle x (n 126)
    ∷ binary BvSgt x (n 127)
    ∷ binary BvSgt x (n 128)
    ∷ binary BvSge x (n 128)
    ∷ binary BvSge x (n 127)
    ∷ binary BvSge x (n 129)
    ∷ binary BvSlt (n 127) x
    ∷ binary BvSlt (n 128) x
    ∷ binary BvSle (n 128) x
    ∷ binary BvSle (n 127) x
    ∷ binary BvSle (n 255) x
    ∷ binary BvSgt (n 128) x
    ∷ binary BvSgt (n 127) x
    ∷ binary BvSge (n 127) x
    ∷ binary BvSge (n 128) x
    ∷ binary BvSge (n 0) x
    ∷ []) ≡
    no
    ∷ binary BvSlt x (n 127)
    ∷ binary BvSlt x (n 129)
    ∷ yes
    ∷ binary Equal x (n 128)
    ∷ binary BvSle x (n 126)
    ∷ no
    ∷ binary BvSgt x (n 128)
    ∷ yes
    ∷ binary Equal x (n 127)
    ∷ binary BvSge x (n 129)
    ∷ no
    ∷ binary BvSlt (n 128) x
    ∷ yes
    ∷ binary Equal x (n 127)
    ∷ binary BvSle (n 255) x
    ∷ no
    ∷ binary BvSgt (n 127) x
    ∷ yes
    ∷ binary Equal x (n 128)
    ∷ binary BvSge (n 0) x
    ∷ []
signed = refl

-- the same at one bit, where the least is 1 and the greatest 0
signed_bits : map simped (
    binary BvSlt a (number 1 1)
    ∷ binary BvSlt a (number 1 0)
    ∷ binary BvSle a (number 1 0)
    ∷ binary BvSle a (number 1 1)
    ∷ binary BvSgt a (number 1 0)
    ∷ binary BvSge a (number 1 1)
    ∷ binary BvSge a (number 1 0)
    ∷ binary BvSlt (number 1 0) a
    ∷ binary BvSle (number 1 1) a
    ∷ binary BvSle (number 1 0) a
    ∷ binary BvSgt (number 1 1) a
    ∷ binary BvSge (number 1 0) a
    ∷ binary BvSge (number 1 1) a
    ∷ []) ≡
    no
    ∷ binary BvSlt a (number 1 0)
    ∷ yes
    ∷ binary Equal a (number 1 1)
    ∷ no
    ∷ yes
    ∷ binary Equal a (number 1 0)
    ∷ no
    ∷ yes
    ∷ binary Equal a (number 1 0)
    ∷ no
    ∷ yes
    ∷ binary Equal a (number 1 1)
    ∷ []
signed_bits = refl

-- a term and itself, and a term and its complement
pairs : map simped (
    binary BvXor x x
    ∷ binary BvNand x x
    ∷ binary BvSub x x
    ∷ binary BvSlt x x
    ∷ binary Implies p p
    ∷ binary BvUdiv x x
    ∷ binary BvOr x (unary BvNot x)
    ∷ binary Equal (unary BvNot x) x
    ∷ binary And (unary Not p) p
    ∷ []) ≡
    n 0
    ∷ unary BvNot x
    ∷ n 0
    ∷ no
    ∷ yes
    ∷ binary BvUdiv x x
    ∷ n 255
    ∷ no
    ∷ no
    ∷ []
pairs = refl

-- choices
choices : map simped (
    ite (unary Not p) x y
    ∷ ite p no yes
    ∷ ite (unary Not p) no yes
    ∷ ite p x x
    ∷ []) ≡
    ite p y x
    ∷ unary Not p
    ∷ p
    ∷ x
    ∷ []
choices = refl

-- what a rule makes is met by the rules above it
above : map simped (
    binary And (binary BvUle x (n 255)) p
    ∷ binary BvOr (binary BvXor x x) y
    ∷ ite p (binary BvUge x (n 0)) (binary BvUlt x (n 0))
    ∷ ite p (binary BvSle x (n 127)) (binary BvSgt x (n 127))
    ∷ binary BvUrem (binary BvUdiv x (n 4)) (n 4)
    ∷ []) ≡
    p
    ∷ y
    ∷ p
    ∷ p
    ∷ binary BvAnd (binary BvLshr x (n 2)) (n 3)
    ∷ []
above = refl
