-- What the pass of exclusive or makes of terms.
use Rattle.std.proofs.Common.{◌≡◌, ℕ, zero, suc, [], ◌∷◌, map, refl}
use Rattle.qv_words.specs.declared.sort.Sort.TheVariants.{Bool, Bits}
use Rattle.qv_words.specs.declared.op.Op.TheVariants.{Not, And, Xor, Equal, BvNot, BvNeg, BvAnd, BvOr, BvXor, BvXnor, BvComp}
use Rattle.qv_words.specs.Tree.{Tree, Constant, Variable, Literal}
use Rattle.qv_words.specs.Prenex.{binary}
use Rattle.qv_words.specs.Inverse.{unary, number}
use Rattle.qv_rewrite_passes.specs.Xors.{xored}

abbrev j : Tree
j = Constant 0 (Bits 8)

abbrev k : Tree
k = Constant 5 (Bits 8)

abbrev x : Tree
x = Variable 0 (Bits 8)

abbrev y : Tree
y = Variable 1 (Bits 8)

abbrev z : Tree
z = Variable 2 (Bits 8)

abbrev p : Tree
p = Variable 0 Bool

abbrev q : Tree
q = Variable 1 Bool

abbrev r : Tree
r = Variable 2 Bool

abbrev s : Tree
s = Variable 3 Bool

abbrev a : Tree
a = Variable 0 (Bits 1)

abbrev b : Tree
b = Variable 1 (Bits 1)

abbrev c : Tree
c = Variable 2 (Bits 1)

abbrev yes : Tree
yes = Literal Bool 1

abbrev no : Tree
no = Literal Bool 0

abbrev n : ℕ → Tree
n v = number 8 v

abbrev bit : ℕ → Tree
bit v = number 1 v

-- what comes twice goes
twice : map xored (
    binary Xor (binary Xor p q) p
    ∷ binary Xor p p
    ∷ binary Equal p p
    ∷ binary BvXor (binary BvXor x y) (binary BvXor y x)
    ∷ binary Equal (binary BvXor x y) (binary BvXor y x)
    ∷ binary Equal (binary Xor (binary Xor p q) r) (binary Xor (binary Xor r q) p)
    ∷ [])
    ≡ q
    ∷ no
    ∷ yes
    ∷ n 0
    ∷ binary Equal (binary BvXor x y) (binary BvXor x y)
    ∷ yes
    ∷ []
twice = refl

-- leaves come in the order of their numbers, constants first
ordered : map xored (
    binary Xor (binary Xor r q) p
    ∷ binary BvXor x k
    ∷ binary BvXor (binary BvXor (binary BvXor (binary BvAnd x y) y) (binary BvOr x y)) j
    ∷ [])
    ≡ binary Xor (binary Xor p q) r
    ∷ binary BvXor k x
    ∷ binary BvXor (binary BvXor (binary BvXor j y) (binary BvAnd x y)) (binary BvOr x y)
    ∷ []
ordered = refl

-- negations
negations : map xored (
    binary Xor (unary Not p) q
    ∷ binary Xor (unary Not p) (unary Not q)
    ∷ binary Equal p q
    ∷ binary Equal (binary Equal p q) r
    ∷ unary Not (unary Not p)
    ∷ binary Xor p yes
    ∷ unary Not yes
    ∷ [])
    ≡ unary Not (binary Xor p q)
    ∷ binary Xor p q
    ∷ unary Not (binary Xor p q)
    ∷ binary Xor (binary Xor p q) r
    ∷ p
    ∷ unary Not p
    ∷ no
    ∷ []
negations = refl

-- numbers in words: the last term, or one negation
numbers : map xored (
    binary BvXor (binary BvXor x (n 0xf)) (binary BvXor y (n 3))
    ∷ binary BvXor x (n 0xff)
    ∷ binary BvXnor x y
    ∷ binary BvXnor (unary BvNot x) (unary BvNot y)
    ∷ binary BvXor (unary BvNot x) (n 0xf)
    ∷ unary BvNot (n 0xa5)
    ∷ [])
    ≡ binary BvXor (binary BvXor x y) (n 0xc)
    ∷ unary BvNot x
    ∷ unary BvNot (binary BvXor x y)
    ∷ unary BvNot (binary BvXor x y)
    ∷ binary BvXor x (n 0xf0)
    ∷ n 0x5a
    ∷ []
numbers = refl

-- bits as words and as truth values
bits : map xored (
    binary Equal a b
    ∷ binary Equal a (bit 1)
    ∷ binary Equal a (bit 0)
    ∷ binary Xor (binary Equal a b) (binary Equal b c)
    ∷ binary BvComp a b
    ∷ binary BvComp a a
    ∷ binary BvXor (binary BvComp (binary BvXor y x) z) (bit 1)
    ∷ binary Xor (binary Equal (binary BvXnor a b) (bit 1)) s
    ∷ [])
    ≡ unary Not (binary Xor (binary Equal a (bit 1)) (binary Equal b (bit 1)))
    ∷ binary Equal a (bit 1)
    ∷ unary Not (binary Equal a (bit 1))
    ∷ binary Xor (binary Equal a (bit 1)) (binary Equal c (bit 1))
    ∷ unary BvNot (binary BvXor a b)
    ∷ bit 1
    ∷ unary BvNot (binary BvComp (binary BvXor x y) z)
    ∷ unary Not (binary Xor (binary Xor (binary Equal a (bit 1)) (binary Equal b (bit 1))) s)
    ∷ []
bits = refl

-- other operators' terms, over their arguments' terms
others : map xored (
    binary BvXor (binary BvAnd (binary BvXor y x) z) (binary BvAnd (binary BvXor x y) z)
    ∷ binary And (binary Xor q p) r
    ∷ unary BvNeg (binary BvXor x y)
    ∷ [])
    ≡ n 0
    ∷ binary And (binary Xor p q) r
    ∷ unary BvNeg (binary BvXor x y)
    ∷ []
others = refl

-- 64 terms are a chain, and 65 aren't
abbrev total : ℕ → Tree
total zero = Variable 0 (Bits 8)
total (suc k) = binary BvXor (total k) (Variable (suc k) (Bits 8))

limits : map xored (binary BvXor (total 63) (total 63) ∷ binary BvXor (total 64) x ∷ []) ≡ n 0 ∷ binary BvXor x (total 64) ∷ []
limits = refl
