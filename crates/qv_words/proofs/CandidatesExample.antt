-- The candidates for the place 1 of a block: from which literals of a region they come, by which
-- targets, and in which order.
use Rattle.std.proofs.Common.{◌≡◌, ℕ, List, [], ◌∷◌, refl}
use Rattle.qv_words.specs.declared.sort.Sort.TheVariants.{Bool, Bits}
use Rattle.qv_words.specs.declared.op.Op.TheVariants.{And, Or, Equal, BvNot, BvAdd, BvSub, BvMul, BvXor, BvUlt, BvUle, BvSge}
use Rattle.qv_words.specs.Tree.{Tree, Variable, Literal}
use Rattle.qv_words.specs.Prenex.{binary, negation, ite}
use Rattle.qv_words.specs.Inverse.{unary, number, inverse_term}
use Rattle.qv_words.specs.Problem.{conjunction}
use Rattle.qv_words.specs.Choice.{candidates}

abbrev a : Tree
a = Variable 0 (Bits 4)

abbrev x : Tree
x = Variable 1 (Bits 4)

-- another place of the block
abbrev y : Tree
y = Variable 2 (Bits 4)

abbrev n : ℕ → Tree
n v = number 4 v

-- for the place 1 of a block that is this place alone, and of one with the place 2
unfoldable alone : Tree → List Tree
unfolding candidates inverse_term
alone region = candidates 1 2 region 1

unfoldable with_next : Tree → List Tree
unfolding candidates inverse_term
with_next region = candidates 1 3 region 1

-- an equation has one target, at either side, and it goes down the path to the place
equation : alone (binary Equal (binary BvAdd x a) (n 3)) ≡ binary BvSub (n 3) a ∷ []
unfolding alone
equation = refl

other-side : alone (binary Equal (n 3) (unary BvNot (binary BvXor a x))) ≡ binary BvXor (unary BvNot (n 3)) a ∷ []
unfolding alone
other-side = refl

-- a comparison has five, in this order
comparison : alone (binary BvUlt x a) ≡ binary BvSub a (n 1) ∷ binary BvAdd a (n 1) ∷ a ∷ n 0 ∷ n 15 ∷ []
unfolding alone
comparison = refl

signed-comparison : alone (binary BvSge a (unary BvNot x)) ≡ unary BvNot (binary BvSub a (n 1)) ∷ unary BvNot (binary BvAdd a (n 1)) ∷ unary BvNot a ∷ unary BvNot (n 0) ∷ unary BvNot (n 15) ∷ []
unfolding alone
signed-comparison = refl

-- a truth value that is the place itself has two, an equation of truth values none
truth : candidates 1 2 (binary Equal (Variable 1 Bool) (Variable 0 Bool)) 1 ≡ Literal Bool 1 ∷ Literal Bool 0 ∷ []
unfolding candidates
truth = refl

-- the literals come in post-order, each once
in-order : alone (binary And (negation (binary Equal x (n 5))) (binary Or (binary Equal a x) (binary Equal x (n 5)))) ≡ n 5 ∷ a ∷ []
unfolding alone
in-order = refl

-- none where the place occurs twice, below a choice or not at all, or an operator has no row
twice : alone (binary Equal (binary BvAdd x x) a) ≡ []
unfolding alone
twice = refl

on-both-sides : alone (binary BvUle x (binary BvAdd x a)) ≡ []
unfolding alone
on-both-sides = refl

below-choice : alone (binary Equal (ite (binary Equal a (n 1)) x a) (n 2)) ≡ []
unfolding alone
below-choice = refl

not-there : alone (binary Equal a (n 1)) ≡ []
unfolding alone
not-there = refl

no-row : alone (binary Equal (binary BvMul x a) (n 1)) ≡ []
unfolding alone
no-row = refl

-- a literal inside a choice is one of the region's
inside-choice : alone (binary Equal (ite (binary Equal x (n 1)) a (n 3)) (n 2)) ≡ n 1 ∷ []
unfolding alone
inside-choice = refl

-- a candidate with another place of the block in it is passed over
passed-over : with_next (binary And (binary Equal x y) (binary Equal x a)) ≡ a ∷ []
unfolding with_next
passed-over = refl

behind-the-block : alone (binary Equal x y) ≡ y ∷ []
unfolding alone
behind-the-block = refl

-- the gate at the place 2, over the places 0 and 1, of a block that has the places 2 and 3
abbrev p : Tree
p = Variable 0 Bool

abbrev q : Tree
q = Variable 1 Bool

abbrev gate : Tree
gate = Variable 2 Bool

abbrev reader : Tree
reader = Variable 3 Bool

abbrev or : Tree → Tree → Tree
or t u = binary Or t u

abbrev truths : List Tree
truths = Literal Bool 1 ∷ Literal Bool 0 ∷ []

abbrev no : Tree
no = negation (Literal Bool 1)

unfoldable of_gate : List Tree → List Tree
unfolding candidates
of_gate clauses = candidates 2 4 (conjunction clauses) 2

-- a gate is defined by the clauses with its negation
and-gate : of_gate (or gate (or (negation p) (negation q)) ∷ or (negation gate) p ∷ or (negation gate) q ∷ []) ≡ binary And (or no p) (or no q) ∷ truths
unfolding of_gate
and-gate = refl

or-gate : of_gate (or (or p (negation gate)) q ∷ or gate (negation p) ∷ or gate (negation q) ∷ []) ≡ or (or p no) q ∷ truths
unfolding of_gate
or-gate = refl

xor-gate : of_gate (or (negation gate) (or p q) ∷ or (negation gate) (or (negation p) (negation q)) ∷ or gate (or p (negation q)) ∷ or gate (or (negation p) q) ∷ [])
    ≡ binary And (or no (or p q)) (or no (or (negation p) (negation q))) ∷ truths
unfolding of_gate
xor-gate = refl

equal-gate : of_gate (or (negation gate) p ∷ or gate (negation p) ∷ []) ≡ or no p ∷ truths
unfolding of_gate
equal-gate = refl

false-gate : of_gate (negation gate ∷ []) ≡ no ∷ truths
unfolding of_gate
false-gate = refl

-- a clause of a reader says nothing of it, nor does one without its negation, nor a disjunction that
-- is no conjunct
with-reader : of_gate (or (negation gate) p ∷ or (negation gate) reader ∷ or gate (negation reader) ∷ []) ≡ or no p ∷ truths
unfolding of_gate
with-reader = refl

reader-alone : of_gate (or (or (negation gate) p) reader ∷ or gate p ∷ []) ≡ truths
unfolding of_gate
reader-alone = refl

below-not : of_gate (negation (or (negation gate) p) ∷ []) ≡ truths
unfolding of_gate
below-not = refl

-- conjuncts stand at any depth, each once, in the order of the region's subtrees
at-depth : of_gate (binary And (or (negation gate) p) (binary And (or (negation gate) q) (or (negation gate) p)) ∷ []) ≡ binary And (or no p) (or no q) ∷ truths
unfolding of_gate
at-depth = refl

-- a word has none
no-truth : candidates 1 2 (binary Or (negation (binary Equal x (n 1))) (binary Equal x (n 1))) 1 ≡ n 1 ∷ []
unfolding candidates
no-truth = refl
