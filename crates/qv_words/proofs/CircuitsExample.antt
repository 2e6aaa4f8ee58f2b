-- The clause lists of operators of two or three bits, where a vector is shown by an equality; the clauses come from another program.
use Rattle.std.proofs.Common.{◌≡◌, ℕ, ◌+◌, List, [], ◌∷◌, map, cond, refl}
use Rattle.qv_words.specs.declared.sort.Sort.TheVariants.{Bool as BoolSort, Bits}
use Rattle.qv_words.specs.declared.op.Op.{Op}
use Rattle.qv_words.specs.declared.op.Op.TheVariants.{Not, And, Or, Xor, Implies, Equal, Ite, BvNot, BvAnd, BvOr, BvXor, BvNand, BvNor, BvXnor, BvShl, BvLshr, BvAshr, BvUlt, BvUle, BvUgt, BvUge, BvSlt, BvSle, BvSgt, BvSge, BvComp, Concat, Extract, Repeat, ZeroExtend, SignExtend, RotateLeft, RotateRight}
use Rattle.qv_words.specs.Tree.{Tree, Variable, Apply, Nil, Cons}
use Rattle.qv_words.specs.Prenex.{binary}
use Rattle.qv_words.specs.Gate.{Lit, gates_clauses, ◌>>=◌}
use Rattle.qv_words.specs.Routine.{add, sel, each, and_all, or_all, carry, stages, rows, divided, copies, bits_of_number}
use Rattle.qv_words.specs.OpCircuit.{op_circuit}
use Rattle.qv_words.specs.Clauses.{cnf, variables_from}

-- a literal as a number: twice its variable, and one more where it is negated
abbrev number : Lit → ℕ
number l = l.variable + l.variable + cond l.positive 0 1

-- the clauses of one formula
unfoldable pub clauses_of : Tree → List (List ℕ)
unfolding cnf variables_from bits_of_number op_circuit add sel each and_all or_all carry stages rows divided copies gates_clauses ◌>>=◌
clauses_of t = map (map number) (cnf (t ∷ []))

-- formulas over two vectors, and over three truth values
abbrev pub x : ℕ → Tree
x w = Variable 0 (Bits w)

abbrev pub y : ℕ → Tree
y w = Variable 1 (Bits w)

abbrev p : Tree
p = Variable 0 BoolSort

abbrev q : Tree
q = Variable 1 BoolSort

abbrev r : Tree
r = Variable 2 BoolSort

abbrev pub unary : Op → Tree → Tree
unary o t = Apply o (Cons t Nil)

abbrev ternary : Op → Tree → Tree → Tree → Tree
ternary o t u v = Apply o (Cons t (Cons u (Cons v Nil)))

-- an equality of a vector with a variable
abbrev pub shown : ℕ → Tree → Tree
shown w t = binary Equal t (Variable 9 (Bits w))

not-clauses : clauses_of (unary Not p) ≡
    (2 ∷ []) ∷ (5 ∷ []) ∷ []
unfolding clauses_of
not-clauses = refl

and-clauses : clauses_of (binary And p q) ≡
    (2 ∷ []) ∷ (9 ∷ 4 ∷ []) ∷ (9 ∷ 6 ∷ []) ∷ (8 ∷ 5 ∷ 7 ∷ []) ∷ (8 ∷ []) ∷ []
unfolding clauses_of
and-clauses = refl

or-clauses : clauses_of (binary Or p q) ≡
    (2 ∷ []) ∷ (9 ∷ 5 ∷ []) ∷ (9 ∷ 7 ∷ []) ∷ (8 ∷ 4 ∷ 6 ∷ []) ∷ (9 ∷ []) ∷ []
unfolding clauses_of
or-clauses = refl

xor-clauses : clauses_of (binary Xor p q) ≡
    (2 ∷ []) ∷ (9 ∷ 4 ∷ 6 ∷ []) ∷ (9 ∷ 5 ∷ 7 ∷ []) ∷ (8 ∷ 5 ∷ 6 ∷ []) ∷ (8 ∷ 4 ∷ 7 ∷ []) ∷ (8 ∷ []) ∷ []
unfolding clauses_of
xor-clauses = refl

implies-clauses : clauses_of (binary Implies p q) ≡
    (2 ∷ []) ∷ (9 ∷ 4 ∷ []) ∷ (9 ∷ 7 ∷ []) ∷ (8 ∷ 5 ∷ 6 ∷ []) ∷ (9 ∷ []) ∷ []
unfolding clauses_of
implies-clauses = refl

equal-clauses : clauses_of (binary Equal p q) ≡
    (2 ∷ []) ∷ (9 ∷ 4 ∷ 6 ∷ []) ∷ (9 ∷ 5 ∷ 7 ∷ []) ∷ (8 ∷ 5 ∷ 6 ∷ []) ∷ (8 ∷ 4 ∷ 7 ∷ []) ∷ (9 ∷ []) ∷ []
unfolding clauses_of
equal-clauses = refl

ite-clauses : clauses_of (ternary Ite p q r) ≡
    (2 ∷ []) ∷ (5 ∷ 7 ∷ 10 ∷ []) ∷ (5 ∷ 6 ∷ 11 ∷ []) ∷ (4 ∷ 9 ∷ 10 ∷ []) ∷ (4 ∷ 8 ∷ 11 ∷ []) ∷ (10 ∷ []) ∷ []
unfolding clauses_of
ite-clauses = refl

equal-bits-clauses : clauses_of (binary Equal (x 2) (y 2)) ≡
    (2 ∷ []) ∷ (13 ∷ 4 ∷ 8 ∷ []) ∷ (13 ∷ 5 ∷ 9 ∷ []) ∷ (12 ∷ 5 ∷ 8 ∷ []) ∷ (12 ∷ 4 ∷ 9 ∷ []) ∷ (15 ∷ 6 ∷ 10 ∷ []) ∷ (15 ∷ 7 ∷ 11 ∷ []) ∷ (14 ∷ 7 ∷ 10 ∷ []) ∷ (14 ∷ 6 ∷ 11 ∷ [])
    ∷ (17 ∷ 13 ∷ []) ∷ (17 ∷ 15 ∷ []) ∷ (16 ∷ 12 ∷ 14 ∷ []) ∷ (16 ∷ []) ∷ []
unfolding clauses_of
equal-bits-clauses = refl

ite-bits-clauses : clauses_of (shown 2 (ternary Ite r (x 2) (y 2))) ≡
    (2 ∷ []) ∷ (5 ∷ 7 ∷ 14 ∷ []) ∷ (5 ∷ 6 ∷ 15 ∷ []) ∷ (4 ∷ 11 ∷ 14 ∷ []) ∷ (4 ∷ 10 ∷ 15 ∷ []) ∷ (5 ∷ 9 ∷ 16 ∷ []) ∷ (5 ∷ 8 ∷ 17 ∷ []) ∷ (4 ∷ 13 ∷ 16 ∷ []) ∷ (4 ∷ 12 ∷ 17 ∷ [])
    ∷ (23 ∷ 14 ∷ 18 ∷ []) ∷ (23 ∷ 15 ∷ 19 ∷ []) ∷ (22 ∷ 15 ∷ 18 ∷ []) ∷ (22 ∷ 14 ∷ 19 ∷ []) ∷ (25 ∷ 16 ∷ 20 ∷ []) ∷ (25 ∷ 17 ∷ 21 ∷ []) ∷ (24 ∷ 17 ∷ 20 ∷ []) ∷ (24 ∷ 16 ∷ 21 ∷ [])
    ∷ (27 ∷ 23 ∷ []) ∷ (27 ∷ 25 ∷ []) ∷ (26 ∷ 22 ∷ 24 ∷ []) ∷ (26 ∷ []) ∷ []
unfolding clauses_of
ite-bits-clauses = refl

bvnot-clauses : clauses_of (shown 2 (unary BvNot (x 2))) ≡
    (2 ∷ []) ∷ (13 ∷ 5 ∷ 8 ∷ []) ∷ (13 ∷ 4 ∷ 9 ∷ []) ∷ (12 ∷ 4 ∷ 8 ∷ []) ∷ (12 ∷ 5 ∷ 9 ∷ []) ∷ (15 ∷ 7 ∷ 10 ∷ []) ∷ (15 ∷ 6 ∷ 11 ∷ []) ∷ (14 ∷ 6 ∷ 10 ∷ []) ∷ (14 ∷ 7 ∷ 11 ∷ [])
    ∷ (17 ∷ 13 ∷ []) ∷ (17 ∷ 15 ∷ []) ∷ (16 ∷ 12 ∷ 14 ∷ []) ∷ (16 ∷ []) ∷ []
unfolding clauses_of
bvnot-clauses = refl

bvand-clauses : clauses_of (shown 2 (binary BvAnd (x 2) (y 2))) ≡
    (2 ∷ []) ∷ (13 ∷ 4 ∷ []) ∷ (13 ∷ 8 ∷ []) ∷ (12 ∷ 5 ∷ 9 ∷ []) ∷ (15 ∷ 6 ∷ []) ∷ (15 ∷ 10 ∷ []) ∷ (14 ∷ 7 ∷ 11 ∷ []) ∷ (21 ∷ 12 ∷ 16 ∷ []) ∷ (21 ∷ 13 ∷ 17 ∷ []) ∷ (20 ∷ 13 ∷ 16 ∷ [])
    ∷ (20 ∷ 12 ∷ 17 ∷ []) ∷ (23 ∷ 14 ∷ 18 ∷ []) ∷ (23 ∷ 15 ∷ 19 ∷ []) ∷ (22 ∷ 15 ∷ 18 ∷ []) ∷ (22 ∷ 14 ∷ 19 ∷ []) ∷ (25 ∷ 21 ∷ []) ∷ (25 ∷ 23 ∷ []) ∷ (24 ∷ 20 ∷ 22 ∷ []) ∷ (24 ∷ [])
    ∷ []
unfolding clauses_of
bvand-clauses = refl

bvor-clauses : clauses_of (shown 2 (binary BvOr (x 2) (y 2))) ≡
    (2 ∷ []) ∷ (13 ∷ 5 ∷ []) ∷ (13 ∷ 9 ∷ []) ∷ (12 ∷ 4 ∷ 8 ∷ []) ∷ (15 ∷ 7 ∷ []) ∷ (15 ∷ 11 ∷ []) ∷ (14 ∷ 6 ∷ 10 ∷ []) ∷ (21 ∷ 13 ∷ 16 ∷ []) ∷ (21 ∷ 12 ∷ 17 ∷ []) ∷ (20 ∷ 12 ∷ 16 ∷ [])
    ∷ (20 ∷ 13 ∷ 17 ∷ []) ∷ (23 ∷ 15 ∷ 18 ∷ []) ∷ (23 ∷ 14 ∷ 19 ∷ []) ∷ (22 ∷ 14 ∷ 18 ∷ []) ∷ (22 ∷ 15 ∷ 19 ∷ []) ∷ (25 ∷ 21 ∷ []) ∷ (25 ∷ 23 ∷ []) ∷ (24 ∷ 20 ∷ 22 ∷ []) ∷ (24 ∷ [])
    ∷ []
unfolding clauses_of
bvor-clauses = refl

bvxor-clauses : clauses_of (shown 2 (binary BvXor (x 2) (y 2))) ≡
    (2 ∷ []) ∷ (13 ∷ 4 ∷ 8 ∷ []) ∷ (13 ∷ 5 ∷ 9 ∷ []) ∷ (12 ∷ 5 ∷ 8 ∷ []) ∷ (12 ∷ 4 ∷ 9 ∷ []) ∷ (15 ∷ 6 ∷ 10 ∷ []) ∷ (15 ∷ 7 ∷ 11 ∷ []) ∷ (14 ∷ 7 ∷ 10 ∷ []) ∷ (14 ∷ 6 ∷ 11 ∷ [])
    ∷ (21 ∷ 12 ∷ 16 ∷ []) ∷ (21 ∷ 13 ∷ 17 ∷ []) ∷ (20 ∷ 13 ∷ 16 ∷ []) ∷ (20 ∷ 12 ∷ 17 ∷ []) ∷ (23 ∷ 14 ∷ 18 ∷ []) ∷ (23 ∷ 15 ∷ 19 ∷ []) ∷ (22 ∷ 15 ∷ 18 ∷ []) ∷ (22 ∷ 14 ∷ 19 ∷ [])
    ∷ (25 ∷ 21 ∷ []) ∷ (25 ∷ 23 ∷ []) ∷ (24 ∷ 20 ∷ 22 ∷ []) ∷ (24 ∷ []) ∷ []
unfolding clauses_of
bvxor-clauses = refl

bvnand-clauses : clauses_of (shown 2 (binary BvNand (x 2) (y 2))) ≡
    (2 ∷ []) ∷ (13 ∷ 4 ∷ []) ∷ (13 ∷ 8 ∷ []) ∷ (12 ∷ 5 ∷ 9 ∷ []) ∷ (15 ∷ 6 ∷ []) ∷ (15 ∷ 10 ∷ []) ∷ (14 ∷ 7 ∷ 11 ∷ []) ∷ (21 ∷ 13 ∷ 16 ∷ []) ∷ (21 ∷ 12 ∷ 17 ∷ []) ∷ (20 ∷ 12 ∷ 16 ∷ [])
    ∷ (20 ∷ 13 ∷ 17 ∷ []) ∷ (23 ∷ 15 ∷ 18 ∷ []) ∷ (23 ∷ 14 ∷ 19 ∷ []) ∷ (22 ∷ 14 ∷ 18 ∷ []) ∷ (22 ∷ 15 ∷ 19 ∷ []) ∷ (25 ∷ 21 ∷ []) ∷ (25 ∷ 23 ∷ []) ∷ (24 ∷ 20 ∷ 22 ∷ []) ∷ (24 ∷ [])
    ∷ []
unfolding clauses_of
bvnand-clauses = refl

bvnor-clauses : clauses_of (shown 2 (binary BvNor (x 2) (y 2))) ≡
    (2 ∷ []) ∷ (13 ∷ 5 ∷ []) ∷ (13 ∷ 9 ∷ []) ∷ (12 ∷ 4 ∷ 8 ∷ []) ∷ (15 ∷ 7 ∷ []) ∷ (15 ∷ 11 ∷ []) ∷ (14 ∷ 6 ∷ 10 ∷ []) ∷ (21 ∷ 12 ∷ 16 ∷ []) ∷ (21 ∷ 13 ∷ 17 ∷ []) ∷ (20 ∷ 13 ∷ 16 ∷ [])
    ∷ (20 ∷ 12 ∷ 17 ∷ []) ∷ (23 ∷ 14 ∷ 18 ∷ []) ∷ (23 ∷ 15 ∷ 19 ∷ []) ∷ (22 ∷ 15 ∷ 18 ∷ []) ∷ (22 ∷ 14 ∷ 19 ∷ []) ∷ (25 ∷ 21 ∷ []) ∷ (25 ∷ 23 ∷ []) ∷ (24 ∷ 20 ∷ 22 ∷ []) ∷ (24 ∷ [])
    ∷ []
unfolding clauses_of
bvnor-clauses = refl

bvxnor-clauses : clauses_of (shown 2 (binary BvXnor (x 2) (y 2))) ≡
    (2 ∷ []) ∷ (13 ∷ 4 ∷ 8 ∷ []) ∷ (13 ∷ 5 ∷ 9 ∷ []) ∷ (12 ∷ 5 ∷ 8 ∷ []) ∷ (12 ∷ 4 ∷ 9 ∷ []) ∷ (15 ∷ 6 ∷ 10 ∷ []) ∷ (15 ∷ 7 ∷ 11 ∷ []) ∷ (14 ∷ 7 ∷ 10 ∷ []) ∷ (14 ∷ 6 ∷ 11 ∷ [])
    ∷ (21 ∷ 13 ∷ 16 ∷ []) ∷ (21 ∷ 12 ∷ 17 ∷ []) ∷ (20 ∷ 12 ∷ 16 ∷ []) ∷ (20 ∷ 13 ∷ 17 ∷ []) ∷ (23 ∷ 15 ∷ 18 ∷ []) ∷ (23 ∷ 14 ∷ 19 ∷ []) ∷ (22 ∷ 14 ∷ 18 ∷ []) ∷ (22 ∷ 15 ∷ 19 ∷ [])
    ∷ (25 ∷ 21 ∷ []) ∷ (25 ∷ 23 ∷ []) ∷ (24 ∷ 20 ∷ 22 ∷ []) ∷ (24 ∷ []) ∷ []
unfolding clauses_of
bvxnor-clauses = refl

bvshl-clauses : clauses_of (shown 2 (binary BvShl (x 2) (y 2))) ≡
    (2 ∷ []) ∷ (9 ∷ 2 ∷ 12 ∷ []) ∷ (9 ∷ 3 ∷ 13 ∷ []) ∷ (8 ∷ 5 ∷ 12 ∷ []) ∷ (8 ∷ 4 ∷ 13 ∷ []) ∷ (9 ∷ 5 ∷ 14 ∷ []) ∷ (9 ∷ 4 ∷ 15 ∷ []) ∷ (8 ∷ 7 ∷ 14 ∷ []) ∷ (8 ∷ 6 ∷ 15 ∷ [])
    ∷ (11 ∷ 2 ∷ 16 ∷ []) ∷ (11 ∷ 3 ∷ 17 ∷ []) ∷ (10 ∷ 13 ∷ 16 ∷ []) ∷ (10 ∷ 12 ∷ 17 ∷ []) ∷ (11 ∷ 2 ∷ 18 ∷ []) ∷ (11 ∷ 3 ∷ 19 ∷ []) ∷ (10 ∷ 15 ∷ 18 ∷ []) ∷ (10 ∷ 14 ∷ 19 ∷ [])
    ∷ (25 ∷ 16 ∷ 20 ∷ []) ∷ (25 ∷ 17 ∷ 21 ∷ []) ∷ (24 ∷ 17 ∷ 20 ∷ []) ∷ (24 ∷ 16 ∷ 21 ∷ []) ∷ (27 ∷ 18 ∷ 22 ∷ []) ∷ (27 ∷ 19 ∷ 23 ∷ []) ∷ (26 ∷ 19 ∷ 22 ∷ []) ∷ (26 ∷ 18 ∷ 23 ∷ [])
    ∷ (29 ∷ 25 ∷ []) ∷ (29 ∷ 27 ∷ []) ∷ (28 ∷ 24 ∷ 26 ∷ []) ∷ (28 ∷ []) ∷ []
unfolding clauses_of
bvshl-clauses = refl

bvlshr-clauses : clauses_of (shown 2 (binary BvLshr (x 2) (y 2))) ≡
    (2 ∷ []) ∷ (9 ∷ 7 ∷ 12 ∷ []) ∷ (9 ∷ 6 ∷ 13 ∷ []) ∷ (8 ∷ 5 ∷ 12 ∷ []) ∷ (8 ∷ 4 ∷ 13 ∷ []) ∷ (9 ∷ 2 ∷ 14 ∷ []) ∷ (9 ∷ 3 ∷ 15 ∷ []) ∷ (8 ∷ 7 ∷ 14 ∷ []) ∷ (8 ∷ 6 ∷ 15 ∷ [])
    ∷ (11 ∷ 2 ∷ 16 ∷ []) ∷ (11 ∷ 3 ∷ 17 ∷ []) ∷ (10 ∷ 13 ∷ 16 ∷ []) ∷ (10 ∷ 12 ∷ 17 ∷ []) ∷ (11 ∷ 2 ∷ 18 ∷ []) ∷ (11 ∷ 3 ∷ 19 ∷ []) ∷ (10 ∷ 15 ∷ 18 ∷ []) ∷ (10 ∷ 14 ∷ 19 ∷ [])
    ∷ (25 ∷ 16 ∷ 20 ∷ []) ∷ (25 ∷ 17 ∷ 21 ∷ []) ∷ (24 ∷ 17 ∷ 20 ∷ []) ∷ (24 ∷ 16 ∷ 21 ∷ []) ∷ (27 ∷ 18 ∷ 22 ∷ []) ∷ (27 ∷ 19 ∷ 23 ∷ []) ∷ (26 ∷ 19 ∷ 22 ∷ []) ∷ (26 ∷ 18 ∷ 23 ∷ [])
    ∷ (29 ∷ 25 ∷ []) ∷ (29 ∷ 27 ∷ []) ∷ (28 ∷ 24 ∷ 26 ∷ []) ∷ (28 ∷ []) ∷ []
unfolding clauses_of
bvlshr-clauses = refl

bvashr-clauses : clauses_of (shown 2 (binary BvAshr (x 2) (y 2))) ≡
    (2 ∷ []) ∷ (9 ∷ 7 ∷ 12 ∷ []) ∷ (9 ∷ 6 ∷ 13 ∷ []) ∷ (8 ∷ 5 ∷ 12 ∷ []) ∷ (8 ∷ 4 ∷ 13 ∷ []) ∷ (9 ∷ 7 ∷ 14 ∷ []) ∷ (9 ∷ 6 ∷ 15 ∷ []) ∷ (8 ∷ 7 ∷ 14 ∷ []) ∷ (8 ∷ 6 ∷ 15 ∷ [])
    ∷ (11 ∷ 7 ∷ 16 ∷ []) ∷ (11 ∷ 6 ∷ 17 ∷ []) ∷ (10 ∷ 13 ∷ 16 ∷ []) ∷ (10 ∷ 12 ∷ 17 ∷ []) ∷ (11 ∷ 7 ∷ 18 ∷ []) ∷ (11 ∷ 6 ∷ 19 ∷ []) ∷ (10 ∷ 15 ∷ 18 ∷ []) ∷ (10 ∷ 14 ∷ 19 ∷ [])
    ∷ (25 ∷ 16 ∷ 20 ∷ []) ∷ (25 ∷ 17 ∷ 21 ∷ []) ∷ (24 ∷ 17 ∷ 20 ∷ []) ∷ (24 ∷ 16 ∷ 21 ∷ []) ∷ (27 ∷ 18 ∷ 22 ∷ []) ∷ (27 ∷ 19 ∷ 23 ∷ []) ∷ (26 ∷ 19 ∷ 22 ∷ []) ∷ (26 ∷ 18 ∷ 23 ∷ [])
    ∷ (29 ∷ 25 ∷ []) ∷ (29 ∷ 27 ∷ []) ∷ (28 ∷ 24 ∷ 26 ∷ []) ∷ (28 ∷ []) ∷ []
unfolding clauses_of
bvashr-clauses = refl

bvult-clauses : clauses_of (binary BvUlt (x 2) (y 2)) ≡
    (2 ∷ []) ∷ (5 ∷ 8 ∷ 12 ∷ []) ∷ (5 ∷ 3 ∷ 12 ∷ []) ∷ (8 ∷ 3 ∷ 12 ∷ []) ∷ (4 ∷ 9 ∷ 13 ∷ []) ∷ (4 ∷ 2 ∷ 13 ∷ []) ∷ (9 ∷ 2 ∷ 13 ∷ []) ∷ (7 ∷ 10 ∷ 14 ∷ []) ∷ (7 ∷ 13 ∷ 14 ∷ [])
    ∷ (10 ∷ 13 ∷ 14 ∷ []) ∷ (6 ∷ 11 ∷ 15 ∷ []) ∷ (6 ∷ 12 ∷ 15 ∷ []) ∷ (11 ∷ 12 ∷ 15 ∷ []) ∷ (15 ∷ []) ∷ []
unfolding clauses_of
bvult-clauses = refl

bvule-clauses : clauses_of (binary BvUle (x 2) (y 2)) ≡
    (2 ∷ []) ∷ (9 ∷ 4 ∷ 12 ∷ []) ∷ (9 ∷ 3 ∷ 12 ∷ []) ∷ (4 ∷ 3 ∷ 12 ∷ []) ∷ (8 ∷ 5 ∷ 13 ∷ []) ∷ (8 ∷ 2 ∷ 13 ∷ []) ∷ (5 ∷ 2 ∷ 13 ∷ []) ∷ (11 ∷ 6 ∷ 14 ∷ []) ∷ (11 ∷ 13 ∷ 14 ∷ [])
    ∷ (6 ∷ 13 ∷ 14 ∷ []) ∷ (10 ∷ 7 ∷ 15 ∷ []) ∷ (10 ∷ 12 ∷ 15 ∷ []) ∷ (7 ∷ 12 ∷ 15 ∷ []) ∷ (14 ∷ []) ∷ []
unfolding clauses_of
bvule-clauses = refl

bvugt-clauses : clauses_of (binary BvUgt (x 2) (y 2)) ≡
    (2 ∷ []) ∷ (9 ∷ 4 ∷ 12 ∷ []) ∷ (9 ∷ 3 ∷ 12 ∷ []) ∷ (4 ∷ 3 ∷ 12 ∷ []) ∷ (8 ∷ 5 ∷ 13 ∷ []) ∷ (8 ∷ 2 ∷ 13 ∷ []) ∷ (5 ∷ 2 ∷ 13 ∷ []) ∷ (11 ∷ 6 ∷ 14 ∷ []) ∷ (11 ∷ 13 ∷ 14 ∷ [])
    ∷ (6 ∷ 13 ∷ 14 ∷ []) ∷ (10 ∷ 7 ∷ 15 ∷ []) ∷ (10 ∷ 12 ∷ 15 ∷ []) ∷ (7 ∷ 12 ∷ 15 ∷ []) ∷ (15 ∷ []) ∷ []
unfolding clauses_of
bvugt-clauses = refl

bvuge-clauses : clauses_of (binary BvUge (x 2) (y 2)) ≡
    (2 ∷ []) ∷ (5 ∷ 8 ∷ 12 ∷ []) ∷ (5 ∷ 3 ∷ 12 ∷ []) ∷ (8 ∷ 3 ∷ 12 ∷ []) ∷ (4 ∷ 9 ∷ 13 ∷ []) ∷ (4 ∷ 2 ∷ 13 ∷ []) ∷ (9 ∷ 2 ∷ 13 ∷ []) ∷ (7 ∷ 10 ∷ 14 ∷ []) ∷ (7 ∷ 13 ∷ 14 ∷ [])
    ∷ (10 ∷ 13 ∷ 14 ∷ []) ∷ (6 ∷ 11 ∷ 15 ∷ []) ∷ (6 ∷ 12 ∷ 15 ∷ []) ∷ (11 ∷ 12 ∷ 15 ∷ []) ∷ (14 ∷ []) ∷ []
unfolding clauses_of
bvuge-clauses = refl

bvslt-clauses : clauses_of (binary BvSlt (x 2) (y 2)) ≡
    (2 ∷ []) ∷ (5 ∷ 8 ∷ 12 ∷ []) ∷ (5 ∷ 3 ∷ 12 ∷ []) ∷ (8 ∷ 3 ∷ 12 ∷ []) ∷ (4 ∷ 9 ∷ 13 ∷ []) ∷ (4 ∷ 2 ∷ 13 ∷ []) ∷ (9 ∷ 2 ∷ 13 ∷ []) ∷ (6 ∷ 11 ∷ 14 ∷ []) ∷ (6 ∷ 13 ∷ 14 ∷ [])
    ∷ (11 ∷ 13 ∷ 14 ∷ []) ∷ (7 ∷ 10 ∷ 15 ∷ []) ∷ (7 ∷ 12 ∷ 15 ∷ []) ∷ (10 ∷ 12 ∷ 15 ∷ []) ∷ (15 ∷ []) ∷ []
unfolding clauses_of
bvslt-clauses = refl

bvsle-clauses : clauses_of (binary BvSle (x 2) (y 2)) ≡
    (2 ∷ []) ∷ (9 ∷ 4 ∷ 12 ∷ []) ∷ (9 ∷ 3 ∷ 12 ∷ []) ∷ (4 ∷ 3 ∷ 12 ∷ []) ∷ (8 ∷ 5 ∷ 13 ∷ []) ∷ (8 ∷ 2 ∷ 13 ∷ []) ∷ (5 ∷ 2 ∷ 13 ∷ []) ∷ (10 ∷ 7 ∷ 14 ∷ []) ∷ (10 ∷ 13 ∷ 14 ∷ [])
    ∷ (7 ∷ 13 ∷ 14 ∷ []) ∷ (11 ∷ 6 ∷ 15 ∷ []) ∷ (11 ∷ 12 ∷ 15 ∷ []) ∷ (6 ∷ 12 ∷ 15 ∷ []) ∷ (14 ∷ []) ∷ []
unfolding clauses_of
bvsle-clauses = refl

bvsgt-clauses : clauses_of (binary BvSgt (x 2) (y 2)) ≡
    (2 ∷ []) ∷ (9 ∷ 4 ∷ 12 ∷ []) ∷ (9 ∷ 3 ∷ 12 ∷ []) ∷ (4 ∷ 3 ∷ 12 ∷ []) ∷ (8 ∷ 5 ∷ 13 ∷ []) ∷ (8 ∷ 2 ∷ 13 ∷ []) ∷ (5 ∷ 2 ∷ 13 ∷ []) ∷ (10 ∷ 7 ∷ 14 ∷ []) ∷ (10 ∷ 13 ∷ 14 ∷ [])
    ∷ (7 ∷ 13 ∷ 14 ∷ []) ∷ (11 ∷ 6 ∷ 15 ∷ []) ∷ (11 ∷ 12 ∷ 15 ∷ []) ∷ (6 ∷ 12 ∷ 15 ∷ []) ∷ (15 ∷ []) ∷ []
unfolding clauses_of
bvsgt-clauses = refl

bvsge-clauses : clauses_of (binary BvSge (x 2) (y 2)) ≡
    (2 ∷ []) ∷ (5 ∷ 8 ∷ 12 ∷ []) ∷ (5 ∷ 3 ∷ 12 ∷ []) ∷ (8 ∷ 3 ∷ 12 ∷ []) ∷ (4 ∷ 9 ∷ 13 ∷ []) ∷ (4 ∷ 2 ∷ 13 ∷ []) ∷ (9 ∷ 2 ∷ 13 ∷ []) ∷ (6 ∷ 11 ∷ 14 ∷ []) ∷ (6 ∷ 13 ∷ 14 ∷ [])
    ∷ (11 ∷ 13 ∷ 14 ∷ []) ∷ (7 ∷ 10 ∷ 15 ∷ []) ∷ (7 ∷ 12 ∷ 15 ∷ []) ∷ (10 ∷ 12 ∷ 15 ∷ []) ∷ (14 ∷ []) ∷ []
unfolding clauses_of
bvsge-clauses = refl

bvcomp-clauses : clauses_of (shown 1 (binary BvComp (x 2) (y 2))) ≡
    (2 ∷ []) ∷ (13 ∷ 4 ∷ 8 ∷ []) ∷ (13 ∷ 5 ∷ 9 ∷ []) ∷ (12 ∷ 5 ∷ 8 ∷ []) ∷ (12 ∷ 4 ∷ 9 ∷ []) ∷ (15 ∷ 6 ∷ 10 ∷ []) ∷ (15 ∷ 7 ∷ 11 ∷ []) ∷ (14 ∷ 7 ∷ 10 ∷ []) ∷ (14 ∷ 6 ∷ 11 ∷ [])
    ∷ (17 ∷ 13 ∷ []) ∷ (17 ∷ 15 ∷ []) ∷ (16 ∷ 12 ∷ 14 ∷ []) ∷ (21 ∷ 16 ∷ 18 ∷ []) ∷ (21 ∷ 17 ∷ 19 ∷ []) ∷ (20 ∷ 17 ∷ 18 ∷ []) ∷ (20 ∷ 16 ∷ 19 ∷ []) ∷ (21 ∷ []) ∷ []
unfolding clauses_of
bvcomp-clauses = refl

concat-clauses : clauses_of (shown 3 (binary Concat (x 2) (y 1))) ≡
    (2 ∷ []) ∷ (17 ∷ 8 ∷ 10 ∷ []) ∷ (17 ∷ 9 ∷ 11 ∷ []) ∷ (16 ∷ 9 ∷ 10 ∷ []) ∷ (16 ∷ 8 ∷ 11 ∷ []) ∷ (19 ∷ 4 ∷ 12 ∷ []) ∷ (19 ∷ 5 ∷ 13 ∷ []) ∷ (18 ∷ 5 ∷ 12 ∷ []) ∷ (18 ∷ 4 ∷ 13 ∷ [])
    ∷ (21 ∷ 6 ∷ 14 ∷ []) ∷ (21 ∷ 7 ∷ 15 ∷ []) ∷ (20 ∷ 7 ∷ 14 ∷ []) ∷ (20 ∷ 6 ∷ 15 ∷ []) ∷ (23 ∷ 17 ∷ []) ∷ (23 ∷ 19 ∷ []) ∷ (22 ∷ 16 ∷ 18 ∷ []) ∷ (25 ∷ 22 ∷ []) ∷ (25 ∷ 21 ∷ [])
    ∷ (24 ∷ 23 ∷ 20 ∷ []) ∷ (24 ∷ []) ∷ []
unfolding clauses_of
concat-clauses = refl

extract_1_1-clauses : clauses_of (shown 1 (unary (Extract 1 1) (x 2))) ≡
    (2 ∷ []) ∷ (11 ∷ 6 ∷ 8 ∷ []) ∷ (11 ∷ 7 ∷ 9 ∷ []) ∷ (10 ∷ 7 ∷ 8 ∷ []) ∷ (10 ∷ 6 ∷ 9 ∷ []) ∷ (11 ∷ []) ∷ []
unfolding clauses_of
extract_1_1-clauses = refl

extract_0_0-clauses : clauses_of (shown 1 (unary (Extract 0 0) (x 2))) ≡
    (2 ∷ []) ∷ (11 ∷ 4 ∷ 8 ∷ []) ∷ (11 ∷ 5 ∷ 9 ∷ []) ∷ (10 ∷ 5 ∷ 8 ∷ []) ∷ (10 ∷ 4 ∷ 9 ∷ []) ∷ (11 ∷ []) ∷ []
unfolding clauses_of
extract_0_0-clauses = refl

extract_1_0-clauses : clauses_of (shown 2 (unary (Extract 1 0) (x 2))) ≡
    (2 ∷ []) ∷ (13 ∷ 4 ∷ 8 ∷ []) ∷ (13 ∷ 5 ∷ 9 ∷ []) ∷ (12 ∷ 5 ∷ 8 ∷ []) ∷ (12 ∷ 4 ∷ 9 ∷ []) ∷ (15 ∷ 6 ∷ 10 ∷ []) ∷ (15 ∷ 7 ∷ 11 ∷ []) ∷ (14 ∷ 7 ∷ 10 ∷ []) ∷ (14 ∷ 6 ∷ 11 ∷ [])
    ∷ (17 ∷ 13 ∷ []) ∷ (17 ∷ 15 ∷ []) ∷ (16 ∷ 12 ∷ 14 ∷ []) ∷ (16 ∷ []) ∷ []
unfolding clauses_of
extract_1_0-clauses = refl

repeat_2-clauses : clauses_of (shown 4 (unary (Repeat 2) (x 2))) ≡
    (2 ∷ []) ∷ (17 ∷ 4 ∷ 8 ∷ []) ∷ (17 ∷ 5 ∷ 9 ∷ []) ∷ (16 ∷ 5 ∷ 8 ∷ []) ∷ (16 ∷ 4 ∷ 9 ∷ []) ∷ (19 ∷ 6 ∷ 10 ∷ []) ∷ (19 ∷ 7 ∷ 11 ∷ []) ∷ (18 ∷ 7 ∷ 10 ∷ []) ∷ (18 ∷ 6 ∷ 11 ∷ [])
    ∷ (21 ∷ 4 ∷ 12 ∷ []) ∷ (21 ∷ 5 ∷ 13 ∷ []) ∷ (20 ∷ 5 ∷ 12 ∷ []) ∷ (20 ∷ 4 ∷ 13 ∷ []) ∷ (23 ∷ 6 ∷ 14 ∷ []) ∷ (23 ∷ 7 ∷ 15 ∷ []) ∷ (22 ∷ 7 ∷ 14 ∷ []) ∷ (22 ∷ 6 ∷ 15 ∷ [])
    ∷ (25 ∷ 17 ∷ []) ∷ (25 ∷ 19 ∷ []) ∷ (24 ∷ 16 ∷ 18 ∷ []) ∷ (27 ∷ 24 ∷ []) ∷ (27 ∷ 21 ∷ []) ∷ (26 ∷ 25 ∷ 20 ∷ []) ∷ (29 ∷ 26 ∷ []) ∷ (29 ∷ 23 ∷ []) ∷ (28 ∷ 27 ∷ 22 ∷ []) ∷ (28 ∷ [])
    ∷ []
unfolding clauses_of
repeat_2-clauses = refl

zero_extend_2-clauses : clauses_of (shown 4 (unary (ZeroExtend 2) (x 2))) ≡
    (2 ∷ []) ∷ (17 ∷ 4 ∷ 8 ∷ []) ∷ (17 ∷ 5 ∷ 9 ∷ []) ∷ (16 ∷ 5 ∷ 8 ∷ []) ∷ (16 ∷ 4 ∷ 9 ∷ []) ∷ (19 ∷ 6 ∷ 10 ∷ []) ∷ (19 ∷ 7 ∷ 11 ∷ []) ∷ (18 ∷ 7 ∷ 10 ∷ []) ∷ (18 ∷ 6 ∷ 11 ∷ [])
    ∷ (21 ∷ 3 ∷ 12 ∷ []) ∷ (21 ∷ 2 ∷ 13 ∷ []) ∷ (20 ∷ 2 ∷ 12 ∷ []) ∷ (20 ∷ 3 ∷ 13 ∷ []) ∷ (23 ∷ 3 ∷ 14 ∷ []) ∷ (23 ∷ 2 ∷ 15 ∷ []) ∷ (22 ∷ 2 ∷ 14 ∷ []) ∷ (22 ∷ 3 ∷ 15 ∷ [])
    ∷ (25 ∷ 17 ∷ []) ∷ (25 ∷ 19 ∷ []) ∷ (24 ∷ 16 ∷ 18 ∷ []) ∷ (27 ∷ 24 ∷ []) ∷ (27 ∷ 21 ∷ []) ∷ (26 ∷ 25 ∷ 20 ∷ []) ∷ (29 ∷ 26 ∷ []) ∷ (29 ∷ 23 ∷ []) ∷ (28 ∷ 27 ∷ 22 ∷ []) ∷ (28 ∷ [])
    ∷ []
unfolding clauses_of
zero_extend_2-clauses = refl

sign_extend_2-clauses : clauses_of (shown 4 (unary (SignExtend 2) (x 2))) ≡
    (2 ∷ []) ∷ (17 ∷ 4 ∷ 8 ∷ []) ∷ (17 ∷ 5 ∷ 9 ∷ []) ∷ (16 ∷ 5 ∷ 8 ∷ []) ∷ (16 ∷ 4 ∷ 9 ∷ []) ∷ (19 ∷ 6 ∷ 10 ∷ []) ∷ (19 ∷ 7 ∷ 11 ∷ []) ∷ (18 ∷ 7 ∷ 10 ∷ []) ∷ (18 ∷ 6 ∷ 11 ∷ [])
    ∷ (21 ∷ 6 ∷ 12 ∷ []) ∷ (21 ∷ 7 ∷ 13 ∷ []) ∷ (20 ∷ 7 ∷ 12 ∷ []) ∷ (20 ∷ 6 ∷ 13 ∷ []) ∷ (23 ∷ 6 ∷ 14 ∷ []) ∷ (23 ∷ 7 ∷ 15 ∷ []) ∷ (22 ∷ 7 ∷ 14 ∷ []) ∷ (22 ∷ 6 ∷ 15 ∷ [])
    ∷ (25 ∷ 17 ∷ []) ∷ (25 ∷ 19 ∷ []) ∷ (24 ∷ 16 ∷ 18 ∷ []) ∷ (27 ∷ 24 ∷ []) ∷ (27 ∷ 21 ∷ []) ∷ (26 ∷ 25 ∷ 20 ∷ []) ∷ (29 ∷ 26 ∷ []) ∷ (29 ∷ 23 ∷ []) ∷ (28 ∷ 27 ∷ 22 ∷ []) ∷ (28 ∷ [])
    ∷ []
unfolding clauses_of
sign_extend_2-clauses = refl

-- all bits of an extension
zero_extend_2-bits : map number (op_circuit (ZeroExtend 2) (variables_from 2 2 ∷ []) 4).result ≡ 4 ∷ 6 ∷ 3 ∷ 3 ∷ []
unfolding op_circuit variables_from
zero_extend_2-bits = refl

sign_extend_2-bits : map number (op_circuit (SignExtend 2) (variables_from 2 2 ∷ []) 4).result ≡ 4 ∷ 6 ∷ 6 ∷ 6 ∷ []
unfolding op_circuit variables_from
sign_extend_2-bits = refl

rotate_left_4-three-clauses : clauses_of (shown 3 (unary (RotateLeft 4) (x 3))) ≡
    (2 ∷ []) ∷ (17 ∷ 8 ∷ 10 ∷ []) ∷ (17 ∷ 9 ∷ 11 ∷ []) ∷ (16 ∷ 9 ∷ 10 ∷ []) ∷ (16 ∷ 8 ∷ 11 ∷ []) ∷ (19 ∷ 4 ∷ 12 ∷ []) ∷ (19 ∷ 5 ∷ 13 ∷ []) ∷ (18 ∷ 5 ∷ 12 ∷ []) ∷ (18 ∷ 4 ∷ 13 ∷ [])
    ∷ (21 ∷ 6 ∷ 14 ∷ []) ∷ (21 ∷ 7 ∷ 15 ∷ []) ∷ (20 ∷ 7 ∷ 14 ∷ []) ∷ (20 ∷ 6 ∷ 15 ∷ []) ∷ (23 ∷ 17 ∷ []) ∷ (23 ∷ 19 ∷ []) ∷ (22 ∷ 16 ∷ 18 ∷ []) ∷ (25 ∷ 22 ∷ []) ∷ (25 ∷ 21 ∷ [])
    ∷ (24 ∷ 23 ∷ 20 ∷ []) ∷ (24 ∷ []) ∷ []
unfolding clauses_of
rotate_left_4-three-clauses = refl

rotate_right_4-three-clauses : clauses_of (shown 3 (unary (RotateRight 4) (x 3))) ≡
    (2 ∷ []) ∷ (17 ∷ 6 ∷ 10 ∷ []) ∷ (17 ∷ 7 ∷ 11 ∷ []) ∷ (16 ∷ 7 ∷ 10 ∷ []) ∷ (16 ∷ 6 ∷ 11 ∷ []) ∷ (19 ∷ 8 ∷ 12 ∷ []) ∷ (19 ∷ 9 ∷ 13 ∷ []) ∷ (18 ∷ 9 ∷ 12 ∷ []) ∷ (18 ∷ 8 ∷ 13 ∷ [])
    ∷ (21 ∷ 4 ∷ 14 ∷ []) ∷ (21 ∷ 5 ∷ 15 ∷ []) ∷ (20 ∷ 5 ∷ 14 ∷ []) ∷ (20 ∷ 4 ∷ 15 ∷ []) ∷ (23 ∷ 17 ∷ []) ∷ (23 ∷ 19 ∷ []) ∷ (22 ∷ 16 ∷ 18 ∷ []) ∷ (25 ∷ 22 ∷ []) ∷ (25 ∷ 21 ∷ [])
    ∷ (24 ∷ 23 ∷ 20 ∷ []) ∷ (24 ∷ []) ∷ []
unfolding clauses_of
rotate_right_4-three-clauses = refl

bvshl-three-clauses : clauses_of (shown 3 (binary BvShl (x 3) (y 3))) ≡
    (2 ∷ []) ∷ (11 ∷ 2 ∷ 16 ∷ []) ∷ (11 ∷ 3 ∷ 17 ∷ []) ∷ (10 ∷ 5 ∷ 16 ∷ []) ∷ (10 ∷ 4 ∷ 17 ∷ []) ∷ (11 ∷ 5 ∷ 18 ∷ []) ∷ (11 ∷ 4 ∷ 19 ∷ []) ∷ (10 ∷ 7 ∷ 18 ∷ []) ∷ (10 ∷ 6 ∷ 19 ∷ [])
    ∷ (11 ∷ 7 ∷ 20 ∷ []) ∷ (11 ∷ 6 ∷ 21 ∷ []) ∷ (10 ∷ 9 ∷ 20 ∷ []) ∷ (10 ∷ 8 ∷ 21 ∷ []) ∷ (13 ∷ 2 ∷ 22 ∷ []) ∷ (13 ∷ 3 ∷ 23 ∷ []) ∷ (12 ∷ 17 ∷ 22 ∷ []) ∷ (12 ∷ 16 ∷ 23 ∷ [])
    ∷ (13 ∷ 2 ∷ 24 ∷ []) ∷ (13 ∷ 3 ∷ 25 ∷ []) ∷ (12 ∷ 19 ∷ 24 ∷ []) ∷ (12 ∷ 18 ∷ 25 ∷ []) ∷ (13 ∷ 17 ∷ 26 ∷ []) ∷ (13 ∷ 16 ∷ 27 ∷ []) ∷ (12 ∷ 21 ∷ 26 ∷ []) ∷ (12 ∷ 20 ∷ 27 ∷ [])
    ∷ (15 ∷ 2 ∷ 28 ∷ []) ∷ (15 ∷ 3 ∷ 29 ∷ []) ∷ (14 ∷ 23 ∷ 28 ∷ []) ∷ (14 ∷ 22 ∷ 29 ∷ []) ∷ (15 ∷ 2 ∷ 30 ∷ []) ∷ (15 ∷ 3 ∷ 31 ∷ []) ∷ (14 ∷ 25 ∷ 30 ∷ []) ∷ (14 ∷ 24 ∷ 31 ∷ [])
    ∷ (15 ∷ 2 ∷ 32 ∷ []) ∷ (15 ∷ 3 ∷ 33 ∷ []) ∷ (14 ∷ 27 ∷ 32 ∷ []) ∷ (14 ∷ 26 ∷ 33 ∷ []) ∷ (41 ∷ 28 ∷ 34 ∷ []) ∷ (41 ∷ 29 ∷ 35 ∷ []) ∷ (40 ∷ 29 ∷ 34 ∷ []) ∷ (40 ∷ 28 ∷ 35 ∷ [])
    ∷ (43 ∷ 30 ∷ 36 ∷ []) ∷ (43 ∷ 31 ∷ 37 ∷ []) ∷ (42 ∷ 31 ∷ 36 ∷ []) ∷ (42 ∷ 30 ∷ 37 ∷ []) ∷ (45 ∷ 32 ∷ 38 ∷ []) ∷ (45 ∷ 33 ∷ 39 ∷ []) ∷ (44 ∷ 33 ∷ 38 ∷ []) ∷ (44 ∷ 32 ∷ 39 ∷ [])
    ∷ (47 ∷ 41 ∷ []) ∷ (47 ∷ 43 ∷ []) ∷ (46 ∷ 40 ∷ 42 ∷ []) ∷ (49 ∷ 46 ∷ []) ∷ (49 ∷ 45 ∷ []) ∷ (48 ∷ 47 ∷ 44 ∷ []) ∷ (48 ∷ []) ∷ []
unfolding clauses_of
bvshl-three-clauses = refl

bvlshr-three-clauses : clauses_of (shown 3 (binary BvLshr (x 3) (y 3))) ≡
    (2 ∷ []) ∷ (11 ∷ 7 ∷ 16 ∷ []) ∷ (11 ∷ 6 ∷ 17 ∷ []) ∷ (10 ∷ 5 ∷ 16 ∷ []) ∷ (10 ∷ 4 ∷ 17 ∷ []) ∷ (11 ∷ 9 ∷ 18 ∷ []) ∷ (11 ∷ 8 ∷ 19 ∷ []) ∷ (10 ∷ 7 ∷ 18 ∷ []) ∷ (10 ∷ 6 ∷ 19 ∷ [])
    ∷ (11 ∷ 2 ∷ 20 ∷ []) ∷ (11 ∷ 3 ∷ 21 ∷ []) ∷ (10 ∷ 9 ∷ 20 ∷ []) ∷ (10 ∷ 8 ∷ 21 ∷ []) ∷ (13 ∷ 21 ∷ 22 ∷ []) ∷ (13 ∷ 20 ∷ 23 ∷ []) ∷ (12 ∷ 17 ∷ 22 ∷ []) ∷ (12 ∷ 16 ∷ 23 ∷ [])
    ∷ (13 ∷ 2 ∷ 24 ∷ []) ∷ (13 ∷ 3 ∷ 25 ∷ []) ∷ (12 ∷ 19 ∷ 24 ∷ []) ∷ (12 ∷ 18 ∷ 25 ∷ []) ∷ (13 ∷ 2 ∷ 26 ∷ []) ∷ (13 ∷ 3 ∷ 27 ∷ []) ∷ (12 ∷ 21 ∷ 26 ∷ []) ∷ (12 ∷ 20 ∷ 27 ∷ [])
    ∷ (15 ∷ 2 ∷ 28 ∷ []) ∷ (15 ∷ 3 ∷ 29 ∷ []) ∷ (14 ∷ 23 ∷ 28 ∷ []) ∷ (14 ∷ 22 ∷ 29 ∷ []) ∷ (15 ∷ 2 ∷ 30 ∷ []) ∷ (15 ∷ 3 ∷ 31 ∷ []) ∷ (14 ∷ 25 ∷ 30 ∷ []) ∷ (14 ∷ 24 ∷ 31 ∷ [])
    ∷ (15 ∷ 2 ∷ 32 ∷ []) ∷ (15 ∷ 3 ∷ 33 ∷ []) ∷ (14 ∷ 27 ∷ 32 ∷ []) ∷ (14 ∷ 26 ∷ 33 ∷ []) ∷ (41 ∷ 28 ∷ 34 ∷ []) ∷ (41 ∷ 29 ∷ 35 ∷ []) ∷ (40 ∷ 29 ∷ 34 ∷ []) ∷ (40 ∷ 28 ∷ 35 ∷ [])
    ∷ (43 ∷ 30 ∷ 36 ∷ []) ∷ (43 ∷ 31 ∷ 37 ∷ []) ∷ (42 ∷ 31 ∷ 36 ∷ []) ∷ (42 ∷ 30 ∷ 37 ∷ []) ∷ (45 ∷ 32 ∷ 38 ∷ []) ∷ (45 ∷ 33 ∷ 39 ∷ []) ∷ (44 ∷ 33 ∷ 38 ∷ []) ∷ (44 ∷ 32 ∷ 39 ∷ [])
    ∷ (47 ∷ 41 ∷ []) ∷ (47 ∷ 43 ∷ []) ∷ (46 ∷ 40 ∷ 42 ∷ []) ∷ (49 ∷ 46 ∷ []) ∷ (49 ∷ 45 ∷ []) ∷ (48 ∷ 47 ∷ 44 ∷ []) ∷ (48 ∷ []) ∷ []
unfolding clauses_of
bvlshr-three-clauses = refl

bvashr-three-clauses : clauses_of (shown 3 (binary BvAshr (x 3) (y 3))) ≡
    (2 ∷ []) ∷ (11 ∷ 7 ∷ 16 ∷ []) ∷ (11 ∷ 6 ∷ 17 ∷ []) ∷ (10 ∷ 5 ∷ 16 ∷ []) ∷ (10 ∷ 4 ∷ 17 ∷ []) ∷ (11 ∷ 9 ∷ 18 ∷ []) ∷ (11 ∷ 8 ∷ 19 ∷ []) ∷ (10 ∷ 7 ∷ 18 ∷ []) ∷ (10 ∷ 6 ∷ 19 ∷ [])
    ∷ (11 ∷ 9 ∷ 20 ∷ []) ∷ (11 ∷ 8 ∷ 21 ∷ []) ∷ (10 ∷ 9 ∷ 20 ∷ []) ∷ (10 ∷ 8 ∷ 21 ∷ []) ∷ (13 ∷ 21 ∷ 22 ∷ []) ∷ (13 ∷ 20 ∷ 23 ∷ []) ∷ (12 ∷ 17 ∷ 22 ∷ []) ∷ (12 ∷ 16 ∷ 23 ∷ [])
    ∷ (13 ∷ 9 ∷ 24 ∷ []) ∷ (13 ∷ 8 ∷ 25 ∷ []) ∷ (12 ∷ 19 ∷ 24 ∷ []) ∷ (12 ∷ 18 ∷ 25 ∷ []) ∷ (13 ∷ 9 ∷ 26 ∷ []) ∷ (13 ∷ 8 ∷ 27 ∷ []) ∷ (12 ∷ 21 ∷ 26 ∷ []) ∷ (12 ∷ 20 ∷ 27 ∷ [])
    ∷ (15 ∷ 9 ∷ 28 ∷ []) ∷ (15 ∷ 8 ∷ 29 ∷ []) ∷ (14 ∷ 23 ∷ 28 ∷ []) ∷ (14 ∷ 22 ∷ 29 ∷ []) ∷ (15 ∷ 9 ∷ 30 ∷ []) ∷ (15 ∷ 8 ∷ 31 ∷ []) ∷ (14 ∷ 25 ∷ 30 ∷ []) ∷ (14 ∷ 24 ∷ 31 ∷ [])
    ∷ (15 ∷ 9 ∷ 32 ∷ []) ∷ (15 ∷ 8 ∷ 33 ∷ []) ∷ (14 ∷ 27 ∷ 32 ∷ []) ∷ (14 ∷ 26 ∷ 33 ∷ []) ∷ (41 ∷ 28 ∷ 34 ∷ []) ∷ (41 ∷ 29 ∷ 35 ∷ []) ∷ (40 ∷ 29 ∷ 34 ∷ []) ∷ (40 ∷ 28 ∷ 35 ∷ [])
    ∷ (43 ∷ 30 ∷ 36 ∷ []) ∷ (43 ∷ 31 ∷ 37 ∷ []) ∷ (42 ∷ 31 ∷ 36 ∷ []) ∷ (42 ∷ 30 ∷ 37 ∷ []) ∷ (45 ∷ 32 ∷ 38 ∷ []) ∷ (45 ∷ 33 ∷ 39 ∷ []) ∷ (44 ∷ 33 ∷ 38 ∷ []) ∷ (44 ∷ 32 ∷ 39 ∷ [])
    ∷ (47 ∷ 41 ∷ []) ∷ (47 ∷ 43 ∷ []) ∷ (46 ∷ 40 ∷ 42 ∷ []) ∷ (49 ∷ 46 ∷ []) ∷ (49 ∷ 45 ∷ []) ∷ (48 ∷ 47 ∷ 44 ∷ []) ∷ (48 ∷ []) ∷ []
unfolding clauses_of
bvashr-three-clauses = refl
