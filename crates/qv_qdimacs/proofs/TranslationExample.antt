-- Files as terms, computed.
use Rattle.std.proofs.Common.{◌≡◌, ℕ, true, false, [], ◌∷◌, refl}
use Rattle.qv_cnf.specs.Literal.{Literal as Lit}
use Rattle.qv_words.specs.declared.sort.Sort.TheVariants.{Bool as BoolSort}
use Rattle.qv_words.specs.declared.op.Op.TheVariants.{Not, And, Or}
use Rattle.qv_words.specs.Tree.{Tree, Constant, Variable, Literal, Apply, ForAll, Exists as Some', Nil, Cons}
use Rattle.qv_store.specs.declared.problem.Quant.TheVariants.{Exists, Forall}
use Rattle.qv_qdimacs.specs.declared.files.Quantified.{Quantified}
use Rattle.qv_qdimacs.specs.Translation.{joined_within, joined, formula_of}

abbrev p : ℕ → Lit
p v = record { variable = v; positive = true }

abbrev m : ℕ → Lit
m v = record { variable = v; positive = false }

abbrev all : ℕ → Quantified
all v = record { quant = Forall; variable = v }

abbrev some : ℕ → Quantified
some v = record { quant = Exists; variable = v }

abbrev k : ℕ → Tree
k i = Constant i BoolSort

abbrev x : ℕ → Tree
x level = Variable level BoolSort

abbrev no : Tree → Tree
no t = Apply Not (Cons t Nil)

abbrev or : Tree → Tree → Tree
or a b = Apply Or (Cons a (Cons b Nil))

abbrev and : Tree → Tree → Tree
and a b = Apply And (Cons a (Cons b Nil))

-- Of five the first half has two, and of three one.
halves : joined true (k 0 ∷ k 1 ∷ k 2 ∷ k 3 ∷ k 4 ∷ []) ≡ and (and (k 0) (k 1)) (and (k 2) (and (k 3) (k 4)))
unfolding joined_within
halves = refl

-- Outer variables are constants: 7, which is free, and 3, which is in front. The others have levels.
-- Without clauses the body is `true`, and an empty clause is `false`.
formulas :
    formula_of (some 3 ∷ all 1 ∷ some 2 ∷ []) ((p 3 ∷ m 1 ∷ m 7 ∷ []) ∷ (p 2 ∷ []) ∷ [])
    ∷ formula_of (all 4 ∷ []) []
    ∷ formula_of [] ([] ∷ []) ∷ []
    ≡ ForAll 0 BoolSort (Some' 1 BoolSort (and (or (k 1) (or (no (x 0)) (no (k 0)))) (x 1)))
    ∷ ForAll 0 BoolSort (Literal BoolSort 1)
    ∷ Literal BoolSort 0 ∷ []
unfolding joined_within
formulas = refl
