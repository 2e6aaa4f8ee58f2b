-- A code of trees, by which values that hold trees are told apart in proofs: a list of numbers in
-- post-order.
use Rattle.std.proofs.Common.{arith}
use Rattle.std.specs.Prelude.{◌≡◌, refl, ℕ, zero, suc, ◌+◌, unwrap_or, List, [], ◌∷◌, ◌++◌, slice_get}
use Rattle.std.proofs.Common.{sym, ap, ◌∙◌, append_assoc}
use Rattle.std.proofs.lemmas.List.{append-nil}
use Rattle.std.specs.Coded.{Coded, code_by, coded_list, coded×, coded_ℕ}
use Rattle.qv_words.specs.declared.sort.Sort.{Sort}
use Rattle.qv_words.specs.declared.sort.Sort.TheVariants.{Bits}
use Rattle.qv_words.specs.declared.sort.Sort.TheVariants.{Bool as BoolSort}
use Rattle.qv_words.specs.declared.op.Op.{Op}
use Rattle.qv_words.specs.declared.op.Op.TheVariants.{Not, And, Or, Xor, Implies, Equal, Ite, BvNot, BvNeg, BvAnd, BvOr, BvXor, BvNand, BvNor, BvXnor, BvAdd, BvSub, BvMul, BvUdiv, BvUrem, BvSdiv, BvSrem, BvSmod, BvShl, BvLshr, BvAshr, BvUlt, BvUle, BvUgt, BvUge, BvSlt, BvSle, BvSgt, BvSge, BvComp, Concat, Extract, Repeat, ZeroExtend, SignExtend, RotateLeft, RotateRight, BvNego, BvUaddo, BvSaddo, BvUmulo, BvSmulo, BvUsubo, BvSsubo, BvSdivo}
use Rattle.qv_words.specs.Equality.{op_number}
use Rattle.qv_words.specs.Tree.{Tree, Trees, Constant, Variable, Literal, Apply, ForAll, Exists, Nil, Cons}

-- a sort's number
abbrev sort_number : Sort → ℕ
sort_number BoolSort = zero
sort_number (Bits w) = suc w

abbrev sort_at : ℕ → Sort
sort_at zero = BoolSort
sort_at (suc w) = Bits w

sort_at-number : (s : Sort) → sort_at (sort_number s) ≡ s
sort_at-number BoolSort = refl
sort_at-number (Bits w) = refl

-- an operator by its number and indices
abbrev op_at : ℕ → ℕ → ℕ → Op
op_at n i j = unwrap_or (slice_get (Not ∷ And ∷ Or ∷ Xor ∷ Implies ∷ Equal ∷ Ite ∷ BvNot ∷ BvNeg ∷ BvAnd ∷ BvOr ∷ BvXor ∷ BvNand ∷ BvNor ∷ BvXnor ∷ BvAdd ∷ BvSub ∷ BvMul ∷ BvUdiv ∷ BvUrem ∷ BvSdiv ∷ BvSrem ∷ BvSmod ∷ BvShl ∷ BvLshr ∷ BvAshr ∷ BvUlt ∷ BvUle ∷ BvUgt ∷ BvUge ∷ BvSlt ∷ BvSle ∷ BvSgt ∷ BvSge ∷ BvComp ∷ Concat ∷ Extract i j ∷ Repeat i ∷ ZeroExtend i ∷ SignExtend i ∷ RotateLeft i ∷ RotateRight i ∷ BvNego ∷ BvUaddo ∷ BvSaddo ∷ BvUmulo ∷ BvSmulo ∷ BvUsubo ∷ BvSsubo ∷ BvSdivo ∷ []) n) Not

op_at-number : (o : Op) → op_at (op_number o).0 (op_number o).1 (op_number o).2 ≡ o
op_at-number Not = refl
op_at-number And = refl
op_at-number Or = refl
op_at-number Xor = refl
op_at-number Implies = refl
op_at-number Equal = refl
op_at-number Ite = refl
op_at-number BvNot = refl
op_at-number BvNeg = refl
op_at-number BvAnd = refl
op_at-number BvOr = refl
op_at-number BvXor = refl
op_at-number BvNand = refl
op_at-number BvNor = refl
op_at-number BvXnor = refl
op_at-number BvAdd = refl
op_at-number BvSub = refl
op_at-number BvMul = refl
op_at-number BvUdiv = refl
op_at-number BvUrem = refl
op_at-number BvSdiv = refl
op_at-number BvSrem = refl
op_at-number BvSmod = refl
op_at-number BvShl = refl
op_at-number BvLshr = refl
op_at-number BvAshr = refl
op_at-number BvUlt = refl
op_at-number BvUle = refl
op_at-number BvUgt = refl
op_at-number BvUge = refl
op_at-number BvSlt = refl
op_at-number BvSle = refl
op_at-number BvSgt = refl
op_at-number BvSge = refl
op_at-number BvComp = refl
op_at-number Concat = refl
op_at-number (Extract i j) = refl
op_at-number (Repeat k) = refl
op_at-number (ZeroExtend k) = refl
op_at-number (SignExtend k) = refl
op_at-number (RotateLeft k) = refl
op_at-number (RotateRight k) = refl
op_at-number BvNego = refl
op_at-number BvUaddo = refl
op_at-number BvSaddo = refl
op_at-number BvUmulo = refl
op_at-number BvSmulo = refl
op_at-number BvUsubo = refl
op_at-number BvSsubo = refl
op_at-number BvSdivo = refl

-- a node: its kind; its index, level, value or number of arguments; its sort; its operator with its
-- indices
abbrev Token : Type 0
Token = ℕ × (ℕ × (ℕ × (ℕ × (ℕ × ℕ))))

abbrev count : Trees → ℕ
count Nil = 0
count (Cons t ts) = suc (count ts)

abbrev mutual
  tokens : Tree → List Token
  tokens (Constant i s) = (0, (i, (sort_number s, (0, (0, 0))))) ∷ []
  tokens (Variable l s) = (1, (l, (sort_number s, (0, (0, 0))))) ∷ []
  tokens (Literal s n) = (2, (n, (sort_number s, (0, (0, 0))))) ∷ []
  tokens (Apply o args) = tokens_of args ++ (3, (count args, (0, ((op_number o).0, ((op_number o).1, (op_number o).2))))) ∷ []
  tokens (ForAll l s body) = tokens body ++ (4, (l, (sort_number s, (0, (0, 0))))) ∷ []
  tokens (Exists l s body) = tokens body ++ (5, (l, (sort_number s, (0, (0, 0))))) ∷ []

  tokens_of : Trees → List Token
  tokens_of Nil = []
  tokens_of (Cons t ts) = tokens t ++ tokens_of ts

-- the last trees of a stack, in front of others, and the rest of the stack
record Popped : Type 0 where
  args : Trees
  rest : List Tree

abbrev popped : ℕ → List Tree → Trees → Popped
popped zero stack acc = record { args = acc; rest = stack }
popped (suc n) [] acc = record { args = acc; rest = [] }
popped (suc n) (t ∷ stack) acc = popped n stack (Cons t acc)

abbrev applied : Op → Popped → List Tree
applied o q = Apply o q.args ∷ q.rest

abbrev bound : (Tree → Tree) → List Tree → List Tree
bound f [] = []
bound f (t ∷ stack) = f t ∷ stack

-- what a node makes of the stack
abbrev made : (kind n s o i j : ℕ) → List Tree → List Tree
made zero n s o i j stack = Constant n (sort_at s) ∷ stack
made (suc zero) n s o i j stack = Variable n (sort_at s) ∷ stack
made (suc (suc zero)) n s o i j stack = Literal (sort_at s) n ∷ stack
made (suc (suc (suc zero))) n s o i j stack = applied (op_at o i j) (popped n stack Nil)
made (suc (suc (suc (suc zero)))) n s o i j stack = bound (ForAll n (sort_at s)) stack
made (suc (suc (suc (suc (suc k))))) n s o i j stack = bound (Exists n (sort_at s)) stack

abbrev run : List Token → List Tree → List Tree
run [] stack = stack
run (k ∷ ks) stack = run ks (made k.0 k.1.0 k.1.1.0 k.1.1.1.0 k.1.1.1.1.0 k.1.1.1.1.1 stack)

abbrev top : List Tree → Tree
top [] = Literal BoolSort 0
top (t ∷ stack) = t

abbrev pushed : Trees → List Tree → List Tree
pushed Nil stack = stack
pushed (Cons t ts) stack = pushed ts (t ∷ stack)

abbrev before : Trees → Trees → Trees
before Nil us = us
before (Cons t ts) us = Cons t (before ts us)

before-nil : (ts : Trees) → before ts Nil ≡ ts
before-nil Nil = refl
before-nil (Cons t ts) = ap (Cons t) (before-nil ts)

popped-pushed : (ts : Trees) (stack : List Tree) (n : ℕ) (acc : Trees) → popped (count ts + n) (pushed ts stack) acc ≡ popped n stack (before ts acc)
popped-pushed Nil stack n acc = let none : 0 + n ≡ n = omega arith in ap (λ k. popped k stack acc) none
popped-pushed (Cons t ts) stack n acc =
    let more : suc (count ts) + n ≡ count ts + suc n = omega arith in
    ap (λ k. popped k (pushed ts (t ∷ stack)) acc) more ∙ popped-pushed ts (t ∷ stack) (suc n) acc

popped-all : (ts : Trees) (stack : List Tree) → popped (count ts) (pushed ts stack) Nil ≡ record { args = ts; rest = stack }
popped-all ts stack =
    let all : count ts ≡ count ts + 0 = omega arith in
    ap (λ k. popped k (pushed ts stack) Nil) all ∙ popped-pushed ts stack 0 Nil ∙ ap (λ us. record { args = us; rest = stack }) (before-nil ts)

mutual
  run-tokens : (t : Tree) (rest : List Token) (stack : List Tree) → run (tokens t ++ rest) stack ≡ run rest (t ∷ stack)
  run-tokens (Constant i s) rest stack = ap (λ r. run rest (Constant i r ∷ stack)) (sort_at-number s)
  run-tokens (Variable l s) rest stack = ap (λ r. run rest (Variable l r ∷ stack)) (sort_at-number s)
  run-tokens (Literal s n) rest stack = ap (λ r. run rest (Literal r n ∷ stack)) (sort_at-number s)
  run-tokens (Apply o args) rest stack =
      let node : Token = (3, (count args, (0, ((op_number o).0, ((op_number o).1, (op_number o).2))))) in
      ap (λ ks. run ks stack) (append_assoc (tokens_of args) (node ∷ []) rest)
      ∙ run-tokens_of args (node ∷ rest) stack
      ∙ ap (λ q. run rest (applied (op_at (op_number o).0 (op_number o).1 (op_number o).2) q)) (popped-all args stack)
      ∙ ap (λ p. run rest (Apply p args ∷ stack)) (op_at-number o)
  run-tokens (ForAll l s body) rest stack =
      let node : Token = (4, (l, (sort_number s, (0, (0, 0))))) in
      ap (λ ks. run ks stack) (append_assoc (tokens body) (node ∷ []) rest) ∙ run-tokens body (node ∷ rest) stack ∙ ap (λ r. run rest (ForAll l r body ∷ stack)) (sort_at-number s)
  run-tokens (Exists l s body) rest stack =
      let node : Token = (5, (l, (sort_number s, (0, (0, 0))))) in
      ap (λ ks. run ks stack) (append_assoc (tokens body) (node ∷ []) rest) ∙ run-tokens body (node ∷ rest) stack ∙ ap (λ r. run rest (Exists l r body ∷ stack)) (sort_at-number s)

  run-tokens_of : (ts : Trees) (rest : List Token) (stack : List Tree) → run (tokens_of ts ++ rest) stack ≡ run rest (pushed ts stack)
  run-tokens_of Nil rest stack = refl
  run-tokens_of (Cons t ts) rest stack =
      ap (λ ks. run ks stack) (append_assoc (tokens t) (tokens_of ts) rest) ∙ run-tokens t (tokens_of ts ++ rest) stack ∙ run-tokens_of ts rest (t ∷ stack)

pub decoded : (t : Tree) → top (run (tokens t) []) ≡ t
decoded t = ap (λ ks. top (run ks [])) (sym (append-nil (tokens t))) ∙ ap top (run-tokens t [] [])

abbrev pub coded_tree : Coded Tree
coded_tree =
    code_by (List Token) (coded_list (coded× coded_ℕ (coded× coded_ℕ (coded× coded_ℕ (coded× coded_ℕ (coded× coded_ℕ coded_ℕ))))))
    tokens (λ ks. top (run ks [])) decoded
