-- Trees are the same exactly where the test says so.
use Rattle.std.proofs.Common.{◌≡◌, ℕ, Bool, true, ◌&&◌, List, [], ◌∷◌, get_or, refl, sym, ap, ◌∙◌, arith}
use Rattle.std.proofs.lemmas.Bool.Decides.{nat_tests}
use Rattle.std.specs.Prelude.{◌==◌}
use Rattle.qv_words.specs.declared.sort.Sort.{Sort}
use Rattle.qv_words.specs.declared.sort.Sort.TheVariants.{Bits, Bool as BoolSort}
use Rattle.qv_words.specs.declared.op.Op.{Op}
use Rattle.qv_words.specs.declared.op.Op.TheVariants.{Not, And, Or, Xor, Implies, Equal, Ite, BvNot, BvNeg, BvAnd, BvOr, BvXor, BvNand, BvNor, BvXnor, BvAdd, BvSub, BvMul, BvUdiv, BvUrem, BvSdiv, BvSrem, BvSmod, BvShl, BvLshr, BvAshr, BvUlt, BvUle, BvUgt, BvUge, BvSlt, BvSle, BvSgt, BvSge, BvComp, Concat, Extract, Repeat, ZeroExtend, SignExtend, RotateLeft, RotateRight, BvNego, BvUaddo, BvSaddo, BvUmulo, BvSmulo, BvUsubo, BvSsubo, BvSdivo}
use Rattle.qv_words.specs.Rank.{sort_eq}
use Rattle.qv_words.specs.Tree.{Tree, Trees, Constant, Variable, Literal, Apply, ForAll, Exists, Nil, Cons}
use Rattle.qv_words.specs.Equality.{op_number, op_eq, tree_eq, trees_eq}
use Rattle.std.proofs.lemmas.Bool.{and_parts}

-- the operators with these indices, in the order of their numbers
with_indices : ℕ → ℕ → List Op
with_indices i j = Not ∷ And ∷ Or ∷ Xor ∷ Implies ∷ Equal ∷ Ite ∷ BvNot ∷ BvNeg ∷ BvAnd ∷ BvOr ∷ BvXor ∷ BvNand ∷ BvNor ∷ BvXnor ∷ BvAdd ∷ BvSub ∷ BvMul ∷ BvUdiv ∷ BvUrem ∷ BvSdiv ∷ BvSrem ∷ BvSmod ∷ BvShl ∷ BvLshr ∷ BvAshr ∷ BvUlt ∷ BvUle ∷ BvUgt ∷ BvUge ∷ BvSlt ∷ BvSle ∷ BvSgt ∷ BvSge ∷ BvComp ∷ Concat ∷ Extract i j ∷ Repeat i ∷ ZeroExtend i ∷ SignExtend i ∷ RotateLeft i ∷ RotateRight i ∷ BvNego ∷ BvUaddo ∷ BvSaddo ∷ BvUmulo ∷ BvSmulo ∷ BvUsubo ∷ BvSsubo ∷ BvSdivo ∷ []

op_at : ℕ × ℕ × ℕ → Op
op_at n = get_or (with_indices n.1 n.2) n.0 Not

op_at-number : (o : Op) → op_at (op_number o) ≡ o
unfolding op_at with_indices
op_at-number = elim [
  | Not ↦ refl
  | And ↦ refl
  | Or ↦ refl
  | Xor ↦ refl
  | Implies ↦ refl
  | Equal ↦ refl
  | Ite ↦ refl
  | BvNot ↦ refl
  | BvNeg ↦ refl
  | BvAnd ↦ refl
  | BvOr ↦ refl
  | BvXor ↦ refl
  | BvNand ↦ refl
  | BvNor ↦ refl
  | BvXnor ↦ refl
  | BvAdd ↦ refl
  | BvSub ↦ refl
  | BvMul ↦ refl
  | BvUdiv ↦ refl
  | BvUrem ↦ refl
  | BvSdiv ↦ refl
  | BvSrem ↦ refl
  | BvSmod ↦ refl
  | BvShl ↦ refl
  | BvLshr ↦ refl
  | BvAshr ↦ refl
  | BvUlt ↦ refl
  | BvUle ↦ refl
  | BvUgt ↦ refl
  | BvUge ↦ refl
  | BvSlt ↦ refl
  | BvSle ↦ refl
  | BvSgt ↦ refl
  | BvSge ↦ refl
  | BvComp ↦ refl
  | Concat ↦ refl
  | Extract i j ↦ refl
  | Repeat k ↦ refl
  | ZeroExtend k ↦ refl
  | SignExtend k ↦ refl
  | RotateLeft k ↦ refl
  | RotateRight k ↦ refl
  | BvNego ↦ refl
  | BvUaddo ↦ refl
  | BvSaddo ↦ refl
  | BvUmulo ↦ refl
  | BvSmulo ↦ refl
  | BvUsubo ↦ refl
  | BvSsubo ↦ refl
  | BvSdivo ↦ refl
]

pub eq-from_test : (m n : ℕ) → (m == n) ≡ true → m ≡ n
eq-from_test m n h = grind (arith, nat_tests)

pub test-refl : (n : ℕ) → (n == n) ≡ true
test-refl n = grind (arith, nat_tests)

pub op_eq-is : (a b : Op) → op_eq a b ≡ true → a ≡ b
op_eq-is a b h =
    let x = op_number a in
    let y = op_number b in
    let all = and_parts (x.0 == y.0 && x.1 == y.1) (x.2 == y.2) h in
    let front = and_parts (x.0 == y.0) (x.1 == y.1) all.0 in
    let e = eq-from_test x.0 y.0 front.0 in
    let f = eq-from_test x.1 y.1 front.1 in
    let g = eq-from_test x.2 y.2 all.1 in
    let same : x ≡ y = ap (λ n. (n, x.1, x.2)) e ∙ ap (λ n. (y.0, n, x.2)) f ∙ ap (λ n. (y.0, y.1, n)) g in
    sym (op_at-number a) ∙ ap op_at same ∙ op_at-number b

op_eq-refl : (o : Op) → op_eq o o ≡ true
op_eq-refl o = let n = op_number o in rw (test-refl n.0, test-refl n.1, test-refl n.2) refl

pub sort_eq-is : (s t : Sort) → sort_eq s t ≡ true → s ≡ t
sort_eq-is BoolSort BoolSort h = refl
sort_eq-is BoolSort (Bits w) h = cc
sort_eq-is (Bits v) BoolSort h = cc
sort_eq-is (Bits v) (Bits w) h = ap Bits (eq-from_test v w h)

pub sort_eq-refl : (s : Sort) → sort_eq s s ≡ true
sort_eq-refl BoolSort = refl
sort_eq-refl (Bits w) = test-refl w

mutual
  pub tree_eq-refl : (t : Tree) → tree_eq t t ≡ true
  tree_eq-refl (Constant i s) = rw (test-refl i, sort_eq-refl s) refl
  tree_eq-refl (Variable l s) = rw (test-refl l, sort_eq-refl s) refl
  tree_eq-refl (Literal s n) = rw (test-refl n, sort_eq-refl s) refl
  tree_eq-refl (Apply o args) = rw (op_eq-refl o, trees_eq-refl args) refl
  tree_eq-refl (ForAll l s body) = rw (test-refl l, sort_eq-refl s, tree_eq-refl body) refl
  tree_eq-refl (Exists l s body) = rw (test-refl l, sort_eq-refl s, tree_eq-refl body) refl

  pub trees_eq-refl : (ts : Trees) → trees_eq ts ts ≡ true
  trees_eq-refl Nil = refl
  trees_eq-refl (Cons t ts) = rw (tree_eq-refl t, trees_eq-refl ts) refl

leaf-is : (make : ℕ → Sort → Tree) (i j : ℕ) (s t : Sort) → (i == j && sort_eq s t) ≡ true → make i s ≡ make j t
leaf-is make i j s t h =
    let parts = and_parts (i == j) (sort_eq s t) h in
    ap (λ n. make n s) (eq-from_test i j parts.0) ∙ ap (make j) (sort_eq-is s t parts.1)

binder-is : (make : ℕ → Sort → Tree → Tree) (i j : ℕ) (s t : Sort) (a b : Tree) (same : Bool) → (i == j && sort_eq s t && same) ≡ true → (same ≡ true → a ≡ b) → make i s a ≡ make j t b
binder-is make i j s t a b same h go =
    let parts = and_parts (i == j && sort_eq s t) same h in
    leaf-is (λ n u. make n u a) i j s t parts.0 ∙ ap (make j t) (go parts.1)

mutual
  pub tree_eq-is : (a b : Tree) → tree_eq a b ≡ true → a ≡ b
  tree_eq-is (Constant i s) (Constant j t) h = leaf-is Constant i j s t h
  tree_eq-is (Variable i s) (Variable j t) h = leaf-is Variable i j s t h
  tree_eq-is (Literal s m) (Literal t n) h =
      let parts = and_parts (sort_eq s t) (m == n) h in
      ap (λ u. Literal u m) (sort_eq-is s t parts.0) ∙ ap (Literal t) (eq-from_test m n parts.1)
  tree_eq-is (Apply o args) (Apply q others) h =
      let parts = and_parts (op_eq o q) (trees_eq args others) h in
      ap (λ u. Apply u args) (op_eq-is o q parts.0) ∙ ap (Apply q) (trees_eq-is args others parts.1)
  tree_eq-is (ForAll i s a) (ForAll j t b) h = binder-is ForAll i j s t a b (tree_eq a b) h (λ e. tree_eq-is a b e)
  tree_eq-is (Exists i s a) (Exists j t b) h = binder-is Exists i j s t a b (tree_eq a b) h (λ e. tree_eq-is a b e)
  tree_eq-is _ _ h = cc

  pub trees_eq-is : (a b : Trees) → trees_eq a b ≡ true → a ≡ b
  trees_eq-is Nil Nil h = refl
  trees_eq-is (Cons t ts) (Cons u us) h =
      let parts = and_parts (tree_eq t u) (trees_eq ts us) h in
      ap (λ x. Cons x ts) (tree_eq-is t u parts.0) ∙ ap (Cons u) (trees_eq-is ts us parts.1)
  trees_eq-is _ _ h = cc
