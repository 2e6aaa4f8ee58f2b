-- Whether two trees are the same.
use Rattle.std.specs.Prelude.{ℕ, ◌==◌, Bool, true, false, ◌&&◌}
use Rattle.qv_words.specs.declared.op.Op.{Op}
use Rattle.qv_words.specs.declared.op.Op.TheVariants.{Not, And, Or, Xor, Implies, Equal, Ite, BvNot, BvNeg, BvAnd, BvOr, BvXor, BvNand, BvNor, BvXnor, BvAdd, BvSub, BvMul, BvUdiv, BvUrem, BvSdiv, BvSrem, BvSmod, BvShl, BvLshr, BvAshr, BvUlt, BvUle, BvUgt, BvUge, BvSlt, BvSle, BvSgt, BvSge, BvComp, Concat, Extract, Repeat, ZeroExtend, SignExtend, RotateLeft, RotateRight, BvNego, BvUaddo, BvSaddo, BvUmulo, BvSmulo, BvUsubo, BvSsubo, BvSdivo}
use Rattle.qv_words.specs.Rank.{sort_eq}
use Rattle.qv_words.specs.Tree.{Tree, Trees, Constant, Variable, Literal, Apply, ForAll, Exists, Nil, Cons}

-- an operator's number in the table of operators, and its indices, 0 where it has none
abbrev pub op_number : Op → ℕ × ℕ × ℕ
op_number Not = (0, 0, 0)
op_number And = (1, 0, 0)
op_number Or = (2, 0, 0)
op_number Xor = (3, 0, 0)
op_number Implies = (4, 0, 0)
op_number Equal = (5, 0, 0)
op_number Ite = (6, 0, 0)
op_number BvNot = (7, 0, 0)
op_number BvNeg = (8, 0, 0)
op_number BvAnd = (9, 0, 0)
op_number BvOr = (10, 0, 0)
op_number BvXor = (11, 0, 0)
op_number BvNand = (12, 0, 0)
op_number BvNor = (13, 0, 0)
op_number BvXnor = (14, 0, 0)
op_number BvAdd = (15, 0, 0)
op_number BvSub = (16, 0, 0)
op_number BvMul = (17, 0, 0)
op_number BvUdiv = (18, 0, 0)
op_number BvUrem = (19, 0, 0)
op_number BvSdiv = (20, 0, 0)
op_number BvSrem = (21, 0, 0)
op_number BvSmod = (22, 0, 0)
op_number BvShl = (23, 0, 0)
op_number BvLshr = (24, 0, 0)
op_number BvAshr = (25, 0, 0)
op_number BvUlt = (26, 0, 0)
op_number BvUle = (27, 0, 0)
op_number BvUgt = (28, 0, 0)
op_number BvUge = (29, 0, 0)
op_number BvSlt = (30, 0, 0)
op_number BvSle = (31, 0, 0)
op_number BvSgt = (32, 0, 0)
op_number BvSge = (33, 0, 0)
op_number BvComp = (34, 0, 0)
op_number Concat = (35, 0, 0)
op_number (Extract i j) = (36, i, j)
op_number (Repeat k) = (37, k, 0)
op_number (ZeroExtend k) = (38, k, 0)
op_number (SignExtend k) = (39, k, 0)
op_number (RotateLeft k) = (40, k, 0)
op_number (RotateRight k) = (41, k, 0)
op_number BvNego = (42, 0, 0)
op_number BvUaddo = (43, 0, 0)
op_number BvSaddo = (44, 0, 0)
op_number BvUmulo = (45, 0, 0)
op_number BvSmulo = (46, 0, 0)
op_number BvUsubo = (47, 0, 0)
op_number BvSsubo = (48, 0, 0)
op_number BvSdivo = (49, 0, 0)

-- whether two operators are the same, with their indices
abbrev pub op_eq : Op → Op → Bool
op_eq a b =
    let x = op_number a in
    let y = op_number b in
    x.0 == y.0 && x.1 == y.1 && x.2 == y.2

-- whether two trees, or two lists of trees, are the same
abbrev mutual
  pub tree_eq : Tree → Tree → Bool
  tree_eq (Constant i s) (Constant j t) = i == j && sort_eq s t
  tree_eq (Variable i s) (Variable j t) = i == j && sort_eq s t
  tree_eq (Literal s m) (Literal t n) = sort_eq s t && m == n
  tree_eq (Apply o args) (Apply p others) = op_eq o p && trees_eq args others
  tree_eq (ForAll i s a) (ForAll j t b) = i == j && sort_eq s t && tree_eq a b
  tree_eq (Exists i s a) (Exists j t b) = i == j && sort_eq s t && tree_eq a b
  tree_eq _ _ = false

  pub trees_eq : Trees → Trees → Bool
  trees_eq Nil Nil = true
  trees_eq (Cons t ts) (Cons u us) = tree_eq t u && trees_eq ts us
  trees_eq _ _ = false
